use Rattle.std.proofs.Common.{◌≡◌, subst}
use Rattle.bpl_scopes.specs.KnownSorts.{shapes_seen}
use Rattle.bpl_scopes.specs.Guessed.{next_sorts}
use Rattle.bpl_scopes.proofs.GuessedSorts.{settled_are}
use Rattle.bpl_scopes.proofs.synonyms.synonym_sorts.Goals as goal

pub returns-then-branch : goal.returns-then-branch
returns-then-branch c =
    let t = c.args.table.now in
    settled_are t (shapes_seen c.in_ok-sorts.sorts.items) c.in_ok-sorts.ensures (subst (λ l. next_sorts t (shapes_seen l) ≡ shapes_seen l) c.deref.ensures.value (c.in_ok-are_settled.ensures c.if-branch.true))
