use Rattle.std.proofs.Common.{◌∙◌, ap, sym}
use Rattle.bpl_scopes.specs.KnownSorts.{shapes_seen}
use Rattle.bpl_scopes.proofs.GuessedSorts.{next_seen}
use Rattle.bpl_scopes.proofs.synonyms.are_settled.Goals as goal

pub returns : goal.returns
returns c h =
    sym (next_seen c.args.table.now c.entries.result.now (shapes_seen c.args.sorts.now) c.entries.ensures)
    ∙ (sym c.in_ok-next.ensures ∙ (ap shapes_seen (sym c.deref.ensures.value) ∙ c.are_same.ensures h))
