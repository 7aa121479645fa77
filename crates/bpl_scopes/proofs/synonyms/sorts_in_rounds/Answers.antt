use Rattle.std.proofs.Common.{◌≡◌, ap, sym, ◌∙◌, suc, ◌+◌, arith, length}
use Rattle.bpl_scopes.specs.KnownSorts.{shapes_seen, sorts_at}
use Rattle.bpl_scopes.proofs.SynonymRounds.{first_sorts, next_sorts, settled}
use Rattle.bpl_scopes.proofs.synonyms.sorts_in_rounds.Goals as goal

pub loop-k-init : goal.loop-k-init
loop-k-init c = c.in_ok-sorts.ensures ∙ first_sorts c.args.table.now c.entries.result.now c.entries.ensures

pub returns-then-are_same : goal.returns-then-are_same
returns-then-are_same c =
    let next = c.in_ok-next.ensures ∙ next_sorts c.args.table.now c.entries-in-loop-k.result.now (shapes_seen c.deref.result.now) c.loop-k.k c.entries-in-loop-k.ensures (ap shapes_seen c.deref.ensures.value ∙ c.loop-k.invariant) in
    let same = sym next ∙ ap shapes_seen (sym c.deref-in-loop-k.ensures.value) ∙ c.are_same.ensures c.if-are_same.true ∙ ap shapes_seen c.deref-in-loop-k-2.ensures.value ∙ c.loop-k.invariant in
    c.loop-k.invariant ∙ settled c.args.table.now c.loop-k.k (length c.args.table.now) same (omega (arith, c.loop-k-test.true, c.len-k-end.ensures))

pub loop-k-preserved : goal.loop-k-preserved
loop-k-preserved c =
    let more : suc c.loop-k.k ≡ c.loop-k.k + 1 = omega arith in
    c.in_ok-next.ensures ∙ next_sorts c.args.table.now c.entries-in-loop-k.result.now (shapes_seen c.deref.result.now) c.loop-k.k c.entries-in-loop-k.ensures (ap shapes_seen c.deref.ensures.value ∙ c.loop-k.invariant) ∙ ap (sorts_at c.args.table.now) more
