use Rattle.std.proofs.Common.{◌≡◌, ap, sym, ◌∙◌, suc, ◌+◌, arith, length}
use Rattle.bpl_dependencies.specs.Reach.{edges_seen}
use Rattle.bpl_dependencies.specs.Rounds.{rounds_of, round_of}
use Rattle.bpl_dependencies.proofs.Reaching.{settled}
use Rattle.bpl_dependencies.proofs.reach.flags_in_rounds.Goals as goal

pub returns-then-are_same : goal.returns-then-are_same
returns-then-are_same c =
    let E = edges_seen c.args.edges.now in
    let B = c.args.base.now in
    let next = c.in_ok-next.ensures ∙ ap (round_of B E) (c.deref.ensures.value ∙ c.loop-k.invariant) in
    let same = sym next ∙ sym c.deref-in-loop-k.ensures.value ∙ c.are_same.ensures c.if-are_same.true ∙ c.deref-in-loop-k-2.ensures.value ∙ c.loop-k.invariant in
    c.loop-k.invariant ∙ settled B E c.loop-k.k (length B) same (omega (arith, c.loop-k-test.true))

pub loop-k-preserved : goal.loop-k-preserved
loop-k-preserved c =
    let E = edges_seen c.args.edges.now in
    let B = c.args.base.now in
    let more : suc c.loop-k.k ≡ c.loop-k.k + 1 = omega arith in
    c.in_ok-next.ensures ∙ ap (round_of B E) (c.deref.ensures.value ∙ c.loop-k.invariant) ∙ ap (rounds_of B E) more
