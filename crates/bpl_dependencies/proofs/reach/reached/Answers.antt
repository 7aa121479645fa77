use Rattle.std.proofs.Common.{◌≡◌, subst}
use Rattle.bpl_dependencies.specs.Reach.{edges_seen}
use Rattle.bpl_dependencies.specs.Rounds.{round_of}
use Rattle.bpl_dependencies.proofs.InOrder.{settled_are}
use Rattle.bpl_dependencies.proofs.reach.reached.Goals as goal

pub returns-then-branch : goal.returns-then-branch
returns-then-branch c =
    let B = c.args.base.now in
    let E = edges_seen c.args.edges.now in
    settled_are B E c.in_ok-flags.flags.items c.in_ok-flags.ensures (subst (λ l. round_of B E l ≡ l) c.deref.ensures.value (c.in_ok-are_settled.ensures c.if-branch.true))
