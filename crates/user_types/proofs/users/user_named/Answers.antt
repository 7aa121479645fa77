use Rattle.std.proofs.Common.{arith}
use Rattle.user_types.specs.UserTypes.{user_after}
use Rattle.user_types.proofs.Listed.{one_round}
use Rattle.user_types.proofs.users.user_named.Goals as goal

pub loop-round-preserved : goal.loop-round-preserved
loop-round-preserved c =
    one_round c.args.table.now c.args.name.now c.loop-round.now.now c.loop-round.round (λ k. user_after c.args.table.now k c.in-On.next.now)
    (omega (arith, c.loop-round-test.true, c.len-round-end.ensures)) c.loop-round.invariant c.in-On.ensures
