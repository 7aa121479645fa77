use Rattle.std.proofs.Common.{◌≡◌, ◌+◌, suc, subst, length, arith}
use Rattle.bpl_dependencies.specs.Reach.{edges_seen}
use Rattle.bpl_dependencies.specs.Rounds.{rounds_of, IsUnder}
use Rattle.bpl_dependencies.proofs.InOrder.{later, put_under}
use Rattle.bpl_dependencies.proofs.reach.put_flags.Goals as goal

pub returns-in_default : goal.returns-in_default
returns-in_default c = later c.args.base.now (edges_seen c.args.edges.now) c.loop-i.flags.items c.loop-i.i (length c.args.base.now) c.loop-i.invariant (omega (arith, c.loop-i-test.true))

pub loop-i-preserved : goal.loop-i-preserved
loop-i-preserved c =
    let B = c.args.base.now in
    let E = edges_seen c.args.edges.now in
    let more : suc c.loop-i.i ≡ c.loop-i.i + 1 = omega arith in
    subst (λ n. IsUnder c.put_flag.new.flags.items (rounds_of B E n)) more (put_under B E c.loop-i.flags.items c.put_flag.new.flags.items c.loop-i.i c.in-Some.at.now c.loop-i.invariant c.put_flag.ensures)
