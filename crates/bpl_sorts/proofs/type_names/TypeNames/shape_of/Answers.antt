use Rattle.std.proofs.Common.{ap, arith, length}
use Rattle.bpl_sorts.proofs.NestedTypes.{one_further}
use Rattle.bpl_sorts.proofs.type_names.TypeNames.shape_of.Goals as goal

pub loop-round-preserved : goal.loop-round-preserved
loop-round-preserved c =
    one_further c.args.self.now _ c.loop-round.round c.loop-round.now _ c.in-Named.name (let e = ap length c.self.view_is in omega (arith, c.loop-round-test.true, c.len-round-end.ensures, e)) c.loop-round.invariant (cc) c.in_ok-now-in-Named.ensures
