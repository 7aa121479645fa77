use Rattle.numbered_terms.proofs.FlagsTaken.{flags_taken}
use Rattle.numbered_terms.proofs.number_set.take_flags.Goals as goal

pub loop-id-preserved : goal.loop-id-preserved
loop-id-preserved c = flags_taken c.args.ids.now c.loop-id.id-index c.id-item.result c.args.flags.now.items c.loop-id.flags.items c.take_flag.new.flags.items c.loop-id-test.true c.id-item.is c.loop-id.invariant c.take_flag.ensures
