use Rattle.numbered_terms.specs.Renumbered.{new_of}
use Rattle.numbered_terms.proofs.Mapping.{map_next}
use Rattle.numbered_terms.proofs.renumber.new_numbers.Goals as goal

pub loop-id-preserved : goal.loop-id-preserved
loop-id-preserved c = map_next (new_of c.args.found.now.entries) c.args.ids.now _ _ c.loop-id.id-index c.id-item.result _ c.loop-id-test.true c.id-item.is c.in_ok-push.ensures.items c.loop-id.invariant c.new_number.ensures
