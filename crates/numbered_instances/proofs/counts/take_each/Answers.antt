use Rattle.std.proofs.Common.{◌≡◌, ◌∙◌, ◌-◌, ap, sym, get_or, take, arith}
use Rattle.std.proofs.lemmas.List.{take_all}
use Rattle.numbered_instances.specs.Shared.{times}
use Rattle.numbered_instances.proofs.SharedAtoms.{times_next}
use Rattle.numbered_instances.proofs.counts.take_each.Goals as goal

pub loop-id-init : goal.loop-id-init
loop-id-init c j = omega arith

pub loop-id-preserved : goal.loop-id-preserved
loop-id-preserved c j = omega (arith, c.take_one.ensures j, c.loop-id.invariant j, times_next j c.args.ids.now c.loop-id.id-index c.id-item.result c.loop-id-test.true c.id-item.is)

pub returns : goal.returns
returns c j = c.loop-id.invariant j ∙ ap (λ xs. get_or c.args.counts.now.items j 0 - times j xs) (take_all c.loop-id.id-index c.args.ids.now (omega (arith, c.loop-id-test.false)))
