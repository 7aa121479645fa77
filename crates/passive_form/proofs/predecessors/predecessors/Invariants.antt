use Rattle.std.proofs.Common.{◌≡◌, map}
use Rattle.passive_form.specs.Incarnations.{numbers, predecessors_below}
use Rattle.passive_form.proofs.predecessors.predecessors.Given as goal

abbrev pub invariant-loop-number : goal.invariant-loop-number
invariant-loop-number l = l.rows.items ≡ map (predecessors_below l.blocks l.number) (numbers l.blocks)
