use Rattle.std.proofs.Common.{◌≡◌, ◌++◌, map, take, slice_index_or}
use Rattle.logic_core.specs.Tree.{free, equal}
use Rattle.flow_core.specs.declared.command.Command.TheVariants.{Assume}
use Rattle.passive_form.specs.Incarnations.{incarnation, nothing_done}
use Rattle.passive_form.proofs.blocks.push_equations.Given as goal

abbrev pub invariant-loop-pair : goal.invariant-loop-pair
invariant-loop-pair l = l.commands.items ≡ l.fn.commands.items ++ map (λ p. Assume (equal (free p.1) (free (incarnation (slice_index_or l.done l.block nothing_done).last p.0)))) (take l.pair-index l.joined)
