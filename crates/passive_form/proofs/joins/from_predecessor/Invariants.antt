use Rattle.std.proofs.Common.{◌≡◌, nat_lt, cond, map, slice_index_or}
use Rattle.std.specs.List.{range_with_len}
use Rattle.passive_form.specs.Incarnations.{incarnation, nothing_done}
use Rattle.passive_form.proofs.joins.from_predecessor.Given as goal

abbrev pub invariant-loop-variable : goal.invariant-loop-variable
invariant-loop-variable l = l.numbers.items ≡ map (λ v. cond (nat_lt v l.own) (incarnation (slice_index_or l.done l.predecessor nothing_done).last v) v) (range_with_len 0 l.variable)
