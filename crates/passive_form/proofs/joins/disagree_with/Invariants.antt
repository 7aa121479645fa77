use Rattle.std.proofs.Common.{◌≡◌, nat_eq, not, filter, slice_index_or}
use Rattle.std.specs.List.{list_all, range_with_len}
use Rattle.passive_form.specs.Incarnations.{incarnation, nothing_done, lasts}
use Rattle.passive_form.proofs.joins.disagree_with.Given as goal

abbrev pub invariant-loop-variable : goal.invariant-loop-variable
invariant-loop-variable l = l.variables.items ≡ filter (λ v. not (list_all (λ j. nat_eq (incarnation (slice_index_or l.done l.first nothing_done).last v) (incarnation j v)) (lasts l.done l.others))) (range_with_len 0 l.variable)
