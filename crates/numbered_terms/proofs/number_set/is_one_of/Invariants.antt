use Rattle.std.proofs.Common.{◌≡◌, ◌||◌, nat_eq, drop}
use Rattle.std.specs.List.{list_any}
use Rattle.numbered_terms.proofs.number_set.is_one_of.Given as goal

abbrev pub invariant-loop-other : goal.invariant-loop-other
invariant-loop-other l = (l.found || list_any (nat_eq l.id) (drop l.other-index l.ids)) ≡ list_any (nat_eq l.id) l.ids
