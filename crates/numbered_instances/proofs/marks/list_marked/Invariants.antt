use Rattle.std.proofs.Common.{◌≡◌, ℕ, nat_eq, take}
use Rattle.std.specs.List.{list_any}
use Rattle.numbered_instances.specs.Instances.{is_marked}
use Rattle.numbered_instances.proofs.marks.list_marked.Given as goal

abbrev pub invariant-loop-mark : goal.invariant-loop-mark
invariant-loop-mark l = (j : ℕ) → list_any (nat_eq j) l.marked ≡ is_marked (take l.mark-index l.marks) l.fact j
