use Rattle.std.proofs.Common.{◌≡◌, drop}
use Rattle.std.specs.List.{list_any}
use Rattle.tableau_branch.specs.Branch.{Mark}
use Rattle.logic_rules.specs.Instantiating.{same_mark}
use Rattle.plain_search.proofs.instantiating.is_unmarked.Given as goal

abbrev pub invariant-loop-mark : goal.invariant-loop-mark
invariant-loop-mark l = list_any (λ (m : Mark). same_mark m (record { fact = l.fact; tuple = l.tuple })) (drop l.mark-index l.branch.marks) ≡ list_any (λ (m : Mark). same_mark m (record { fact = l.fact; tuple = l.tuple })) l.branch.marks
