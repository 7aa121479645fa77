use Rattle.std.proofs.Common.{◌≡◌, drop}
use Rattle.std.specs.List.{list_any}
use Rattle.numbered_forms.specs.Sums.{sum_at}
use Rattle.theory_rules.specs.Trichotomy.{is_opposite}
use Rattle.numbered_theory.specs.Sums.{sums_at}
use Rattle.numbered_theory.proofs.undecided.has_opposite.Given as goal

abbrev pub invariant-loop-i : goal.invariant-loop-i
invariant-loop-i l = list_any (is_opposite (sum_at l.terms l.form)) (sums_at l.terms (drop l.i l.sides)) ≡ list_any (is_opposite (sum_at l.terms l.form)) (sums_at l.terms l.sides)
