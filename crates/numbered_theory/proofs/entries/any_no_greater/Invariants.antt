use Rattle.std.proofs.Common.{◌≡◌, drop}
use Rattle.std.specs.List.{list_any}
use Rattle.numbered_forms.specs.Sums.{sum_at}
use Rattle.theory_rules.specs.Counting.{has_no_greater}
use Rattle.numbered_theory.specs.Entries.{entries_at}
use Rattle.numbered_theory.proofs.entries.any_no_greater.Given as goal

abbrev pub invariant-loop-entry : goal.invariant-loop-entry
invariant-loop-entry l = list_any (has_no_greater (sum_at l.terms l.form)) (entries_at l.terms (drop l.entry-index l.entries)) ≡ list_any (has_no_greater (sum_at l.terms l.form)) (entries_at l.terms l.entries)
