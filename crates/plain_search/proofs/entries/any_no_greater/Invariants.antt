use Rattle.std.proofs.Common.{◌≡◌, drop}
use Rattle.std.specs.List.{list_any}
use Rattle.theory_rules.specs.Counting.{has_no_greater}
use Rattle.plain_search.proofs.entries.any_no_greater.Given as goal

abbrev pub invariant-loop-entry : goal.invariant-loop-entry
invariant-loop-entry l = list_any (has_no_greater l.form) (drop l.entry-index l.entries) ≡ list_any (has_no_greater l.form) l.entries
