use Rattle.std.proofs.Common.{◌≡◌, drop}
use Rattle.std.specs.List.{list_any}
use Rattle.theory_rules.specs.Trichotomy.{is_opposite}
use Rattle.plain_search.proofs.trichotomy.has_opposite.Given as goal

abbrev pub invariant-loop-other : goal.invariant-loop-other
invariant-loop-other l = list_any (is_opposite l.form) (drop l.other-index l.forms) ≡ list_any (is_opposite l.form) l.forms
