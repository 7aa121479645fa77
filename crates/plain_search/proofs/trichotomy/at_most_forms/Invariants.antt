use Rattle.std.proofs.Common.{◌≡◌, ◌++◌, drop}
use Rattle.theory_rules.specs.Trichotomy.{at_most_forms}
use Rattle.plain_search.proofs.trichotomy.at_most_forms.Given as goal

abbrev pub invariant-loop-fact : goal.invariant-loop-fact
invariant-loop-fact l = l.forms.items ++ at_most_forms (drop l.fact-index l.facts) ≡ at_most_forms l.facts
