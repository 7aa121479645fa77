use Rattle.std.proofs.Common.{◌≡◌, ◌++◌, option_map, drop}
use Rattle.quantifier_triggers.specs.Match.{each_found}
use Rattle.quantifier_triggers.proofs.found.each_found.Given as goal

-- the terms so far, and then those that are ahead
abbrev pub invariant-loop-term : goal.invariant-loop-term
invariant-loop-term l = option_map (λ ts. l.terms.items ++ ts) (each_found (drop l.term-index l.found)) ≡ each_found l.found
