use Rattle.std.proofs.Common.{◌≡◌, ◌++◌, option_map, drop}
use Rattle.numbered_instances.specs.Finding.{each_number}
use Rattle.numbered_instances.proofs.found.each_found.Given as goal

-- the numbers so far, and then those that are ahead
abbrev pub invariant-loop-term : goal.invariant-loop-term
invariant-loop-term l = option_map (λ is. l.terms.items ++ is) (each_number (drop l.term-index l.found)) ≡ each_number l.found
