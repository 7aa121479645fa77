use Rattle.std.proofs.Common.{◌≡◌, map, take}
use Rattle.logic_core.specs.Renamed.{both_renamed, new_number}
use Rattle.obligation_text.proofs.canonical.renamed_terms.Given as goal

-- the terms so far
abbrev pub invariant-loop-term : goal.invariant-loop-term
invariant-loop-term l = l.renamed.items ≡ map (both_renamed (new_number l.definitions) (new_number l.variables)) (take l.term-index l.terms)
