use Rattle.std.proofs.Common.{◌≡◌, map, take, ℤ, ℕ}
use Rattle.numbered_terms.specs.Renumbered.{new_of}
use Rattle.numbered_terms.proofs.renumber.new_atoms.Given as goal

abbrev pub invariant-loop-part : goal.invariant-loop-part
invariant-loop-part l = l.atoms.items ≡ (map (λ (p : ℤ × ℕ). (p.0, new_of l.found.entries p.1)) (take l.part-index l.parts))
