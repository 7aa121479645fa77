-- Parts by number: they are the same where their numbers are.
use Rattle.std.proofs.Common.{◌≡◌, refl, ℕ, ℤ, neg_ℤ, Bool, true, false, ◌&&◌, List, [], ◌∷◌, length}
use Rattle.std.specs.Ordering.{int_eq}
use Rattle.logic_core.specs.Tree.{Tree}
use Rattle.logic_core.specs.View.{parts_of}
use Rattle.logic_core.specs.Same.{same_parts}
use Rattle.numbered_facts.proofs.EachOnce.{same_number}
use Rattle.theory_rules.specs.Combining.{opposite_parts}
use Rattle.theory_rules.specs.Counting.{counted_parts}
use Rattle.numbered_terms.specs.Lists.{atoms_at, AtomsBelow}
use Rattle.numbered_terms.specs.Shaped.{shaped_atoms}
use Rattle.numbered_terms.specs.Stored.{AreStored}

module _ (ts : List Tree) (stored : AreStored ts) where
  parts_apart : (ps qs : List (ℤ × ℕ)) → AtomsBelow (length ts) ps → AtomsBelow (length ts) qs → same_parts (parts_of (shaped_atoms ps)) (parts_of (shaped_atoms qs)) ≡ same_parts (parts_of (atoms_at ts ps)) (parts_of (atoms_at ts qs))
  parts_apart [] [] h g = refl
  parts_apart [] (q ∷ qs) h g = refl
  parts_apart (p ∷ ps) [] h g = refl
  parts_apart (p ∷ ps) (q ∷ qs) h g = λ k. int_eq p.0 q.0 && (same_number ts stored.apart p.1 q.1 h.0 g.0 k && parts_apart ps qs h.1 g.1 k)

  opposites_apart : (ps qs : List (ℤ × ℕ)) → AtomsBelow (length ts) ps → AtomsBelow (length ts) qs → same_parts (opposite_parts (parts_of (shaped_atoms ps))) (parts_of (shaped_atoms qs)) ≡ same_parts (opposite_parts (parts_of (atoms_at ts ps))) (parts_of (atoms_at ts qs))
  opposites_apart [] [] h g = refl
  opposites_apart [] (q ∷ qs) h g = refl
  opposites_apart (p ∷ ps) [] h g = refl
  opposites_apart (p ∷ ps) (q ∷ qs) h g = λ k. int_eq (neg_ℤ p.0) q.0 && (same_number ts stored.apart p.1 q.1 h.0 g.0 k && opposites_apart ps qs h.1 g.1 k)

  pub numbers_apart : (turned : Bool) (ps qs : List (ℤ × ℕ)) → AtomsBelow (length ts) ps → AtomsBelow (length ts) qs → same_parts (counted_parts turned (parts_of (shaped_atoms ps))) (parts_of (shaped_atoms qs)) ≡ same_parts (counted_parts turned (parts_of (atoms_at ts ps))) (parts_of (atoms_at ts qs))
  numbers_apart true ps qs h g = opposites_apart ps qs h g
  numbers_apart false ps qs h g = parts_apart ps qs h g
