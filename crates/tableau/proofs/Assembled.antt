-- The proofs of nodes with two and with three children, from what is known of how many there are.
use Rattle.std.specs.Prelude.{◌≡◌, refl, ℕ, List, [], ◌∷◌, Option, Some, None}
use Rattle.logic_core.specs.Tree.{Tree}
use Rattle.proof_core.specs.Proof.{Proof, proof, by_condition, by_past, by_trichotomy}
use Rattle.tableau.specs.Counted.{two, three}
use Rattle.tableau.specs.Search.{only, chosen_proof, passed_proof, decided_proof}

abbrev pub chosen_from : ℕ → Tree → Option (Proof × Proof) → Proof
chosen_from f t (Some p) = proof [] (by_condition f t p.0 p.1)
chosen_from f t None = only []

pub chosen_is : (f : ℕ) (t : Tree) (ps : List Proof) → chosen_from f t (two ps) ≡ chosen_proof f t ps
chosen_is f t [] = refl
chosen_is f t (p ∷ []) = refl
chosen_is f t (p ∷ q ∷ []) = refl
chosen_is f t (p ∷ q ∷ r ∷ ps) = refl

abbrev pub passed_from : Tree → Option (Proof × Proof × Proof) → Proof
passed_from t (Some p) = proof [] (by_past t p.0 p.1 p.2)
passed_from t None = only []

pub passed_is : (t : Tree) (ps : List Proof) → passed_from t (three ps) ≡ passed_proof t ps
passed_is t [] = refl
passed_is t (p ∷ []) = refl
passed_is t (p ∷ q ∷ []) = refl
passed_is t (p ∷ q ∷ r ∷ []) = refl
passed_is t (p ∷ q ∷ r ∷ s ∷ ps) = refl

abbrev pub decided_from : Tree → Option (Proof × Proof × Proof) → Proof
decided_from d (Some p) = proof [] (by_trichotomy d p.0 p.1 p.2)
decided_from d None = only []

pub decided_is : (d : Tree) (ps : List Proof) → decided_from d (three ps) ≡ decided_proof d ps
decided_is d [] = refl
decided_is d (p ∷ []) = refl
decided_is d (p ∷ q ∷ []) = refl
decided_is d (p ∷ q ∷ r ∷ []) = refl
decided_is d (p ∷ q ∷ r ∷ s ∷ ps) = refl
