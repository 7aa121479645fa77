-- The proof that the moves of a run make, from the last one back.
use Rattle.std.proofs.Common.{◌≡◌, sym, ap, ◌∙◌, List, [], ◌∷◌, ◌++◌, map}
use Rattle.std.proofs.lemmas.List.{map-append}
use Rattle.proof_core.specs.Proof.{Proof}
use Rattle.tableau_branch.specs.Move.{Played}
use Rattle.tableau.specs.Search.{joined, proofs_before}
use Rattle.tableau.proofs.Joined.{proofs_before_last}

module _ {A B : Type 0} (k : B → Played) (f : A → B) (xs : List A) where
  -- the last move, seen in two steps, is joined
  pub one_joined : (rest : List A) (x : A) (m : Played) (ps rs qs all : List Proof) → xs ≡ rest ++ x ∷ [] → m ≡ k (f x) → rs ≡ ps → qs ≡ joined m rs → proofs_before (map k (map f xs)) ps ≡ all → proofs_before (map k (map f rest)) qs ≡ all
  one_joined rest x m ps rs qs all p e r q h = ap (proofs_before (map k (map f rest))) (q ∙ ap (joined m) r ∙ ap (λ n. joined n ps) e) ∙ sym (proofs_before_last (map k (map f rest)) (k (f x)) ps)
      ∙ ap (λ ms. proofs_before ms ps) (sym (ap (λ ys. map k (map f ys)) p ∙ ap (map k) (map-append f rest (x ∷ [])) ∙ map-append k (map f rest) (f x ∷ []))) ∙ h
