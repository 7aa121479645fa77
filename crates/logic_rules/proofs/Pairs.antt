-- The search for the first pair of facts that close a branch, one fact on.
use Rattle.std.specs.Prelude.{◌≡◌, refl, Bool, true, false, Option, Some, None, List, [], ◌∷◌, ◌++◌, find}
use Rattle.std.proofs.Common.{ap, ◌∙◌}
use Rattle.logic_core.specs.Junction.{is_truth}
use Rattle.tableau_branch.specs.Branch.{Fact}
use Rattle.logic_rules.specs.Closing.{are_opposed, pair_from}

module _ (before : List Fact) (g : Fact) (gs : List Fact) where
  -- what comes of the fact that was found before g, and of whether g is false
  abbrev paired : Option Fact → Bool → Option (Fact × Fact)
  paired o b = elim o [ Some f ↦ Some (f, g) | None ↦ elim b [ true ↦ Some (g, g) | false ↦ pair_from (before ++ g ∷ []) gs ] ]

  as_paired : (o : Option Fact) (b : Bool) → find (λ x. are_opposed x g) before ≡ o → is_truth false g.term ≡ b → pair_from before (g ∷ gs) ≡ paired o b
  as_paired o b h k = ap (λ p. paired p (is_truth false g.term)) h ∙ ap (paired o) k

  pub pairs_with : (f : Fact) → find (λ x. are_opposed x g) before ≡ Some f → pair_from before (g ∷ gs) ≡ Some (f, g)
  pairs_with f h = as_paired (Some f) (is_truth false g.term) h refl

  pub pairs_with_itself : find (λ x. are_opposed x g) before ≡ None → is_truth false g.term ≡ true → pair_from before (g ∷ gs) ≡ Some (g, g)
  pairs_with_itself h k = as_paired None true h k

  pub pairs_later : find (λ x. are_opposed x g) before ≡ None → is_truth false g.term ≡ false → pair_from before (g ∷ gs) ≡ pair_from (before ++ g ∷ []) gs
  pairs_later h k = as_paired None false h k
