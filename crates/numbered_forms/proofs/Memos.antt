-- What is kept of numbers, and one more.
use Rattle.std.proofs.Common.{◌≡◌, refl, sym, subst, ◌∙◌, ℕ, nat_eq, Bool, true, false, cond, Option, Some, List}
use Rattle.std.proofs.lemmas.Bool.{eqb-true}
use Rattle.numbered_terms.specs.Slots.{kept_at, AreAlike, IsPut, AreKept}

-- right of each number of which something is kept
module _ {A : Type 0} (Right : ℕ → A → Type 0) where
  pub kept_more : (kept kept' : List (Option A)) (i : ℕ) (a : A) → IsPut kept i a kept' → AreKept Right kept → Right i a → AreKept Right kept'
  kept_more kept kept' i a e h r = λ n b g. by n b (nat_eq n i) refl (sym (e n) ∙ g)
    where
      by : (n : ℕ) (b : A) (t : Bool) → nat_eq n i ≡ t → cond t (Some a) (kept_at kept n) ≡ Some b → Right n b
      by n b true q g = let same : a ≡ b = cc in subst (λ j. Right j b) (sym (eqb-true n i q)) (subst (Right i) same r)
      by n b false q g = h n b g

  pub kept_alike : (kept kept' : List (Option A)) → AreAlike kept kept' → AreKept Right kept → AreKept Right kept'
  kept_alike kept kept' e h = λ n b g. h n b (sym (e n) ∙ g)
