-- A set of numbers that one more has joined.
use Rattle.std.proofs.Common.{◌≡◌, refl, sym, ap, ◌∙◌, ℕ, nat_eq, Bool, true, false, ◌||◌, cond, List, [], ◌∷◌, ◌++◌}
use Rattle.std.specs.List.{list_any}
use Rattle.std.proofs.lemmas.Bool.{eqb-true}
use Rattle.logic_core.proofs.Anywhere.{any_append}
use Rattle.logic_core.proofs.Booleans.{or_false}

-- which numbers are in it
pub inserted : (i j : ℕ) (is js : List ℕ) → js ≡ cond (list_any (nat_eq i) is) is (is ++ i ∷ []) → list_any (nat_eq j) js ≡ (list_any (nat_eq j) is || nat_eq j i)
inserted i j is js e = ap (list_any (nat_eq j)) e ∙ by (list_any (nat_eq i) is) refl
  where
    has : (x : Bool) → nat_eq j i ≡ x → list_any (nat_eq i) is ≡ true → list_any (nat_eq j) is ≡ (list_any (nat_eq j) is || x)
    has false q h = sym (or_false (list_any (nat_eq j) is))
    has true q h = let there : list_any (nat_eq j) is ≡ true = ap (λ n. list_any (nat_eq n) is) (eqb-true j i q) ∙ h in there ∙ sym (ap (λ x. x || true) there)

    by : (b : Bool) → list_any (nat_eq i) is ≡ b → list_any (nat_eq j) (cond b is (is ++ i ∷ [])) ≡ (list_any (nat_eq j) is || nat_eq j i)
    by true h = has (nat_eq j i) refl h
    by false h = any_append (nat_eq j) is (i ∷ []) ∙ ap (λ b. list_any (nat_eq j) is || b) (or_false (nat_eq j i))
