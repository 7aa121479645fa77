-- Where a sum as a term stays a Sum.
use Rattle.std.proofs.Common.{◌≡◌, refl, ◌<◌, ◌&&◌, ℤ, pos, false, List, [], ◌∷◌, length, inl, inr, arith}
use Rattle.std.proofs.lemmas.Bool.{cases_Bool}
use Rattle.std.proofs.lemmas.Bool.Decides.{Decides-int_eq}
use Rattle.std.specs.Ordering.{int_eq}
use Rattle.logic_terms.specs.Tree.{Tree, linear}
use Rattle.logic_core.specs.View.{parts_of}
use Rattle.logic_core.specs.Sum.{sum_term}

neither : (k c : ℤ) → (k ≡ pos 1 → c ≡ pos 0 → ⊥) → (int_eq k (pos 1) && int_eq c (pos 0)) ≡ false
neither k c other = elim (cases_Bool (int_eq k (pos 1))) [
  | inl one ↦ elim (cases_Bool (int_eq c (pos 0))) [
    | inl zero ↦ absurd (other ((Decides-int_eq k (pos 1)).0 one) ((Decides-int_eq c (pos 0)).0 zero))
    | inr zero ↦ rw (one, zero) refl
  ]
  | inr one ↦ rw one refl
]

-- it has parts, and isn't one of coefficient 1 with constant 0
pub stays_sum : (xs : List (ℤ × Tree)) (c : ℤ) → 0 < length xs → ((x : ℤ × Tree) → xs ≡ x ∷ [] → x.0 ≡ pos 1 → c ≡ pos 0 → ⊥) → linear (parts_of xs) c ≡ sum_term (parts_of xs) c
stays_sum [] c some other = absurd (omega arith)
stays_sum (x ∷ []) c some other = rw (neither x.0 c (other x refl)) refl
stays_sum (x ∷ y ∷ xs) c some other = refl
