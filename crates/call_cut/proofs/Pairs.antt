-- Where one of two lists is over, no more pairs come.
use Rattle.std.specs.Prelude.{◌≡◌, refl, ℕ, zero, suc, ◌≤◌, List, [], ◌∷◌, length, drop, zip, min}
use Rattle.std.proofs.Common.{arith}

zip_nil : {A B : Type 0} (xs : List A) (ys : List B) → length ys ≡ 0 → zip xs ys ≡ []
zip_nil [] [] e = refl
zip_nil (x ∷ xs) [] e = refl
zip_nil [] (y ∷ ys) e = refl
zip_nil (x ∷ xs) (y ∷ ys) e = absurd (omega (arith, e))

pub zip_over : {A B : Type 0} (i : ℕ) (xs : List A) (ys : List B) → min (length xs) (length ys) ≤ i → zip (drop i xs) (drop i ys) ≡ []
zip_over zero [] ys h = refl
zip_over zero (x ∷ xs) [] h = refl
zip_over zero (x ∷ xs) (y ∷ ys) h = absurd (omega (arith, h))
zip_over (suc i) [] ys h = refl
zip_over (suc i) (x ∷ xs) [] h = zip_nil (drop i xs) [] refl
zip_over (suc i) (x ∷ xs) (y ∷ ys) h = zip_over i xs ys (omega (arith, h))
