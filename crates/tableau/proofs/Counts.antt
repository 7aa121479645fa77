-- Lists of two and of three items.
use Rattle.std.specs.Prelude.{◌≡◌, ◌≢◌, refl, Some, None, List, [], ◌∷◌, ◌++◌, length}
use Rattle.std.proofs.Common.{arith}
use Rattle.std.proofs.lemmas.List.{length_push}
use Rattle.tableau.specs.Counted.{two, three}

pub not_two : {A : Type 0} (xs : List A) → length xs ≢ 2 → two xs ≡ None
not_two [] h = refl
not_two (x ∷ []) h = refl
not_two (x ∷ y ∷ []) h = absurd (h refl)
not_two (x ∷ y ∷ z ∷ xs) h = refl

pub is_two : {A : Type 0} (xs : List A) (x y : A) → length ((xs ++ x ∷ []) ++ y ∷ []) ≡ 2 → two ((xs ++ x ∷ []) ++ y ∷ []) ≡ Some (x, y)
is_two [] x y h = refl
is_two (z ∷ []) x y h = absurd (omega arith)
is_two (z ∷ w ∷ xs) x y h = let more = length_push (xs ++ x ∷ []) y in absurd (omega (arith, h))

pub not_three : {A : Type 0} (xs : List A) → length xs ≢ 3 → three xs ≡ None
not_three [] h = refl
not_three (x ∷ []) h = refl
not_three (x ∷ y ∷ []) h = refl
not_three (x ∷ y ∷ z ∷ []) h = absurd (h refl)
not_three (x ∷ y ∷ z ∷ w ∷ xs) h = refl

pub is_three : {A : Type 0} (xs : List A) (x y z : A) → length (((xs ++ x ∷ []) ++ y ∷ []) ++ z ∷ []) ≡ 3 → three (((xs ++ x ∷ []) ++ y ∷ []) ++ z ∷ []) ≡ Some (x, y, z)
is_three [] x y z h = refl
is_three (v ∷ []) x y z h = absurd (omega arith)
is_three (v ∷ w ∷ xs) x y z h = let more = length_push ((xs ++ x ∷ []) ++ y ∷ []) z in let most = length_push (xs ++ x ∷ []) y in absurd (omega (arith, h))
