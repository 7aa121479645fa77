-- Numbers of the terms of lists.
use Rattle.std.proofs.Common.{◌≡◌, refl, ℕ, ℤ, Vec, ◌+◌, ◌<◌, List, [], ◌∷◌, ◌++◌, map, length}
use Rattle.std.specs.List.{AllZip, AllByRecursion}
use Rattle.std.specs.declared.alloc.Global.{Global}
use Rattle.logic_core.specs.Tree.{Tree}
use Rattle.logic_core.proofs.EachOf.{every_append}
use Rattle.term_bank.specs.Numbered.{at, Begins, IsNumber, AreNumbers, AreAtoms, AreLists}
use Rattle.term_bank.specs.Node.{in_lists}
use Rattle.term_bank.proofs.Numbers.{number_is, number_kept}

pub zip_weaker : {A B : Type 0} (R S : A → B → Type 0) → ((a : A) (b : B) → R a b → S a b) → (xs : List A) (ys : List B) → AllZip R xs ys → AllZip S xs ys
zip_weaker R S f [] [] h = tt
zip_weaker R S f [] (y ∷ ys) h = absurd h
zip_weaker R S f (x ∷ xs) [] h = absurd h
zip_weaker R S f (x ∷ xs) (y ∷ ys) h = (f x y h.0, zip_weaker R S f xs ys h.1)

pub zip_push : {A B : Type 0} (R : A → B → Type 0) (xs : List A) (ys : List B) (x : A) (y : B) → AllZip R xs ys → R x y → AllZip R (xs ++ x ∷ []) (ys ++ y ∷ [])
zip_push R [] [] x y h r = (r, tt)
zip_push R [] (z ∷ ys) x y h r = absurd h
zip_push R (z ∷ xs) [] x y h r = absurd h
zip_push R (w ∷ xs) (z ∷ ys) x y h r = (h.0, zip_push R xs ys x y h.1 r)

-- they stay numbers of these terms
pub numbers_kept : (ts us : List Tree) (is : List ℕ) (vs : List Tree) → Begins ts us → AreNumbers ts is vs → AreNumbers us is vs
numbers_kept ts us is vs h n = zip_weaker (IsNumber ts) (IsNumber us) (λ i t. number_kept ts us i t h) is vs n

pub atoms_kept : (ts us : List Tree) (is : List (ℤ × ℕ)) (vs : List (ℤ × Tree)) → Begins ts us → AreAtoms ts is vs → AreAtoms us is vs
atoms_kept ts us is vs h n = zip_weaker (λ p q. (p.0 ≡ q.0) × IsNumber ts p.1 q.1) (λ p q. (p.0 ≡ q.0) × IsNumber us p.1 q.1) (λ p q r. (r.0, number_kept ts us p.1 q.1 h r.1)) is vs n

pub lists_kept : (ts us : List Tree) (iss : List (Vec ℕ Global)) (vss : List (List Tree)) → Begins ts us → AreLists ts iss vss → AreLists us iss vss
lists_kept ts us iss vss h n = zip_weaker (λ v vs. AreNumbers ts v.items vs) (λ v vs. AreNumbers us v.items vs) (λ v vs. numbers_kept ts us v.items vs h) iss vss n

-- and give them
pub numbers_give : (ts : List Tree) (is : List ℕ) (vs : List Tree) → AreNumbers ts is vs → map (at ts) is ≡ vs
numbers_give ts [] [] h = refl
numbers_give ts [] (v ∷ vs) h = absurd h
numbers_give ts (i ∷ is) [] h = absurd h
numbers_give ts (i ∷ is) (v ∷ vs) h = λ j. (number_is ts v i h.0).1 j ∷ numbers_give ts is vs h.1 j

pub atoms_give : (ts : List Tree) (is : List (ℤ × ℕ)) (vs : List (ℤ × Tree)) → AreAtoms ts is vs → map (λ (p : ℤ × ℕ). (p.0, at ts p.1)) is ≡ vs
atoms_give ts [] [] h = refl
atoms_give ts [] (v ∷ vs) h = absurd h
atoms_give ts (i ∷ is) [] h = absurd h
atoms_give ts (i ∷ is) (v ∷ vs) h = λ j. (h.0.0 j, (number_is ts v.1 i.1 h.0.1).1 j) ∷ atoms_give ts is vs h.1 j

pub lists_give : (ts : List Tree) (iss : List (Vec ℕ Global)) (vss : List (List Tree)) → AreLists ts iss vss → map (λ (v : Vec ℕ Global). map (at ts) v.items) iss ≡ vss
lists_give ts [] [] h = refl
lists_give ts [] (v ∷ vs) h = absurd h
lists_give ts (i ∷ is) [] h = absurd h
lists_give ts (i ∷ is) (v ∷ vs) h = λ j. numbers_give ts i.items v h.0 j ∷ lists_give ts is vs h.1 j

-- all are given numbers
pub numbers_within : (ts : List Tree) (is : List ℕ) (vs : List Tree) → AreNumbers ts is vs → AllByRecursion (λ i. i < length ts) is
numbers_within ts [] [] h = tt
numbers_within ts [] (v ∷ vs) h = absurd h
numbers_within ts (i ∷ is) [] h = absurd h
numbers_within ts (i ∷ is) (v ∷ vs) h = ((number_is ts v i h.0).0, numbers_within ts is vs h.1)

pub atoms_within : (ts : List Tree) (is : List (ℤ × ℕ)) (vs : List (ℤ × Tree)) → AreAtoms ts is vs → AllByRecursion (λ i. i < length ts) (map (λ (p : ℤ × ℕ). p.1) is)
atoms_within ts [] [] h = tt
atoms_within ts [] (v ∷ vs) h = absurd h
atoms_within ts (i ∷ is) [] h = absurd h
atoms_within ts (i ∷ is) (v ∷ vs) h = ((number_is ts v.1 i.1 h.0.1).0, atoms_within ts is vs h.1)

pub lists_within : (ts : List Tree) (iss : List (Vec ℕ Global)) (vss : List (List Tree)) → AreLists ts iss vss → AllByRecursion (λ i. i < length ts) (in_lists iss)
lists_within ts [] [] h = tt
lists_within ts [] (v ∷ vs) h = absurd h
lists_within ts (i ∷ is) [] h = absurd h
lists_within ts (i ∷ is) (v ∷ vs) h = every_append (λ i. i < length ts) i.items (in_lists is) (numbers_within ts i.items v h.0) (lists_within ts is vs h.1)
