-- What stands in lists.
use Rattle.std.specs.Prelude.{◌≡◌, zero, suc, Bool, true, false, cond, List, [], ◌∷◌, filter}
use Rattle.std.specs.List.{Contains}
use Rattle.std.proofs.Common.{refl, subst, arith, inl, inr, ◌⊎◌}

abbrev pub In : {A : Type 0} → A → List A → Type 0
In x [] = ⊥
In x (y ∷ ys) = (y ≡ x) ⊎ In x ys

pub in_list : {A : Type 0} (xs : List A) (x : A) → Contains xs x → In x xs
in_list [] x (k, l, e) = absurd (omega (arith, l))
in_list (y ∷ ys) x (zero, l, e) = inl e
in_list (y ∷ ys) x (suc k, l, e) = inr (in_list ys x (k, omega (arith, l), e))

-- what a test lets through
pub in_filter : {A : Type 0} (test : A → Bool) (xs : List A) (x : A) → In x (filter test xs) → In x xs × (test x ≡ true)
in_filter test [] x h = absurd h
in_filter {A} test (y ∷ ys) x h = by (in_filter test ys x) (test y) refl h
  where
    by : (In x (filter test ys) → In x ys × (test x ≡ true)) → (b : Bool) → test y ≡ b → In x (cond b (y ∷ filter test ys) (filter test ys)) → In x (y ∷ ys) × (test x ≡ true)
    by later true e (inl q) = (inl q, subst (λ z. test z ≡ true) q e)
    by later true e (inr k) = let r = later k in (inr r.0, r.1)
    by later false e k = let r = later k in (inr r.0, r.1)

pub list_in : {A : Type 0} (xs : List A) (x : A) → In x xs → Contains xs x
list_in [] x h = absurd h
list_in (y ∷ ys) x (inl e) = (zero, omega arith, e)
list_in (y ∷ ys) x (inr h) = let r = list_in ys x h in let less = r.1 in (suc r.0, omega (arith, less), r.2)
