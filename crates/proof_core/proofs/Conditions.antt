-- What the conditions of rules give.
use Rattle.std.proofs.Common.{◌≡◌, refl, ap, Bool, true, false, Option, Some, None}
use Rattle.std.specs.Prelude.{is_some}
use Rattle.logic_core.specs.Same.{is_some_and}
use Rattle.logic_core.specs.Wide.{◌>>=◌, when}

pub when_then : {A : Type 0} (b : Bool) (o : Option A) (x : A) → when b o ≡ Some x → (b ≡ true) × (o ≡ Some x)
when_then true o x h = (refl, h)
when_then false o x h = absurd (cc)

pub some_given : {A : Type 0} (o : Option A) → is_some o ≡ true → (x : A) × (o ≡ Some x)
some_given (Some x) h = (x, refl)
some_given None h = absurd (cc)

pub some_and : {A : Type 0} (o : Option A) (f : A → Bool) → is_some_and o f ≡ true → (x : A) × (o ≡ Some x) × (f x ≡ true)
some_and (Some x) f h = (x, refl, h)
some_and None f h = absurd (cc)

-- two or three things, of which each is there
pub both_given : {A B : Type 0} (o : Option A) (p : Option B) (a : A) (b : B) → ◌>>=◌ {B = A × B} o (λ x. ◌>>=◌ {B = A × B} p (λ y. Some (x, y))) ≡ Some (a, b) → (o ≡ Some a) × (p ≡ Some b)
both_given {A} {B} (Some x) (Some y) a b e = let t : ◌≡◌ {A = A × B} (x, y) (a, b) = cc in (ap (λ u. Some u.0) t, ap (λ u. Some u.1) t)
both_given (Some x) None a b e = absurd (cc)
both_given None p a b e = absurd (cc)

pub three_given : {A B C : Type 0} (o : Option A) (p : Option B) (q : Option C) (a : A) (b : B) (c : C) → ◌>>=◌ {B = A × B × C} o (λ x. ◌>>=◌ {B = A × B × C} p (λ y. ◌>>=◌ {B = A × B × C} q (λ z. Some (x, y, z)))) ≡ Some (a, b, c) → (o ≡ Some a) × (p ≡ Some b) × (q ≡ Some c)
three_given {A} {B} {C} (Some x) (Some y) (Some z) a b c e = let t : ◌≡◌ {A = A × B × C} (x, y, z) (a, b, c) = cc in (ap (λ u. Some u.0) t, ap (λ u. Some u.1) t, ap (λ u. Some u.2) t)
three_given (Some x) (Some y) None a b c e = absurd (cc)
three_given (Some x) None q a b c e = absurd (cc)
three_given None p q a b c e = absurd (cc)

-- a test passes or fails
pub at_test : {A : Type 0} (b : Bool) → (b ≡ true → A) → (b ≡ false → A) → A
at_test true f g = f refl
at_test false f g = g refl
