-- What tests and computations that may give nothing say of their parts.
use Rattle.std.proofs.Common.{◌≡◌, refl, subst, Bool, true, false, ◌&&◌, cond, Option, Some, None, option_map}
use Rattle.logic_core.proofs.Booleans.{both_true, all_true}
use Rattle.logic_core.specs.Wide.{◌>>=◌, when}

pub some_has : {A : Type 0} (P : A → Type 0) (x y : A) → Some x ≡ Some y → P x → P y
some_has P x y e h = let q : x ≡ y = cc in subst P q h

pub bind_some : {A B : Type 0} (o : Option A) (f : A → Option B) (y : B) → (o >>= f) ≡ Some y → (x : A) × (o ≡ Some x) × (f x ≡ Some y)
bind_some None f y h = absurd (cc)
bind_some (Some x) f y h = (x, refl, h)

pub map_some : {A B : Type 0} (f : A → B) (o : Option A) (y : B) → option_map f o ≡ Some y → (x : A) × (o ≡ Some x) × (f x ≡ y)
map_some f None y h = absurd (cc)
map_some f (Some x) y h = (x, refl, cc)

pub when_some : {A : Type 0} (c : Bool) (x y : A) → when c (Some x) ≡ Some y → (c ≡ true) × (x ≡ y)
when_some true x y h = (refl, cc)
when_some false x y h = absurd (cc)

pub when_true : {A : Type 0} (c : Bool) (o : Option A) → c ≡ true → when c o ≡ o
when_true true o h = refl
when_true false o h = absurd (cc)

-- what holds of both branches
pub cond_has : {A : Type 0} (P : A → Type 0) (c : Bool) (x y : A) → (c ≡ true → P x) → (c ≡ false → P y) → P (cond c x y)
cond_has P true x y f g = f refl
cond_has P false x y f g = g refl

pub cond_some : {A : Type 0} (P : A → Type 0) (c : Bool) (o p : Option A) (y : A) → cond c o p ≡ Some y → (c ≡ true → o ≡ Some y → P y) → (c ≡ false → p ≡ Some y → P y) → P y
cond_some P true o p y h f g = f refl h
cond_some P false o p y h f g = g refl h
