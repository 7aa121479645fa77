-- There is something, in an option and in what is made of one.
use Rattle.std.specs.Prelude.{◌≡◌, refl, Bool, true, false, is_some, Option, Some, None}
use Rattle.logic_core.specs.Tree.{Kind}
use Rattle.logic_core.specs.Wide.{◌>>=◌, when}
use Rattle.logic_core.specs.Sorts.{is}

-- there is something
abbrev pub There : {A : Type 0} → Option A → Type 0
There o = is_some o ≡ true

pub of_is : (k : Kind) (o : Option Kind) → is k o ≡ true → There o
of_is k None h = h
of_is k (Some j) h = refl

pub of_when : {A : Type 0} (c : Bool) (o : Option A) → There (when c o) → c ≡ true
of_when true o h = refl
of_when false o h = let c : false ≡ true = h in absurd cc

pub of_bind : {A B : Type 0} (o : Option A) (f : A → Option B) → There (o >>= f) → There o × ((a : A) × There (f a))
of_bind None f h = let c : false ≡ true = h in absurd cc
of_bind (Some a) f h = (refl, (a, h))
