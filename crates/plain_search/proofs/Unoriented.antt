-- What is made of a fact that isn't oriented.
use Rattle.std.specs.Prelude.{◌≡◌, refl, Bool, true, false, Option, Some, None, is_some, is_none}
use Rattle.std.proofs.Common.{sym, ◌∙◌}
use Rattle.logic_core.specs.Wide.{when}

pub of_unoriented : {A B : Type 0} (l : Option A) (o : Option B) (b : Bool) → b ≡ is_some l → b ≡ false → when (is_none l) o ≡ o
of_unoriented None o b is not = refl
of_unoriented (Some t) o b is not = absurd (let e : true ≡ false = sym is ∙ not in cc)

pub of_oriented : {A B : Type 0} (l : Option A) (o : Option B) (b : Bool) → b ≡ is_some l → b ≡ true → when (is_none l) o ≡ None
of_oriented None o b is so = absurd (let e : false ≡ true = sym is ∙ so in cc)
of_oriented (Some t) o b is so = refl
