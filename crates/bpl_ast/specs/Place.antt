-- Names, type parameters and types, with their places. A place is a line and a column, counted
-- from 1 at the first byte of the declaration.
use Rattle.std.specs.Prelude.{ℕ, List, Option}
use Rattle.bv_base.specs.declared.place.Place.{Place}

pub record Name : Type 0 where
  pub text : List ℕ
  pub at : Place

-- type parameters, and the place of their `<`
pub record Params : Type 0 where
  pub at : Place
  pub names : List Name

-- Each type has the place of its first token, an opening parenthesis around it counted.
mutual
  pub data Ty : Type 0 where
    integer : Place → Ty
    boolean : Place → Ty
    named : Place → Name → Ty
    map_type : Place → Option Params → Tys → Ty → Ty

  pub data Tys : Type 0 where
    no_tys : Tys
    ty : Ty → Tys → Tys

-- the same type in parentheses that begin there
abbrev pub ty_from : Place → Ty → Ty
ty_from p (integer q) = integer p
ty_from p (boolean q) = boolean p
ty_from p (named q n) = named p n
ty_from p (map_type q ps ds r) = map_type p ps ds r
