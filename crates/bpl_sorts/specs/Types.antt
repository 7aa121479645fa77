-- Types: the integers, the truth values, the carriers of a user type, by its number, and the maps to a type.
use Rattle.std.specs.Prelude.{ℕ, nat_eq, Bool, true, false, List, map}
use Rattle.logic_core.specs.Tree.{Kind, int, boolean, map as map_of}

pub data Ty : Type 0 where
  integers : Ty
  truths : Ty
  carriers : ℕ → Ty
  maps : Ty → Ty

-- the sort of a type's values: carriers are integers
abbrev pub kind_of : Ty → Kind
kind_of integers = int
kind_of truths = boolean
kind_of (carriers n) = int
kind_of (maps t) = map_of (kind_of t)

abbrev pub kinds_of : List Ty → List Kind
kinds_of ts = map kind_of ts

-- user types are different from the integers and from each other
abbrev pub same_type : Ty → Ty → Bool
same_type integers integers = true
same_type truths truths = true
same_type (carriers m) (carriers n) = nat_eq m n
same_type (maps s) (maps t) = same_type s t
same_type s t = false

-- the types of a definition's parameters, and its own
abbrev pub Head : Type 0
Head = List Ty × Ty
