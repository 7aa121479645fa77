-- What the first fault of a list is.
use Rattle.std.specs.Prelude.{◌≡◌, ◌≢◌, ◌⊎◌, ⊤, List, [], ◌∷◌, Some, None}
use Rattle.std.specs.declared.cmp.Ordering.TheVariants.{Less}
use Rattle.bpl_scopes.specs.declared.fault.Fault.{Fault}
use Rattle.bpl_scopes.specs.Fault.{order, first_fault}

-- the fault is one of these
abbrev pub IsOneOf : Fault → List Fault → Type 0
IsOneOf f [] = ⊥
IsOneOf f (g ∷ gs) = (f ≡ g) ⊎ IsOneOf f gs

-- none of these stands before the fault
abbrev pub NoneBefore : Fault → List Fault → Type 0
NoneBefore f [] = ⊤
NoneBefore f (g ∷ gs) = (order g f ≢ Less) × NoneBefore f gs

pub record IsFirstOf (f : Fault) (fs : List Fault) : Type 0 where
  pub there : IsOneOf f fs
  pub first : NoneBefore f fs

abbrev pub FirstIsFirst : Type 0
FirstIsFirst = (fs : List Fault) (f : Fault) → first_fault fs ≡ Some f → IsFirstOf f fs

abbrev pub NoneIsNone : Type 0
NoneIsNone = (fs : List Fault) → first_fault fs ≡ None → fs ≡ []
