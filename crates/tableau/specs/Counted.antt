-- The items of a list of two, and of a list of three.
use Rattle.std.specs.Prelude.{Option, Some, None, List, [], ◌∷◌}

abbrev pub two : {A : Type 0} → List A → Option (A × A)
two (x ∷ y ∷ []) = Some (x, y)
two xs = None

abbrev pub three : {A : Type 0} → List A → Option (A × A × A)
three (x ∷ y ∷ z ∷ []) = Some (x, y, z)
three xs = None
