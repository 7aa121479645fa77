-- A term has one value, of its sort, and the test of values is equality.
use Rattle.std.specs.Prelude.{◌≡◌, ◌↔◌, Some, IsTrue, List}
use Rattle.logic_core.specs.Tree.{Kind, Tree}
use Rattle.logic_core.specs.Def.{Def}
use Rattle.logic_core.specs.Value.{Value, same, is_of, are_of}
use Rattle.logic_core.specs.Sorts.{sort_of}
use Rattle.logic_laws.specs.Assignment.{IsAssignment, ValueHas, ValueIs}

-- no term is without a value
abbrev pub ValuesExist : Type 0
ValuesExist = (frees : List Value) (defs : List Def) (t : Tree) (b : List Value) → ¬ ((w : Value) → ¬ ValueIs frees defs t b w)

abbrev pub ValuesAreUnique : Type 0
ValuesAreUnique = (frees : List Value) (defs : List Def) (t : Tree) (b : List Value) (v w : Value) → ValueIs frees defs t b v → ValueIs frees defs t b w → v ≡ w

-- the value of a well-sorted term is of its sort
abbrev pub ValuesHaveSorts : Type 0
ValuesHaveSorts = (vars : List Kind) (defs : List Def) (frees : List Value) (bound : List Kind) (b : List Value) (t : Tree) (k : Kind)
    → IsAssignment vars defs frees → IsTrue (are_of bound b) → sort_of vars defs bound t ≡ Some k → ValueHas frees defs t b (λ v. IsTrue (is_of k v))

-- the test of two values passes exactly where they are equal
abbrev pub SameIsEquality : Type 0
SameIsEquality = (v w : Value) → IsTrue (same v w) ↔ (v ≡ w)
