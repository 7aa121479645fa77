-- The normal form keeps what a term means.
use Rattle.std.specs.Prelude.{◌≡◌, ◌↔◌, Some, IsTrue, List}
use Rattle.logic_core.specs.Tree.{Kind, boolean, Tree, negation}
use Rattle.logic_core.specs.Def.{Def}
use Rattle.logic_core.specs.Value.{Value, are_of}
use Rattle.logic_core.specs.Sorts.{sort_of}
use Rattle.logic_core.specs.Junction.{negated}
use Rattle.logic_core.specs.Normal.{normal}
use Rattle.logic_core.specs.Tighten.{tighten}
use Rattle.logic_laws.specs.Assignment.{IsAssignment, HaveSameValue, HoldsThere}

-- a well-sorted term and its normal form have the same value
abbrev pub NormalKeepsValues : Type 0
NormalKeepsValues = (vars : List Kind) (defs : List Def) (frees : List Value) (bound : List Kind) (b : List Value) (t u : Tree) (k : Kind)
    → IsAssignment vars defs frees → IsTrue (are_of bound b) → sort_of vars defs bound t ≡ Some k → normal vars defs bound t ≡ Some u → HaveSameValue frees defs t u b

-- a formula holds exactly where its normal form does
abbrev pub NormalKeepsTruth : Type 0
NormalKeepsTruth = (vars : List Kind) (defs : List Def) (frees : List Value) (bound : List Kind) (b : List Value) (t u : Tree) (k : Kind)
    → IsAssignment vars defs frees → IsTrue (are_of bound b) → sort_of vars defs bound t ≡ Some k → normal vars defs bound t ≡ Some u → HoldsThere frees defs t b ↔ HoldsThere frees defs u b

-- the normal Not of a formula has the value of its Not
abbrev pub NegatedIsNot : Type 0
NegatedIsNot = (vars : List Kind) (defs : List Def) (frees : List Value) (bound : List Kind) (b : List Value) (t u : Tree)
    → IsAssignment vars defs frees → IsTrue (are_of bound b) → sort_of vars defs bound t ≡ Some boolean → negated t ≡ Some u → HaveSameValue frees defs (negation t) u b

-- a tightened formula is one, of the same value
abbrev pub TighteningKeepsSorts : Type 0
TighteningKeepsSorts = (vars : List Kind) (defs : List Def) (bound : List Kind) (t : Tree) → sort_of vars defs bound t ≡ Some boolean → sort_of vars defs bound (tighten t) ≡ Some boolean

abbrev pub TighteningKeepsValues : Type 0
TighteningKeepsValues = (vars : List Kind) (defs : List Def) (frees : List Value) (bound : List Kind) (b : List Value) (t : Tree)
    → IsAssignment vars defs frees → IsTrue (are_of bound b) → sort_of vars defs bound t ≡ Some boolean → HaveSameValue frees defs t (tighten t) b
