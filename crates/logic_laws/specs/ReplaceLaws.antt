-- Replacing a closed term by another keeps sorts and values, and a call may be replaced by its definition's body.
use Rattle.std.specs.Prelude.{◌≡◌, ℕ, Some, IsTrue, List, [], slice_get}
use Rattle.logic_core.specs.Tree.{Kind, Tree, Trees, call}
use Rattle.logic_core.specs.Def.{Def}
use Rattle.logic_core.specs.Value.{Value}
use Rattle.logic_core.specs.Sorts.{sort_of, are}
use Rattle.logic_core.specs.Subterm.{replaced, listed}
use Rattle.logic_core.specs.Substitute.{substitute}
use Rattle.logic_laws.specs.Assignment.{IsAssignment, HaveSameValue}

-- with a closed term replaced by one of its sort, a term keeps its own sort
abbrev pub ReplacingKeepsSorts : Type 0
ReplacingKeepsSorts = (vars : List Kind) (defs : List Def) (bound : List Kind) (old new t : Tree) (j k : Kind)
    → sort_of vars defs [] old ≡ Some j → sort_of vars defs [] new ≡ Some j → sort_of vars defs bound t ≡ Some k → sort_of vars defs bound (replaced old new t) ≡ Some k

-- with a closed term replaced by one of its sort and value, a term keeps its own value
abbrev pub ReplacingKeepsValues : Type 0
ReplacingKeepsValues = (vars : List Kind) (defs : List Def) (frees : List Value) (b : List Value) (old new t : Tree) (j : Kind)
    → IsAssignment vars defs frees → sort_of vars defs [] old ≡ Some j → sort_of vars defs [] new ≡ Some j → HaveSameValue frees defs old new [] → HaveSameValue frees defs t (replaced old new t) b

-- a call has the value of its definition's body with the arguments for the parameters
abbrev pub CallsAreBodies : Type 0
CallsAreBodies = (vars : List Kind) (defs : List Def) (frees : List Value) (f : ℕ) (d : Def) (args : Trees)
    → IsAssignment vars defs frees → slice_get defs f ≡ Some d → IsTrue (are vars defs [] d.params args) → HaveSameValue frees defs (call f args) (substitute d.body (listed args)) []
