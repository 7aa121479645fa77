-- Sorts stay.
use Rattle.std.specs.Prelude.{◌≡◌, Some, List}
use Rattle.logic_core.specs.Tree.{Kind, boolean, Tree}
use Rattle.logic_core.specs.Def.{Def}
use Rattle.logic_core.specs.Sorts.{sort_of}
use Rattle.logic_core.specs.Junction.{negated}
use Rattle.logic_core.specs.Normal.{normal}

-- a normal form has the sort of its term
abbrev pub NormalKeepsSorts : Type 0
NormalKeepsSorts = (vars : List Kind) (defs : List Def) (bound : List Kind) (t u : Tree) (k : Kind)
    → sort_of vars defs bound t ≡ Some k → normal vars defs bound t ≡ Some u → sort_of vars defs bound u ≡ Some k

-- the normal Not of a formula is a formula
abbrev pub NegatedKeepsSorts : Type 0
NegatedKeepsSorts = (vars : List Kind) (defs : List Def) (bound : List Kind) (t u : Tree)
    → sort_of vars defs bound t ≡ Some boolean → negated t ≡ Some u → sort_of vars defs bound u ≡ Some boolean
