-- A term means the same over more variables, and whatever the values of those that it doesn't mention.
use Rattle.std.specs.Prelude.{◌≡◌, ◌↔◌, ℕ, Bool, ◌||◌, Some, IsTrue, List, ◌++◌}
use Rattle.std.specs.List.{list_any}
use Rattle.logic_core.specs.Tree.{Kind, Tree, free}
use Rattle.logic_core.specs.Def.{Def}
use Rattle.logic_core.specs.Value.{Value, at, are_of}
use Rattle.logic_core.specs.Sorts.{sort_of}
use Rattle.logic_core.specs.Subterm.{occurs}
use Rattle.logic_laws.specs.Assignment.{IsAssignment, ValueIs}

abbrev pub MoreVariablesKeepSorts : Type 0
MoreVariablesKeepSorts = (vars more : List Kind) (defs : List Def) (bound : List Kind) (t : Tree) (k : Kind)
    → sort_of vars defs bound t ≡ Some k → sort_of (vars ++ more) defs bound t ≡ Some k

abbrev pub MoreVariablesKeepAssignments : Type 0
MoreVariablesKeepAssignments = (vars more : List Kind) (defs : List Def) (frees others : List Value)
    → IsAssignment vars defs frees → IsTrue (are_of more others) → IsAssignment (vars ++ more) defs (frees ++ others)

abbrev pub MoreVariablesKeepValues : Type 0
MoreVariablesKeepValues = (vars : List Kind) (defs : List Def) (frees others : List Value) (bound : List Kind) (b : List Value) (t : Tree) (k : Kind)
    → IsAssignment vars defs frees → sort_of vars defs bound t ≡ Some k → (w : Value) → ValueIs frees defs t b w ↔ ValueIs (frees ++ others) defs t b w

-- variable v stands in the term or in a definition's body
abbrev pub mentions : List Def → Tree → ℕ → Bool
mentions defs t v = occurs (free v) t || list_any (λ d. occurs (free v) d.body) defs

-- two assignments that agree on what is mentioned give the same value
abbrev pub OtherVariablesDontMatter : Type 0
OtherVariablesDontMatter = (defs : List Def) (frees frees' : List Value) (t : Tree) (b : List Value)
    → ((v : ℕ) → IsTrue (mentions defs t v) → at frees v ≡ at frees' v) → (w : Value) → ValueIs frees defs t b w ↔ ValueIs frees' defs t b w
