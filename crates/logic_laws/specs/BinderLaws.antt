-- What a binder's body says with closed terms for the binder's variables.
use Rattle.std.specs.Prelude.{◌≡◌, ◌↔◌, Some, IsTrue, List, [], reverse}
use Rattle.std.specs.List.{AllZip}
use Rattle.logic_core.specs.Tree.{Kind, boolean, Tree, Trees, Patterns, for_all, exists}
use Rattle.logic_core.specs.Def.{Def}
use Rattle.logic_core.specs.Value.{Value, are_of}
use Rattle.logic_core.specs.Sorts.{sort_of, are}
use Rattle.logic_core.specs.Subterm.{listed}
use Rattle.logic_core.specs.Substitute.{substitute}
use Rattle.logic_laws.specs.Assignment.{IsAssignment, ValueIs, HoldsThere}

-- a body keeps its sort
abbrev pub SubstitutingKeepsSorts : Type 0
SubstitutingKeepsSorts = (vars : List Kind) (defs : List Def) (ss : List Kind) (body : Tree) (terms : Trees) (k : Kind)
    → IsTrue (are vars defs [] ss terms) → sort_of vars defs (reverse ss) body ≡ Some k → sort_of vars defs [] (substitute body (listed terms)) ≡ Some k

-- a body with closed terms for the binder's variables has the value that it has where the variables have the values of the terms
abbrev pub SubstitutingKeepsValues : Type 0
SubstitutingKeepsValues = (vars : List Kind) (defs : List Def) (frees : List Value) (ss : List Kind) (body : Tree) (terms : Trees) (vs : List Value)
    → IsTrue (are vars defs [] ss terms) → AllZip (λ t v. ValueIs frees defs t [] v) (listed terms) vs
    → (w : Value) → ValueIs frees defs body (reverse vs) w ↔ ValueIs frees defs (substitute body (listed terms)) [] w

-- where a ForAll holds, so does its body with terms of its sorts
abbrev pub InstancesHold : Type 0
InstancesHold = (vars : List Kind) (defs : List Def) (frees : List Value) (ss : List Kind) (triggers : Patterns) (body : Tree) (terms : Trees)
    → IsAssignment vars defs frees → sort_of vars defs (reverse ss) body ≡ Some boolean → IsTrue (are vars defs [] ss terms)
    → HoldsThere frees defs (for_all ss triggers body) [] → HoldsThere frees defs (substitute body (listed terms)) []

-- where an Exists holds, its body doesn't fail for all values of its sorts
abbrev pub WitnessesExist : Type 0
WitnessesExist = (defs : List Def) (frees : List Value) (ss : List Kind) (triggers : Patterns) (body : Tree)
    → HoldsThere frees defs (exists ss triggers body) [] → ¬ ((vs : List Value) → IsTrue (are_of ss vs) → ¬ HoldsThere frees defs body (reverse vs))
