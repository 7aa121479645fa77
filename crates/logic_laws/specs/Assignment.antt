-- What the laws speak of: an assignment over well-sorted definitions, and what terms mean in it.
use Rattle.std.specs.Prelude.{◌≡◌, ◌↔◌, IsTrue, List, []}
use Rattle.logic_core.specs.Tree.{Kind, Tree}
use Rattle.logic_core.specs.Def.{Def}
use Rattle.logic_core.specs.Value.{Value, are_of}
use Rattle.logic_core.specs.Meaning.{Said, With, Holds}
use Rattle.logic_core.specs.Valid.{calls_of}
use Rattle.logic_core.specs.Sorts.{bodies_sorted}

-- a value for each variable, of its sort, over definitions whose bodies are well sorted
abbrev pub IsAssignment : List Kind → List Def → List Value → Type 0
IsAssignment vars defs frees = IsTrue (bodies_sorted vars [] defs) × IsTrue (are_of vars frees)

module _ (frees : List Value) (defs : List Def) where
  -- what is said of the value of t, with these values for the bound variables in reach
  abbrev pub ValueHas : Tree → List Value → Said → Type 0
  ValueHas t b P = With frees (calls_of frees defs) t b P

  abbrev pub ValueIs : Tree → List Value → Value → Type 0
  ValueIs t b w = ValueHas t b (λ v. v ≡ w)

  abbrev pub HoldsThere : Tree → List Value → Type 0
  HoldsThere t b = Holds frees (calls_of frees defs) t b

  abbrev pub HaveSameValue : Tree → Tree → List Value → Type 0
  HaveSameValue t u b = (w : Value) → ValueIs t b w ↔ ValueIs u b w
