-- States, and what formulas and terms are in them.
use Rattle.std.specs.Prelude.{◌≡◌, ℕ, IsTrue, List, [], ◌∷◌, map, set, slice_index_or}
use Rattle.std.specs.List.{AllZip, AllByRecursion}
use Rattle.logic_core.specs.Tree.{Kind, int, Tree}
use Rattle.logic_core.specs.Value.{Value, are_of}
use Rattle.logic_core.specs.Def.{Def}
use Rattle.logic_core.specs.Meaning.{With, Holds}
use Rattle.logic_core.specs.Valid.{calls_of}

-- a state: the value of each variable, by number
abbrev pub State : Type 0
State = List Value

-- the sorts of these variables
abbrev pub sorts_at : List Kind → List ℕ → List Kind
sorts_at sorts xs = map (λ x. slice_index_or sorts x int) xs

-- the values are of the sorts of the variables
abbrev pub FitSorts : List Kind → List ℕ → List Value → Type 0
FitSorts sorts xs vs = IsTrue (are_of (sorts_at sorts xs) vs)

-- the state in which each of the variables has its value
abbrev pub update : State → List ℕ → List Value → State
update σ [] vs = σ
update σ (x ∷ xs) [] = σ
update σ (x ∷ xs) (v ∷ vs) = update (set σ x v) xs vs

-- over the definitions that the terms may call
module _ (defs : List Def) where
  -- the formula holds; it doesn't hold where this is contradictory
  abbrev pub HoldsIn : State → Tree → Type 0
  HoldsIn σ E = Holds σ (calls_of σ defs) E []

  abbrev pub AllHold : State → List Tree → Type 0
  AllHold σ Es = AllByRecursion (HoldsIn σ) Es

  -- the term has this value
  abbrev pub Evaluates : State → Tree → Value → Type 0
  Evaluates σ e v = With σ (calls_of σ defs) e [] (λ w. w ≡ v)

  -- the terms have these values, all in the one state
  abbrev pub EvaluateTo : State → List Tree → List Value → Type 0
  EvaluateTo σ es vs = AllZip (Evaluates σ) es vs
