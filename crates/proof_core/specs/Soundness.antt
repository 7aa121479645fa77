-- What each rule has to keep, so that an accepted proof shows its goal: where no assignment makes all facts hold after a rule, none does before it.
use Rattle.std.specs.Prelude.{◌≡◌, ℕ, ℤ, IsTrue, Some, List, [], ◌∷◌, All}
use Rattle.logic_core.specs.Tree.{Tree}
use Rattle.logic_core.specs.Value.{Value, are_of}
use Rattle.logic_core.specs.Def.{Def, Obligation}
use Rattle.logic_core.specs.Meaning.{Holds}
use Rattle.logic_core.specs.Valid.{Valid, calls_of}
use Rattle.logic_core.specs.Sorts.{bodies_sorted}
use Rattle.logic_core.specs.WellSorted.{IsFormula, IsWellSorted}
use Rattle.proof_core.specs.Proof.{Step, by_split, by_instantiate, by_skolem, by_replace, by_unfold, by_back, by_differ, by_combine, by_tighten, Proof}
use Rattle.proof_core.specs.Context.{Context, start}
use Rattle.proof_core.specs.Close.{closes}
use Rattle.proof_core.specs.Steps.{after_step}
use Rattle.proof_core.specs.Ends.{after_cases, after_condition, after_past, after_trichotomy}
use Rattle.proof_core.specs.Accepted.{IsAccepted}

pub record IsSorted (defs : List Def) (c : Context) : Type 0 where
  pub definitions : IsTrue (bodies_sorted c.vars [] defs)
  pub facts : All (IsFormula c.vars defs) c.facts

-- no assignment makes all facts hold
abbrev pub IsUnsatisfiable : List Def → Context → Type 0
IsUnsatisfiable defs c = (frees : List Value) → IsTrue (are_of c.vars frees) → ¬ All (λ t. Holds frees (calls_of frees defs) t []) c.facts

-- the facts of these contexts are formulas, and where each of them is refuted, so is the context before them
abbrev pub IsRefutedBy : List Def → Context → List Context → Type 0
IsRefutedBy defs c ds = All (IsSorted defs) ds × (All (IsUnsatisfiable defs) ds → IsUnsatisfiable defs c)

-- a step: facts stay formulas, and a refuted context after it refutes the one before it
abbrev pub StepIsSound : Step → Type 0
StepIsSound s = (defs : List Def) (c d : Context) → IsSorted defs c → after_step defs c s ≡ Some d → IsSorted defs d × (IsUnsatisfiable defs d → IsUnsatisfiable defs c)

abbrev pub CloseIsSound : Type 0
CloseIsSound = (f g : ℕ) (defs : List Def) (c : Context) → IsSorted defs c → IsTrue (closes c f g) → IsUnsatisfiable defs c

abbrev pub SplitIsSound : Type 0
SplitIsSound = (f : ℕ) → StepIsSound (by_split f)

abbrev pub CasesAreSound : Type 0
CasesAreSound = (f : ℕ) (defs : List Def) (c d : Context) (ds : List Context) → IsSorted defs c → after_cases defs c f ≡ Some (d, ds) → IsRefutedBy defs c (d ∷ ds)

abbrev pub ConditionIsSound : Type 0
ConditionIsSound = (f : ℕ) (t : Tree) (defs : List Def) (c d e : Context) → IsSorted defs c → after_condition defs c f t ≡ Some (d, e) → IsRefutedBy defs c (d ∷ e ∷ [])

abbrev pub InstantiateIsSound : Type 0
InstantiateIsSound = (f : ℕ) (ts : List Tree) → StepIsSound (by_instantiate f ts)

abbrev pub SkolemIsSound : Type 0
SkolemIsSound = (f : ℕ) → StepIsSound (by_skolem f)

abbrev pub ReplaceIsSound : Type 0
ReplaceIsSound = (f g : ℕ) (t : Tree) → StepIsSound (by_replace f g t)

abbrev pub UnfoldIsSound : Type 0
UnfoldIsSound = (f : ℕ) (t : Tree) → StepIsSound (by_unfold f t)

abbrev pub BackIsSound : Type 0
BackIsSound = (f : ℕ) (t : Tree) → StepIsSound (by_back f t)

abbrev pub PastIsSound : Type 0
PastIsSound = (t : Tree) (defs : List Def) (c below same above : Context) → IsSorted defs c → after_past defs c t ≡ Some (below, same, above) → IsRefutedBy defs c (below ∷ same ∷ above ∷ [])

abbrev pub DifferIsSound : Type 0
DifferIsSound = (f : ℕ) → StepIsSound (by_differ f)

abbrev pub CombineIsSound : Type 0
CombineIsSound = (f : ℕ) (p : ℤ) (g : ℕ) (q : ℤ) → StepIsSound (by_combine f p g q)

abbrev pub TightenIsSound : Type 0
TightenIsSound = (f : ℕ) → StepIsSound (by_tighten f)

abbrev pub TrichotomyIsSound : Type 0
TrichotomyIsSound = (t : Tree) (defs : List Def) (c below same above : Context) → IsSorted defs c → after_trichotomy defs c t ≡ Some (below, same, above) → IsRefutedBy defs c (below ∷ same ∷ above ∷ [])

-- the facts at the start are refuted only where the goal is valid
abbrev pub StartIsSound : Type 0
StartIsSound = (o : Obligation) (c : Context) → IsWellSorted o → start o ≡ Some c → IsSorted o.defs c × (IsUnsatisfiable o.defs c → Valid o)

-- an accepted proof shows its goal
abbrev pub AcceptanceIsSound : Type 0
AcceptanceIsSound = (o : Obligation) (p : Proof) → IsWellSorted o → IsAccepted o p → Valid o
