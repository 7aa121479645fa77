-- Chosen triggers meet the rules of triggers, are missing only where they can't be had, and keep obligations.
use Rattle.std.specs.Prelude.{◌≡◌, ◌↔◌, ℕ, IsTrue, List, [], ◌∷◌}
use Rattle.std.specs.List.{AllByRecursion}
use Rattle.logic_core.specs.Tree.{Tree, Patterns, no_patterns, pattern}
use Rattle.logic_core.specs.Def.{Def, Obligation}
use Rattle.logic_core.specs.Valid.{Valid}
use Rattle.logic_core.specs.WellSorted.{IsWellSorted}
use Rattle.logic_core.specs.Subterm.{listed}
use Rattle.quantifier_triggers.specs.Candidates.{is_built, covers, is_read_or_call, candidates, mentioned_by}
use Rattle.quantifier_triggers.specs.Choice.{chosen, triggers, obligation_with_triggers}

-- each pattern is a read or an application, and built of reads, applications, variables and literals
pub record IsPattern (defs : List Def) (t : Tree) : Type 0 where
  pub head : IsTrue (is_read_or_call defs t)
  pub built : IsTrue (is_built t)

-- no variable of the quantifier is missing
pub record IsTrigger (defs : List Def) (n : ℕ) (ts : List Tree) : Type 0 where
  pub patterns : AllByRecursion (IsPattern defs) ts
  pub covers : IsTrue (covers n (mentioned_by ts))

abbrev pub lists : Patterns → List (List Tree)
lists no_patterns = []
lists (pattern ts ps) = listed ts ∷ lists ps

-- of each quantifier, by the number of its variables and its body
abbrev pub ChosenTriggersMeetTheRules : Type 0
ChosenTriggersMeetTheRules = (defs : List Def) (n : ℕ) (body : Tree) → AllByRecursion (IsTrigger defs n) (lists (chosen defs n body))

-- a quantifier is left without a trigger exactly where it had none and its candidates together don't mention all its variables
abbrev pub LeftOutOnlyUncovered : Type 0
LeftOutOnlyUncovered =
    (defs : List Def) (n : ℕ) (given : Patterns) (body : Tree)
    → (triggers defs n given body ≡ no_patterns) ↔ ((given ≡ no_patterns) × ¬ IsTrue (covers n (mentioned_by (candidates defs n body))))

-- an obligation with chosen triggers is well sorted where it was, and valid only where it was
abbrev pub ObligationsAreKept : Type 0
ObligationsAreKept = (o : Obligation) → (IsWellSorted o → IsWellSorted (obligation_with_triggers o)) × (Valid (obligation_with_triggers o) → Valid o)
