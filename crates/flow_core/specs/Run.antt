-- Runs of a graph, and runs that fail.
use Rattle.std.specs.Prelude.{◌≡◌, ℕ, nat_lt, cond, IsTrue, List, [], ◌∷◌, map, All, Contains, Option, Some, None}
use Rattle.logic_core.specs.Tree.{Kind, Tree}
use Rattle.logic_core.specs.Value.{Value, at, are_of}
use Rattle.logic_core.specs.Def.{Def}
use Rattle.flow_core.specs.declared.mark.GoalKind.{GoalKind}
use Rattle.flow_core.specs.declared.mark.GoalKind.TheVariants.{InvariantEntry, InvariantKept}
use Rattle.flow_core.specs.declared.mark.Mark.{Mark}
use Rattle.flow_core.specs.declared.command.Command.{Command}
use Rattle.flow_core.specs.declared.command.Command.TheVariants.{Assert, Assume, Assign, Havoc}
use Rattle.flow_core.specs.declared.block.LoopHead.{LoopHead}
use Rattle.flow_core.specs.State.{State, HoldsIn, EvaluateTo, FitSorts, update}
use Rattle.flow_core.specs.Clause.{Clause, read_invariant, Pass, Breaks}
use Rattle.flow_core.specs.Graph.{Graph, block_at, Edge, set_by_each, targets_of, entry_values}
use Rattle.flow_core.specs.Reading.{Mentions}

-- where a run is: at the arrival at a block, or within one, before the commands that are left
pub data Position : Type 0 where
  arrival : GoalKind → ℕ → State → Position
  within : ℕ → List Command → State → Position

-- an edge to a number not higher makes a later arrival
abbrev pub arrival_kind : ℕ → ℕ → GoalKind
arrival_kind b c = cond (nat_lt b c) InvariantEntry InvariantKept

-- what is read at an arrival: the invariants of a head
abbrev pub clauses_at : GoalKind → Option LoopHead → List Clause
clauses_at kind None = []
clauses_at kind (Some h) = map (read_invariant kind) h.invariants

-- a definition's body mentions no variable that a command or a head's targets set, and no entry value
pub record IsUntouched (g : Graph) (d : Def) : Type 0 where
  pub commands : (v : ℕ) → Mentions d.body v → All (λ k. ¬ Contains (set_by_each k.commands) v) g.blocks
  pub targets : (v : ℕ) → Mentions d.body v → All (λ k. ¬ Contains (targets_of k.head) v) g.blocks
  pub entry_values : (v : ℕ) → Mentions d.body v → ¬ Contains (entry_values g.olds) v

-- over the definitions that the terms may call and the sorts of the variables
module _ (defs : List Def) (sorts : List Kind) (g : Graph) where
  pub data Step : Position → Position → Type 0 where
    enter : {kind : GoalKind} {b : ℕ} {σ : State} → Pass defs σ (clauses_at kind (block_at g.blocks b).head)
        → Step (arrival kind b σ) (within b (block_at g.blocks b).commands σ)
    assert_holds : {b : ℕ} {m : Mark} {E : Tree} {cs : List Command} {σ : State} → HoldsIn defs σ E
        → Step (within b (Assert m E ∷ cs) σ) (within b cs σ)
    assume_holds : {b : ℕ} {E : Tree} {cs : List Command} {σ : State} → HoldsIn defs σ E
        → Step (within b (Assume E ∷ cs) σ) (within b cs σ)
    assigned : {b : ℕ} {ps : List (ℕ × Tree)} {cs : List Command} {σ : State} (vs : List Value)
        → EvaluateTo defs σ (map (λ p. p.1) ps) vs → FitSorts sorts (map (λ p. p.0) ps) vs
        → Step (within b (Assign ps ∷ cs) σ) (within b cs (update σ (map (λ p. p.0) ps) vs))
    havocked : {b : ℕ} {xs : List ℕ} {cs : List Command} {σ : State} (vs : List Value) → FitSorts sorts xs vs
        → Step (within b (Havoc xs ∷ cs) σ) (within b cs (update σ xs vs))
    follow : {b : ℕ} {σ : State} (c : ℕ) → Edge g.blocks b c
        → Step (within b [] σ) (arrival (arrival_kind b c) c σ)

  -- a checked invariant, or an assertion, that doesn't hold
  pub data Failure : Position → Mark → Type 0 where
    invariant_breaks : {kind : GoalKind} {b : ℕ} {σ : State} {m : Mark} → Breaks defs σ (clauses_at kind (block_at g.blocks b).head) m
        → Failure (arrival kind b σ) m
    assert_breaks : {b : ℕ} {m : Mark} {E : Tree} {cs : List Command} {σ : State} → ¬ HoldsIn defs σ E
        → Failure (within b (Assert m E ∷ cs) σ) m

  pub data Run : Position → Position → Type 0 where
    stay : {p : Position} → Run p p
    go : {p q r : Position} → Step p q → Run q r → Run p r

  -- the blocks that a run enters, in order
  abbrev pub entered : {p q : Position} → Step p q → List ℕ → List ℕ
  entered (enter {b = b} h) bs = b ∷ bs
  entered (assert_holds h) bs = bs
  entered (assume_holds h) bs = bs
  entered (assigned vs h f) bs = bs
  entered (havocked vs h) bs = bs
  entered (follow c h) bs = bs

  abbrev pub path : {p q : Position} → Run p q → List ℕ
  path stay = []
  path (go s r) = entered s (path r)

  -- where a run begins: each variable has a value of its sort, and each entry value is that of its global
  pub record Begins (σ : State) : Type 0 where
    pub sorted : IsTrue (are_of sorts σ)
    pub entry_values : All (λ p. at σ p.1 ≡ at σ p.0) g.olds

  -- a run from block 0 that ends in a failure with this mark
  pub record FailingRun (σ : State) (m : Mark) : Type 0 where
    pub untouched : All (IsUntouched g) defs
    pub begins : Begins σ
    pub last : Position
    pub run : Run (arrival InvariantEntry 0 σ) last
    pub failure : Failure last m
