-- Branches over the numbers of terms, and the branches that they stand for.
use Rattle.std.specs.Prelude.{◌≡◌, ℕ, ℤ, ◌<◌, Bool, nat_eq, List, [], map, length}
use Rattle.std.specs.Bool.{⊤}
use Rattle.std.specs.List.{list_any, AllByRecursion}
use Rattle.logic_core.specs.Tree.{Kind, Tree, all}
use Rattle.logic_core.specs.Subterm.{listed}
use Rattle.logic_core.specs.View.{trees_of}
use Rattle.proof_core.specs.Proof as proof
use Rattle.term_bank.specs.Numbered.{at}
use Rattle.tableau_branch.specs.Branch as branch
use Rattle.tableau_branch.specs.Change as change

-- a normal fact, and its number in the proof
pub record NumberedFact : Type 0 where
  pub term : ℕ
  pub number : ℕ

-- a ForAll, and the tuple of terms as an And
pub record NumberedMark : Type 0 where
  pub fact : ℕ
  pub tuple : ℕ

pub record NumberedBranch : Type 0 where
  pub facts : List NumberedFact
  pub calls : List ℕ
  pub marks : List NumberedMark
  pub vars : List Kind
  pub next : ℕ

-- a node of the proof; the numbers of facts are the proof's
pub data NumberedStep : Type 0 where
  splits : ℕ → NumberedStep
  instantiates : ℕ → List ℕ → NumberedStep
  names : ℕ → NumberedStep
  replaces : ℕ → ℕ → ℕ → NumberedStep
  unfolds : ℕ → ℕ → NumberedStep
  reads_back : ℕ → ℕ → NumberedStep
  differs : ℕ → NumberedStep
  combines : ℕ → ℤ → ℕ → ℤ → NumberedStep
  tightens : ℕ → NumberedStep

pub record NumberedMade : Type 0 where
  pub branch : NumberedBranch
  pub steps : List NumberedStep
  pub size : ℕ

-- the terms of an And
abbrev pub terms_in : Tree → List Tree
terms_in (all us) = listed us
terms_in t = []

-- what they stand for
module _ (ts : List Tree) where
  abbrev pub fact_at : NumberedFact → branch.Fact
  fact_at f = record { term = at ts f.term; number = f.number }

  abbrev pub mark_at : NumberedMark → branch.Mark
  mark_at m = record { fact = at ts m.fact; tuple = terms_in (at ts m.tuple) }

  abbrev pub branch_at : NumberedBranch → branch.Branch
  branch_at b = record { facts = map fact_at b.facts; calls = map (at ts) b.calls; marks = map mark_at b.marks; vars = b.vars; next = b.next }

  abbrev pub step_at : NumberedStep → proof.Step
  step_at (splits n) = proof.by_split n
  step_at (instantiates n is) = proof.by_instantiate n (map (at ts) is)
  step_at (names n) = proof.by_skolem n
  step_at (replaces n m i) = proof.by_replace n m (at ts i)
  step_at (unfolds n i) = proof.by_unfold n (at ts i)
  step_at (reads_back n i) = proof.by_back n (at ts i)
  step_at (differs n) = proof.by_differ n
  step_at (combines n p m q) = proof.by_combine n p m q
  step_at (tightens n) = proof.by_tighten n

  abbrev pub made_at : NumberedMade → change.Made
  made_at m = record { branch = branch_at m.branch; steps = map step_at m.steps; size = m.size }

-- all of them are numbers of terms
module _ (size : ℕ) where
  abbrev pub IsFactBelow : NumberedFact → Type 0
  IsFactBelow f = f.term < size

  abbrev pub IsStepBelow : NumberedStep → Type 0
  IsStepBelow (instantiates n is) = AllByRecursion (λ i. i < size) is
  IsStepBelow (replaces n m i) = i < size
  IsStepBelow (unfolds n i) = i < size
  IsStepBelow (reads_back n i) = i < size
  IsStepBelow s = ⊤

-- and the tuples of marks are those of Ands
abbrev pub IsTuple : Tree → Type 0
IsTuple t = all (trees_of (terms_in t)) ≡ t

module _ (ts : List Tree) where
  abbrev pub IsMarkOver : NumberedMark → Type 0
  IsMarkOver m = (m.fact < length ts) × (m.tuple < length ts) × IsTuple (at ts m.tuple)

  pub record IsBranchOver (b : NumberedBranch) : Type 0 where
    pub facts : AllByRecursion (IsFactBelow (length ts)) b.facts
    pub calls : AllByRecursion (λ i. i < length ts) b.calls
    pub marks : AllByRecursion IsMarkOver b.marks

  pub record IsMadeOver (m : NumberedMade) : Type 0 where
    pub branch : IsBranchOver m.branch
    pub steps : AllByRecursion (IsStepBelow (length ts)) m.steps

-- whether the term is one of the facts, and the mark one of the marks
abbrev pub is_there : ℕ → List NumberedFact → Bool
is_there i fs = list_any (λ (f : NumberedFact). nat_eq i f.term) fs
