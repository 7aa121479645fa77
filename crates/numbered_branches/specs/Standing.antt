-- Facts, marks and branches of numbers that stand for those of terms.
use Rattle.std.specs.Prelude.{◌≡◌, List, length, map}
use Rattle.std.specs.List.{AllByRecursion}
use Rattle.logic_core.specs.Tree.{Tree}
use Rattle.tableau_branch.specs.Branch as branch
use Rattle.tableau_branch.specs.Change as change
use Rattle.proof_core.specs.Proof as proof
use Rattle.tableau_branch.specs.Move as move
use Rattle.numbered_branches.specs.Branches.{NumberedFact, NumberedMark, NumberedBranch, NumberedStep, NumberedMade, IsFactBelow, IsMarkOver, IsBranchOver, IsStepBelow, IsMadeOver, fact_at, mark_at, branch_at, step_at, made_at}
use Rattle.numbered_branches.specs.Moves.{NumberedEnding, NumberedMove, IsEndingBelow, IsMoveOver, ending_at, move_at}

module _ (ts : List Tree) where
  abbrev pub IsFactAt : NumberedFact → branch.Fact → Type 0
  IsFactAt f g = IsFactBelow (length ts) f × (fact_at ts f ≡ g)

  abbrev pub AreFactsAt : List NumberedFact → List branch.Fact → Type 0
  AreFactsAt fs gs = AllByRecursion (IsFactBelow (length ts)) fs × (map (fact_at ts) fs ≡ gs)

  abbrev pub IsMarkAt : NumberedMark → branch.Mark → Type 0
  IsMarkAt m n = IsMarkOver ts m × (mark_at ts m ≡ n)

  abbrev pub AreMarksAt : List NumberedMark → List branch.Mark → Type 0
  AreMarksAt ms ns = AllByRecursion (IsMarkOver ts) ms × (map (mark_at ts) ms ≡ ns)

  abbrev pub IsBranchAt : NumberedBranch → branch.Branch → Type 0
  IsBranchAt b c = IsBranchOver ts b × (branch_at ts b ≡ c)

  abbrev pub IsMadeAt : NumberedMade → change.Made → Type 0
  IsMadeAt m n = IsMadeOver ts m × (made_at ts m ≡ n)

  abbrev pub IsStepAt : NumberedStep → proof.Step → Type 0
  IsStepAt s p = IsStepBelow (length ts) s × (step_at ts s ≡ p)

  abbrev pub AreStepsAt : List NumberedStep → List proof.Step → Type 0
  AreStepsAt ss ps = AllByRecursion (IsStepBelow (length ts)) ss × (map (step_at ts) ss ≡ ps)

  abbrev pub AreMadeAt : List NumberedMade → List change.Made → Type 0
  AreMadeAt ms ns = AllByRecursion (IsMadeOver ts) ms × (map (made_at ts) ms ≡ ns)

  abbrev pub IsEndingAt : NumberedEnding → move.Ending → Type 0
  IsEndingAt e f = IsEndingBelow (length ts) e × (ending_at ts e ≡ f)

  abbrev pub IsMoveAt : NumberedMove → move.Move → Type 0
  IsMoveAt m n = IsMoveOver ts m × (move_at ts m ≡ n)
