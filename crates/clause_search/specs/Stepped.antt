-- What a step on the top branch of a run comes to.
use Rattle.std.specs.Prelude.{◌≡◌, ℕ, ◌<◌, ◌≤◌, List, [], ◌∷◌, ◌++◌, reverse}
use Rattle.logic_core.specs.Def.{Def}
use Rattle.logic_core.specs.Tree.{Tree}
use Rattle.tableau_branch.specs.Branch.{none, leaves, gives}
use Rattle.tableau.specs.Search.{step}
use Rattle.tableau.specs.declared.ended.Verdict.{Verdict}
use Rattle.tableau.specs.declared.ended.Verdict.TheVariants.{Proved, Open, Turns, Wide}
use Rattle.numbered_branches.specs.Branches.{NumberedBranch, branch_at}
use Rattle.numbered_branches.specs.Moves.{NumberedMove, NumberedPlayed, IsMoveOver, move_at, branches_of, cost, played}
use Rattle.clause_search.specs.declared.run.Next.{Next}
use Rattle.clause_search.specs.declared.run.Next.TheVariants.{Taken, Ended}

module _ (left : ℕ) (defs : List Def) (ts us : List Tree) (b : NumberedBranch) where
  -- the branch's step gives this move
  abbrev pub IsStep : NumberedMove → Type 0
  IsStep m = IsMoveOver us m × (step defs (branch_at ts b) ≡ gives (move_at us m))

  -- why no step is taken
  abbrev pub IsLast : Verdict → Type 0
  IsLast Proved = ⊥
  IsLast Open = step defs (branch_at ts b) ≡ none
  IsLast Wide = step defs (branch_at ts b) ≡ leaves
  IsLast Turns = (m : NumberedMove) × (IsStep m × (left < cost m))

-- a move that costs more turns than are left isn't taken; else its branches stand on top of the stack, the first on top, and what the proof needs of it behind the moves
module _ (left : ℕ) (stack stack' : List NumberedBranch) (ms ms' : List NumberedPlayed) where
  abbrev pub IsTakenAt : NumberedMove → ℕ → Type 0
  IsTakenAt m price = (price ≡ cost m) × ((price ≤ left) × ((reverse stack' ≡ branches_of m.made ++ reverse stack) × (ms' ≡ ms ++ played m ∷ [])))

  abbrev pub IsPaid : NumberedMove → Next → Type 0
  IsPaid m (Taken price) = IsTakenAt m price
  IsPaid m (Ended v) = (v ≡ Turns) × ((left < cost m) × (ms' ≡ ms))

  abbrev pub ComesTo : List Def → List Tree → List Tree → NumberedBranch → Next → Type 0
  ComesTo defs ts us b (Taken price) = (m : NumberedMove) × (IsStep left defs ts us b m × IsTakenAt m price)
  ComesTo defs ts us b (Ended v) = IsLast left defs ts us b v × (ms' ≡ ms)

-- this holds where a step is taken
abbrev pub IfTaken : Next → Type 0 → Type 0
IfTaken (Taken price) P = P
IfTaken (Ended v) P = Unit {0}
