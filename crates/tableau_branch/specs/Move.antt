-- A step of the search: how the proof goes on, what becomes of the branch, and the cost.
use Rattle.std.specs.Prelude.{ℕ, ◌+◌, ◌/◌, List, [], ◌∷◌}
use Rattle.logic_core.specs.Tree.{Tree}
use Rattle.logic_core.specs.Size.{capped}
use Rattle.proof_core.specs.Proof.{Step}
use Rattle.tableau_branch.specs.Branch.{Branch}
use Rattle.tableau_branch.specs.Change.{Made}

-- on one branch, by a close, by a split of a fact into cases, by a split by a condition in a fact, by moving a Read past a Write, or by trichotomy of a number
pub data Ending : Type 0 where
  goes_on : Ending
  closes : ℕ → ℕ → Ending
  forks : ℕ → Ending
  chooses : ℕ → Tree → Ending
  passes : Tree → Ending
  decides : Tree → Ending

pub record Move : Type 0 where
  pub ending : Ending
  pub made : List Made

abbrev pub on_one : Made → Move
on_one m = record { ending = goes_on; made = m ∷ [] }

-- the sizes of all facts that are added or changed, over all branches
abbrev pub nodes_made : List Made → ℕ
nodes_made [] = 0
nodes_made (m ∷ ms) = m.size + nodes_made ms

abbrev pub cost : Move → ℕ
cost m = 1 + capped (nodes_made m.made) / 64

abbrev pub branches_of : List Made → List Branch
branches_of [] = []
branches_of (m ∷ ms) = m.branch ∷ branches_of ms

-- the nodes with which the proof of each branch begins
abbrev pub steps_of : List Made → List (List Step)
steps_of [] = []
steps_of (m ∷ ms) = m.steps ∷ steps_of ms

-- what the proof needs of a move
pub record Played : Type 0 where
  pub ending : Ending
  pub steps : List (List Step)

abbrev pub played : Move → Played
played m = record { ending = m.ending; steps = steps_of m.made }
