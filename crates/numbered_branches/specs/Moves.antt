-- Moves over the numbers of terms, and the moves that they stand for.
use Rattle.std.specs.Prelude.{ℕ, ◌+◌, ◌/◌, ◌<◌, List, [], ◌∷◌, map, length}
use Rattle.std.specs.Bool.{⊤}
use Rattle.std.specs.List.{AllByRecursion}
use Rattle.logic_core.specs.Tree.{Tree}
use Rattle.logic_core.specs.Size.{capped}
use Rattle.term_bank.specs.Numbered.{at}
use Rattle.tableau_branch.specs.Move as move
use Rattle.numbered_branches.specs.Branches.{NumberedBranch, NumberedStep, NumberedMade, step_at, made_at, IsStepBelow, IsMadeOver}

-- how the proof goes on; the numbers of facts are the proof's
pub data NumberedEnding : Type 0 where
  goes_on : NumberedEnding
  closes : ℕ → ℕ → NumberedEnding
  forks : ℕ → NumberedEnding
  chooses : ℕ → ℕ → NumberedEnding
  passes : ℕ → NumberedEnding
  decides : ℕ → NumberedEnding

pub record NumberedMove : Type 0 where
  pub ending : NumberedEnding
  pub made : List NumberedMade

-- what the proof needs of a move
pub record NumberedPlayed : Type 0 where
  pub ending : NumberedEnding
  pub steps : List (List NumberedStep)

abbrev pub on_one : NumberedMade → NumberedMove
on_one m = record { ending = goes_on; made = m ∷ [] }

abbrev pub nodes_made : List NumberedMade → ℕ
nodes_made [] = 0
nodes_made (m ∷ ms) = m.size + nodes_made ms

abbrev pub cost : NumberedMove → ℕ
cost m = 1 + capped (nodes_made m.made) / 64

abbrev pub branches_of : List NumberedMade → List NumberedBranch
branches_of [] = []
branches_of (m ∷ ms) = m.branch ∷ branches_of ms

abbrev pub steps_of : List NumberedMade → List (List NumberedStep)
steps_of [] = []
steps_of (m ∷ ms) = m.steps ∷ steps_of ms

abbrev pub played : NumberedMove → NumberedPlayed
played m = record { ending = m.ending; steps = steps_of m.made }

-- what they stand for
module _ (ts : List Tree) where
  abbrev pub ending_at : NumberedEnding → move.Ending
  ending_at goes_on = move.goes_on
  ending_at (closes n m) = move.closes n m
  ending_at (forks n) = move.forks n
  ending_at (chooses n i) = move.chooses n (at ts i)
  ending_at (passes i) = move.passes (at ts i)
  ending_at (decides i) = move.decides (at ts i)

  abbrev pub move_at : NumberedMove → move.Move
  move_at m = record { ending = ending_at m.ending; made = map (made_at ts) m.made }

  abbrev pub played_at : NumberedPlayed → move.Played
  played_at p = record { ending = ending_at p.ending; steps = map (map (step_at ts)) p.steps }

-- all of them are numbers of terms
module _ (size : ℕ) where
  abbrev pub IsEndingBelow : NumberedEnding → Type 0
  IsEndingBelow (chooses n i) = i < size
  IsEndingBelow (passes i) = i < size
  IsEndingBelow (decides i) = i < size
  IsEndingBelow e = ⊤

  pub record IsPlayedBelow (p : NumberedPlayed) : Type 0 where
    pub ending : IsEndingBelow p.ending
    pub steps : AllByRecursion (AllByRecursion (IsStepBelow size)) p.steps

pub record IsMoveOver (ts : List Tree) (m : NumberedMove) : Type 0 where
  pub ending : IsEndingBelow (length ts) m.ending
  pub made : AllByRecursion (IsMadeOver ts) m.made
