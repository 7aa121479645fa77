-- What is asked of a generated program's goals on a board, and what is answered.
use Rattle.std.specs.Prelude.{◌≡◌, ◌⊎◌, ℕ, List, ◌∷◌, ◌++◌, map, flat_map, Option}
use Rattle.obligation_text.specs.Asked.{Asked, key_of}
use Rattle.tableau.specs.Settled.{Settled}
use Rattle.vc_build.specs.declared.goal.Goal.{Goal}
use Rattle.program_opening.specs.ProcGoals.{ProcGoals}
use Rattle.board_core.specs.Board.{Reply, open_keys}
use Rattle.goal_board.specs.Calls.{BoardCall, made}
use Rattle.goal_board.specs.Found.{found}
use Rattle.goal_board.specs.Working.{IsGathered, IsWork}
use Rattle.report_laws.specs.Summary.{verdicts_on}

-- whether the goal is proved in so many turns
abbrev pub question_on : ℕ → Goal → Asked
question_on turns g = record { obligation = g.obligation; turns = turns }

-- of each goal, procedure by procedure
abbrev pub questions_on : ℕ → List ProcGoals → List Asked
questions_on turns ps = flat_map (λ (p : ProcGoals). map (question_on turns) p.goals) ps

-- they are opened
abbrev pub open_questions : ℕ → List ProcGoals → Reply Settled → BoardCall
open_questions turns ps reply = made (open_keys (map key_of (questions_on turns ps))) reply

module _ (turns : ℕ) (ps : List ProcGoals) (before after : List BoardCall) where
  -- the goals were opened, answered and shown, and these are the verdicts
  pub record AreAnswered : Type 0 where
    pub opened : Reply Settled
    pub own : List BoardCall
    pub shown : List (Option Settled)
    pub calls : after ≡ before ++ open_questions turns ps opened ∷ own
    pub gathered : IsGathered own shown
    pub verdicts : map (λ (a : Settled). a.verdict) (found shown) ≡ verdicts_on turns ps

  -- there was no memory to open them, or later
  abbrev pub AreStarved : Type 0
  AreStarved = ((own : List BoardCall) × (after ≡ before ++ own) × IsWork own)
      ⊎ ((opened : Reply Settled) × (own : List BoardCall) × (after ≡ before ++ open_questions turns ps opened ∷ own) × IsWork own)
