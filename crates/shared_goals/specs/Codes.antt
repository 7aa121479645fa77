-- Codes, by which proofs tell passes apart: those of their parts.
use Rattle.std.specs.Prelude.{◌≡◌, ◌⊎◌, refl, ℕ, zero, suc, List, Option}
use Rattle.std.proofs.Common.{inl, inr}
use Rattle.std.specs.Coded.{Coded, code_by, coded×, coded⊎, coded_list, coded_option, coded_ℕ}
use Rattle.atomic_table.specs.Seated.{TableId, table_id_coded}
use Rattle.obligation_text.specs.Asked.{Asked}
use Rattle.tableau.specs.Settled.{Settled}
use Rattle.turn_lock.specs.declared.rule.View.{View}
use Rattle.turn_lock.specs.declared.rule.Stage.{Stage}
use Rattle.turn_lock.specs.declared.rule.Stage.TheVariants.{Fresh, Idle, Waits, Holds, Note, Spent}
use Rattle.board_core.specs.Board.{Call}
use Rattle.obligation_board.specs.declared.posted.Posted.{Posted}
use Rattle.goal_board.specs.Calls.{Board}
use Rattle.goal_board.specs.Codes.{coded_board, coded_call}
use Rattle.shared_goals.specs.Known.{GoalEntry}
use Rattle.shared_goals.specs.Opener.{GoalPass}

abbrev coded_entries : Coded (List GoalEntry)
coded_entries = coded_list (coded× coded_ℕ coded_call)

abbrev GoalsPosted : Type 0
GoalsPosted = Posted Settled Asked

abbrev coded_posted : Coded GoalsPosted
coded_posted = code_by Board coded_board (λ p. p.board) (λ s. record { board = s }) (λ _. refl)

-- ---- of what a pass is doing: what has no parts has a number

abbrev StageParts : Type 0
StageParts = (ℕ × GoalsPosted) ⊎ (ℕ ⊎ ℕ)

abbrev stage_parts : Stage GoalsPosted → StageParts
stage_parts (Holds t was) = inl (t, was)
stage_parts (Waits t) = inr (inl t)
stage_parts Fresh = inr (inr 0)
stage_parts Idle = inr (inr 1)
stage_parts Note = inr (inr 2)
stage_parts Spent = inr (inr 3)

abbrev numbered_stage : ℕ → Stage GoalsPosted
numbered_stage zero = Fresh
numbered_stage (suc zero) = Idle
numbered_stage (suc (suc zero)) = Note
numbered_stage (suc (suc (suc n))) = Spent

abbrev stage_of : StageParts → Stage GoalsPosted
stage_of (inl p) = Holds p.0 p.1
stage_of (inr (inl t)) = Waits t
stage_of (inr (inr n)) = numbered_stage n

pub same_stage : (s : Stage GoalsPosted) → stage_of (stage_parts s) ≡ s
same_stage (Holds t was) = refl
same_stage (Waits t) = refl
same_stage Fresh = refl
same_stage Idle = refl
same_stage Note = refl
same_stage Spent = refl

abbrev coded_stage : Coded (Stage GoalsPosted)
coded_stage = code_by StageParts (coded⊎ (coded× coded_ℕ coded_posted) (coded⊎ coded_ℕ coded_ℕ)) stage_parts stage_of same_stage

-- ---- of what a pass knows

abbrev GoalsView : Type 0
GoalsView = View GoalsPosted (Call Settled)

abbrev coded_view : Coded GoalsView
coded_view =
    code_by (ℕ × (ℕ × (List GoalEntry × (List GoalEntry × (List GoalEntry × (ℕ × (Option ℕ × Stage GoalsPosted)))))))
    (coded× coded_ℕ (coded× coded_ℕ (coded× coded_entries (coded× coded_entries (coded× coded_entries (coded× coded_ℕ (coded× (coded_option coded_ℕ) coded_stage)))))))
    (λ v. (v.number, (v.above, (v.seen, (v.told, (v.mine, (v.splits, (v.made_of, v.stage))))))))
    (λ p. record { number = p.0; above = p.1.0; seen = p.1.1.0; told = p.1.1.1.0; mine = p.1.1.1.1.0; splits = p.1.1.1.1.1.0; made_of = p.1.1.1.1.1.1.0; stage = p.1.1.1.1.1.1.1 }) (λ _. refl)

abbrev pub coded_pass : Coded GoalPass
coded_pass =
    code_by (TableId × (ℕ × (GoalsView × List (ℕ × Option GoalsPosted))))
    (coded× table_id_coded (coded× coded_ℕ (coded× coded_view (coded_list (coded× coded_ℕ (coded_option coded_posted)))))) (λ p. (p.table_id, (p.id, p.me)))
    (λ p. record { marker = record {}; table_id = p.0; id = p.1.0; me = p.1.1 }) (λ _. refl)
