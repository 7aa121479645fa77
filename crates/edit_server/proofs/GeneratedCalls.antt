-- The calls by which a generated program is summed up on a board that is shared with workers.
use Rattle.std.proofs.Common.{◌≡◌, ◌∙◌, refl, sym, ap, subst, inl, inr, ℕ, Bool, List, [], ◌∷◌, ◌++◌, map, length, Result, Ok, Err, IfOk}
use Rattle.std.specs.List.{list_all}
use Rattle.obligation_text.specs.Asked.{key_of}
use Rattle.bpl_model.specs.Module.{Module}
use Rattle.fault_text.specs.Written.{Written, fault_line}
use Rattle.bv_base.specs.Text.{ended}
use Rattle.tableau.specs.Search.{is_proved}
use Rattle.tableau.specs.Settled.{Settled}
use Rattle.program_opening.specs.ProcGoals.{ProcGoals, goals_by_proc}
use Rattle.program_opening.specs.Opening.{Opening, program, refused, Opens}
use Rattle.request_text.specs.Generated.{generate}
use Rattle.board_core.specs.Board.{open_keys, close, closed_now}
use Rattle.goal_board.specs.Calls.{BoardCall, made}
use Rattle.goal_board.specs.Found.{found}
use Rattle.report_laws.specs.Summary.{verdicts_on, summary}
use Rattle.check_report.specs.Questions.{questions_on, AreAnswered, AreStarved}
use Rattle.check_report.proofs.ProgramQuestions.{questions_by_proc}
use Rattle.edit_session.specs.Program.{keys}
use Rattle.edit_session.specs.GenCalls.{GenCalls}
use Rattle.edit_session.specs.GenCalls as outcome
use Rattle.text_answers.specs.Answer.{done_if}
use Rattle.edit_server.specs.Generated.{IsGenerated, AnswerCalls, IsGeneratedBy, IsStarvedBy}
use Rattle.text_answers.specs.declared.status.Status.{Status}
use Rattle.text_answers.specs.declared.status.Status.TheVariants.{Refused}

-- and then a close
abbrev closed : List BoardCall → List BoardCall
closed own = own ++ made close closed_now ∷ []

-- ---- the questions of procedures with a body are those of the program

keys_by_proc : (turns : ℕ) (m : Module) → map key_of (questions_on turns (goals_by_proc m)) ≡ keys turns m
keys_by_proc turns m = ap (map key_of) (questions_by_proc turns m)

-- ---- the calls

module _ (turns : ℕ) (m : Module) (ps : List ProcGoals) (are : ps ≡ goals_by_proc m) (before after : List BoardCall) (unnoted : before ≡ []) where
  keys_are : map key_of (questions_on turns ps) ≡ keys turns m
  keys_are = ap (λ qs. map key_of (questions_on turns qs)) are ∙ keys_by_proc turns m

  pub answer_calls : AreAnswered turns ps before after → AnswerCalls turns (program m) (closed after)
  answer_calls a =
      let is : after ≡ made (open_keys (keys turns m)) a.opened ∷ a.own = a.calls ∙ (λ i. unnoted i ++ made (open_keys (keys_are i)) a.opened ∷ a.own) in
      (found a.shown, subst (λ cs. GenCalls turns (outcome.Outcome.summed m (found a.shown)) (closed cs)) (sym is) (outcome.GenCalls.of_summary m a.opened a.own a.shown a.gathered), a.verdicts ∙ ap (verdicts_on turns) are)

  pub starved_calls : AreStarved turns ps before after → IsStarvedBy turns (closed after)
  starved_calls (inl w) = subst (λ cs. IsStarvedBy turns (closed cs)) (sym (w.1 ∙ ap (λ b. b ++ w.0) unnoted)) (outcome.GenCalls.of_memory w.0 w.2)
  starved_calls (inr w) =
      let is : after ≡ made (open_keys (keys turns m)) w.0 ∷ w.1 = w.2 ∙ (λ i. unnoted i ++ made (open_keys (keys_are i)) w.0 ∷ w.1) in
      subst (λ cs. IsStarvedBy turns (closed cs)) (sym is) (outcome.GenCalls.of_memory_opened m w.0 w.1 w.3)

none_refused : (turns : ℕ) (w : Written) (calls : List BoardCall) → calls ≡ [] → AnswerCalls turns (refused w) (closed calls)
none_refused turns w calls none = subst (λ cs. AnswerCalls turns (refused w) (closed cs)) (sym none) outcome.GenCalls.of_refusal

-- ---- of what gives an answer or nothing

module _ {A E : Type 0} (written : A → List ℕ) (status : A → Status) (turns seed size : ℕ) (text : List ℕ) (calls : List BoardCall) (r : Result A E) where
  pub refusal_generates_by : (o : Opening) (w : Written) → text ≡ generate seed size → Opens text o → o ≡ refused w → calls ≡ []
      → IfOk r (λ a. written a ≡ ended (fault_line w)) → IfOk r (λ a. status a ≡ Refused) → IfOk r (λ a. IsGeneratedBy turns seed size (closed calls) (written a) (status a))
  refusal_generates_by o w made_is opens is none line ends = by r line ends
    where
      by : (q : Result A E) → IfOk q (λ a. written a ≡ ended (fault_line w)) → IfOk q (λ a. status a ≡ Refused) → IfOk q (λ a. IsGeneratedBy turns seed size (closed calls) (written a) (status a))
      by (Ok a) l e = record { is = record { opening = refused w; opens = subst (Opens (generate seed size)) is (subst (λ t. Opens t o) made_is opens); answer = record { line = l; refused = e } }; made = none_refused turns w calls none }
      by (Err e) l f = tt

  pub line_sums_up_by : (o : Opening) (m : Module) (ps : List ProcGoals) → text ≡ generate seed size → Opens text o → o ≡ program m → (are : ps ≡ goals_by_proc m)
      → IfOk r (λ a. written a ≡ ended (summary seed size (length text) (verdicts_on turns ps))) → IfOk r (λ a. status a ≡ done_if (list_all is_proved (verdicts_on turns ps)))
      → IfOk r (λ _. AnswerCalls turns (program m) (closed calls)) → IfOk r (λ a. IsGeneratedBy turns seed size (closed calls) (written a) (status a))
  line_sums_up_by o m ps made_is opens is are line ends all = by r line ends all
    where
      by : (q : Result A E) → IfOk q (λ a. written a ≡ ended (summary seed size (length text) (verdicts_on turns ps))) → IfOk q (λ a. status a ≡ done_if (list_all is_proved (verdicts_on turns ps)))
          → IfOk q (λ _. AnswerCalls turns (program m) (closed calls)) → IfOk q (λ a. IsGeneratedBy turns seed size (closed calls) (written a) (status a))
      by (Ok a) l e c = record {
        is = record {
          opening = program m;
          opens = subst (Opens (generate seed size)) is (subst (λ t. Opens t o) made_is opens);
          answer = record { line = l ∙ ap ended (λ i. summary seed size (length (made_is i)) (verdicts_on turns (are i))); all = e ∙ ap (λ qs. done_if (list_all is_proved (verdicts_on turns qs))) are };
        };
        made = c;
      }
      by (Err e) l f c = tt

-- ---- by what a step gives or doesn't
