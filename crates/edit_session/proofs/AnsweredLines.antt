-- Lines, from what was done on the board.
use Rattle.std.proofs.Common.{◌≡◌, ◌≢◌, ◌∙◌, refl, sym, ap, subst, ℕ, ◌+◌, cond, List, [], ◌∷◌, ◌++◌, map, length, Ok, append_assoc, append-nil}
use Rattle.std.proofs.lemmas.List.{map-id}
use Rattle.bpl_model.specs.Module.{Module}
use Rattle.tableau.specs.Settled.{Settled, settled_by}
use Rattle.vc_build.specs.Large.{program_goals}
use Rattle.vc_build.specs.Rebuild.{built, rebuilt}
use Rattle.request_text.specs.Request.{status, report, proofs, Reply, accepted, counted, reported, proved, memory}
use Rattle.board_core.specs.Board.{open_keys, look, looked}
use Rattle.goal_board.specs.Calls.{BoardCall, made}
use Rattle.goal_board.specs.Between.{Between, effects, has_effect}
use Rattle.goal_board.proofs.Betweens.{effects_are_between, gathered_is_settled, work_is_works, any_workers}
use Rattle.program_opening.specs.ProcGoals.{goals_by_proc}
use Rattle.report_laws.specs.Scratch.{scratch, lines_on}
use Rattle.edit_session.specs.Program.{questions, keys, proof_lines}
use Rattle.edit_session.specs.AnswerLines.{report_by, lines_by, texts_by}
use Rattle.edit_session.specs.Built.{proc_goals}
use Rattle.edit_session.specs.Answers.{Asked, State, NeedsAnswers, Answers, Line}
use Rattle.edit_session.specs.Answers as answers
use Rattle.edit_session.specs.Session.{SessionFrom, no_lines, quits, goes_on}
use Rattle.edit_session.specs.OwnCalls.{LineCalls, SessionCalls, AreRefused}
use Rattle.edit_session.specs.OwnCalls as own
use Rattle.edit_session.specs.Kept.{Session}
use Rattle.edit_session.proofs.Parts.{reported_by, proofs_by_question}
use Rattle.edit_session.proofs.Programs.{procs_are, questions_by}
use Rattle.edit_session.specs.Laws.{IsSameProgram, LooksAnswerStatus, GatheredAnswerReports, GatheredAnswerProofs, OpensAnswerChanges, WorkAnswersMemory, SessionsOfAnyWorkers, none, last, more, AnsweredAreSession}

-- a line, where the program stays
stays : (s t : Session) (r : Asked) (x : Reply) (es : List BoardCall) → IsSameProgram s t → Between s.workers s.state.board es t.state.board
    → Answers s.turns s.state.decls s.state.version r es t.state.board x s.state.decls s.state.version → Line s.turns s.workers s.state r x t.state
stays s t r x es same b a = record {
  own = es;
  goes = b;
  answers = subst (λ ds. Answers s.turns s.state.decls s.state.version r es t.state.board x ds t.state.version) (sym same.decls) (subst (λ v. Answers s.turns s.state.decls s.state.version r es t.state.board x s.state.decls v) (sym same.version) a);
}

pub looks_answer_status : LooksAnswerStatus
looks_answer_status s t v done pending closed same d = record {
  line = stays s t (Ok status) (counted done pending s.state.version) (made look (looked v done pending closed) ∷ []) same d.between answers.Answers.is_status;
  calls = λ some. (made look (looked v done pending closed) ∷ [], d.are_noted some, own.LineCalls.of_status);
}

from_scratch : (turns : ℕ) (m : Module) (these : List Settled) → these ≡ map settled_by (questions turns m) → lines_by m these ≡ scratch turns m
from_scratch turns m these is =
    let procs : map proc_goals (built m) ≡ goals_by_proc m = procs_are m (built m) refl in
    ap (λ ps. report_by ps these) (sym procs) ∙ (reported_by turns (built m) these (is ∙ ap (map settled_by) (sym (questions_by turns m (built m) procs))) ∙ ap (lines_on turns) procs)

pub proofs_from_scratch : (turns : ℕ) (m : Module) (these : List Settled) → these ≡ map settled_by (questions turns m) → texts_by these ≡ proof_lines turns m
proofs_from_scratch turns m these is = proofs_by_question (λ a. a) turns (questions turns m) these (map-id these ∙ is)

pub gathered_answer_reports : GatheredAnswerReports
gathered_answer_reports s t m these same is d kept are =
    let lines = from_scratch s.turns m these are in (
      lines,
      record {
        line = stays s t (Ok report) (reported (lines_by m these) s.state.version) (effects d.calls) same (effects_are_between s.workers s.state.board t.state.board d.calls (d.are).between)
            (subst (λ ls. Answers s.turns s.state.decls s.state.version (Ok report) (effects d.calls) t.state.board (reported ls s.state.version) s.state.decls s.state.version) (sym lines)
            (answers.Answers.is_report is (gathered_is_settled d.calls d.shown d.gathered) kept));
        calls = λ some. (d.calls, (d.are).are_noted some, subst (λ (zs : List Settled). LineCalls s.turns s.state.decls (Ok report) (reported (lines_by m zs) s.state.version) d.calls) (sym d.answers) (own.LineCalls.of_report m d.shown is d.gathered));
      },
    )

pub gathered_answer_proofs : GatheredAnswerProofs
gathered_answer_proofs s t m these same is d kept are =
    let lines = proofs_from_scratch s.turns m these are in
    record {
      line = stays s t (Ok proofs) (proved (texts_by these) s.state.version) (effects d.calls) same (effects_are_between s.workers s.state.board t.state.board d.calls (d.are).between)
          (subst (λ ls. Answers s.turns s.state.decls s.state.version (Ok proofs) (effects d.calls) t.state.board (proved ls s.state.version) s.state.decls s.state.version) (sym lines)
          (answers.Answers.are_proofs is (gathered_is_settled d.calls d.shown d.gathered) kept));
      calls = λ some. (d.calls, (d.are).are_noted some, subst (λ (zs : List Settled). LineCalls s.turns s.state.decls (Ok proofs) (proved (texts_by zs) s.state.version) d.calls) (sym d.answers) (own.LineCalls.of_proofs d.shown d.gathered));
    }

refused_none : (before rest : List BoardCall) → AreRefused before → effects (before ++ rest) ≡ effects rest
refused_none [] rest h = refl
refused_none (c ∷ cs) rest h = ap (λ d. cond (has_effect d) (d ∷ effects (cs ++ rest)) (effects (cs ++ rest))) h.0 ∙ refused_none cs rest h.1

pub opens_answer_changes : OpensAnswerChanges
opens_answer_changes s t r m p o before is asks turns workers decls version refused d =
    let one = made (open_keys (keys s.turns p.typed)) o ∷ [] in
    let x = accepted (length (program_goals p.typed)) (rebuilt (built m) p.typed) (s.state.version + 1) in
    let alone : Between s.workers s.state.board one t.state.board = subst (λ es. Between s.workers s.state.board es t.state.board) (refused_none before one refused) (effects_are_between s.workers s.state.board t.state.board (before ++ one) d.between) in
    record {
      line = record {
        own = one;
        goes = alone;
        answers = subst (λ ds. Answers s.turns s.state.decls s.state.version (Ok r) one t.state.board x ds t.state.version) (sym decls)
            (subst (λ v. Answers s.turns s.state.decls s.state.version (Ok r) one t.state.board x p.decls v) (sym version) (answers.Answers.is_accepted is asks));
      };
      calls = λ some. (before ++ one, d.are_noted some, own.LineCalls.of_accepted before p o refused asks);
    }

pub work_answers_memory : WorkAnswersMemory
work_answers_memory s t r needs same d = record {
  line = stays s t (Ok r) memory (effects d.calls) same (effects_are_between s.workers s.state.board t.state.board d.calls (d.are).between) (answers.Answers.out_of_memory_at_work needs (work_is_works d.calls d.work));
  calls = λ some. (d.calls, (d.are).are_noted some, own.LineCalls.of_memory d.work);
}

-- ---- sessions

line_of_any : (turns v w : ℕ) (s t : State) (r : Asked) (x : Reply) → w ≢ 0 → Line turns v s r x t → Line turns w s r x t
line_of_any turns v w s t r x some l = record { own = l.own; goes = any_workers v w s.board t.board l.own some l.goes; answers = l.answers }

pub sessions_of_any_workers : SessionsOfAnyWorkers
sessions_of_any_workers turns v w s [] some no_lines = no_lines
sessions_of_any_workers turns v w s (y ∷ []) some (quits x l e) = quits x (line_of_any turns v w s x.after x.asked x.reply some l) e
sessions_of_any_workers turns v w s (y ∷ ys) some (goes_on x l e rest) = goes_on x (line_of_any turns v w s x.after x.asked x.reply some l) e (sessions_of_any_workers turns v w x.after ys some rest)

pub answered_are_session : AnsweredAreSession
answered_are_session s t [] none = record { session = no_lines; calls = λ some. ([], sym (append-nil s.noted), own.SessionCalls.no_calls) }
answered_are_session s t (y ∷ []) (last x a after quit) = record {
  session = quits x (subst (λ u. Line s.turns s.workers s.state x.asked x.reply u) (sym after) a.line) quit;
  calls = λ some. let k = a.calls some in (k.0 ++ [], k.1 ∙ ap (λ l. s.noted ++ l) (sym (append-nil k.0)), own.SessionCalls.more_calls k.0 [] x k.2 own.SessionCalls.no_calls);
}
answered_are_session s u (y ∷ ys) (more {t = t} x a after turns workers goes rest) =
    let later = answered_are_session t u ys rest in
    let onward : SessionFrom s.turns s.workers x.after ys =
    subst (λ (n : ℕ). SessionFrom n s.workers x.after ys) turns (subst (λ (n : ℕ). SessionFrom t.turns n x.after ys) workers (subst (λ (z : State). SessionFrom t.turns t.workers z ys) (sym after) later.session)) in
    record {
      session = goes_on x (subst (λ z. Line s.turns s.workers s.state x.asked x.reply z) (sym after) a.line) goes onward;
      calls = λ some.
          let k = a.calls some in
          let j = later.calls (λ none. some (sym workers ∙ none)) in
          let behind : SessionCalls s.turns (x.after).decls ys j.0 = subst (λ (n : ℕ). SessionCalls n (x.after).decls ys j.0) turns (subst (λ (z : State). SessionCalls t.turns z.decls ys j.0) (sym after) j.2) in (
            k.0 ++ j.0,
            j.1 ∙ (ap (λ l. l ++ j.0) k.1 ∙ append_assoc s.noted k.0 j.0),
            own.SessionCalls.more_calls k.0 j.0 x k.2 behind,
          );
    }
