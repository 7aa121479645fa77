-- A session before and after a line.
use Rattle.std.proofs.Common.{◌≡◌, ◌∙◌, refl, sym, ap, subst, arith, ℕ, ◌+◌, ◌-◌, ◌^◌, ◌<◌, ◌≤◌, false, List, [], ◌∷◌, length, Result, Ok, Err}
use Rattle.std.specs.Prelude.{IfOk, OnErr}
use Rattle.std.proofs.lemmas.List.{length-map}
use Rattle.bpl_ast.specs.Statement.{Decl}
use Rattle.bpl_model.specs.Module.{Module}
use Rattle.obligation_text.specs.Asked.{key_of}
use Rattle.vc_build.specs.Large.{count_limit, program_goals}
use Rattle.vc_build.specs.Rebuild.{built, rebuilt}
use Rattle.request_text.specs.Request.{Request, report, proofs, Reply as Told, accepted, reported, proved}
use Rattle.request_text.specs.ReplyView.{reply_view}
use Rattle.request_text.specs.declared.reply.Reply.{Reply}
use Rattle.tableau.specs.Settled.{Settled}
use Rattle.board_core.specs.Board.{open_keys, look}
use Rattle.board_core.specs.Board as board
use Rattle.goal_board.specs.Calls.{Board, BoardCall, made}
use Rattle.goal_board.specs.Made.{AreMade, AreWork}
use Rattle.goal_board.proofs.Betweens.{others_decide_nothing}
use Rattle.goal_board.proofs.Making.{work_keeps_program, settled_are_work, plays_alone}
use Rattle.edit_session.specs.Program.{IsModuleOf, question, questions, keys}
use Rattle.edit_session.specs.Asking.{Taken, taken, Asks}
use Rattle.edit_session.specs.Answers.{NeedsAnswers}
use Rattle.edit_session.specs.Answers as answers
use Rattle.edit_session.specs.Kept.{Session, IsReady, IsLater, HasRoom, IsAnswered}
use Rattle.edit_session.specs.Laws.{IsSameProgram}
use Rattle.edit_session.specs.Told.{IsOpened, AreGathered, IsReported, AreProved}
use Rattle.edit_session.specs.Judged.{reply_of}
use Rattle.edit_session.proofs.AnsweredLines.{opens_answer_changes, gathered_answer_reports, gathered_answer_proofs, proofs_from_scratch, work_answers_memory}
use Rattle.edit_session.proofs.Programs.{few_goals}

-- these declarations are open, with this version, on this board
abbrev pub session : ℕ → ℕ → List Decl → ℕ → Board → List BoardCall → Session
session turns workers ds v b n = record { turns = turns; workers = workers; state = record { decls = ds; version = v; board = b }; noted = n }

pub same_program : (turns workers : ℕ) (ds : List Decl) (v : ℕ) (b t : Board) (n n' : List BoardCall) → IsSameProgram (session turns workers ds v b n) (session turns workers ds v t n')
same_program turns workers ds v b t n n' = record { turns = refl; workers = refl; decls = refl; version = refl }

-- ---- a look

module _ (turns workers : ℕ) (ds : List Decl) (m : Module) (v : ℕ) (b : Board) (n : List BoardCall) (t : Board) (n' : List BoardCall) (r : board.Reply Settled) (h : AreMade workers b n t n' (made look r ∷ [])) where
  pub looked_ready : IsReady turns v m b → IsReady turns v m t
  looked_ready ready =
      let d = others_decide_nothing workers b t (made look r ∷ []) h.between in
      record { goals = d.present ∙ ready.goals; version = d.version ∙ ready.version; unclosed = d.closed ∙ ready.unclosed }

  pub looked_later : IsLater (session turns workers ds v b n) (session turns workers ds v t n')
  looked_later = record { turns = refl; workers = refl; version = omega arith; claims = λ none. omega (arith, ap (λ (u : Board). u.next) (sym (plays_alone workers b t (made look r ∷ []) none h.between).2)) }

-- ---- an open

module _ (turns workers new : ℕ) (p : Taken) (v : ℕ) (b : Board) (n : List BoardCall) (t : Board) (n' : List BoardCall) (x : Told) (same : b.version ≡ v) (h : IsOpened workers b n t n' turns new p.typed x) where
  pub opened_ready : b.closed ≡ false → IsReady turns (v + 1) p.typed t
  opened_ready unclosed =
      let d = others_decide_nothing workers b t (made (open_keys (keys turns p.typed)) h.answer ∷ []) (h.are).between in
      record { goals = d.present; version = d.version ∙ ap (λ k. k + 1) same; unclosed = d.closed ∙ unclosed }

  -- alone, nothing was claimed
  no_claims : workers ≡ 0 → t.next ≡ b.next
  no_claims none = ap (λ (u : Board). u.next) (sym (plays_alone workers b t (made (open_keys (keys turns p.typed)) h.answer ∷ []) none (h.are).between).2)

  pub opened_later : (ds : List Decl) → IsLater (session turns workers ds v b n) (session turns workers p.decls (v + 1) t n')
  opened_later ds = record { turns = refl; workers = refl; version = omega arith; claims = λ none. omega (arith, no_claims none) }

  pub opened_goes : (ds : List Decl) (r : Request) (m : Module) → IsModuleOf ds m → new ≡ rebuilt (built m) p.typed → Asks ds r (taken p) → IsAnswered (session turns workers ds v b n) (Ok r) x (session turns workers p.decls (v + 1) t n')
  opened_goes ds r m is anew asks =
      let s = session turns workers ds v b n in
      let u = session turns workers p.decls (v + 1) t n' in
      let told : x ≡ accepted (length (program_goals p.typed)) (rebuilt (built m) p.typed) (v + 1) = h.told ∙ (λ i. accepted (length (program_goals p.typed)) (anew i) (same i + 1)) in
      subst (λ y. IsAnswered s (Ok r) y u) (sym told) (opens_answer_changes s u r m p h.answer [] is asks refl refl refl refl tt h.are)

-- ---- what waits for the goals' answers, where the board has the goals of the module

module _ (turns workers : ℕ) (ds : List Decl) (m : Module) (is : IsModuleOf ds m) (v : ℕ) (b : Board) (n : List BoardCall) (ready : IsReady turns v m b) where
  few : length b.present ≤ count_limit
  few = omega (arith, few_goals ds m is, ap length ready.goals, length-map (questions turns m) key_of, length-map (program_goals m) (question turns))

  pub has_claims : HasRoom (session turns workers ds v b n) → workers ≡ 0 → b.next + length b.present < 2 ^ 64 - 1
  has_claims h none = omega (arith, h.claims none, few)

  worked_ready : (t : Board) (n' : List BoardCall) → AreWork workers b n t n' → IsReady turns v m t
  worked_ready t n' h =
      let k = work_keeps_program workers b t n n' h in
      record { goals = k.present ∙ ready.goals; version = k.version ∙ ready.version; unclosed = k.closed ∙ ready.unclosed }

  pub worked_later : (t : Board) (n' : List BoardCall) → (workers ≡ 0 → t.next ≤ b.next + length b.present) → IsLater (session turns workers ds v b n) (session turns workers ds v t n')
  worked_later t n' claims = record { turns = refl; workers = refl; version = omega arith; claims = λ none. omega (arith, claims none, few) }

  gathered_work : (t : Board) (n' : List BoardCall) → AreGathered workers b n t n' turns m → AreWork workers b n t n'
  gathered_work t n' g = settled_are_work workers b t n n' g.answers g.settled

  -- by the result of the calls
  module _ {E : Type 0} (t : Board) (n' : List BoardCall) where
    reported_work : (o : Result Reply E) → IfOk o (λ x. IsReported workers b n t n' turns v m (reply_view x)) → OnErr o (AreWork workers b n t n') → AreWork workers b n t n'
    reported_work (Ok x) h k = gathered_work t n' h.gathered
    reported_work (Err e) h k = k

    pub reported_ready : (o : Result Reply E) → IfOk o (λ x. IsReported workers b n t n' turns v m (reply_view x)) → OnErr o (AreWork workers b n t n') → IsReady turns v m t
    reported_ready o h k = worked_ready t n' (reported_work o h k)

    pub reported_goes : (o : Result Reply E) → IfOk o (λ x. IsReported workers b n t n' turns v m (reply_view x)) → OnErr o (AreWork workers b n t n')
        → IsAnswered (session turns workers ds v b n) (Ok report) (reply_of o) (session turns workers ds v t n')
    reported_goes (Ok x) h k =
        let s = session turns workers ds v b n in
        let u = session turns workers ds v t n' in
        let g = h.gathered in
        let r = gathered_answer_reports s u m g.answers (same_program turns workers ds v b t n n') is g.settled g.kept g.right in
        subst (λ y. IsAnswered s (Ok report) y u) (ap (λ ls. reported ls v) r.0 ∙ sym h.told) r.1
    reported_goes (Err e) h k = work_answers_memory (session turns workers ds v b n) (session turns workers ds v t n') report answers.NeedsAnswers.report_does (same_program turns workers ds v b t n n') k

    proved_work : (o : Result Reply E) → IfOk o (λ x. AreProved workers b n t n' turns v m (reply_view x)) → OnErr o (AreWork workers b n t n') → AreWork workers b n t n'
    proved_work (Ok x) h k = gathered_work t n' h.gathered
    proved_work (Err e) h k = k

    pub proved_ready : (o : Result Reply E) → IfOk o (λ x. AreProved workers b n t n' turns v m (reply_view x)) → OnErr o (AreWork workers b n t n') → IsReady turns v m t
    proved_ready o h k = worked_ready t n' (proved_work o h k)

    pub proved_goes : (o : Result Reply E) → IfOk o (λ x. AreProved workers b n t n' turns v m (reply_view x)) → OnErr o (AreWork workers b n t n')
        → IsAnswered (session turns workers ds v b n) (Ok proofs) (reply_of o) (session turns workers ds v t n')
    proved_goes (Ok x) h k =
        let s = session turns workers ds v b n in
        let u = session turns workers ds v t n' in
        let g = h.gathered in
        let a = gathered_answer_proofs s u m g.answers (same_program turns workers ds v b t n n') is g.settled g.kept g.right in
        subst (λ y. IsAnswered s (Ok proofs) y u) (ap (λ ls. proved ls v) (proofs_from_scratch turns m g.answers g.right) ∙ sym h.told) a
    proved_goes (Err e) h k = work_answers_memory (session turns workers ds v b n) (session turns workers ds v t n') proofs answers.NeedsAnswers.proofs_do (same_program turns workers ds v b t n n') k
