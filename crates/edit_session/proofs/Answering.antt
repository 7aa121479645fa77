-- Lines that are answered without an open, a look or a gather.
use Rattle.std.proofs.Common.{◌≡◌, ◌∙◌, refl, sym, ap, subst, arith, append-nil, ℕ, true, IsTrue, List, [], Option, Some, None, Result, Ok, Err, inl}
use Rattle.std.specs.Prelude.{IfOk}
use Rattle.bpl_ast.specs.Statement.{Decl}
use Rattle.bpl_model.specs.Module.{Module}
use Rattle.fault_text.specs.Written.{Written}
use Rattle.fault_text.specs.WrittenFault.{text_fault}
use Rattle.request_text.specs.Request.{Request, bad_json, bad_op, bad_field, too_long, quit, sums, BadRequest as Bad, Reply as Told, summed, ended, refused as refusal, memory, absent, misnamed}
use Rattle.request_text.specs.RequestView.{IsAnswer}
use Rattle.request_text.specs.ReplyView.{reply_view, refusal_view}
use Rattle.request_text.specs.declared.reply.Reply.{Reply}
use Rattle.request_text.specs.declared.request.BadRequest.{BadRequest}
use Rattle.request_text.specs.declared.request.BadRequest.TheVariants as why
use Rattle.program_edits.specs.Edited.{Edited, edited, lacking, faulty, other_name}
use Rattle.program_edits.specs.Refusals.{IsRefused}
use Rattle.program_edits.specs.declared.fault.EditFault.{EditFault}
use Rattle.program_opening.specs.Opening.{Opening, program, refused, opening}
use Rattle.goal_board.specs.Working.{IsWork}
use Rattle.goal_board.specs.Working as working
use Rattle.goal_board.proofs.ByItself.{plays_are_between}
use Rattle.edit_session.specs.Program.{IsModuleOf}
use Rattle.edit_session.specs.Sums.{sums_of}
use Rattle.edit_session.specs.Asking.{Outcome, denied, fault_in, fault_reply, text_reply, judged, outcome_of, Asks}
use Rattle.edit_session.specs.Answers.{Asked, Answers}
use Rattle.edit_session.specs.Answers as answers
use Rattle.edit_session.specs.OwnCalls.{LineCalls, makes_none}
use Rattle.edit_session.specs.OwnCalls as own
use Rattle.edit_session.specs.Kept.{Session, IsAnswered, IsLater}
use Rattle.edit_session.specs.Judged.{reply_of}

pub no_later : (s : Session) → IsLater s s
no_later s = record { turns = refl; workers = refl; version = omega arith; claims = λ none. omega arith }

-- ---- without a call

calm : (s : Session) (r : Asked) (x : Told) → Answers s.turns s.state.decls s.state.version r [] s.state.board x s.state.decls s.state.version → LineCalls s.turns s.state.decls r x [] → IsAnswered s r x s
calm s r x a calls = record {
  line = record { own = []; goes = plays_are_between s.workers s.state.board s.state.board [] refl; answers = a };
  calls = λ some. ([], sym (append-nil s.noted), calls);
}

no_work : IsWork []
no_work = record { before = []; are = working.Working.no_more; is = inl refl }

pub without_memory : (s : Session) (r : Asked) → IsAnswered s r memory s
without_memory s r = calm s r memory answers.Answers.out_of_memory (own.LineCalls.of_memory no_work)

pub quit_line : (s : Session) → IsAnswered s (Ok quit) ended s
quit_line s = calm s (Ok quit) ended answers.Answers.is_quit (own.LineCalls.of_others refl tt)

pub sums_line : (s : Session) (m : Module) (lines : List (List ℕ)) → IsModuleOf s.state.decls m → lines ≡ sums_of m s.state.decls → IsAnswered s (Ok sums) (summed lines s.state.version) s
sums_line s m lines is same =
    subst (λ ls. IsAnswered s (Ok sums) (summed ls s.state.version) s) (sym same)
    (calm s (Ok sums) (summed (sums_of m s.state.decls) s.state.version) (answers.Answers.are_sums is) (own.LineCalls.of_others refl tt))

-- ---- a line that is a request, or none

pub as_wanted : (s t : Session) (x : Told) (w : Asked) (r : Request) → w ≡ Ok r → IsAnswered s (Ok r) x t → IsAnswered s w x t
as_wanted s t x w r same a = subst (λ (v : Asked). IsAnswered s v x t) (sym same) a

bad_line : (s : Session) (b : Bad) (w : Asked) → w ≡ Err b → IsAnswered s w (refusal b) s
bad_line s b w same = subst (λ (v : Asked). IsAnswered s v (refusal b) s) (sym same) (calm s (Err b) (refusal b) answers.Answers.is_bad (own.LineCalls.of_others refl tt))

pub bad_goes : (s : Session) (b : BadRequest) (w : Asked) → IsAnswer w (Err b) → IsAnswered s w (refusal_view b) s
bad_goes s why.Json w same = bad_line s bad_json w same
bad_goes s why.Op w same = bad_line s bad_op w same
bad_goes s why.Field w same = bad_line s bad_field w same
bad_goes s why.Long w same = bad_line s too_long w same
bad_goes s why.Memory w same = without_memory s w

-- ---- an open or an edit that is refused

denied_is : (x y : Told) → ◌≡◌ {A = Outcome} (denied x) (denied y) → makes_none y ≡ true → IsTrue (makes_none x)
denied_is x y e none = let same : x ≡ y = cc in ap makes_none same ∙ none

judged_calm : (ds : List Decl) (o : Opening) (x : Told) → denied x ≡ judged ds o → IsTrue (makes_none x)
judged_calm ds (program m) x e = absurd (cc)
judged_calm ds (refused w) x e = denied_is x (fault_reply w) e refl

text_calm : (put : Option (List ℕ)) (w : Written) (x : Told) → denied x ≡ denied (text_reply put w) → IsTrue (makes_none x)
text_calm None w x e = denied_is x (fault_reply w) e refl
text_calm (Some n) w x e = denied_is x (fault_in n w) e refl

denied_calm : (e : Edited) (x : Told) → denied x ≡ outcome_of e → IsTrue (makes_none x)
denied_calm (edited ds) x e = judged_calm ds (opening ds) x e
denied_calm (lacking n) x e = denied_is x (absent n) e refl
denied_calm (faulty put text f) x e = text_calm put (text_fault text f) x e
denied_calm (other_name n) x e = denied_is x (misnamed n) e refl

pub refused_line : (s : Session) (r : Request) (x : Told) → Asks s.state.decls r (denied x) → IsAnswered s (Ok r) x s
refused_line s r x asks = calm s (Ok r) x (answers.Answers.is_refused asks) (own.LineCalls.of_others (denied_calm asks.edit x asks.is) tt)

pub refused_goes : {E : Type 0} (s : Session) (r : Request) (fault : EditFault) (o : Result Reply E)
    → IfOk o (λ x. (old : List Decl) (q : Request) → IsRefused old q fault → Asks old q (denied (reply_view x))) → IsRefused s.state.decls r fault → IsAnswered s (Ok r) (reply_of o) s
refused_goes s r fault (Ok x) h is = refused_line s r (reply_view x) (h s.state.decls r is)
refused_goes s r fault (Err e) h is = without_memory s (Ok r)
