-- Each report of a session is that from scratch of the program that is open, and what it calls correct is safe.
use Rattle.std.proofs.Common.{◌≡◌, ◌∙◌, refl, sym, ap, subst, arith, ℕ, zero, suc, ◌<◌, List, [], ◌∷◌, ◌++◌, length, get_or, append_assoc, Option, Some, None, Contains, inl, inr}
use Rattle.std.specs.List.{AllByRecursion}
use Rattle.bpl_ast.specs.Statement.{Decl}
use Rattle.bpl_model.specs.Module.{Module}
use Rattle.report_text.specs.Called.{correct_line}
use Rattle.bv_base.specs.Text.{line_feed, ended, text_of, IsLineStart, HasLine}
use Rattle.vc_build.specs.declared.fault.Measure.{Measure}
use Rattle.vc_build.specs.Large.{program_large}
use Rattle.program_opening.specs.Opening.{Opening, program, refused, Typing, typed, ill_typed, typing, unless_large, within_limits, opening}
use Rattle.program_opening.specs.Spelled.{AreSpelled}
use Rattle.program_edits.specs.Edited.{Edited, edited, lacking, faulty, other_name, IsEdited}
use Rattle.fault_text.specs.Written.{Written}
use Rattle.request_text.specs.Request.{Request, Reply, reported}
use Rattle.report_laws.specs.Scratch.{scratch}
use Rattle.report_laws.specs.Sound.{DeclaredCorrectIsSafe}
use Rattle.goal_board.specs.Calls.{Board, BoardCall}
use Rattle.edit_session.specs.Program.{IsModuleOf}
use Rattle.edit_session.specs.Asking.{Taken, taken, denied, text_reply, judged, outcome_of}
use Rattle.edit_session.specs.Answers.{Asked, State, Answers, Line}
use Rattle.edit_session.specs.Answers as answers
use Rattle.edit_session.specs.Session.{Exchange, SessionFrom}
use Rattle.edit_session.specs.Session as session
use Rattle.edit_session.specs.Worth.{NamesTheSafe, IsTrueReport, ReportIsTrue, ReportsAreTrue}

-- ---- each of some lines stands, whole, in their bytes

behind : (x before : List ℕ) → IsLineStart before → IsLineStart (ended x ++ before)
behind x before (inl none) = inr (x, ap (λ bs. ended x ++ bs) none ∙ append_assoc x (line_feed ∷ []) [])
behind x before (inr (front, e)) = inr (ended x ++ front, ap (λ bs. ended x ++ bs) e ∙ sym (append_assoc (ended x) front (line_feed ∷ [])))

at_place : (ls : List (List ℕ)) (k : ℕ) (l : List ℕ) → k < length ls → get_or ls k l ≡ l → HasLine (text_of ls) l
at_place [] k l below at = absurd (omega (arith, below))
at_place (x ∷ ls) zero l below at = record { before = []; after = text_of ls; starts = inl refl; stands = ap (λ y. ended y ++ text_of ls) at }
at_place (x ∷ ls) (suc k) l below at =
    let r = at_place ls k l (omega (arith, below)) at in
    record { before = ended x ++ r.before; after = r.after; starts = behind x r.before r.starts; stands = ap (λ bs. ended x ++ bs) r.stands ∙ sym (append_assoc (ended x) r.before (ended l ++ r.after)) }

stands : (ls : List (List ℕ)) (l : List ℕ) → Contains ls l → HasLine (text_of ls) l
stands ls l (k, below, at) = at_place ls k l below at

names_the_safe : DeclaredCorrectIsSafe → (turns : ℕ) (ds : List Decl) (m : Module) → AreSpelled ds → IsModuleOf ds m → NamesTheSafe m (scratch turns m)
names_the_safe law turns ds m spelled is name is_name there = law turns ds m spelled is name is_name (stands (scratch turns m) (correct_line name) there)

-- ---- declarations that are a program are typed

within : (m n : Module) (o : Option (Measure × ℕ)) → unless_large n o ≡ program m → typed n ≡ typed m
within m n None e = cc
within m n (Some p) e = absurd (cc)

typed_by : (m : Module) (t : Typing) → within_limits t ≡ program m → t ≡ typed m
typed_by m (typed n) e = within m n (program_large n) e
typed_by m (ill_typed w) e = absurd (cc)

-- ---- a refusal is no report, and what is taken are edited declarations

opening_reports : (ds : List Decl) (o : Opening) (ls : List (List ℕ)) (v : ℕ) → denied (reported ls v) ≡ judged ds o → ⊥
opening_reports ds (program m) ls v e = cc
opening_reports ds (refused w) ls v e = cc

text_reports : (put : Option (List ℕ)) (w : Written) (ls : List (List ℕ)) (v : ℕ) → denied (reported ls v) ≡ denied (text_reply put w) → ⊥
text_reports None w ls v e = cc
text_reports (Some n) w ls v e = cc

no_report : (e : Edited) (ls : List (List ℕ)) (v : ℕ) → denied (reported ls v) ≡ outcome_of e → ⊥
no_report (edited ds) ls v e = opening_reports ds (opening ds) ls v e
no_report (lacking n) ls v e = cc
no_report (faulty put text f) ls v e = text_reports put _ ls v e
no_report (other_name n) ls v e = cc

taken_opening : (ds : List Decl) (o : Opening) (p : Taken) → taken p ≡ judged ds o → p.decls ≡ ds
taken_opening ds (program m) p e = cc
taken_opening ds (refused w) p e = absurd (cc)

pub record IsEdit (e : Edited) (ds : List Decl) : Type 0 where
  pub is : e ≡ edited ds

pub is_edit : (e : Edited) (p : Taken) → taken p ≡ outcome_of e → IsEdit e p.decls
is_edit (edited ds) p e = record { is = ap edited (sym (taken_opening ds (opening ds) p e)) }
is_edit (lacking n) p e = absurd (cc)
is_edit (faulty put text f) p e = absurd (cc)
is_edit (other_name n) p e = absurd (cc)

-- ---- one line

-- edits of declarations of texts are declarations of texts
abbrev pub EditsStaySpelled : Type 0
EditsStaySpelled = (old : List Decl) (r : Request) (new : List Decl) → AreSpelled old → IsEdited old r (edited new) → AreSpelled new

module _ (law : DeclaredCorrectIsSafe) (stay : EditsStaySpelled) (turns : ℕ) where
  abbrev Follows : List Decl → Reply → Type 0
  Follows ds x = AreSpelled ds × ((lines : List (List ℕ)) (version : ℕ) → x ≡ reported lines version → IsTrueReport turns ds lines)

  true_report : (ds : List Decl) (m : Module) (v : ℕ) → AreSpelled ds → IsModuleOf ds m → (lines : List (List ℕ)) (version : ℕ) → reported (scratch turns m) v ≡ reported lines version → IsTrueReport turns ds lines
  true_report ds m v spelled is lines version e =
      let same : lines ≡ scratch turns m = cc in
      record { typed = m; is_module = is; is_typed = typed_by m (typing ds) is; from_scratch = same; correct_is_safe = subst (NamesTheSafe m) (sym same) (names_the_safe law turns ds m spelled is) }

  of_answer : (ds : List Decl) (version : ℕ) {r : Asked} {es : List BoardCall} {b : Board} {x : Reply} {after : List Decl} {later : ℕ} → AreSpelled ds → Answers turns ds version r es b x after later → Follows after x
  of_answer ds version spelled answers.Answers.out_of_memory = (spelled, λ lines v e. absurd (cc))
  of_answer ds version spelled (answers.Answers.out_of_memory_at_work needs works) = (spelled, λ lines v e. absurd (cc))
  of_answer ds version spelled answers.Answers.is_bad = (spelled, λ lines v e. absurd (cc))
  of_answer ds version spelled (answers.Answers.is_refused asks) = (spelled, λ lines v e. absurd (no_report asks.edit lines v (sym (ap denied e) ∙ asks.is)))
  of_answer ds version spelled (answers.Answers.is_accepted {r = r} {p = p} is asks) =
      (stay ds r p.decls spelled (subst (λ e. IsEdited ds r e) (is_edit asks.edit p asks.is).is asks.is_edited), λ lines v e. absurd (cc))
  of_answer ds version spelled answers.Answers.is_status = (spelled, λ lines v e. absurd (cc))
  of_answer ds version spelled (answers.Answers.is_report {m = m} is settles all) = (spelled, λ lines v e. true_report ds m version spelled is lines v e)
  of_answer ds version spelled (answers.Answers.are_proofs is settles all) = (spelled, λ lines v e. absurd (cc))
  of_answer ds version spelled (answers.Answers.are_sums is) = (spelled, λ lines v e. absurd (cc))
  of_answer ds version spelled answers.Answers.is_quit = (spelled, λ lines v e. absurd (cc))

  of_line : (workers : ℕ) (s t : State) (r : Asked) (x : Reply) → AreSpelled s.decls → Line turns workers s r x t → Follows t.decls x
  of_line workers s t r x spelled l = of_answer s.decls s.version spelled l.answers

  -- ---- all lines

  of_session : (workers : ℕ) (s : State) (xs : List Exchange) → AreSpelled s.decls → SessionFrom turns workers s xs → AllByRecursion (ReportIsTrue turns) xs
  of_session workers s [] spelled h = tt
  of_session workers s (x ∷ []) spelled (session.SessionFrom.quits _ line e) = ((of_line workers s x.after x.asked x.reply spelled line).1, tt)
  of_session workers s (x ∷ xs) spelled (session.SessionFrom.goes_on _ line e rest) =
      let f = of_line workers s x.after x.asked x.reply spelled line in
      (f.1, of_session workers x.after xs f.0 rest)

pub reports_are_true : DeclaredCorrectIsSafe → EditsStaySpelled → ReportsAreTrue
reports_are_true law stay turns workers xs h = of_session law stay turns workers answers.new_session xs tt h
