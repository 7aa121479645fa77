-- What the replies of a session are worth, by its lines.
use Rattle.std.proofs.Common.{◌≡◌, refl, sym, subst, ℕ, List, [], ◌∷◌, map, Option, Some, None}
use Rattle.std.specs.List.{AllByRecursion}
use Rattle.bpl_ast.specs.Statement.{Decl}
use Rattle.program_opening.specs.Opening.{Opening, program, refused as ill, opening}
use Rattle.fault_text.specs.Written.{Written}
use Rattle.report_laws.proofs.Programs.{opens_as}
use Rattle.request_text.specs.Request.{Request, Reply, accepted, counted, reported, summed, proved, ended, refused, memory, absent, misnamed, fault}
use Rattle.request_text.specs.Reading.{request_of}
use Rattle.request_text.specs.Replies.{reply_text}
use Rattle.program_edits.specs.Edited.{Edited, edited, lacking, faulty, other_name, IsEdited}
use Rattle.program_edits.specs.Laws.{TakenIsLeft}
use Rattle.goal_board.specs.Calls.{Board, BoardCall}
use Rattle.edit_session.specs.Asking.{denied, text_reply, judged, outcome_of, Asks}
use Rattle.edit_session.specs.Answers.{Asked, State, new_session, Answers, Line}
use Rattle.edit_session.specs.Answers as answers
use Rattle.edit_session.specs.Session.{Exchange, SessionFrom}
use Rattle.edit_session.specs.Session as session
use Rattle.edit_session.specs.SessionWorth.{Changes, IsWorthReply, AreWorth}
use Rattle.edit_session.specs.SessionWorth as worth
use Rattle.edit_session.specs.Worth.{IsTrueReport, ReportIsTrue, ReportsAreTrue, SessionsAreWorth}
use Rattle.edit_session.proofs.TrueReports.{is_edit}

-- ---- a refusal is no acceptance

module _ (g b v : ℕ) where
  opening_accepts : (ds : List Decl) (o : Opening) → denied (accepted g b v) ≡ judged ds o → ⊥
  opening_accepts ds (program m) e = cc
  opening_accepts ds (ill w) e = cc

  text_accepts : (put : Option (List ℕ)) (w : Written) → denied (accepted g b v) ≡ denied (text_reply put w) → ⊥
  text_accepts None w e = cc
  text_accepts (Some n) w e = cc

  no_acceptance : (e : Edited) → denied (accepted g b v) ≡ outcome_of e → ⊥
  no_acceptance (edited ds) e = opening_accepts ds (opening ds) e
  no_acceptance (lacking n) e = cc
  no_acceptance (faulty put text f) e = text_accepts put _ e
  no_acceptance (other_name n) e = cc

module _ (line : List ℕ) (ds : List Decl) where
  -- a refusal leaves the declarations
  refusal_keeps : (r : Request) (x : Reply) → Asks ds r (denied x) → Changes line ds ds x
  refusal_keeps r (accepted g b v) asks = absurd (no_acceptance g b v asks.edit asks.is)
  refusal_keeps r (counted d p v) asks = refl
  refusal_keeps r (reported ls v) asks = refl
  refusal_keeps r (summed ls v) asks = refl
  refusal_keeps r (proved ls v) asks = refl
  refusal_keeps r ended asks = refl
  refusal_keeps r (refused why) asks = refl
  refusal_keeps r memory asks = refl
  refusal_keeps r (absent n) asks = refl
  refusal_keeps r (misnamed n) asks = refl
  refusal_keeps r (fault k d l c w) asks = refl

-- ---- one line

module _ (left : TakenIsLeft) (turns : ℕ) (line : List ℕ) (ds : List Decl) (version : ℕ) where
  changes : {r : Asked} {es : List BoardCall} {b : Board} {x : Reply} {after : List Decl} {later : ℕ} → r ≡ request_of line → Answers turns ds version r es b x after later → Changes line ds after x
  changes is answers.Answers.out_of_memory = refl
  changes is (answers.Answers.out_of_memory_at_work needs works) = refl
  changes is answers.Answers.is_bad = refl
  changes is (answers.Answers.is_refused {r = r} {x = x} asks) = refusal_keeps line ds r x asks
  changes is (answers.Answers.is_accepted {r = r} {p = p} of asks) =
      (r, sym is, left ds r p.decls (subst (λ e. IsEdited ds r e) (is_edit asks.edit p asks.is).is asks.is_edited))
  changes is answers.Answers.is_status = refl
  changes is (answers.Answers.is_report of settles all) = refl
  changes is (answers.Answers.are_proofs of settles all) = refl
  changes is (answers.Answers.are_sums of) = refl
  changes is answers.Answers.is_quit = refl

module _ (turns : ℕ) (ds : List Decl) where
  of_report : (lines : List (List ℕ)) → IsTrueReport turns ds lines → worth.IsWorthReport ds lines
  of_report lines t = record { typed = t.typed; is_program = opens_as ds t.typed (sym t.is_module); correct_is_safe = t.correct_is_safe }

  of_reply : (x : Reply) → ((lines : List (List ℕ)) (version : ℕ) → x ≡ reported lines version → IsTrueReport turns ds lines) → IsWorthReply ds x
  of_reply (accepted g b v) h = tt
  of_reply (counted d p v) h = tt
  of_reply (reported ls v) h = of_report ls (h ls v refl)
  of_reply (summed ls v) h = tt
  of_reply (proved ls v) h = tt
  of_reply ended h = tt
  of_reply (refused why) h = tt
  of_reply memory h = tt
  of_reply (absent n) h = tt
  of_reply (misnamed n) h = tt
  of_reply (fault k d l c w) h = tt

-- ---- all lines

module _ (left : TakenIsLeft) (turns workers : ℕ) where
  abbrev texts : List Exchange → List (List ℕ)
  texts xs = map (λ x. reply_text x.reply) xs

  one : (s : State) (x : Exchange) (xs : List Exchange) (l : List ℕ) (ls : List (List ℕ)) → Line turns workers s x.asked x.reply x.after → ReportIsTrue turns x → x.asked ≡ request_of l → AreWorth (x.after).decls ls (texts xs)
      → AreWorth s.decls (l ∷ ls) (texts (x ∷ xs))
  one s x xs l ls line true_report asked rest =
      worth.AreWorth.one_more x.reply (x.after).decls (changes left turns l s.decls s.version asked line.answers) (of_reply turns (x.after).decls x.reply true_report) rest

  head_is : {x y : Asked} {xs ys : List Asked} → x ∷ xs ≡ y ∷ ys → x ≡ y
  head_is e = cc

  tail_is : {x y : Asked} {xs ys : List Asked} → x ∷ xs ≡ y ∷ ys → xs ≡ ys
  tail_is e = cc

  are_worth : (s : State) (xs : List Exchange) (lines : List (List ℕ)) → SessionFrom turns workers s xs → AllByRecursion (ReportIsTrue turns) xs → map (λ x. x.asked) xs ≡ map request_of lines → AreWorth s.decls lines (texts xs)
  are_worth s [] [] h all e = worth.AreWorth.no_lines
  are_worth s [] (l ∷ ls) h all e = absurd (cc)
  are_worth s (x ∷ xs) [] h all e = absurd (cc)
  are_worth s (x ∷ []) (l ∷ ls) (session.SessionFrom.quits _ line q) all e = one s x [] l ls line all.0 (head_is e) (are_worth x.after [] ls session.SessionFrom.no_lines tt (tail_is e))
  are_worth s (x ∷ xs) (l ∷ ls) (session.SessionFrom.goes_on _ line q rest) all e = one s x xs l ls line all.0 (head_is e) (are_worth x.after xs ls rest all.1 (tail_is e))

pub sessions_are_worth : TakenIsLeft → ReportsAreTrue → SessionsAreWorth
sessions_are_worth left reports turns workers xs lines h e = are_worth left turns workers new_session xs lines h (reports turns workers xs h) e
