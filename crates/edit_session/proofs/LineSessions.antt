-- The exchanges of lines are those of a session, and its calls are theirs.
use Rattle.std.proofs.Common.{◌≡◌, ◌≢◌, ◌∙◌, ◌↔◌, ℕ, Bool, true, false, List, [], ◌∷◌, ◌++◌, refl, sym, ap, subst, append_assoc, append-nil}
use Rattle.bpl_ast.specs.Statement.{Decl}
use Rattle.request_text.specs.Request.{ended}
use Rattle.request_text.specs.Reading.{request_of}
use Rattle.goal_board.specs.Calls.{BoardCall}
use Rattle.line_server.specs.Exchanges.{Answers, none, last, more}
use Rattle.line_server.specs.Exchanges as lines
use Rattle.edit_session.specs.Answers.{State}
use Rattle.edit_session.specs.Kept.{Session}
use Rattle.edit_session.specs.Session.{Exchange, SessionFrom, no_lines, quits, goes_on}
use Rattle.edit_session.specs.OwnCalls.{LineCalls, SessionCalls, no_calls, more_calls}
use Rattle.edit_session.specs.Replying.{RepliesTo, IsLine}
use Rattle.edit_session.specs.LineLaws.{EndsWithQuit, LinesMakeASession}

abbrev exchange_of : (s t : Session) (x : lines.Exchange) (is_last : Bool) → RepliesTo s x.line t x.reply is_last → Exchange
exchange_of s t x is_last r = record { asked = request_of x.line; reply = r.reply; after = t.state }

pub false_true : ◌≡◌ {A = Bool} false true → ⊥
false_true e = cc

-- behind a reply to another request the last reply is the last of the later ones
later_quit : (x : Exchange) (xs : List Exchange) → x.reply ≢ ended → EndsWithQuit xs ↔ EndsWithQuit (x ∷ xs)
later_quit x [] goes = (λ h. absurd h, λ h. absurd (goes h))
later_quit x (y ∷ xs) goes = (λ h. h, λ h. h)

abbrev CallsFrom : Session → List Exchange → Session → Type 0
CallsFrom s xs t = s.workers ≢ 0 → (own : List BoardCall) × (t.noted ≡ s.noted ++ own) × SessionCalls s.turns s.state.decls xs own

no_calls_from : (s : Session) → CallsFrom s [] s
no_calls_from s some = ([], sym (append-nil s.noted), no_calls)

one_more_line : (s t u : Session) (x : Exchange) (xs : List Exchange) → IsLine s x.asked t x.reply → x.after ≡ t.state → CallsFrom t xs u → CallsFrom s (x ∷ xs) u
one_more_line s t u x xs l after later some =
    let k = l.answered.calls some in
    let j = later (λ none. some (sym l.workers ∙ none)) in
    let behind : SessionCalls s.turns (x.after).decls xs j.0 = subst (λ (n : ℕ). SessionCalls n (x.after).decls xs j.0) l.turns (subst (λ (z : State). SessionCalls t.turns z.decls xs j.0) (sym after) j.2) in
    (k.0 ++ j.0, j.1 ∙ (ap (λ l. l ++ j.0) k.1 ∙ append_assoc s.noted k.0 j.0), more_calls k.0 j.0 x k.2 behind)

pub lines_make_a_session : LinesMakeASession
lines_make_a_session s t [] is_last none = record { exchanges = []; session = no_lines; calls = no_calls_from s; asked = refl; written = refl; ends = (λ h. absurd (false_true h), λ h. absurd h) }
lines_make_a_session s t (x ∷ []) is_last (last _ r) =
    let e = exchange_of s t x true r in
    record {
      exchanges = e ∷ [];
      session = quits e r.line.answered.line ((r.last).0 refl);
      calls = one_more_line s t t e [] r.line refl (no_calls_from t);
      asked = refl;
      written = ap (λ text. text ∷ []) (sym r.written);
      ends = (λ h. (r.last).0 refl, λ h. refl);
    }
lines_make_a_session s t (x ∷ xs) is_last (more {b = b} _ r rest) =
    let later = lines_make_a_session b t xs is_last rest in
    let e = exchange_of s b x false r in
    let goes : e.reply ≢ ended = λ quit. false_true ((r.last).1 quit) in
    let behind = later_quit e later.exchanges goes in
    let onward : SessionFrom s.turns s.workers b.state later.exchanges =
    subst (λ (n : ℕ). SessionFrom n s.workers b.state later.exchanges) r.line.turns (subst (λ (n : ℕ). SessionFrom b.turns n b.state later.exchanges) r.line.workers later.session) in
    record {
      exchanges = e ∷ later.exchanges;
      session = goes_on e r.line.answered.line goes onward;
      calls = one_more_line s b t e later.exchanges r.line refl later.calls;
      asked = ap (λ ls. request_of x.line ∷ ls) later.asked;
      written = (λ i. sym r.written i ∷ later.written i);
      ends = (λ h. behind.0 ((later.ends).0 h), λ h. (later.ends).1 (behind.1 h));
    }

-- ---- a further line

-- the declarations that are open behind the lines
abbrev pub decls_behind : List Decl → List Exchange → List Decl
decls_behind ds [] = ds
decls_behind ds (x ∷ xs) = decls_behind (x.after).decls xs

abbrev pub LastDecls : List Decl → List Exchange → List Decl → Type 0
LastDecls ds xs es = es ≡ decls_behind ds xs

-- a further line's calls come behind
pub calls_behind : (turns : ℕ) (ds : List Decl) (xs : List Exchange) (own own' : List BoardCall) (last_decls : List Decl) (x : Exchange) → SessionCalls turns ds xs own → LastDecls ds xs last_decls → LineCalls turns last_decls x.asked x.reply own'
    → SessionCalls turns ds (xs ++ x ∷ []) (own ++ own')
calls_behind turns ds [] own own' at x no_calls is l = subst (λ es. SessionCalls turns ds (x ∷ []) es) (append-nil own') (more_calls own' [] x (subst (λ es. LineCalls turns es x.asked x.reply own') is l) no_calls)
calls_behind turns ds (y ∷ ys) own own' at x (more_calls a rest z k h) is l = subst (λ es. SessionCalls turns ds (y ∷ ys ++ x ∷ []) es) (sym (append_assoc a rest own')) (more_calls a (rest ++ own') y k (calls_behind turns (y.after).decls ys rest own' at x h is l))

pub same_turns : (s t : Session) (xs : List lines.Exchange) (is_last : Bool) → Answers RepliesTo s xs t is_last → t.turns ≡ s.turns
same_turns s t [] is_last none = refl
same_turns s t (x ∷ []) is_last (last _ r) = r.line.turns
same_turns s t (x ∷ xs) is_last (more {b = b} _ r rest) = same_turns b t xs is_last rest ∙ r.line.turns

pub same_workers : (s t : Session) (xs : List lines.Exchange) (is_last : Bool) → Answers RepliesTo s xs t is_last → t.workers ≡ s.workers
same_workers s t [] is_last none = refl
same_workers s t (x ∷ []) is_last (last _ r) = r.line.workers
same_workers s t (x ∷ xs) is_last (more {b = b} _ r rest) = same_workers b t xs is_last rest ∙ r.line.workers

-- the declarations behind the lines are those of the session that they lead to
pub ends_at : (s t : Session) (xs : List lines.Exchange) (is_last : Bool) (a : Answers RepliesTo s xs t is_last) → LastDecls s.state.decls (lines_make_a_session s t xs is_last a).exchanges t.state.decls
unfolding lines_make_a_session
ends_at s t [] is_last none = refl
ends_at s t (x ∷ []) is_last (last _ r) = refl
ends_at s t (x ∷ xs) is_last (more {b = b} _ r rest) = ends_at b t xs is_last rest
