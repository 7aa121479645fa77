-- How a session over lines ends, from how its lines are answered.
use Rattle.std.proofs.Common.{◌≡◌, ◌≢◌, ◌⊎◌, ◌∙◌, inl, inr, ℕ, Bool, false, List, [], ◌∷◌, ◌++◌, map, take, Option, Some, None, refl, sym, ap, subst, arith, append-nil}
use Rattle.std.specs.List.{concat}
use Rattle.std.proofs.lemmas.List.{map-append}
use Rattle.std.proofs.lemmas.List.Concat.{concat_is}
use Rattle.std.proofs.lemmas.List.Folds.{flat_map-map}
use Rattle.bv_base.specs.Known.{Adds}
use Rattle.bv_base.specs.Lines.{lines as lines_in}
use Rattle.bv_base.proofs.KnownLemmas.{Adds-nil}
use Rattle.request_text.specs.Reading.{request_of}
use Rattle.board_core.specs.Board.{close, closed_now}
use Rattle.goal_board.specs.Calls.{BoardCall, made}
use Rattle.line_server.specs.Exchanges.{Answers, none, lines_of, text_of, asked}
use Rattle.line_server.specs.Exchanges as lines
use Rattle.line_server.specs.Endings.{Ends, IsStarved, AreFirst}
use Rattle.line_server.specs.declared.serving.Ending.{Ending}
use Rattle.line_server.specs.declared.serving.Ending.TheVariants.{Done, ReadFault, WriteFault, Memory, Full}
use Rattle.edit_session.specs.Answers.{new_session}
use Rattle.edit_session.specs.Kept.{Session}
use Rattle.edit_session.specs.Session.{Exchange, SessionFrom, WholeSession, no_lines}
use Rattle.edit_session.specs.OwnCalls.{SessionCalls, LineCalls, no_calls}
use Rattle.edit_session.specs.Worth.{ReportsAreTrue}
use Rattle.edit_session.specs.Laws.{SessionsOfAnyWorkers}
use Rattle.edit_session.specs.Replying.{RepliesTo, FailsTo}
use Rattle.edit_session.specs.Served.{Makes, IsSession, IsUnwritten, no_line, next_line, IsWithin, Serves, NothingIsServed, ServesAnyWorkers}
use Rattle.edit_session.specs.SessionLimits.{session_total}
use Rattle.edit_session.proofs.LineSessions.{false_true, lines_make_a_session, same_turns, same_workers, ends_at, calls_behind}

-- a session at its beginning
abbrev pub new_with : ℕ → ℕ → Session
new_with turns workers = record { turns = turns; workers = workers; state = new_session; noted = [] }

abbrev texts_of : List lines.Exchange → List (List ℕ)
texts_of xs = map (λ x. x.reply) xs

joined : (xs : List lines.Exchange) → text_of xs ≡ concat (texts_of xs)
joined xs = sym (concat_is (texts_of xs) ∙ flat_map-map (λ (r : List ℕ). r) (λ (x : lines.Exchange). x.reply) xs)

texts_behind : (xs : List lines.Exchange) (y : lines.Exchange) → texts_of (xs ++ y ∷ []) ≡ texts_of xs ++ y.reply ∷ []
texts_behind xs y = map-append (λ (x : lines.Exchange). x.reply) xs (y ∷ [])

-- ---- where nothing was read or written

first_none : (left : Option (List ℕ)) → AreFirst left []
first_none None = tt
first_none (Some input) = (asked (lines_in input), refl)

pub none_within : (left : Option (List ℕ)) → IsWithin left left
none_within None = ([], omega arith, refl)
none_within (Some input) = ([], omega arith, refl)

-- and then a close
abbrev closed : List BoardCall → List BoardCall
closed own = own ++ made close closed_now ∷ []

pub nothing_is_served : NothingIsServed
nothing_is_served turns workers left held = record {
  lines = [];
  replies = [];
  unwritten = [];
  is_unwritten = no_line;
  session = record { exchanges = []; session = no_lines; made = λ some. ([], no_calls, refl); asked = refl; written = refl; ends = (λ h. absurd (false_true h), λ h. absurd h); reports = tt };
  first = first_none left;
  added = Adds-nil held;
}

-- ---- by the law of reports

module _ (reports : ReportsAreTrue) (turns workers : ℕ) where
  session_of : (xs : List lines.Exchange) (t : Session) (is_last : Bool) → Answers RepliesTo (new_with turns workers) xs t is_last → IsSession turns workers (closed t.noted) (lines_of xs) (texts_of xs) is_last []
  session_of xs t is_last h =
      let s = lines_make_a_session (new_with turns workers) t xs is_last h in
      record {
        exchanges = s.exchanges;
        session = s.session;
        made = λ some. let k = s.calls some in (k.0, subst (λ es. SessionCalls turns [] es k.0) (sym (append-nil s.exchanges)) k.2, ap closed k.1);
        asked = s.asked;
        written = s.written;
        ends = s.ends;
        reports = reports turns workers s.exchanges s.session;
      }

  abbrev further : (line : List ℕ) (v t : Session) → FailsTo v line t → Exchange
  further line v t f = record { asked = request_of line; reply = f.reply; after = t.state }

  -- behind the lines one was answered whose reply has no bytes
  starved_of : (xs : List lines.Exchange) (v t : Session) (line : List ℕ) → Answers RepliesTo (new_with turns workers) xs v false → (f : FailsTo v line t)
      → IsSession turns workers (closed t.noted) (lines_of xs) (texts_of xs) false (further line v t f ∷ [])
  starved_of xs v t line h f =
      let new = new_with turns workers in
      let s = lines_make_a_session new v xs false h in
      let same : v.turns ≡ turns = same_turns new v xs false h in
      let as_many : v.workers ≡ workers = same_workers new v xs false h in
      let x = further line v t f in
      record {
        exchanges = s.exchanges;
        session = s.session;
        made = λ some.
            let k = s.calls some in
            let l = f.line.answered.calls (λ zero. some (sym as_many ∙ zero)) in
            let last : LineCalls turns v.state.decls x.asked x.reply l.0 = subst (λ (n : ℕ). LineCalls n v.state.decls x.asked x.reply l.0) same l.2 in
            (k.0 ++ l.0, calls_behind turns [] s.exchanges k.0 l.0 v.state.decls x k.2 (ends_at new v xs false h) last, ap closed (l.1 ∙ ap (λ n. n ++ l.0) k.1));
        asked = s.asked;
        written = s.written;
        ends = s.ends;
        reports = reports turns workers s.exchanges s.session;
      }

  module _ (t : Session) (left left' held held' : Option (List ℕ)) where
    starves : (d : IsStarved RepliesTo FailsTo session_total (new_with turns workers) t left left' held held') → Serves turns workers (closed t.noted) left left' held held' Memory
    starves d = by d.ended_at
      where
        by : (t ≡ d.value) ⊎ ((line : List ℕ) × FailsTo d.value line t × AreFirst left (lines_of d.exchanges ++ line ∷ [])) → Serves turns workers (closed t.noted) left left' held held' Memory
        by (inl same) = record {
          lines = lines_of d.exchanges;
          replies = texts_of d.exchanges;
          unwritten = [];
          is_unwritten = no_line;
          session = session_of d.exchanges t false (subst (λ v. Answers RepliesTo (new_with turns workers) d.exchanges v false) (sym same) d.answered);
          first = d.first;
          added = subst (Adds held held') (joined d.exchanges) d.written;
        }
        by (inr failed) = record {
          lines = lines_of d.exchanges;
          replies = texts_of d.exchanges;
          unwritten = further failed.0 d.value t failed.1 ∷ [];
          is_unwritten = next_line failed.0 (further failed.0 d.value t failed.1) refl failed.2;
          session = starved_of d.exchanges d.value t failed.0 d.answered failed.1;
          first = d.first;
          added = subst (Adds held held') (joined d.exchanges) d.written;
        }

    serves : (e : Ending) → Ends RepliesTo FailsTo session_total (new_with turns workers) t left left' held held' e → Serves turns workers (closed t.noted) left left' held held' e
    serves Done d = record {
      lines = lines_of d.exchanges;
      replies = texts_of d.exchanges;
      quits = d.is_last;
      session = session_of d.exchanges t d.is_last d.answered;
      served = d.served;
      added = subst (Adds held held') (joined d.exchanges) d.written;
    }
    serves ReadFault d = record {
      lines = lines_of d.exchanges;
      replies = texts_of d.exchanges;
      session = session_of d.exchanges t false d.answered;
      taken = d.taken;
      takes = d.takes;
      within = d.within;
      whole = d.whole;
      added = subst (Adds held held') (joined d.exchanges) d.written;
    }
    serves WriteFault d = record {
      lines = lines_of (d.exchanges ++ d.broken ∷ []);
      replies = texts_of d.exchanges;
      broken = (d.broken).reply;
      quits = d.is_last;
      session = subst (λ ts. IsSession turns workers (closed t.noted) (lines_of (d.exchanges ++ d.broken ∷ [])) ts d.is_last []) (texts_behind d.exchanges d.broken) (session_of (d.exchanges ++ d.broken ∷ []) t d.is_last d.answered);
      first = d.first;
      written_of = d.written_of;
      short = d.short;
      added = subst (λ text. Adds held held' (text ++ take d.written_of (d.broken).reply)) (joined d.exchanges) d.written;
    }
    serves Memory d = starves d
    serves Full d = record {
      lines = lines_of d.exchanges;
      replies = texts_of d.exchanges;
      session = session_of d.exchanges t false d.answered;
      taken = d.taken;
      takes = d.takes;
      further = d.further;
      whole = d.whole;
      added = subst (Adds held held') (joined d.exchanges) d.written;
    }

  pub serves_from : (s t : Session) (noted : List BoardCall) (left left' held held' : Option (List ℕ)) (e : Ending) → s ≡ new_with turns workers → noted ≡ t.noted → Ends RepliesTo FailsTo session_total s t left left' held held' e
      → Serves turns workers (closed noted) left left' held held' e
  serves_from s t noted left left' held held' e new same ends =
      subst (λ n. Serves turns workers (closed n) left left' held held' e) (sym same) (serves t left left' held held' e (subst (λ r. Ends RepliesTo FailsTo session_total r t left left' held held' e) new ends))

-- ---- how many workers there are makes no difference, where there are some

module _ (law : SessionsOfAnyWorkers) (turns v w : ℕ) (some : v ≢ 0) (others : w ≢ 0) where
  session_any : (calls : List BoardCall) (ls rs : List (List ℕ)) (quits : Bool) (unwritten : List Exchange) → IsSession turns v calls ls rs quits unwritten → IsSession turns w calls ls rs quits unwritten
  session_any calls ls rs quits unwritten s = record {
    exchanges = s.exchanges;
    session = law turns v w new_session s.exchanges others s.session;
    made = λ _. s.made some;
    asked = s.asked;
    written = s.written;
    ends = s.ends;
    reports = s.reports;
  }

  pub serves_any : (calls : List BoardCall) (left left' held held' : Option (List ℕ)) (e : Ending) → Serves turns v calls left left' held held' e → Serves turns w calls left left' held held' e
  serves_any calls left left' held held' Done d = record { lines = d.lines; replies = d.replies; quits = d.quits; session = session_any calls d.lines d.replies d.quits [] d.session; served = d.served; added = d.added }
  serves_any calls left left' held held' ReadFault d = record { lines = d.lines; replies = d.replies; session = session_any calls d.lines d.replies false [] d.session; taken = d.taken; takes = d.takes; within = d.within; whole = d.whole; added = d.added }
  serves_any calls left left' held held' WriteFault d = record {
    lines = d.lines;
    replies = d.replies;
    broken = d.broken;
    quits = d.quits;
    session = session_any calls d.lines (d.replies ++ d.broken ∷ []) d.quits [] d.session;
    first = d.first;
    written_of = d.written_of;
    short = d.short;
    added = d.added;
  }
  serves_any calls left left' held held' Memory d = record {
    lines = d.lines;
    replies = d.replies;
    unwritten = d.unwritten;
    is_unwritten = d.is_unwritten;
    session = session_any calls d.lines d.replies false d.unwritten d.session;
    first = d.first;
    added = d.added;
  }
  serves_any calls left left' held held' Full d = record { lines = d.lines; replies = d.replies; session = session_any calls d.lines d.replies false [] d.session; taken = d.taken; takes = d.takes; further = d.further; whole = d.whole; added = d.added }

pub any_workers_serve : SessionsOfAnyWorkers → ServesAnyWorkers
any_workers_serve law turns v w calls left left' held held' e some others s = serves_any law turns v w some others calls left left' held held' e s
