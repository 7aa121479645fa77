-- What the laws of sessions over lines say.
use Rattle.std.specs.Prelude.{◌≡◌, ◌≢◌, ◌↔◌, ℕ, Bool, IsTrue, List, [], ◌∷◌, ◌++◌, map}
use Rattle.request_text.specs.Request.{ended}
use Rattle.request_text.specs.Reading.{request_of}
use Rattle.request_text.specs.Replies.{reply_text}
use Rattle.goal_board.specs.Calls.{BoardCall}
use Rattle.line_server.specs.Exchanges.{Answers, lines_of}
use Rattle.line_server.specs.Exchanges as lines
use Rattle.edit_session.specs.Kept.{Session}
use Rattle.edit_session.specs.Session.{Exchange, SessionFrom}
use Rattle.edit_session.specs.OwnCalls.{SessionCalls}
use Rattle.edit_session.specs.Replying.{RepliesTo}

-- the last reply is that to a quit
abbrev pub EndsWithQuit : List Exchange → Type 0
EndsWithQuit [] = ⊥
EndsWithQuit (x ∷ []) = x.reply ≡ ended
EndsWithQuit (x ∷ y ∷ xs) = EndsWithQuit (y ∷ xs)

-- A session over the requests that these lines are, whose replies have these texts, one by one; it ends with a quit, or not. On a shared board its calls are the lines' calls, one line's after another's
pub record IsSessionOf (s : Session) (xs : List lines.Exchange) (t : Session) (quits : Bool) : Type 0 where
  pub exchanges : List Exchange
  pub session : SessionFrom s.turns s.workers s.state exchanges
  pub calls : s.workers ≢ 0 → (own : List BoardCall) × (t.noted ≡ s.noted ++ own) × SessionCalls s.turns s.state.decls exchanges own
  pub asked : map (λ x. x.asked) exchanges ≡ map request_of (lines_of xs)
  pub written : map (λ x. reply_text x.reply) exchanges ≡ map (λ x. x.reply) xs
  pub ends : IsTrue quits ↔ EndsWithQuit exchanges

abbrev pub LinesMakeASession : Type 0
LinesMakeASession = (s t : Session) (xs : List lines.Exchange) (is_last : Bool) → Answers RepliesTo s xs t is_last → IsSessionOf s xs t is_last
