-- What the bytes of a session are worth, said by executions alone: however it ends, they are a front of replies to the first lines of the input, and where a report calls a procedure correct, it has no execution from an entry state that fails in the program that the opens and edits before it leave.
use Rattle.std.specs.Prelude.{◌≡◌, ℕ, List, ◌++◌, take, Option, IfSome}
use Rattle.std.specs.List.{concat}
use Rattle.bv_base.specs.Known.{Adds}
use Rattle.bv_base.specs.Lines.{lines}
use Rattle.line_server.specs.Exchanges.{asked}
use Rattle.edit_session.specs.SessionWorth.{IsWorthSession}

pub record SessionWorth (left held held' : Option (List ℕ)) : Type 0 where
  pub served : List (List ℕ)
  pub replies : List (List ℕ)
  pub first : IfSome left (λ input. (later : List (List ℕ)) × (asked (lines input) ≡ served ++ later))
  pub written_of : ℕ
  pub written : Adds held held' (take written_of (concat replies))
  pub worth : IsWorthSession served replies
