-- What the replies of a session are worth, from what a session is.
use Rattle.std.proofs.Common.{◌≡◌, ◌∙◌, sym, ap, subst, ℕ, ◌+◌, Bool, false, List, [], ◌∷◌, ◌++◌, length, take, Option, append-nil}
use Rattle.std.specs.List.{concat}
use Rattle.std.proofs.Math.Seq.{take-length, take-append-add}
use Rattle.std.proofs.lemmas.List.Concat.{concat_is}
use Rattle.std.proofs.lemmas.Grind.{flat_map-append}
use Rattle.bv_base.specs.Known.{Adds}
use Rattle.goal_board.specs.Calls.{BoardCall}
use Rattle.edit_session.specs.Session.{Exchange}
use Rattle.edit_session.specs.SessionWorth.{IsWorthSession}
use Rattle.edit_session.specs.Worth.{SessionsAreWorth}
use Rattle.edit_session.specs.SessionLimits.{session_total}
use Rattle.edit_session.specs.Served.{IsSession}
use Rattle.edit_server.specs.Session.{Served}
use Rattle.edit_server.specs.SessionWorth.{SessionWorth}
use Rattle.text_answers.specs.declared.status.Status.{Status}
use Rattle.text_answers.specs.declared.status.Status.TheVariants.{Done, NotAll, Usage, ReadFault, WriteFault, Memory, Refused, SessionFull}
use Rattle.edit_server.proofs.FirstLines.{whole_first, front_first, served_first}

-- a front of the last reply, behind the others, is a front of all
concat_last : (xs : List (List ℕ)) (y : List ℕ) → concat (xs ++ y ∷ []) ≡ concat xs ++ y
concat_last xs y = concat_is (xs ++ y ∷ []) ∙ flat_map-append (λ (l : List ℕ). l) xs (y ∷ []) ∙ (λ i. sym (concat_is xs) i ++ append-nil y i)

front_is : (xs : List (List ℕ)) (y : List ℕ) (n : ℕ) → take (length (concat xs) + n) (concat (xs ++ y ∷ [])) ≡ concat xs ++ take n y
front_is xs y n = ap (take (length (concat xs) + n)) (concat_last xs y) ∙ take-append-add (concat xs) y n

module _ (law : SessionsAreWorth) (turns workers : ℕ) (calls : List BoardCall) where
  session_worth : (ls texts : List (List ℕ)) (quits : Bool) (unwritten : List Exchange) → IsSession turns workers calls ls texts quits unwritten → IsWorthSession ls texts
  session_worth ls texts quits unwritten s = subst (IsWorthSession ls) s.written (law turns workers s.exchanges ls s.session s.asked)

  -- all of it was written
  all_written : (held held' : Option (List ℕ)) (replies : List (List ℕ)) → Adds held held' (concat replies) → Adds held held' (take (length (concat replies)) (concat replies))
  all_written held held' replies a = subst (Adds held held') (sym (take-length (concat replies))) a

  front_written : (held held' : Option (List ℕ)) (replies : List (List ℕ)) (broken : List ℕ) (n : ℕ) → Adds held held' (concat replies ++ take n broken) → Adds held held' (take (length (concat replies) + n) (concat (replies ++ broken ∷ [])))
  front_written held held' replies broken n a = subst (Adds held held') (sym (front_is replies broken n)) a

  pub worth_of_session : (left left' held held' : Option (List ℕ)) (status : Status) → Served turns workers calls left left' held held' status → SessionWorth left held held'
  worth_of_session left left' held held' Done d = record {
    served = d.lines;
    replies = d.replies;
    first = served_first d.quits left left' d.lines d.served;
    written_of = length (concat d.replies);
    written = all_written held held' d.replies d.added;
    worth = session_worth d.lines d.replies d.quits [] d.session;
  }
  worth_of_session left left' held held' NotAll d = absurd d
  worth_of_session left left' held held' Usage d = absurd d
  worth_of_session left left' held held' ReadFault d = record {
    served = d.lines;
    replies = d.replies;
    first = whole_first left left' d.taken d.lines d.takes d.whole;
    written_of = length (concat d.replies);
    written = all_written held held' d.replies d.added;
    worth = session_worth d.lines d.replies false [] d.session;
  }
  worth_of_session left left' held held' WriteFault d = record {
    served = d.lines;
    replies = d.replies ++ d.broken ∷ [];
    first = d.first;
    written_of = length (concat d.replies) + d.written_of;
    written = front_written held held' d.replies d.broken d.written_of d.added;
    worth = session_worth d.lines (d.replies ++ d.broken ∷ []) d.quits [] d.session;
  }
  worth_of_session left left' held held' Memory d = record {
    served = d.lines;
    replies = d.replies;
    first = d.first;
    written_of = length (concat d.replies);
    written = all_written held held' d.replies d.added;
    worth = session_worth d.lines d.replies false d.unwritten d.session;
  }
  worth_of_session left left' held held' Refused d = absurd d
  worth_of_session left left' held held' SessionFull d = record {
    served = d.lines;
    replies = d.replies;
    first = front_first left left' session_total d.taken d.lines d.takes d.whole;
    written_of = length (concat d.replies);
    written = all_written held held' d.replies d.added;
    worth = session_worth d.lines d.replies false [] d.session;
  }
