-- What a run does, from what its mode does.
use Rattle.std.proofs.Common.{◌≡◌, ◌≢◌, true, false, inr, ℕ, List, [], ◌∷◌, ◌++◌, Option, Some, None, refl, sym, subst}
use Rattle.std.specs.Prelude.{IfSome}
use Rattle.bv_base.specs.Lines.{lines}
use Rattle.bv_base.proofs.KnownLemmas.{Adds-nil}
use Rattle.line_server.specs.Exchanges.{asked}
use Rattle.edit_session.specs.SessionWorth as worth
use Rattle.board_core.specs.Board.{close, closed_now}
use Rattle.goal_board.specs.Calls.{BoardCall, made}
use Rattle.command_words.specs.declared.command.Command.{Command}
use Rattle.command_words.specs.declared.command.Mode.{Mode}
use Rattle.command_words.specs.declared.command.Mode.TheVariants.{Check, Serve, Recheck, Gen, Smoke}
use Rattle.edit_session.specs.Served.{NothingIsServed}
use Rattle.edit_session.proofs.Served.{none_within as none_within_session}
use Rattle.text_answers.specs.Modes.{answers_text}
use Rattle.edit_server.specs.Ran.{Outside, TellsFaults, AnswersText, Generates, ServesLines, Does, Ran}
use Rattle.edit_server.specs.SessionWorth.{SessionWorth}
use Rattle.edit_server.specs.Shared.{Runs}
use Rattle.text_answers.specs.declared.status.Status.{Status}
use Rattle.text_answers.specs.declared.status.Status.TheVariants.{Usage, Memory}
use Rattle.edit_server.proofs.Starving.{none_starved}
use Rattle.text_answers.proofs.Unread.{none_within}

module _ (c : Command) (calls : List BoardCall) (s t : Outside) (status : Status) where
  text_does : (mode : Mode) → answers_text mode ≡ true → AnswersText c calls s t status → Does c calls s t status mode
  text_does Check is a = a
  text_does Serve is a = absurd (cc)
  text_does Recheck is a = a
  text_does Gen is a = absurd (cc)
  text_does Smoke is a = a

  pub ran_text : answers_text c.mode ≡ true → AnswersText c calls s t status → ¬ (status ≡ Usage) → TellsFaults s t status → Ran c calls s t status
  ran_text is a never faults = record { does = text_does c.mode is a; never_usage = never; faults = faults }

  pub ran_gen : c.mode ≡ Gen → Generates c calls s t status → ¬ (status ≡ Usage) → TellsFaults s t status → Ran c calls s t status
  ran_gen is g never faults = record { does = subst (Does c calls s t status) (sym is) g; never_usage = never; faults = faults }

  pub ran_serve : c.mode ≡ Serve → ServesLines c calls s t status → ¬ (status ≡ Usage) → TellsFaults s t status → Ran c calls s t status
  ran_serve is l never faults = record { does = subst (Does c calls s t status) (sym is) l; never_usage = never; faults = faults }

first_none : (left : Option (List ℕ)) → IfSome left (λ input. (later : List (List ℕ)) × (asked (lines input) ≡ [] ++ later))
first_none None = tt
first_none (Some input) = (asked (lines input), refl)

-- ---- nothing was read or written, for want of memory, and then the board was closed, if there was one

module _ (nothing : NothingIsServed) (c : Command) (s : Outside) where
  abbrev only_close : List BoardCall
  only_close = made close closed_now ∷ []

  no_text : AnswersText c only_close s s Memory
  no_text = record { answered = λ h. absurd h; silent = λ _. refl; front = λ e. absurd (cc); full = λ e. absurd (cc); within = λ _. none_within s.left; complete = λ _ _ _. inr refl }

  no_summary : Generates c only_close s s Memory
  no_summary = record {
    generated = λ h. absurd h;
    silent = λ _. refl;
    front = λ e. absurd (cc);
    starved = λ _ _. none_starved c.turns [] refl;
    worth = λ e. absurd (cc);
    unread = refl;
    never_reads = λ e. cc;
    never_full = λ e. cc;
    complete = λ _. inr refl;
  }

  no_worth : SessionWorth s.left s.held s.held
  no_worth = record { served = []; replies = []; first = first_none s.left; written_of = 0; written = Adds-nil s.held; worth = worth.AreWorth.no_lines }

  no_lines : ServesLines c only_close s s Memory
  no_lines = record { served = nothing c.turns c.workers s.left s.held; worth = no_worth; within = λ _. none_within_session s.left; complete = λ _ _ _. inr refl }

  nothing_does : (mode : Mode) → Does c only_close s s Memory mode
  nothing_does Check = no_text
  nothing_does Serve = no_lines
  nothing_does Recheck = no_text
  nothing_does Gen = no_summary
  nothing_does Smoke = no_text

  pub nothing_ran : Ran c only_close s s Memory
  nothing_ran = record { does = nothing_does c.mode; never_usage = λ e. cc; faults = record { read_fault = λ e. absurd (cc); read_quiet = λ _. refl; write_fault = λ e. absurd (cc); write_quiet = λ _. refl } }

  pub nothing_runs : Runs c s s Memory
  nothing_runs = (only_close, nothing_ran)
