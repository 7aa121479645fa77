-- The answer of a command, from that of its mode.
use Rattle.std.proofs.Common.{◌≡◌, ◌≢◌, ℕ, true, List, Result, Ok, Err, IfOk, refl, sym, subst}
use Rattle.command_words.specs.declared.command.Command.{Command}
use Rattle.command_words.specs.declared.command.Mode.{Mode}
use Rattle.command_words.specs.declared.command.Mode.TheVariants.{Check, Serve, Recheck, Gen, Smoke}
use Rattle.report_laws.specs.Sound.{CorrectIsSafe}
use Rattle.recheck_report.specs.Worth.{AcceptedIsSafe}
use Rattle.program_opening.specs.Laws.{ModulesAreSound}
use Rattle.smoke_report.specs.Sound.{UnreachableIsUnreached}
use Rattle.text_answers.specs.declared.status.Status.{Status}
use Rattle.text_answers.specs.Modes.{answers_text}
use Rattle.text_answers.specs.Answer.{IsAnswerOf, IsCheck, IsRecheck, IsSmoke}
use Rattle.text_answers.specs.Worth.{IsWorth}
use Rattle.text_answers.specs.Answered.{IsAnswer}
use Rattle.text_answers.proofs.Worth.{check_is_worth, recheck_is_worth, smoke_is_worth}

pub record IsAnswerIn (mode : Mode) (turns : ℕ) (text written : List ℕ) (status : Status) : Type 0 where
  pub defined : IsAnswerOf mode turns text written status
  pub worth : IsWorth mode text written status

of_check : CorrectIsSafe → (mode : Mode) (turns : ℕ) (text written : List ℕ) (status : Status) → answers_text mode ≡ true → mode ≢ Recheck → mode ≢ Smoke → IsCheck turns text written status → IsAnswerIn mode turns text written status
of_check law Check turns text written status reads other another c = record { defined = c; worth = check_is_worth law turns text written status c }
of_check law Recheck turns text written status reads other another c = absurd (other refl)
of_check law Serve turns text written status reads other another c = absurd (cc)
of_check law Gen turns text written status reads other another c = absurd (cc)
of_check law Smoke turns text written status reads other another c = absurd (another refl)

of_recheck : AcceptedIsSafe → (mode : Mode) (turns : ℕ) (text written : List ℕ) (status : Status) → mode ≡ Recheck → IsRecheck text written status → IsAnswerIn mode turns text written status
of_recheck law mode turns text written status is r = subst (λ m. IsAnswerIn m turns text written status) (sym is) (record { defined = r; worth = recheck_is_worth law text written status r })

of_smoke : UnreachableIsUnreached → ModulesAreSound → (mode : Mode) (turns : ℕ) (text written : List ℕ) (status : Status) → mode ≡ Smoke → IsSmoke turns text written status → IsAnswerIn mode turns text written status
of_smoke law modules mode turns text written status is s = subst (λ m. IsAnswerIn m turns text written status) (sym is) (record { defined = s; worth = smoke_is_worth law modules turns text written status s })

module _ {A E : Type 0} (written : A → List ℕ) (status : A → Status) where
  pub check_answers : CorrectIsSafe → (c : Command) (text : List ℕ) (r : Result A E) → answers_text c.mode ≡ true → c.mode ≢ Recheck → c.mode ≢ Smoke
      → IfOk r (λ a. IsCheck c.turns text (written a) (status a)) → IfOk r (λ a. IsAnswer c text (written a) (status a))
  check_answers law c text (Ok a) reads other another h =
      let found = of_check law c.mode c.turns text (written a) (status a) reads other another h in
      record { defined = found.defined; worth = found.worth }
  check_answers law c text (Err e) reads other another h = tt

  pub recheck_answers : AcceptedIsSafe → (c : Command) (text : List ℕ) (r : Result A E) → c.mode ≡ Recheck
      → IfOk r (λ a. IsRecheck text (written a) (status a)) → IfOk r (λ a. IsAnswer c text (written a) (status a))
  recheck_answers law c text (Ok a) is h =
      let found = of_recheck law c.mode c.turns text (written a) (status a) is h in
      record { defined = found.defined; worth = found.worth }
  recheck_answers law c text (Err e) is h = tt

  pub smoke_answers : UnreachableIsUnreached → ModulesAreSound → (c : Command) (text : List ℕ) (r : Result A E) → c.mode ≡ Smoke
      → IfOk r (λ a. IsSmoke c.turns text (written a) (status a)) → IfOk r (λ a. IsAnswer c text (written a) (status a))
  smoke_answers law modules c text (Ok a) is h =
      let found = of_smoke law modules c.mode c.turns text (written a) (status a) is h in
      record { defined = found.defined; worth = found.worth }
  smoke_answers law modules c text (Err e) is h = tt
