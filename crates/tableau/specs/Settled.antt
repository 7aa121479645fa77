-- A settled question: an obligation and turns, with the search's answer.
use Rattle.std.specs.Prelude.{◌≡◌, ℕ, zero, suc, Option, IfSome, refl}
use Rattle.std.specs.Coded.{Coded, code_by, coded×, coded_option, coded_ℕ}
use Rattle.obligation_text.specs.Asked.{Asked, coded_asked}
use Rattle.proof_core.specs.Proof.{Proof}
use Rattle.proof_core.specs.Codes.{coded_proof}
use Rattle.proof_core.specs.Accepted.{IsAccepted}
use Rattle.tableau.specs.Search.{Verdict, proved, «open», turns as no_turns, wide, answer}

pub record Settled : Type 0 where
  pub question : Asked
  pub verdict : Verdict
  pub found : Option Proof

-- what the search answers to a question
abbrev pub settled_by : Asked → Settled
settled_by q = let a = answer q.obligation q.turns in record { question = q; verdict = a.verdict; found = a.found }

-- the verdict and the proof are the search's answer to the question, and the proof is accepted
pub record IsRight (s : Settled) : Type 0 where
  pub answered : s ≡ settled_by s.question
  pub accepted : IfSome s.found (IsAccepted (s.question).obligation)

abbrev number_of : Verdict → ℕ
number_of proved = 0
number_of «open» = 1
number_of no_turns = 2
number_of wide = 3

abbrev verdict_with : ℕ → Verdict
verdict_with zero = proved
verdict_with (suc zero) = «open»
verdict_with (suc (suc zero)) = no_turns
verdict_with (suc (suc (suc n))) = wide

pub with_number : (v : Verdict) → verdict_with (number_of v) ≡ v
with_number proved = refl
with_number «open» = refl
with_number no_turns = refl
with_number wide = refl

abbrev coded_verdict : Coded Verdict
coded_verdict = code_by ℕ coded_ℕ number_of verdict_with with_number

abbrev pub coded_settled : Coded Settled
coded_settled = code_by (Asked × (Verdict × Option Proof)) (coded× coded_asked (coded× coded_verdict (coded_option coded_proof))) (λ s. (s.question, (s.verdict, s.found))) (λ p. record { question = p.0; verdict = (p.1).0; found = (p.1).1 }) (λ _. refl)
