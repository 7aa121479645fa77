-- The node of a proof that is refused: the first in preorder, counted from 1, whose rule's condition is not met.
use Rattle.std.specs.Prelude.{◌↔◌, ℕ, ◌+◌, nat_eq, Option, Some, None, List, [], ◌∷◌, length, Result, Ok, Err, IsOk, if◌then◌else◌}
use Rattle.logic_core.specs.Size.{capped}
use Rattle.logic_core.specs.Def.{Def, Obligation}
use Rattle.logic_core.specs.Wide.{◌>>=◌, when}
use Rattle.proof_core.specs.Proof.{Step, Proof, proof, Proofs, no_proofs, one_proof, End, by_close, by_cases, by_condition, by_past, by_trichotomy}
use Rattle.proof_core.specs.Rule.{Rule, close, split, past, trichotomy, step_rule, first_rule}
use Rattle.proof_core.specs.Context.{Context, start}
use Rattle.proof_core.specs.Close.{closes}
use Rattle.proof_core.specs.Steps.{after_step}
use Rattle.proof_core.specs.Ends.{after_cases, after_condition, after_past, after_trichotomy}
use Rattle.proof_core.specs.Accepted.{IsAccepted}

pub record Refused : Type 0 where
  pub node : ℕ
  pub rule : Rule

abbrev pub refused : {A : Type 0} → ℕ → Rule → Result A Refused
refused n r = Err (record { node = n; rule = r })

-- the number of the next node; it stays at 2^64 - 1 for nodes beyond
abbrev pub next : ℕ → ℕ
next n = capped (n + 1)

abbrev pub and_then : {A B : Type 0} → Result A Refused → (A → Result B Refused) → Result B Refused
and_then (Ok a) f = f a
and_then (Err e) f = Err e

-- what a rule gives at node n, or that this node is refused
abbrev pub or_refused : {A : Type 0} → Option A → ℕ → Rule → Result A Refused
or_refused (Some a) n r = Ok a
or_refused None n r = refused n r

abbrev pub number_of : Proofs → ℕ
number_of no_proofs = 0
number_of (one_proof p ps) = number_of ps + 1

-- the contexts of the cases, where there is one proof for each
abbrev pub for_each : Proofs → Option (Context × List Context) → Option (Context × List Context)
for_each ps cs = cs >>= λ ds. when (nat_eq (length ds.1) (number_of ps)) (Some ds)

module _ (defs : List Def) where
  -- from node n on: the number of the node after the steps, and the context there
  abbrev pub after_steps : ℕ → Context → List Step → Result (ℕ × Context) Refused
  after_steps n c [] = Ok (n, c)
  after_steps n c (s ∷ ss) = and_then (or_refused (after_step defs c s) n (step_rule s)) (λ d. after_steps (next n) d ss)

  -- from node n on: the number of the node after the proof, where the conditions of all its nodes are met
  abbrev mutual
    pub judged : ℕ → Context → Proof → Result ℕ Refused
    judged n c (proof ss e) = and_then (after_steps n c ss) (λ p. judged_end p.0 p.1 e)

    pub judged_end : ℕ → Context → End → Result ℕ Refused
    judged_end n c (by_close f g) = if closes c f g then Ok (next n) else refused n close
    judged_end n c (by_cases f p ps) = and_then (or_refused (for_each ps (after_cases defs c f)) n split) (λ ds. and_then (judged (next n) ds.0 p) (λ m. judged_each m ds.1 ps))
    judged_end n c (by_condition f t p q) = and_then (or_refused (after_condition defs c f t) n split) (λ ds. and_then (judged (next n) ds.0 p) (λ m. judged m ds.1 q))
    judged_end n c (by_past t p q r) = and_then (or_refused (after_past defs c t) n past) (λ ds. and_then (judged (next n) ds.0 p) (λ m. and_then (judged m ds.1 q) (λ k. judged k ds.2 r)))
    judged_end n c (by_trichotomy d p q r) = and_then (or_refused (after_trichotomy defs c d) n trichotomy) (λ ds. and_then (judged (next n) ds.0 p) (λ m. and_then (judged m ds.1 q) (λ k. judged k ds.2 r)))

    -- there are as many contexts as proofs
    pub judged_each : ℕ → List Context → Proofs → Result ℕ Refused
    judged_each n (d ∷ ds) (one_proof p ps) = and_then (judged n d p) (λ m. judged_each m ds ps)
    judged_each n [] no_proofs = Ok n
    judged_each n [] (one_proof p ps) = refused n (first_rule p)
    judged_each n (d ∷ ds) no_proofs = refused n close

-- where making the facts at the start leaves 128 bits, node 1 is refused
abbrev pub verdict : Obligation → Proof → Result ℕ Refused
verdict o p = and_then (or_refused (start o) 1 (first_rule p)) (λ c. judged o.defs 1 c p)

-- no node is refused exactly where the proof is accepted
abbrev pub RefusesTheOthers : Type 0
RefusesTheOthers = (o : Obligation) (p : Proof) → IsOk (verdict o p) ↔ IsAccepted o p
