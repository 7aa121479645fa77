-- Accepted proofs: every node meets its rule's condition, and every branch ends in a close.
use Rattle.std.specs.Prelude.{◌≡◌, IsTrue, ⊤, Some, List, [], ◌∷◌}
use Rattle.logic_core.specs.Def.{Def, Obligation}
use Rattle.proof_core.specs.Proof.{Step, Proof, proof, Proofs, no_proofs, one_proof, End, by_close, by_cases, by_condition, by_past, by_trichotomy}
use Rattle.proof_core.specs.Context.{Context, start}
use Rattle.proof_core.specs.Close.{closes}
use Rattle.proof_core.specs.Steps.{after_step}
use Rattle.proof_core.specs.Ends.{after_cases, after_condition, after_past, after_trichotomy}

module _ (defs : List Def) where
  -- each step meets its condition, and the last one leads to d
  abbrev pub Leads : Context → List Step → Context → Type 0
  Leads c [] d = c ≡ d
  Leads c (s ∷ ss) d = (m : Context) × (after_step defs c s ≡ Some m) × Leads m ss d

  abbrev mutual
    -- the proof refutes the facts of the context
    pub Refutes : Context → Proof → Type 0
    Refutes c (proof ss e) = (d : Context) × Leads c ss d × Ends d e

    pub Ends : Context → End → Type 0
    Ends c (by_close f g) = IsTrue (closes c f g)
    Ends c (by_cases f p ps) = (d : Context) × (ds : List Context) × (after_cases defs c f ≡ Some (d, ds)) × Refutes d p × RefuteEach ds ps
    Ends c (by_condition f t p q) = (d : Context) × (e : Context) × (after_condition defs c f t ≡ Some (d, e)) × Refutes d p × Refutes e q
    Ends c (by_past t p q r) = (d : Context) × (e : Context) × (g : Context) × (after_past defs c t ≡ Some (d, e, g)) × Refutes d p × Refutes e q × Refutes g r
    Ends c (by_trichotomy t p q r) = (d : Context) × (e : Context) × (g : Context) × (after_trichotomy defs c t ≡ Some (d, e, g)) × Refutes d p × Refutes e q × Refutes g r

    -- one proof for each child
    pub RefuteEach : List Context → Proofs → Type 0
    RefuteEach [] no_proofs = ⊤
    RefuteEach (d ∷ ds) (one_proof p ps) = Refutes d p × RefuteEach ds ps
    RefuteEach [] (one_proof p ps) = ⊥
    RefuteEach (d ∷ ds) no_proofs = ⊥

-- the proof refutes the facts at the start
abbrev pub IsAccepted : Obligation → Proof → Type 0
IsAccepted o p = (c : Context) × (start o ≡ Some c) × Refutes o.defs c p
