-- What the checker's code says of the verdict on a proof.
use Rattle.std.specs.Prelude.{◌≡◌, ⊤, ℕ, List, Result, Ok, Err, IsOk}
use Rattle.proof_core.specs.declared.rule.Rule.{Rule}
use Rattle.proof_core.specs.RuleView.{rule_of}
use Rattle.proof_core.specs.Proof.{Proof}
use Rattle.proof_core.specs.Context.{Context}
use Rattle.proof_core.specs.Verdict.{Refused, and_then, judged}
use Rattle.logic_core.specs.Def.{Def}
use Rattle.proof_check.specs.declared.fault.Refusal.{Refusal}
use Rattle.proof_check.specs.declared.fault.Refusal.TheVariants as refusal
use Rattle.proof_check.specs.declared.fault.CheckFault.{CheckFault}
use Rattle.proof_check.specs.declared.fault.CheckFault.TheVariants.{Memory, Rejected}

-- what a rule's code gives at node n, or that this node is refused
abbrev pub placed : {A : Type 0} → Result A Refusal → ℕ → Rule → Result A CheckFault
placed (Ok a) n r = Ok a
placed (Err refusal.Memory) n r = Err Memory
placed (Err refusal.Unmet) n r = Err (Rejected n r)

-- what is seen of an Ok is the verdict's, and Rejected has the verdict's refused node. So only want of memory stands in place of either
abbrev pub JudgesAs : {A B : Type 0} → (A → B) → Result A CheckFault → Result B Refused → Type 0
JudgesAs seen (Ok a) v = v ≡ Ok (seen a)
JudgesAs seen (Err Memory) v = ⊤
JudgesAs seen (Err (Rejected n r)) v = v ≡ Err (record { node = n; rule = rule_of r })

-- the same where an Ok has nothing to see
abbrev pub Judges : {A B : Type 0} → Result A CheckFault → Result B Refused → Type 0
Judges (Ok a) v = IsOk v
Judges (Err Memory) v = ⊤
Judges (Err (Rejected n r)) v = v ≡ Err (record { node = n; rule = rule_of r })

-- the proofs of three children in order, from node n on
abbrev pub judged_three : List Def → ℕ → Context × Context × Context → Proof → Proof → Proof → Result ℕ Refused
judged_three defs n ds p q r = and_then (judged defs n ds.0 p) (λ m. and_then (judged defs m ds.1 q) (λ k. judged defs k ds.2 r))
