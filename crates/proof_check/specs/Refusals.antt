-- What code with a Refusal says of a rule that gives None where its condition isn't met.
use Rattle.std.specs.Prelude.{◌≡◌, Option, Some, None, Result, Ok, Err}
use Rattle.logic_core.specs.declared.fault.NormalFault.{NormalFault}
use Rattle.logic_core.specs.declared.fault.NormalFault.TheVariants as number
use Rattle.proof_check.specs.declared.fault.Refusal.{Refusal}
use Rattle.proof_check.specs.declared.fault.Refusal.TheVariants.{Memory, Unmet}

-- a node whose arithmetic leaves 128 bits is refused
abbrev pub refusal_of : NormalFault → Refusal
refusal_of number.Memory = Memory
refusal_of number.Wide = Unmet

-- what is seen of an Ok is what the rule gives; Unmet comes only where it gives nothing. So only want of memory stands in place of either
abbrev pub FindsAs : {A B : Type 0} → (A → B) → Result A Refusal → Option B → Type 0
FindsAs seen (Ok a) o = o ≡ Some (seen a)
FindsAs seen (Err e) o = e ≡ Unmet → o ≡ None

abbrev pub Finds : {A : Type 0} → Result A Refusal → Option A → Type 0
Finds r o = FindsAs (λ a. a) r o
