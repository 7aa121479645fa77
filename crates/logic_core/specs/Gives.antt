-- What code with a NormalFault says of a computation that gives None where a number leaves 128 bits.
use Rattle.std.specs.Prelude.{◌≡◌, Option, Some, None, Result, Ok, Err}
use Rattle.logic_core.specs.declared.fault.NormalFault.{NormalFault}
use Rattle.logic_core.specs.declared.fault.NormalFault.TheVariants.{Wide}

-- what is seen of an Ok is what the computation gives; Wide comes only where it gives nothing. So only want of memory stands in place of either
abbrev pub GivesAs : {A B : Type 0} → (A → B) → Result A NormalFault → Option B → Type 0
GivesAs seen (Ok a) o = o ≡ Some (seen a)
GivesAs seen (Err e) o = e ≡ Wide → o ≡ None

abbrev pub Gives : {A : Type 0} → Result A NormalFault → Option A → Type 0
Gives r o = GivesAs (λ a. a) r o
