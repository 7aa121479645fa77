-- The term of a number, and the numbers that code gives for terms.
use Rattle.std.specs.Prelude.{◌≡◌, ℕ, ◌<◌, List, length, Option, Some, None, Result, Ok, Err}
use Rattle.logic_core.specs.Tree.{Tree}
use Rattle.logic_core.specs.declared.fault.NormalFault.{NormalFault}
use Rattle.logic_core.specs.declared.fault.NormalFault.TheVariants.{Wide}
use Rattle.term_bank.specs.Numbered.{at}

-- the number is one of these terms, and it is that of this term
abbrev pub IsAt : List Tree → ℕ → Tree → Type 0
IsAt ts i t = (i < length ts) × (at ts i ≡ t)

-- a number for what a definition gives, and Wide only where it gives nothing
abbrev pub GivesAt : List Tree → Result ℕ NormalFault → Option Tree → Type 0
GivesAt ts (Ok i) o = (i < length ts) × (o ≡ Some (at ts i))
GivesAt ts (Err e) o = e ≡ Wide → o ≡ None
