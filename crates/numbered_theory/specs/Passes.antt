-- The two formulas with which a child begins, by number.
use Rattle.std.specs.Prelude.{◌≡◌, ℕ, ◌<◌, Option, Some, None, Result, Ok, Err, List, length}
use Rattle.logic_core.specs.Tree.{Tree}
use Rattle.logic_core.specs.declared.fault.NormalFault.{NormalFault}
use Rattle.logic_core.specs.declared.fault.NormalFault.TheVariants.{Wide}
use Rattle.term_bank.specs.Numbered.{at}

-- two formulas for what a definition gives, and Wide only where it gives nothing
abbrev pub GivesFormsAt : List Tree → Result (ℕ × ℕ) NormalFault → Option (Tree × Tree) → Type 0
GivesFormsAt ts (Ok p) o = (p.0 < length ts) × ((p.1 < length ts) × (o ≡ Some (at ts p.0, at ts p.1)))
GivesFormsAt ts (Err e) o = e ≡ Wide → o ≡ None
