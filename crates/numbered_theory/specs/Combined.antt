-- Combinations of linear facts by number, and the combinations that they stand for.
use Rattle.std.specs.Prelude.{◌≡◌, ℕ, ◌<◌, Option, Some, None, Result, Ok, Err, List, length}
use Rattle.logic_core.specs.Tree.{Tree}
use Rattle.logic_core.specs.declared.fault.NormalFault.{NormalFault}
use Rattle.logic_core.specs.declared.fault.NormalFault.TheVariants.{Wide}
use Rattle.term_bank.specs.Numbered.{at}
use Rattle.tableau_branch.specs.Branch.{Attempt, none, leaves, gives}
use Rattle.theory_rules.specs.Combining as combining
use Rattle.numbered_theory.specs.Entries.{entry_at, IsEntryBelow}
use Rattle.numbered_theory.specs.declared.combining.Combined.{Combined}

abbrev pub combined_at : List Tree → Combined → combining.Combined
combined_at ts c = record { first = entry_at ts c.first; second = entry_at ts c.second; p = c.p; q = c.q; fact = at ts c.fact }

pub record IsCombinedBelow (size : ℕ) (c : Combined) : Type 0 where
  pub first : IsEntryBelow size c.first
  pub second : IsEntryBelow size c.second
  pub fact : c.fact < size

-- a combination for what a definition gives, and Wide only where it gives nothing
abbrev pub CombinesAt : List Tree → Result Combined NormalFault → Option combining.Combined → Type 0
CombinesAt ts (Ok c) o = IsCombinedBelow (length ts) c × (o ≡ Some (combined_at ts c))
CombinesAt ts (Err e) o = e ≡ Wide → o ≡ None

-- the same of what passes over pairs: None where there is nothing at any of them
abbrev pub AttemptsAt : List Tree → Result (Option Combined) NormalFault → Attempt combining.Combined → Type 0
AttemptsAt ts (Ok None) x = x ≡ none
AttemptsAt ts (Ok (Some c)) x = IsCombinedBelow (length ts) c × (x ≡ gives (combined_at ts c))
AttemptsAt ts (Err e) x = e ≡ Wide → x ≡ leaves
