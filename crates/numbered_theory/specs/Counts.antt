-- How often a fact counts as a linear fact.
use Rattle.std.specs.Prelude.{ℕ, true, false, List, [], ◌∷◌}
use Rattle.logic_core.specs.Tree.{Tree}
use Rattle.theory_rules.specs.Combining as combining
use Rattle.numbered_theory.specs.Entries.{AreEntriesAt}
use Rattle.numbered_theory.specs.declared.entries.Entry.{Entry}
use Rattle.numbered_theory.specs.declared.entries.Often.{Often}
use Rattle.numbered_theory.specs.declared.entries.Often.TheVariants.{Never, Once, Twice}

-- the entries of a fact of this number
abbrev pub counted_as : Often → ℕ → List Entry
counted_as Never n = []
counted_as (Once i) n = record { number = n; sum = i; turned = false } ∷ []
counted_as (Twice i) n = record { number = n; sum = i; turned = false } ∷ record { number = n; sum = i; turned = true } ∷ []

-- they stand for these, whatever the number is
abbrev pub Counts : List Tree → Often → (ℕ → List combining.Entry) → Type 0
Counts ts c f = (n : ℕ) → AreEntriesAt ts (counted_as c n) (f n)
