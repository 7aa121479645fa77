-- Linear facts by number, and the linear facts that they stand for.
use Rattle.std.specs.Prelude.{◌≡◌, ℕ, ◌<◌, nat_eq, Bool, ◌&&◌, not, List, [], map, length}
use Rattle.std.specs.List.{AllByRecursion}
use Rattle.logic_core.specs.Tree.{Kind, Tree}
use Rattle.logic_core.specs.Def.{Def}
use Rattle.logic_core.specs.Combine.{sum_of}
use Rattle.term_bank.specs.Numbered.{at}
use Rattle.theory_rules.specs.Combining as combining
use Rattle.numbered_theory.specs.declared.entries.Entry.{Entry}

module _ (ts : List Tree) where
  abbrev pub entry_at : Entry → combining.Entry
  entry_at e = record { number = e.number; form = sum_of (at ts e.sum); turned = e.turned }

  abbrev pub entries_at : List Entry → List combining.Entry
  entries_at es = map entry_at es

-- the number of its sum is that of a term
abbrev pub IsEntryBelow : ℕ → Entry → Type 0
IsEntryBelow size e = e.sum < size

-- it is of this sum, and counts as it is
abbrev pub has_sum : ℕ → Entry → Bool
has_sum i e = not e.turned && nat_eq e.sum i

-- they are those that stand for these
abbrev pub AreEntriesAt : List Tree → List Entry → List combining.Entry → Type 0
AreEntriesAt ts es fs = AllByRecursion (IsEntryBelow (length ts)) es × (entries_at ts es ≡ fs)

-- of a branch its variables alone matter
abbrev pub entries_over : List Kind → List Def → Tree → ℕ → List combining.Entry
entries_over vars defs t n = combining.entries_of defs (record { facts = []; calls = []; marks = []; vars = vars; next = 0 }) (record { term = t; number = n })
