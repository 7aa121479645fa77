-- Pairs of linear facts of which nothing comes, kept from branch to branch.
use Rattle.std.specs.Prelude.{◌≡◌, ℕ, ◌≤◌, List, [], length, take}
use Rattle.std.specs.List.{AllByRecursion}
use Rattle.logic_core.specs.Tree.{Tree}
use Rattle.tableau_branch.specs.Branch.{none, first_attempt}
use Rattle.theory_rules.specs.Combining as combining
use Rattle.theory_rules.specs.Combining.{combine_pair, pairs_from}
use Rattle.numbered_theory.specs.Entries.{entries_at, IsEntryBelow}
use Rattle.numbered_theory.specs.declared.entries.Entry.{Entry}
use Rattle.numbered_theory.specs.declared.tried.Tried.{Tried}

-- beside these facts nothing comes of the pairs of so many of them, from the first on
abbrev pub IsTried : List combining.Entry → ℕ → Type 0
IsTried es k = first_attempt (combine_pair es) (pairs_from [] (take k es)) ≡ none

pub record AreTried (ts : List Tree) (t : Tried) : Type 0 where
  pub entries : AllByRecursion (IsEntryBelow (length ts)) t.entries.items
  pub within : t.pairs ≤ length t.entries.items
  pub tried : IsTried (entries_at ts t.entries.items) t.pairs
