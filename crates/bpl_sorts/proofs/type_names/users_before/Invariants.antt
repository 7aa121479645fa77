use Rattle.std.proofs.Common.{◌≡◌, ◌++◌, drop}
use Rattle.bpl_scopes.specs.TableView.{entries_seen}
use Rattle.bpl_sorts.specs.TypeNames.{users_before}
use Rattle.bpl_sorts.proofs.type_names.users_before.Given as goal

abbrev pub invariant-loop-entry : goal.invariant-loop-entry
invariant-loop-entry l = l.numbers.items ++ users_before l.users (entries_seen (drop l.entry-index l.entries)) ≡ users_before 0 (entries_seen l.entries)
