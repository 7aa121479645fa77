use Rattle.std.proofs.Common.{◌≡◌, drop, fold, filter, length}
use Rattle.bpl_scopes.specs.Scopes.{entity_of}
use Rattle.bpl_scopes.specs.KnownSorts.{names_in}
use Rattle.bpl_scopes.specs.TableView.{entries_seen}
use Rattle.bpl_scopes.specs.Functions.{numbered, is_function}
use Rattle.bpl_dependencies.proofs.numbers.number_functions.Given as goal

abbrev pub invariant-loop-entry : goal.invariant-loop-entry
invariant-loop-entry l = fold (numbered l.table (length l.table)) l.order (filter (λ n. is_function (entity_of l.table n)) (names_in (entries_seen (drop l.entry-index l.entries)))) ≡ fold (numbered l.table (length l.table)) l.fn.order (filter (λ n. is_function (entity_of l.table n)) (names_in (entries_seen l.entries)))
