use Rattle.std.proofs.Common.{◌≡◌, [], length, drop, replicate}
use Rattle.bpl_scopes.specs.Functions.{function_in}
use Rattle.bpl_scopes.specs.KnownSorts.{names_in}
use Rattle.bpl_scopes.specs.Scopes.{entity_of}
use Rattle.bpl_scopes.specs.TableView.{entries_seen}
use Rattle.bpl_sorts.specs.Types.{integers}
use Rattle.bpl_sorts.specs.TypeShapes.{heads_put}
use Rattle.bpl_sorts.specs.TypesView.{heads_seen}
use Rattle.bpl_sorts.specs.DeclaredTypes.{head_of}
use Rattle.bpl_sorts.proofs.function_types.heads_in.Given as goal

abbrev pub invariant-loop-entry : goal.invariant-loop-entry
invariant-loop-entry l = heads_put (λ n. head_of l.known (function_in (entity_of l.table n))) l.order (names_in (entries_seen (drop l.entry-index l.entries))) (heads_seen l.heads.items) ≡ heads_put (λ n. head_of l.known (function_in (entity_of l.table n))) l.order (names_in (entries_seen l.entries)) (replicate (length l.order) ([], integers))
