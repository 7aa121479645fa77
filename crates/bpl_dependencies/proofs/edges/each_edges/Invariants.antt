use Rattle.std.proofs.Common.{◌≡◌, map, take, Some}
use Rattle.bpl_scopes.specs.TableView.{entries_seen}
use Rattle.bpl_dependencies.specs.Reach.{next_of, first_position, edges_seen}
use Rattle.bpl_dependencies.proofs.edges.each_edges.Given as goal

abbrev pub invariant-loop-entry : goal.invariant-loop-entry
invariant-loop-entry l = map (map Some) (edges_seen l.edges.items) ≡ map (λ e. map (first_position l.table) (next_of l.table e.name)) (entries_seen (take l.entry-index l.entries))
