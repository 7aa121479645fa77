use Rattle.std.proofs.Common.{◌≡◌, take}
use Rattle.bpl_scopes.specs.TableView.{entries_seen}
use Rattle.bpl_dependencies.specs.Reach.{flags_at, is_quantified_at}
use Rattle.bpl_dependencies.proofs.flags.each_quantified.Given as goal

abbrev pub invariant-loop-entry : goal.invariant-loop-entry
invariant-loop-entry l = l.flags.items ≡ flags_at (entries_seen (take l.entry-index l.entries)) (is_quantified_at l.table)
