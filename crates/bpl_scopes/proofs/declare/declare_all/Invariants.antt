use Rattle.std.proofs.Common.{◌≡◌, ◌++◌, drop}
use Rattle.bpl_scopes.specs.Scopes.{entries_after, counts_after, no_counts, table_of}
use Rattle.bpl_scopes.specs.CountsView.{counts_seen}
use Rattle.bpl_scopes.proofs.declare.declare_all.Given as goal

abbrev pub invariant-loop-i : goal.invariant-loop-i
invariant-loop-i l = record {
  entries : l.table ++ entries_after (counts_seen l.counts) l.i (drop l.i l.decls) ≡ table_of l.decls;
  counted : counts_after (counts_seen l.counts) (drop l.i l.decls) ≡ counts_after no_counts l.decls;
}
