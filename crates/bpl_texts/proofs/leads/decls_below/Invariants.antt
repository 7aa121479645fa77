use Rattle.std.proofs.Common.{◌≡◌, ◌++◌, drop}
use Rattle.bpl_dependencies.specs.AppliedView.{texts_seen}
use Rattle.bpl_texts.specs.Leads.{decls_below}
use Rattle.bpl_texts.proofs.leads.decls_below.Given as goal

abbrev pub invariant-loop-name : goal.invariant-loop-name
invariant-loop-name l = l.decls.items ++ decls_below l.table l.count (texts_seen (drop l.name-index l.names)) ≡ decls_below l.table l.count (texts_seen l.names)
