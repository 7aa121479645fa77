use Rattle.std.proofs.Common.{◌≡◌, ◌≤◌, ◌++◌, drop}
use Rattle.program_edits.specs.Edited.{numbered}
use Rattle.program_edits.specs.Seen.{decls_seen}
use Rattle.program_edits.proofs.places.numbered.Given as goal

abbrev pub invariant-loop-decl : goal.invariant-loop-decl
invariant-loop-decl l = record {
  numbered : l.found.items ++ numbered l.axioms (decls_seen (drop l.decl-index l.decls)) ≡ numbered 0 (decls_seen l.decls);
  few : l.axioms ≤ l.decl-index;
}
