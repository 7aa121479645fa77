use Rattle.std.proofs.Common.{◌≡◌, map, length}
use Rattle.std.specs.Vec.Iter.{into_iter_items, into_iter_len}
use Rattle.program_edits.specs.Replaced.{unless_misnamed, all_placed}
use Rattle.program_edits.proofs.Replacing.{behind}
use Rattle.program_edits.proofs.replaced.all_placed.Given as goal

-- those that are found, and what is found of the others
abbrev pub invariant-loop-decl : goal.invariant-loop-decl
invariant-loop-decl l = record {
  left : behind l.found.items (all_placed l.old (map unless_misnamed (into_iter_items l.decl-iterator))) ≡ all_placed l.old (map unless_misnamed l.fn.decls.items);
  counted : into_iter_len l.decl-iterator ≡ length (into_iter_items l.decl-iterator);
}
