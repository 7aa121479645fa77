use Rattle.std.proofs.Common.{◌≡◌, length}
use Rattle.std.specs.Vec.Iter.{into_iter_items, into_iter_len}
use Rattle.logic_core.specs.View.{trees_of}
use Rattle.logic_core.specs.Before.{before, tree_before}
use Rattle.logic_core.specs.Junction.{operands}
use Rattle.logic_core.proofs.junction.operands.Given as goal

-- the parts so far, and then what the terms that are left give
abbrev pub invariant-loop-term : goal.invariant-loop-term
invariant-loop-term l = record {
  made : before tree_before l.parts.items (operands l.connective (trees_of (into_iter_items l.term-iterator))) ≡ operands l.connective (trees_of l.fn.terms.items);
  counted : into_iter_len l.term-iterator ≡ length (into_iter_items l.term-iterator);
}
