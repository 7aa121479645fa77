use Rattle.std.proofs.Common.{◌≡◌, length}
use Rattle.std.specs.Vec.Iter.{into_iter_items, into_iter_len}
use Rattle.logic_core.specs.View.{parts_of}
use Rattle.logic_core.specs.Sum.{add_parts}
use Rattle.logic_core.proofs.sum.Linear.add_parts.Given as goal

-- what the parts that are left give is what all gave
abbrev pub invariant-loop-j : goal.invariant-loop-j
invariant-loop-j l = record {
  left : add_parts l.fn.k (parts_of (into_iter_items l.j-iterator)) l.sum ≡ add_parts l.fn.k (parts_of l.fn.parts.items) l.fn.self;
  counted : into_iter_len l.j-iterator ≡ length (into_iter_items l.j-iterator);
}
