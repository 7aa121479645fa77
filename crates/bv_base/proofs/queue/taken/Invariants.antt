use Rattle.std.proofs.Common.{◌≡◌, ◌++◌, length}
use Rattle.bv_base.proofs.queue.taken.Given as goal

-- those that are taken, and then those that are left, are those of before
abbrev pub invariant-loop-done : goal.invariant-loop-done
invariant-loop-done g l = record {
  all : l.own.items ++ l.left.items ≡ l.fn.left.items;
  many : length l.own.items ≡ l._done;
}
