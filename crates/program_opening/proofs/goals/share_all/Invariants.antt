use Rattle.std.proofs.Common.{◌≡◌, ◌++◌, length}
use Rattle.std.specs.Vec.Iter.{into_iter_items, into_iter_len}
use Rattle.program_opening.proofs.goals.share_all.Given as goal

-- the goals so far, and then those that are left
abbrev pub invariant-loop-goal : goal.invariant-loop-goal
invariant-loop-goal l = record {
  left : l.own.items ++ into_iter_items l.goal-iterator ≡ l.fn.goals.items;
  counted : into_iter_len l.goal-iterator ≡ length (into_iter_items l.goal-iterator);
}
