use Rattle.std.proofs.Common.{◌≡◌, ◌+◌, length}
use Rattle.user_types.specs.Views.{counted}
use Rattle.user_types.proofs.constants.make_room.Given as goal

abbrev pub invariant-loop-more : goal.invariant-loop-more
invariant-loop-more l = record {
  same : counted l.counts.items ≡ counted l.fn.counts.items;
  longer : length l.counts.items ≡ length l.fn.counts.items + l.more;
}
