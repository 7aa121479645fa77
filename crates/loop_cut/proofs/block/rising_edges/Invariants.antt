use Rattle.std.proofs.Common.{◌≡◌, ◌++◌, nat_lt, drop}
use Rattle.std.specs.Prelude.{filter}
use Rattle.loop_cut.proofs.block.rising_edges.Given as goal

-- the edges so far, and then those that are ahead
abbrev pub invariant-loop-c : goal.invariant-loop-c
invariant-loop-c l = l.kept.items ++ filter (nat_lt l.b) (drop l.c-index l.next) ≡ filter (nat_lt l.b) l.next
