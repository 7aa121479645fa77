use Rattle.std.proofs.Common.{◌≡◌, ◌++◌}
use Rattle.std.specs.Prelude.{None}
use lib.ListN.{replicate}
use Rattle.bpl_blocks.proofs.clauses.push_none.Given as goal

-- so many so far
abbrev pub invariant-loop-i : goal.invariant-loop-i
invariant-loop-i l = l.clauses.items ≡ l.fn.clauses.items ++ replicate l._i None
