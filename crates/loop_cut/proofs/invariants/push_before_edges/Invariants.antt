use Rattle.std.proofs.Common.{◌≡◌, ◌++◌, drop}
use Rattle.loop_cut.specs.Cut.{before_edges}
use Rattle.loop_cut.proofs.invariants.push_before_edges.Given as goal

-- the commands so far, and then those before the edges that are ahead
abbrev pub invariant-loop-c : goal.invariant-loop-c
invariant-loop-c l =
    l.commands.items ++ before_edges l.blocks l.b (drop l.c-index l.next)
    ≡ l.fn.commands.items ++ before_edges l.blocks l.b l.next
