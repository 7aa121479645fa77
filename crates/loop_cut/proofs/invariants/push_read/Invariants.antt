use Rattle.std.proofs.Common.{◌≡◌, ◌++◌, map, drop}
use Rattle.flow_core.specs.Clause.{read_invariant}
use Rattle.flow_core.specs.Reader.{command_of}
use Rattle.loop_cut.proofs.invariants.push_read.Given as goal

-- the commands so far, and then those of the invariants that are ahead
abbrev pub invariant-loop-invariant : goal.invariant-loop-invariant
invariant-loop-invariant l =
    l.commands.items ++ map command_of (map (read_invariant l.kind) (drop l.invariant-index l.invariants))
    ≡ l.fn.commands.items ++ map command_of (map (read_invariant l.kind) l.invariants)
