use Rattle.std.proofs.Common.{◌≡◌}
use Rattle.logic_core.proofs.AtomAdded.{Past}
use Rattle.logic_core.proofs.sum.add_atom.Given as goal

abbrev pub invariant-loop-i : goal.invariant-loop-i
invariant-loop-i l = record { past : Past l.fn.k l.fn.t l.parts.items l.i; same : l.t ≡ l.fn.t }
