use Rattle.std.proofs.Common.{◌≡◌, [], take, drop}
use Rattle.logic_core.specs.Sorts.{bodies_sorted}
use Rattle.bpl_typing.proofs.parts.are_bodies_sorted.Given as goal

abbrev pub invariant-loop-i : goal.invariant-loop-i
invariant-loop-i l = bodies_sorted l.vars (take l.i l.defs) (drop l.i l.defs) ≡ bodies_sorted l.vars [] l.defs
