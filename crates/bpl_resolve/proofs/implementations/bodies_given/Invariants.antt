use Rattle.std.proofs.Common.{◌≡◌, ◌++◌, drop}
use Rattle.bpl_resolve.specs.Implemented.{bodies_seen, bodies_given}
use Rattle.bpl_resolve.proofs.implementations.bodies_given.Given as goal

abbrev pub invariant-loop-decl : goal.invariant-loop-decl
invariant-loop-decl l = bodies_seen l.bodies.items ++ bodies_given (drop l.decl-index l.decls) ≡ bodies_given l.decls
