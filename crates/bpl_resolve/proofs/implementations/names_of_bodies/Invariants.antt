use Rattle.std.proofs.Common.{◌≡◌, ◌++◌, drop}
use Rattle.bpl_resolve.specs.Implemented.{names_of_bodies}
use Rattle.bpl_resolve.proofs.implementations.names_of_bodies.Given as goal

abbrev pub invariant-loop-decl : goal.invariant-loop-decl
invariant-loop-decl l = l.names ++ names_of_bodies (drop l.decl-index l.decls) ≡ names_of_bodies l.decls
