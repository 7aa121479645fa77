use Rattle.std.proofs.Common.{◌≡◌, ◌++◌, drop}
use Rattle.bpl_resolve.specs.Implemented.{names_of_bodies, bodies_given}
use Rattle.bpl_sorts.specs.BodiesFound.{bodies_seen}
use Rattle.bpl_sorts.proofs.procedure_types.Implementations.of.Given as goal

abbrev pub invariant-loop-decl : goal.invariant-loop-decl
invariant-loop-decl l = record {
  names : l.found.names ++ names_of_bodies (drop l.decl-index l.decls) ≡ names_of_bodies l.decls;
  bodies : bodies_seen l.found.bodies.items ++ bodies_given (drop l.decl-index l.decls) ≡ bodies_given l.decls;
}
