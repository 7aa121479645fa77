use Rattle.std.proofs.Common.{◌≡◌, ◌++◌, drop, flat_map}
use Rattle.bpl_ast.specs.Statement.{Decl}
use Rattle.bpl_scopes.specs.CountsView.{counts_seen}
use Rattle.bpl_resolve.specs.Implemented.{bodies_seen, procs_with}
use Rattle.bpl_resolve.proofs.procedures.procedures_with.Given as goal

abbrev pub invariant-loop-decl : goal.invariant-loop-decl
invariant-loop-decl l = l.procs.items ++ flat_map (λ (d : Decl). procs_with l.implementations.names (bodies_seen l.implementations.bodies.items) l.declared.environment.now (counts_seen l.declared.counts) d.body) (drop l.decl-index l.decls) ≡ flat_map (λ (d : Decl). procs_with l.implementations.names (bodies_seen l.implementations.bodies.items) l.declared.environment.now (counts_seen l.declared.counts) d.body) l.decls
