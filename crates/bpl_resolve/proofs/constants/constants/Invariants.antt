use Rattle.std.proofs.Common.{◌≡◌, ◌++◌, drop, flat_map}
use Rattle.bpl_ast.specs.Statement.{Decl}
use Rattle.bpl_scopes.specs.CountsView.{counts_seen}
use Rattle.bpl_resolve.specs.Elaborate.{consts_in}
use Rattle.bpl_resolve.proofs.constants.constants.Given as goal

abbrev pub invariant-loop-decl : goal.invariant-loop-decl
invariant-loop-decl l = l.consts.items ++ flat_map (λ (d : Decl). consts_in l.declared.environment.now (counts_seen l.declared.counts) d.body) (drop l.decl-index l.decls) ≡ flat_map (λ (d : Decl). consts_in l.declared.environment.now (counts_seen l.declared.counts) d.body) l.decls
