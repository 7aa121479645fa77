use Rattle.bpl_ast.specs.Statement.{Decl}
use Rattle.bpl_scopes.specs.CountsView.{counts_seen}
use Rattle.bpl_resolve.proofs.ListSteps.{flat_pushed}
use Rattle.bpl_resolve.specs.Elaborate.{globals_in}
use Rattle.bpl_resolve.proofs.globals.globals.Goals as goal

pub loop-decl-preserved : goal.loop-decl-preserved
loop-decl-preserved c = flat_pushed (λ (d : Decl). globals_in c.args.declared.now.environment.now (counts_seen c.args.declared.now.counts) d.body) c.args.decls.now c.loop-decl.decl-index c.decl-item.result c.loop-decl.globals.items c.push_globals.new.globals.items _ c.loop-decl-test.true c.decl-item.is c.in_ok-push_globals.ensures c.loop-decl.invariant
