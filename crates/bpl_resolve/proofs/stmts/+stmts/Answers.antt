use Rattle.std.proofs.Common.{◌≡◌, ap, ◌∙◌, map, arith}
use Rattle.std.proofs.lemmas.Grind.{common_steps}
use Rattle.bpl_faults.specs.ScopeView.{scope_seen}
use Rattle.bpl_model.specs.StmtView.{stmts_of as module_stmts}
use Rattle.bpl_resolve.specs.Elaborate.{stmt_of}
use Rattle.bpl_resolve.proofs.StmtLists.{stmts_are}
use Rattle.bpl_resolve.proofs.stmts.+stmts.Goals as goal

pub stmts_of-returns : goal.stmts_of-returns
stmts_of-returns t c =
    let all : c.loop-stmt.found.items ≡ map (stmt_of (scope_seen c.args.scope.now)) c.args.stmts.now = grind (arith, common_steps) in
    ap module_stmts all ∙ stmts_are (scope_seen c.args.scope.now) c.args.stmts.now
