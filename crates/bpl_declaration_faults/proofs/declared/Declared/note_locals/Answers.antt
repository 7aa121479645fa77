use Rattle.std.proofs.Common.{◌++◌, arith}
use Rattle.std.proofs.lemmas.Grind.{common_steps}
use Rattle.bpl_ast.specs.Tree.{Groups}
use Rattle.bpl_scopes.specs.CountsView.{counts_seen}
use Rattle.bpl_scopes.specs.declared.part.Part.TheVariants.{ClauseOfLocal as in_clause_of_local}
use Rattle.bpl_scopes.specs.TypeFaults.{group_type_faults}
use Rattle.bpl_faults.specs.ExprFaults.{group_clause_faults}
use Rattle.bpl_declaration_faults.specs.Variables.{scope_of}
use Rattle.bpl_declaration_faults.proofs.DeclSteps.{locals_walked}
use Rattle.bpl_declaration_faults.proofs.declared.Declared.note_locals.Goals as goal

pub loop-groups-preserved : goal.loop-groups-preserved
loop-groups-preserved c =
    locals_walked (λ (gs : Groups). group_type_faults c.args.self.now.environment.now c.args.names.now gs ++ group_clause_faults (scope_of c.args.self.now.environment.now (counts_seen c.args.self.now.counts) in_clause_of_local c.args.vars.now) gs)
    c.args.locals.now c.loop-groups.groups-index c.groups-item.result
    c.loop-groups.faults.first c.note_local.new.faults.first _ c.loop-groups-test.true c.groups-item.is (grind (arith, common_steps)) c.loop-groups.invariant
