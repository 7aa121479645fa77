use Rattle.std.proofs.Common.{[], arith}
use Rattle.std.proofs.lemmas.Grind.{common_steps}
use Rattle.bpl_ast.specs.Statement.{Argument}
use Rattle.bpl_scopes.specs.TypeFaults.{type_faults}
use Rattle.bpl_statement_faults.proofs.StmtSteps.{walked}
use Rattle.bpl_declaration_faults.proofs.functions.note_argument_types.Goals as goal

pub loop-argument-preserved : goal.loop-argument-preserved
loop-argument-preserved c =
    walked (λ (a : Argument). type_faults c.args.types.now [] a.type) c.args.ins.now c.loop-argument.argument-index c.argument-item.result
    c.loop-argument.faults.first c.note_type.new.faults.first _ c.loop-argument-test.true c.argument-item.is (grind (arith, common_steps)) c.loop-argument.invariant
