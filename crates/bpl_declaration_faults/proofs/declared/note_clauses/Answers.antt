use Rattle.std.proofs.Common.{arith, drop-cons}
use Rattle.std.proofs.lemmas.Grind.{common_steps}
use Rattle.bpl_declaration_faults.proofs.DeclSteps.{clauses_next}
use Rattle.bpl_declaration_faults.proofs.declared.note_clauses.Goals as goal

pub loop-group-preserved : goal.loop-group-preserved
loop-group-preserved c = grind (arith, common_steps, clauses_next, drop-cons)
