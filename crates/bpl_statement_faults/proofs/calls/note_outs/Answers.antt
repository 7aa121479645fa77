use Rattle.std.proofs.Common.{ap, sym, ◌∙◌, arith, drop-cons}
use Rattle.std.proofs.lemmas.Grind.{common_steps}
use Rattle.bpl_scopes.specs.Fault.{earlier, first_fault}
use Rattle.bpl_scopes.proofs.FirstFault.{earlier-none}
use Rattle.bpl_statement_faults.proofs.StmtSteps.{outs_next}
use Rattle.bpl_statement_faults.proofs.CallSteps.{outs_end}
use Rattle.bpl_statement_faults.proofs.calls.note_outs.Goals as goal

pub loop-i-preserved : goal.loop-i-preserved
loop-i-preserved c = grind (arith, common_steps, outs_next, drop-cons)

pub returns : goal.returns
returns c =
    sym (earlier-none c.loop-i.faults.first)
    ∙ ap (λ fs. earlier c.loop-i.faults.first (first_fault fs)) (sym (outs_end c.loop-i.i c.args.targets.now c.args.outs.now c.args.at (omega (arith, c.loop-i-test.false))))
    ∙ c.loop-i.invariant
