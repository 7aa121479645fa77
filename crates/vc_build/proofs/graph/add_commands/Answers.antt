use Rattle.std.proofs.Common.{◌≡◌, ◌∙◌, ◌<◌, ◌+◌, ◌++◌, ◌∷◌, [], suc, length, arith, ap, sym, drop, drop-cons}
use Rattle.vc_build.specs.Goals.{goals_in}
use Rattle.vc_build.specs.Exceeds.{IsFaultOf}
use Rattle.vc_build.proofs.Limits.{fault_before, at_exit}
use Rattle.vc_build.proofs.GoalsInOrder.{goals_next}
use Rattle.vc_build.proofs.graph.add_commands.Goals as goal

pub returns-in_err-add_command-clause-fault : goal.returns-in_err-add_command-clause-fault
returns-in_err-add_command-clause-fault c =
    let g = c.args.passive.now in
    let defs = c.args.defs.now in
    let axioms = c.args.axioms.now in
    let k = c.args.block in
    let commands = c.args.commands.now in
    let i = c.loop-at.at in
    let command = c.index-commands-at.result in
    let all = c.args.tally.now ++ goals_in g defs axioms k 0 commands in
    let fault = c.in_err-add_command.field-0.0 in
    let below : i < length commands = omega (arith, c.loop-at-test.true) in
    let next : drop i commands ≡ command ∷ drop (suc i) commands = drop-cons commands i command below ∙ ap (λ x. x ∷ drop (suc i) commands) (sym c.index-commands-at.is) in
    at_exit (IsFaultOf all) c.from_residual.result fault c.from_residual.ensures.1
    (fault_before c.loop-at.tally (goals_in g defs axioms k i (command ∷ [])) (goals_in g defs axioms k (i + 1) (drop (suc i) commands)) all fault
    (ap (λ gs. c.loop-at.tally ++ gs) (sym (ap (goals_in g defs axioms k i) next ∙ goals_next g defs axioms k i command (drop (suc i) commands))) ∙ c.loop-at.invariant) c.in_err-add_command.ensures.fault)
