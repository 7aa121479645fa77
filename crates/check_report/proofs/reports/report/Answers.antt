use Rattle.std.proofs.Common.{◌≡◌, ◌∙◌, ap, map, take, Vec, Global}
use Rattle.std.specs.List.{list_all}
use Rattle.std.proofs.lemmas.List.{take_all}
use Rattle.tableau.specs.declared.ended.Verdict.{Verdict}
use Rattle.tableau.specs.RunView.{verdict_of}
use Rattle.tableau.specs.Search.{is_proved}
use Rattle.program_opening.specs.ProcGoals.{ProcGoals}
use Rattle.report_laws.specs.Scratch.{verdicts}
use Rattle.check_report.proofs.AllFound.{all_by_parts}
use Rattle.check_report.proofs.reports.report.Goals as goal

pub returns-clause-all : goal.returns-clause-all
returns-clause-all c =
    let procs = c.args.procs.now in
    let whole : take c.loop-proc.proc-index procs ≡ procs = take_all c.loop-proc.proc-index procs c.loop-proc-test.false in
    let found = c.loop-proc.invariant.found ∙ ap (map (λ (p : ProcGoals). verdicts c.args.turns p.goals)) whole in
    c.all_are_proofs.ensures ∙ ap (list_all (λ (vs : Vec Verdict Global). list_all is_proved (map verdict_of vs.items))) c.deref-6.ensures.value
    ∙ all_by_parts c.args.turns c.loop-proc.found.items procs found
