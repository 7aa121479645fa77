use Rattle.std.proofs.Common.{◌∙◌, ap}
use Rattle.vc_build.specs.declared.goal.Goal.{Goal}
use Rattle.report_text.specs.Report.{head as head_text}
use Rattle.recheck_report.specs.JudgedView.{judged_of}
use Rattle.recheck_report.proofs.Leading.{said_by}
use Rattle.recheck_report.proofs.answer.said_of.Goals as goal

pub returns : goal.returns
returns c =
    let obligation = c.deref.ensures ∙ ap (λ (g : Goal). g.obligation) c.goal.view_is in
    let head = c.deref-2.ensures.value ∙ c.in_ok-head.ensures ∙ ap (λ (g : Goal). head_text c.args.name.now g.mark) c.goal.view_is in
    said_by c.args.name.now c.args.goal.now c.args.line.now c.deref.result.now c.deref-2.result.now (judged_of c.in_ok-judged.judged) c.complaint.result obligation head c.in_ok-judged.ensures c.complaint.ensures
