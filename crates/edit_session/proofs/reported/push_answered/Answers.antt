use Rattle.std.proofs.Common.{◌≡◌, ◌∙◌, ◌++◌, ap, map, string_bytes}
use Rattle.std.specs.Arc.{arc_value}
use Rattle.tableau.specs.Settled.{Settled}
use Rattle.tableau.specs.RunView.{verdict_of}
use Rattle.report_text.specs.Report.{proc_lines}
use Rattle.edit_session.proofs.reported.push_answered.Goals as goal

pub returns : goal.returns
returns c =
    let verdicts : map verdict_of c.as_slice.result.now ≡ map (λ a. (arc_value {X = Settled} a).verdict) c.args.answers.now = ap (map verdict_of) c.as_slice.ensures.value ∙ c.in_ok-put_verdicts.ensures in
    c.in_ok-push_proc.ensures ∙ (λ i. map string_bytes c.args.lines.now.items ++ proc_lines (c.name_of.ensures i) (c.marks.ensures i) (verdicts i))
