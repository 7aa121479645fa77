use Rattle.std.proofs.Common.{◌∙◌, refl, sym, subst, drop, map}
use Rattle.recheck_report.specs.Lines.{lines}
use Rattle.recheck_report.specs.Recheck.{head_of}
use Rattle.recheck_report.specs.AnswerView.{AreShort}
use Rattle.recheck_report.proofs.ShortLines.{later_short}
use Rattle.recheck_report.proofs.Leading.{left_is, said_stops, said_passes}
use Rattle.recheck_report.proofs.answer.said_of_goals.Goals as goal

pub returns-then-is_some-clause-leads : goal.returns-then-is_some-clause-leads
returns-then-is_some-clause-leads c =
    let goals = c.args.goals.now in
    let name = c.args.name.now in
    let left = left_is goals goals c.loop-goal.goal-index c.goal-item.result refl c.loop-goal-test.true c.goal-item.is in
    said_stops (map (head_of name) goals) (lines c.args.proofs.now) name name (drop c.loop-goal.goal-index goals) c.goal-item.result _ (lines c.loop-goal.rest.now) c.take_line.result.0.now
    (lines c.take_line.result.1.now) c.in_ok-complaint.complaint left refl c.take_line.ensures.line (sym c.is_some.ensures ∙ c.if-is_some.true) c.loop-goal.invariant.leads c.in_ok-complaint.ensures

pub loop-goal-preserved : goal.loop-goal-preserved
loop-goal-preserved c =
    let goals = c.args.goals.now in
    let name = c.args.name.now in
    let left = left_is goals goals c.loop-goal.goal-index c.goal-item.result refl c.loop-goal-test.true c.goal-item.is in
    record {
      leads = said_passes (map (head_of name) goals) (lines c.args.proofs.now) name name (drop c.loop-goal.goal-index goals) c.goal-item.result _ (lines c.loop-goal.rest.now) c.take_line.result.0.now
          (lines c.take_line.result.1.now) c.in_ok-complaint.complaint left refl c.take_line.ensures.line c.take_line.ensures.rest (sym c.is_some.ensures ∙ c.if-is_some.false) c.loop-goal.invariant.leads c.in_ok-complaint.ensures;
      short = subst AreShort (sym c.take_line.ensures.rest) (later_short (lines c.loop-goal.rest.now) c.loop-goal.invariant.short);
    }
