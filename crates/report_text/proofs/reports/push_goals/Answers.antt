use Rattle.std.proofs.Common.{◌++◌, map, string_bytes, ap, sym, ◌∙◌, arith}
use Rattle.std.proofs.lemmas.List.{append-nil}
use Rattle.report_text.proofs.Ends.{goals_end}
use Rattle.report_text.proofs.reports.push_goals.Goals as goal

pub returns : goal.returns
returns c =
    let least = c.min-i-end.ensures in
    let gone = goals_end c.args.name.now c.loop-i.i c.args.marks.now c.args.verdicts.now (omega (arith, least, c.loop-i-test.false)) in
    sym (append-nil (map string_bytes c.loop-i.lines.items)) ∙ (ap (λ ls. map string_bytes c.loop-i.lines.items ++ ls) (sym gone) ∙ c.loop-i.invariant)
