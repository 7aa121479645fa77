use Rattle.std.proofs.Common.{◌++◌, map, string_bytes, ap, sym, ◌∙◌, arith}
use Rattle.std.proofs.lemmas.List.{append-nil}
use Rattle.std.proofs.lemmas.Result.{IfOk-weaker}
use Rattle.report_text.proofs.Ends.{procs_end}
use Rattle.report_text.proofs.reports.report.Goals as goal

pub returns : goal.returns
returns c =
    let least = c.min.ensures in
    let last = c.min-i-end.ensures in
    let gone = procs_end c.loop-i.i c.args.names.now c.args.marks.now c.args.verdicts.now (omega (arith, least, last, c.loop-i-test.false)) in
    let all = sym (append-nil (map string_bytes c.loop-i.lines.items)) ∙ (ap (λ ls. map string_bytes c.loop-i.lines.items ++ ls) (sym gone) ∙ c.loop-i.invariant) in
    IfOk-weaker c.bytes_of.result _ _ (λ v e. e ∙ all) c.bytes_of.ensures
