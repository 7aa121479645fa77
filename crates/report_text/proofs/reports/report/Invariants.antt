use Rattle.std.proofs.Common.{◌≡◌, ◌++◌, map, string_bytes, drop}
use Rattle.tableau.specs.RunView.{verdict_of}
use Rattle.report_text.specs.Report.{report}
use Rattle.report_text.proofs.reports.report.Given as goal

-- with the lines of the procedures that are left come the lines of all
abbrev pub invariant-loop-i : goal.invariant-loop-i
invariant-loop-i l = map string_bytes l.lines.items ++ report (map string_bytes (drop l.i l.names)) (map (λ ms. ms.items) (drop l.i l.marks)) (map (λ vs. map verdict_of vs.items) (drop l.i l.verdicts))
    ≡ report (map string_bytes l.names) (map (λ ms. ms.items) l.marks) (map (λ vs. map verdict_of vs.items) l.verdicts)
