use Rattle.std.proofs.Common.{◌≡◌, ◌++◌, map, drop, string_bytes}
use Rattle.tableau.specs.RunView.{verdict_of}
use Rattle.report_text.specs.Report.{goal_lines}
use Rattle.report_text.proofs.reports.push_goals.Given as goal

-- with the lines of the goals that are left come the lines of all goals
abbrev pub invariant-loop-i : goal.invariant-loop-i
invariant-loop-i l = map string_bytes l.lines.items ++ goal_lines l.name (drop l.i l.marks) (map verdict_of (drop l.i l.verdicts))
    ≡ map string_bytes l.fn.lines.items ++ goal_lines l.name l.marks (map verdict_of l.verdicts)
