use Rattle.std.proofs.Common.{◌≡◌, ◌≤◌, ◌+◌, map, drop}
use Rattle.tableau.specs.RunView.{verdict_of}
use Rattle.report_laws.specs.Summary.{number_of}
use Rattle.check_report.proofs.counts.number_of.Given as goal

-- with those that are left come all
abbrev pub invariant-loop-verdict : goal.invariant-loop-verdict
invariant-loop-verdict l = record {
  counted : l.number + number_of (verdict_of l.kind) (map verdict_of (drop l.verdict-index l.verdicts)) ≡ number_of (verdict_of l.kind) (map verdict_of l.verdicts);
  few : l.number ≤ l.verdict-index;
}
