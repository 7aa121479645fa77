use Rattle.std.proofs.Common.{◌≡◌, map, drop}
use Rattle.std.specs.List.{list_all}
use Rattle.tableau.specs.Search.{is_proved}
use Rattle.tableau.specs.RunView.{verdict_of}
use Rattle.report_text.proofs.reports.all_proved.Given as goal

-- so far all are proofs
abbrev pub invariant-loop-verdict : goal.invariant-loop-verdict
invariant-loop-verdict l = list_all is_proved (map verdict_of (drop l.verdict-index l.verdicts)) ≡ list_all is_proved (map verdict_of l.verdicts)
