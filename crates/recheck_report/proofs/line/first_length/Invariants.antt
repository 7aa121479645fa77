use Rattle.std.proofs.Common.{◌≡◌, ◌++◌, take, drop}
use Rattle.recheck_report.specs.Lines.{without_feed}
use Rattle.recheck_report.proofs.line.first_length.Given as goal

abbrev pub invariant-loop-i : goal.invariant-loop-i
invariant-loop-i l = without_feed l.text ≡ take l.i l.text ++ without_feed (drop l.i l.text)
