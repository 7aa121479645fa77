use Rattle.std.proofs.Common.{◌≡◌, ◌≤◌, ◌-◌, ◌++◌, length, take, drop}
use Rattle.recheck_report.specs.Parts.{program_in, lines_in}
use Rattle.recheck_report.proofs.parts.cut.Given as goal

abbrev pub invariant-loop-at : goal.invariant-loop-at
invariant-loop-at l = record {
  inside : l.at ≤ length l.text;
  program : program_in l.text ≡ take l.at l.text ++ program_in (drop l.at l.text);
  lines : lines_in (drop l.at l.text) ≡ lines_in l.text;
}

abbrev pub decreases-loop-at : goal.decreases-loop-at
decreases-loop-at l = length l.text - l.at
