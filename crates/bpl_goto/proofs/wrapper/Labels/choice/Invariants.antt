use Rattle.std.proofs.Common.{◌≡◌, ◌<◌, drop, length}
use Rattle.bpl_goto.specs.Removed.{choice}
use Rattle.bpl_goto.proofs.wrapper.Labels.choice.Given as goal

abbrev pub invariant-loop-i : goal.invariant-loop-i
invariant-loop-i l = record {
  there : l.i < length l.labels;
  made : l.rest ≡ choice l.self.named l.self.longest l.at (drop l.i l.labels);
}

abbrev pub decreases-loop-i : goal.decreases-loop-i
decreases-loop-i l = l.i
