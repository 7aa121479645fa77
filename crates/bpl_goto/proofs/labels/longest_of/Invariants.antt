use Rattle.std.proofs.Common.{◌≡◌, max, drop}
use Rattle.bpl_goto.specs.Labels.{longest}
use Rattle.bpl_goto.proofs.labels.longest_of.Given as goal

abbrev pub invariant-loop-name : goal.invariant-loop-name
invariant-loop-name l = max l.most (longest (drop l.name-index l.names)) ≡ longest l.names
