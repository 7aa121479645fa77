use Rattle.std.proofs.Common.{◌-◌, ◌<◌, ◌≤◌, length, take, drop}
use Rattle.std.specs.List.{AllByRecursion}
use Rattle.numbered_facts.proofs.rising.is_in_half.Given as goal

-- lower numbers before, higher ones behind
abbrev pub invariant-loop-low : goal.invariant-loop-low
invariant-loop-low l = record {
  order : l.low ≤ l.high;
  within : l.high ≤ length l.ids;
  below : AllByRecursion (λ j. j < l.id) (take l.low l.ids);
  above : AllByRecursion (λ j. l.id < j) (drop l.high l.ids);
}

abbrev pub decreases-loop-low : goal.decreases-loop-low
decreases-loop-low l = l.high - l.low
