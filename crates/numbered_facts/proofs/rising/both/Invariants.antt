use Rattle.std.proofs.Common.{◌≡◌, ◌+◌, ◌-◌, ◌≤◌, ◌++◌, length, drop}
use Rattle.numbered_facts.proofs.Merging.{merged}
use Rattle.numbered_facts.proofs.rising.both.Given as goal

-- what is put in, and what is left of both lists
abbrev pub invariant-loop-x : goal.invariant-loop-x
invariant-loop-x l = record {
  first : l.i ≤ length l.xs;
  second : l.j ≤ length l.ys;
  so_far : l.numbers.items ++ merged (drop l.i l.xs) (drop l.j l.ys) ≡ merged l.xs l.ys;
}

abbrev pub decreases-loop-x : goal.decreases-loop-x
decreases-loop-x l = (length l.xs - l.i) + (length l.ys - l.j)
