use Rattle.std.proofs.Common.{◌≡◌, ◌+◌, ◌≤◌, drop}
use Rattle.vc_rebuild.specs.Change.{checked_requires}
use Rattle.vc_rebuild.proofs.change.checked_requires.Given as goal

-- those so far and those that are ahead
abbrev pub invariant-loop-i : goal.invariant-loop-i
invariant-loop-i l = record {
  sum : l.count + checked_requires (drop l.i l.specs) ≡ checked_requires l.specs;
  small : l.count ≤ l.i;
}
