use Rattle.std.proofs.Common.{◌≡◌, ◌+◌, ◌-◌, ◌^◌, ◌≤◌, drop}
use Rattle.std.specs.Prelude.{sum}
use Rattle.logic_core.specs.Size.{capped}
use Rattle.vc_build.specs.Large.{sizes_of}
use Rattle.vc_rebuild.proofs.collected.bytes_of.Given as goal

abbrev pub invariant-loop-goal : goal.invariant-loop-goal
invariant-loop-goal l = record {
  total : capped (l.bytes + sum (sizes_of (drop l.goal-index l.goals))) ≡ capped (sum (sizes_of l.goals));
  fits : l.bytes ≤ 2 ^ 64 - 1;
}
