use Rattle.std.proofs.Common.{◌≡◌, ◌++◌, map, drop, length}
use Rattle.std.specs.Prelude.{flat_map}
use Rattle.bpl_model.specs.Module.{Proc}
use Rattle.vc_build.specs.Goals.{goals_by_passes}
use Rattle.program_opening.proofs.goals.counted.Given as goal

-- the goals so far, and then those of the procedures that are left, are those of all, and their numbers likewise
abbrev pub invariant-loop-i : goal.invariant-loop-i
invariant-loop-i l = record {
  goals : l.tally ++ flat_map (goals_by_passes l.links) (drop l.i l.links.procs) ≡ flat_map (goals_by_passes l.links) l.links.procs;
  counts : l.counts.items ++ map (λ (p : Proc). length (goals_by_passes l.links p)) (drop l.i l.links.procs) ≡ map (λ (p : Proc). length (goals_by_passes l.links p)) l.links.procs;
}
