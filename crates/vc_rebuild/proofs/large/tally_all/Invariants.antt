use Rattle.std.proofs.Common.{◌≡◌, ◌++◌, drop, flat_map}
use Rattle.vc_build.specs.Goals.{goals_by_passes}
use Rattle.vc_rebuild.proofs.large.tally_all.Given as goal

-- the goals so far, and then those of the procedures that are ahead
abbrev pub invariant-loop-i : goal.invariant-loop-i
invariant-loop-i l = l.tally ++ flat_map (goals_by_passes l.links) (drop l.i l.links.procs) ≡ flat_map (goals_by_passes l.links) l.links.procs
