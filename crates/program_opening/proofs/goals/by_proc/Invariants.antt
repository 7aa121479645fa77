use Rattle.std.proofs.Common.{◌≡◌, ◌++◌, map, drop}
use Rattle.std.specs.Prelude.{flat_map, filter, is_some}
use Rattle.bpl_model.specs.Module.{Proc}
use Rattle.vc_build.specs.Goals.{goals}
use Rattle.program_opening.specs.ProcGoals.{goals_of_proc, goals_by_proc}
use Rattle.program_opening.proofs.goals.by_proc.Given as goal

-- the goals that are left are those of the procedures ahead, and what is found so far, and then what these give, is what all give
abbrev pub invariant-loop-i : goal.invariant-loop-i
invariant-loop-i l = record {
  ahead : l.left.items ≡ flat_map (goals l.module) (drop l.i l.module.procs);
  found : l.found.items ++ map (goals_of_proc l.module) (filter (λ (p : Proc). is_some p.body) (drop l.i l.module.procs)) ≡ goals_by_proc l.module;
}
