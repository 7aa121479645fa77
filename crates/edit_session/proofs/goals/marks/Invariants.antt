use Rattle.std.proofs.Common.{◌≡◌, map, take}
use Rattle.vc_build.specs.Rebuild.{BuiltProc}
use Rattle.edit_session.proofs.goals.marks.Given as goal

abbrev pub invariant-loop-proc : goal.invariant-loop-proc
invariant-loop-proc l = map (λ ms. ms.items) l.found.items ≡ map (λ (b : BuiltProc). map (λ g. g.mark) b.goals) (take l.proc-index l.procs)
