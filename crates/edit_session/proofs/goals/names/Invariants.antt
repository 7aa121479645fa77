use Rattle.std.proofs.Common.{◌≡◌, map, take, string_bytes}
use Rattle.vc_build.specs.Rebuild.{BuiltProc}
use Rattle.edit_session.proofs.goals.names.Given as goal

abbrev pub invariant-loop-proc : goal.invariant-loop-proc
invariant-loop-proc l = map string_bytes l.found.items ≡ map (λ (b : BuiltProc). b.name) (take l.proc-index l.procs)
