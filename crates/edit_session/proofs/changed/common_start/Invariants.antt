use Rattle.std.proofs.Common.{◌≡◌, map, take}
use Rattle.vc_build.specs.Rebuild.{BuiltProc}
use Rattle.edit_session.proofs.changed.common_start.Given as goal

abbrev pub invariant-loop-at : goal.invariant-loop-at
invariant-loop-at l = take l.at (map (λ (b : BuiltProc). b.depends) l.old) ≡ take l.at (map (λ (b : BuiltProc). b.depends) l.new)
