use Rattle.std.proofs.Common.{◌≡◌, ◌-◌, map, drop, length}
use Rattle.vc_build.specs.Rebuild.{BuiltProc}
use Rattle.edit_session.proofs.changed.common_end.Given as goal

abbrev pub invariant-loop-at : goal.invariant-loop-at
invariant-loop-at l = drop (length l.old - l.at) (map (λ (b : BuiltProc). b.depends) l.old) ≡ drop (length l.new - l.at) (map (λ (b : BuiltProc). b.depends) l.new)
