use Rattle.std.proofs.Common.{◌≡◌, ◌++◌, drop, map}
use Rattle.quantifier_triggers.specs.Choice.{def_with_triggers}
use Rattle.vc_build.proofs.obligation.defs_with_triggers.Given as goal

-- those so far, and then those that are ahead
abbrev pub invariant-loop-def : goal.invariant-loop-def
invariant-loop-def l = l.chosen.items ++ map (def_with_triggers l.signature.defs) (drop l.def-index l.defs) ≡ map (def_with_triggers l.signature.defs) l.defs
