use Rattle.std.proofs.Common.{◌≡◌, ◌++◌, drop, map}
use Rattle.quantifier_triggers.specs.Choice.{with_triggers}
use Rattle.vc_build.proofs.obligation.terms_with_triggers.Given as goal

-- those so far, and then those that are ahead
abbrev pub invariant-loop-term : goal.invariant-loop-term
invariant-loop-term l = l.chosen.items ++ map (with_triggers l.signature.defs) (drop l.term-index l.terms) ≡ map (with_triggers l.signature.defs) l.terms
