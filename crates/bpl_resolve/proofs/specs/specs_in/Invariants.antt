use Rattle.std.proofs.Common.{◌≡◌, take, map}
use Rattle.bpl_scopes.specs.CountsView.{counts_seen}
use Rattle.bpl_resolve.specs.Elaborate.{spec_in}
use Rattle.bpl_resolve.proofs.specs.specs_in.Given as goal

abbrev pub invariant-loop-spec : goal.invariant-loop-spec
invariant-loop-spec l = l.typed.items ≡ map (spec_in l.declared.environment.now (counts_seen l.declared.counts) l.vars) (take l.spec-index l.specs)
