use Rattle.std.proofs.Common.{◌≡◌, drop}
use Rattle.std.specs.List.{list_all}
use Rattle.bpl_model.specs.TypedTest.{fits}
use Rattle.bpl_typing.proofs.terms.all_fit.Given as goal

abbrev pub invariant-loop-pair : goal.invariant-loop-pair
invariant-loop-pair l = list_all (fits l.defs l.vars) (drop l.pair-index l.pairs) ≡ list_all (fits l.defs l.vars) l.pairs
