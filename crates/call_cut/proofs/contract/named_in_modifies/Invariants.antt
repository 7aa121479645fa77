use Rattle.std.proofs.Common.{◌≡◌, ◌++◌, drop}
use Rattle.bpl_model.specs.Contract.{named_in_modifies}
use Rattle.call_cut.proofs.contract.named_in_modifies.Given as goal

-- the globals so far, and then those of the clauses that are ahead
abbrev pub invariant-loop-spec : goal.invariant-loop-spec
invariant-loop-spec l = l.named.items ++ named_in_modifies (drop l.spec-index l.specs) ≡ named_in_modifies l.specs
