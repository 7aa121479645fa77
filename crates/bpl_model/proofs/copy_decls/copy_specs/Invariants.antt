use Rattle.std.proofs.Common.{◌≡◌, take}
use Rattle.bpl_model.proofs.copy_decls.copy_specs.Given as goal

abbrev pub invariant-loop-spec : goal.invariant-loop-spec
invariant-loop-spec l = l.copies.items ≡ take l.spec-index l.specs
