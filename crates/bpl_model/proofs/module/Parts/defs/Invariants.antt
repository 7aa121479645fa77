use Rattle.std.proofs.Common.{◌≡◌, map, take}
use Rattle.bpl_model.proofs.module.Parts.defs.Given as goal

abbrev pub invariant-loop-function : goal.invariant-loop-function
invariant-loop-function l = l.defs.items ≡ map (λ f. f.def) (take l.function-index l.self.functions)
