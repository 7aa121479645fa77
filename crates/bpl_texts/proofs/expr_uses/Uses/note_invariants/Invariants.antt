use Rattle.std.proofs.Common.{◌≡◌, ◌++◌, drop, flat_map}
use Rattle.bpl_dependencies.specs.AppliedView.{texts_seen, variables_seen}
use Rattle.bpl_texts.specs.Uses.{invariant_uses}
use Rattle.bpl_texts.proofs.expr_uses.Uses.note_invariants.Given as goal

abbrev pub invariant-loop-invariant : goal.invariant-loop-invariant
invariant-loop-invariant l = texts_seen l.self.names.items ++ flat_map (invariant_uses (variables_seen l.variables)) (drop l.invariant-index l.invariants) ≡ texts_seen l.fn.self.names.items ++ flat_map (invariant_uses (variables_seen l.variables)) l.invariants
