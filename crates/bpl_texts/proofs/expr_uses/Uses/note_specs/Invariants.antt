use Rattle.std.proofs.Common.{◌≡◌, ◌++◌, drop, flat_map}
use Rattle.bpl_dependencies.specs.AppliedView.{texts_seen, variables_seen}
use Rattle.bpl_texts.specs.Uses.{spec_uses}
use Rattle.bpl_texts.proofs.expr_uses.Uses.note_specs.Given as goal

abbrev pub invariant-loop-spec : goal.invariant-loop-spec
invariant-loop-spec l = texts_seen l.self.names.items ++ flat_map (spec_uses (variables_seen l.variables)) (drop l.spec-index l.specs) ≡ texts_seen l.fn.self.names.items ++ flat_map (spec_uses (variables_seen l.variables)) l.specs
