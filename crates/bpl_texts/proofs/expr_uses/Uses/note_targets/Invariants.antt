use Rattle.std.proofs.Common.{◌≡◌, ◌++◌, drop, flat_map}
use Rattle.bpl_dependencies.specs.AppliedView.{texts_seen, variables_seen}
use Rattle.bpl_texts.specs.Uses.{target_uses}
use Rattle.bpl_texts.proofs.expr_uses.Uses.note_targets.Given as goal

abbrev pub invariant-loop-target : goal.invariant-loop-target
invariant-loop-target l = texts_seen l.self.names.items ++ flat_map (target_uses (variables_seen l.variables)) (drop l.target-index l.targets) ≡ texts_seen l.fn.self.names.items ++ flat_map (target_uses (variables_seen l.variables)) l.targets
