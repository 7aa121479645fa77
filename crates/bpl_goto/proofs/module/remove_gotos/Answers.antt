use Rattle.std.proofs.Common.{◌≡◌, ◌∙◌}
use Rattle.bpl_goto.proofs.Kept.{stays_typed, keeps_failures}
use Rattle.bpl_goto.proofs.module.remove_gotos.Goals as goal

pub new-requires : goal.new-requires
new-requires c = stays_typed c.args.module.now c.parts.result.now c.in_ok-parts_without.field-0 c.parts.ensures.same c.in_ok-parts_without.ensures c.parts.ensures.typed c.requires

pub returns-clause-same_failures : goal.returns-clause-same_failures
returns-clause-same_failures c = λ p there. keeps_failures c.args.module.now c.parts.result.now c.new.result c.parts.ensures.same (c.new.ensures ∙ c.in_ok-parts_without.ensures) c.parts.ensures.typed c.requires p there
