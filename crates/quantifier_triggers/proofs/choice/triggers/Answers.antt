use Rattle.std.proofs.Common.{ap}
use Rattle.std.proofs.lemmas.Result.{IfOk-weaker}
use mathlib.Core.Path.{sym, ◌∙◌}
use Rattle.logic_core.specs.View.{patterns_of}
use Rattle.quantifier_triggers.proofs.Choosing.{given_stay}
use Rattle.quantifier_triggers.proofs.choice.triggers.Goals as goal

pub returns-else-is_empty : goal.returns-else-is_empty
returns-else-is_empty c =
    IfOk-weaker c.copy_patterns.result _ _ (λ v e. ap patterns_of e ∙ given_stay c.args.defs.now c.args.variables c.args.body.now c.args.given.now (sym c.is_empty.ensures ∙ c.if-is_empty.false)) c.copy_patterns.ensures
