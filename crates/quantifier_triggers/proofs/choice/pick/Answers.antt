use Rattle.std.proofs.Common.{ap}
use Rattle.std.specs.Option.{option_copied}
use Rattle.std.proofs.lemmas.Result.{IfOk-weaker}
use mathlib.Core.Path.{sym, ◌∙◌}
use Rattle.quantifier_triggers.proofs.Choosing.{pick_least, pick_cover}
use Rattle.quantifier_triggers.proofs.choice.pick.Goals as goal

pub returns-in-Some : goal.returns-in-Some
returns-in-Some c = IfOk-weaker c.alone.result _ _ (λ o e. e ∙ pick_least c.args.variables _ c.in-Some.term.now (sym c.in_ok-found.ensures ∙ ap option_copied c.in-Some.is)) c.alone.ensures

pub returns-in-None : goal.returns-in-None
returns-in-None c = IfOk-weaker c.cover.result _ _ (λ o e. e ∙ pick_cover c.args.variables _ (sym c.in_ok-found.ensures ∙ ap option_copied c.in-None.is)) c.cover.ensures
