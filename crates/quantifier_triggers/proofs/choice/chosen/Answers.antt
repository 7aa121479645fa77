use Rattle.std.proofs.Common.{ap, map, filter}
use Rattle.std.proofs.lemmas.Result.{IfOk-weaker}
use mathlib.Core.Path.{sym, ◌∙◌}
use Rattle.logic_core.specs.Subterm.{outside}
use Rattle.quantifier_triggers.specs.Candidates.{is_candidate}
use Rattle.quantifier_triggers.specs.Choice.{as_trigger, pick}
use Rattle.quantifier_triggers.proofs.Once.{picked_once}
use Rattle.quantifier_triggers.proofs.choice.chosen.Goals as goal

pub returns : goal.returns
returns c =
    let found = c.in_ok-taken.ensures ∙ ap (λ l. pick c.args.variables (map (λ x. x.now) l)) c.deref.ensures.value ∙ ap (pick c.args.variables) c.in_ok-candidates.ensures
    ∙ sym (picked_once c.args.variables (filter (is_candidate c.args.defs.now c.args.variables) (outside c.args.body.now))) in
    IfOk-weaker c.trigger_of.result _ _ (λ v e. e ∙ ap as_trigger found) c.trigger_of.ensures
