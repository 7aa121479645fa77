use Rattle.std.proofs.Common.{◌≡◌, sym, subst, IfOk, find}
use Rattle.std.specs.Prelude.{Option, Some, None}
use Rattle.logic_core.specs.Subterm.{outside}
use Rattle.theory_rules.specs.Condition.{Choice}
use Rattle.tableau_branch.specs.Shapes.{is_choice}
use Rattle.theory_rules.proofs.FirstChoice.{choice_is}
use Rattle.theory_rules.proofs.condition.first_choice.Goals as goal

pub returns-in-Some : goal.returns-in-Some
returns-in-Some c =
    let found : Some c.in-Some.choice.now ≡ find is_choice (outside (c.args.fact.now).term) = rw c.term.ensures at c.in-Some.ensures in
    subst (λ (o : Option Choice). IfOk c.as_choice.result (λ p. p ≡ o)) (sym (choice_is (outside (c.args.fact.now).term) (Some c.in-Some.choice.now) found)) c.as_choice.ensures

pub returns-in-None : goal.returns-in-None
returns-in-None c =
    let found : None ≡ find is_choice (outside (c.args.fact.now).term) = rw c.term.ensures at c.in-None.ensures in
    sym (choice_is (outside (c.args.fact.now).term) None found)
