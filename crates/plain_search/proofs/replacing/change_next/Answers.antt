use Rattle.std.proofs.Common.{◌≡◌, ◌∙◌, ap, subst, Some, None, option_map, slice_get}
use Rattle.proof_core.specs.View.{step_of}
use Rattle.tableau_branch.specs.Replacing.{replaced_in}
use Rattle.tableau_branch.proofs.Lists.{drop_got, take_got}
use Rattle.tableau_branch.proofs.ChangedFacts.{replaced_by, replaced_not, replaced_wide, wide_err}
use Rattle.plain_search.proofs.replacing.change_next.Goals as goal

pub returns-in_err-step-clause-wide : goal.returns-in_err-step-clause-wide
returns-in_err-step-clause-wide c =
    let by = c.args.replacing.now in
    let old = c.args.made.now in
    let f = c.fact_at-fact.result.now in
    let got : slice_get old.branch.facts c.args.at ≡ Some f = rw c.facts.ensures at c.fact_at-fact.ensures.got in
    wide_err c.from_residual.result c.in_err-step.field-0.0 _ c.from_residual.ensures.1
    (λ wide. replaced_wide c.args.defs.now by.ground by.left.now by.right.now old c.args.at f (drop_got old.branch.facts c.args.at f got) (subst (λ vs. replaced_in c.args.defs.now by.ground by.left.now by.right.now vs f ≡ None) c.variables.ensures (c.in_err-step.ensures wide)))

pub returns-in_ok-changed-in-Some-clause-gives : goal.returns-in_ok-changed-in-Some-clause-gives
returns-in_ok-changed-in-Some-clause-gives c =
    let by = c.args.replacing.now in
    let old = c.args.made.now in
    let f = c.fact_at-fact.result.now in
    let s = step_of c.in-Some.step in
    let t = c.in-Some.term in
    let got : slice_get old.branch.facts c.args.at ≡ Some f = rw c.facts.ensures at c.fact_at-fact.ensures.got in
    let change : replaced_in c.args.defs.now by.ground by.left.now by.right.now old.branch.vars f ≡ Some (Some (s, t)) = subst (λ vs. replaced_in c.args.defs.now by.ground by.left.now by.right.now vs f ≡ Some (Some (s, t))) c.variables.ensures (c.in_ok-step.ensures ∙ ap (λ o. Some (option_map (λ p. (step_of p.0, p.1)) o)) c.in-Some.is) in
    replaced_by c.args.defs.now by.ground by.left.now by.right.now old c.append_by.new.made c.change_at.new.made c.args.at c.change_at.result f t s c.in_ok-changed-in-Some.changed
    (drop_got old.branch.facts c.args.at f got) change c.in_ok-changed-in-Some.ensures.fact c.in_ok-changed-in-Some.ensures.made c.change_at.ensures.before c.change_at.ensures.behind c.change_at.ensures.made

pub returns-in-None-clause-gives : goal.returns-in-None-clause-gives
returns-in-None-clause-gives c =
    let by = c.args.replacing.now in
    let old = c.args.made.now in
    let f = c.fact_at-fact.result.now in
    let got : slice_get old.branch.facts c.args.at ≡ Some f = rw c.facts.ensures at c.fact_at-fact.ensures.got in
    let stays : replaced_in c.args.defs.now by.ground by.left.now by.right.now old.branch.vars f ≡ Some None = subst (λ vs. replaced_in c.args.defs.now by.ground by.left.now by.right.now vs f ≡ Some None) c.variables.ensures (c.in_ok-step.ensures ∙ ap (λ o. Some (option_map (λ p. (step_of p.0, p.1)) o)) c.in-None.is) in
    replaced_not c.args.defs.now by.ground by.left.now by.right.now old c.args.at f (drop_got old.branch.facts c.args.at f got) (take_got old.branch.facts c.args.at f got) stays
