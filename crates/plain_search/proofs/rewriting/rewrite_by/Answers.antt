use Rattle.std.proofs.Common.{◌≡◌, ◌∙◌, ap, sym, subst, Option, Some, None}
use Rattle.logic_core.specs.Wide.{◌>>=◌}
use Rattle.logic_core.proofs.Refused.{gives_err}
use Rattle.proof_core.specs.Says.{says}
use Rattle.tableau_branch.specs.Change.{Made}
use Rattle.tableau_branch.specs.Move.{on_one}
use Rattle.tableau_branch.specs.View.{move_of}
use Rattle.logic_rules.specs.View.{facts_rewritten}
use Rattle.logic_rules.proofs.Rewritten.{says_nothing, facts_not, rewrites_as}
use Rattle.plain_search.proofs.rewriting.rewrite_by.Goals as goal

pub returns-in_default : goal.returns-in_default
returns-in_default c = λ wide. let a = c.args.found.now in says_nothing c.args.defs.now c.args.branch a.fact a.what (sym c.in_ok-right.ensures ∙ c.in_default.is)

pub returns-in_err-rewrite_facts : goal.returns-in_err-rewrite_facts
returns-in_err-rewrite_facts c =
    let a = c.args.found.now in
    let d = c.args.defs.now in
    let said : says (a.fact).term a.what ≡ Some c.in-Some.right = sym c.in_ok-right.ensures ∙ c.in-Some.is in
    gives_err move_of c.from_residual-in_err-rewrite_facts.result c.in_err-rewrite_facts.field-0.0 _ c.from_residual-in_err-rewrite_facts.ensures.1
    (λ wide. facts_not d c.args.branch a.fact a.what c.in-Some.right said (subst (λ (m : Made). facts_rewritten d a.fact a.what c.in-Some.right m ≡ None) c.begun-made.ensures (c.in_err-rewrite_facts.ensures wide)))

pub returns-in_err-rewrite_others : goal.returns-in_err-rewrite_others
returns-in_err-rewrite_others c =
    let a = c.args.found.now in
    let d = c.args.defs.now in
    let said : says (a.fact).term a.what ≡ Some c.in-Some.right = sym c.in_ok-right.ensures ∙ c.in-Some.is in
    let changed = subst (λ (m : Made). facts_rewritten d a.fact a.what c.in-Some.right m ≡ Some c.rewrite_facts.new.made) c.begun-made.ensures c.in_ok-rewrite_facts.ensures in
    gives_err move_of c.from_residual-in_err-rewrite_others.result c.in_err-rewrite_others.field-0.0 _ c.from_residual-in_err-rewrite_others.ensures.1
    (λ wide. rewrites_as d c.args.branch a.fact a.what c.in-Some.right c.rewrite_facts.new.made said changed ∙ ap (λ (o : Option Made). o >>= λ n. Some (on_one n)) (c.in_err-rewrite_others.ensures wide))

pub returns : goal.returns
returns c =
    let a = c.args.found.now in
    let d = c.args.defs.now in
    let said : says (a.fact).term a.what ≡ Some c.in-Some.right = sym c.in_ok-right.ensures ∙ c.in-Some.is in
    let changed = subst (λ (m : Made). facts_rewritten d a.fact a.what c.in-Some.right m ≡ Some c.rewrite_facts.new.made) c.begun-made.ensures c.in_ok-rewrite_facts.ensures in
    rewrites_as d c.args.branch a.fact a.what c.in-Some.right c.rewrite_facts.new.made said changed
    ∙ ap (λ (o : Option Made). o >>= λ n. Some (on_one n)) c.in_ok-rewrite_others.ensures ∙ ap Some (sym c.in_ok-on_one.ensures)
