use Rattle.std.proofs.Common.{◌≡◌, subst, [], Option, Some, None}
use Rattle.logic_core.specs.Tree.{Tree, negation}
use Rattle.logic_core.specs.Def.{Signature, Obligation}
use Rattle.logic_core.specs.Normal.{normal}
use Rattle.logic_core.proofs.Refused.{gives_err}
use Rattle.tableau.proofs.Starting.{starts_with, starts_not_with_axioms, starts_not_with_goal}
use Rattle.tableau.proofs.start.first_branch.Goals as goal

pub returns-in_err-forms : goal.returns-in_err-forms
returns-in_err-forms c = gives_err (λ b. b) c.from_residual.result c.in_err-forms.field-0.0 _ c.from_residual.ensures.1 (λ wide.
    starts_not_with_axioms c.args.obligation.now (rw (c.vars.ensures, c.defs.ensures, c.signature-signature.ensures.value, c.axioms-axioms.ensures) at (c.in_err-forms.ensures wide)))

-- the normal Not of the goal, by a signature and a goal that are the obligation's
refuted_over : (o : Obligation) (s : Signature) (g : Tree) (result : Option Tree) → s ≡ record { vars = o.vars; defs = o.defs } → g ≡ o.goal → normal s.vars s.defs [] (negation g) ≡ result → normal o.vars o.defs [] (negation o.goal) ≡ result
refuted_over o s g result is_s is_g h = subst (λ (x : Signature). normal x.vars x.defs [] (negation o.goal) ≡ result) is_s (subst (λ (t : Tree). normal s.vars s.defs [] (negation t) ≡ result) is_g h)

pub returns-in_err-refuted : goal.returns-in_err-refuted
returns-in_err-refuted c = gives_err (λ b. b) c.from_residual-in_err-refuted.result c.in_err-refuted.field-0.0 _ c.from_residual-in_err-refuted.ensures.1 (λ wide.
    starts_not_with_goal c.args.obligation.now (refuted_over c.args.obligation.now c.signature-signature.result.now c.goal.result.now None c.signature-signature.ensures.value c.goal.ensures (c.in_err-refuted.ensures wide)))

pub returns : goal.returns
returns c =
    let forms = rw (c.vars.ensures, c.defs.ensures, c.signature-signature.ensures.value, c.axioms-axioms.ensures) at c.in_ok-forms.ensures in
    let refuted = refuted_over c.args.obligation.now c.signature-signature.result.now c.goal.result.now (Some c.in_ok-refuted.refuted) c.signature-signature.ensures.value c.goal.ensures c.in_ok-refuted.ensures in
    rw (c.in_ok-branch_with.ensures, c.in_ok-push.ensures.items, c.vars-2.ensures, c.signature-signature.ensures.value) (starts_with c.args.obligation.now c.in_ok-forms.forms.items c.in_ok-refuted.refuted forms refuted)
