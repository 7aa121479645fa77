use Rattle.std.proofs.Common.{◌∙◌, refl, ap, Some, [], ◌∷◌}
use Rattle.logic_core.proofs.Made.{given_more, given_all}
use Rattle.proof_check.specs.Added.{normal_forms}
use Rattle.proof_check.proofs.Made.{list_before_none}
use Rattle.proof_check.proofs.context.Context.normal_forms.Goals as goal

pub loop-term-preserved : goal.loop-term-preserved
loop-term-preserved c = given_more (λ t ts. t ∷ ts) (λ ys. normal_forms c.args.self.now.vars c.args.defs.now ys) c.args.terms.now _ _ c.loop-term.term-index _ c.in_ok-normal.field-0 _ c.loop-term-test.true c.term-item.is c.in_ok-push.ensures.items c.loop-term.invariant (rw c.in_ok-normal.ensures refl)

pub returns : goal.returns
returns c = given_all (λ t ts. t ∷ ts) (λ ys. normal_forms c.args.self.now.vars c.args.defs.now ys) c.args.terms.now c.loop-term.forms.items c.loop-term.term-index _ [] c.loop-term-test.false refl c.loop-term.invariant ∙ ap Some (list_before_none c.loop-term.forms.items)
