use Rattle.clause_search.proofs.FirstFacts.{form_fault, not_leaves}
use Rattle.clause_search.proofs.first.normal_not.Goals as goal

pub returns-in_err-form-clause-gives : goal.returns-in_err-form-clause-gives
returns-in_err-form-clause-gives c = form_fault c.normal_form.new.store.terms c.from_residual.result c.in_err-form.field-0.0 _ c.from_residual.ensures.1 (λ wide. not_leaves c.args.store.now c.args.goal.now (c.in_err-form.ensures.gives wide))
