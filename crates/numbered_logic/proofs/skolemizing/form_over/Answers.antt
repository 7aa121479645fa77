use Rattle.std.proofs.Common.{◌∙◌, ◌<◌, sym, ap, subst, length, List}
use Rattle.logic_core.specs.Tree.{Tree}
use Rattle.term_bank.specs.Numbered.{Begins}
use Rattle.numbered_terms.specs.Stored.{Numbered}
use Rattle.numbered_terms.proofs.Results.{on_ok}
use Rattle.numbered_logic.proofs.Witnesses.{begun, longer, as_before, form_as_before}
use Rattle.numbered_logic.proofs.skolemizing.form_over.Goals as goal

pub normal-form-requires : goal.normal-form-requires
normal-form-requires c = subst (λ (x : Numbered). c.args.id < length x.terms) (sym c.in_ok-over.ensures.vars) c.requires

pub returns-in_err-over-2-clause-terms : goal.returns-in_err-over-2-clause-terms
returns-in_err-over-2-clause-terms c = let t = c.normal-form.new.self in
    subst (Begins c.args.store.now.terms) (sym c.over-2.ensures.terms) (begun c.args.store.now c.over.new.self _ c.in_ok-over.ensures.vars t.terms c.normal-form.ensures.grows.terms)

pub returns-clause-terms : goal.returns-clause-terms
returns-clause-terms c = longer c.args.store.now c.over.new.self c.normal-form.new.self c.over-2.new.self _ _ c.in_ok-over.ensures.vars c.normal-form.ensures.grows c.in_ok-over-2.ensures.vars

pub returns-clause-grows : goal.returns-clause-grows
returns-clause-grows c = on_ok c.normal-form.result (as_before c.args.store.now c.over.new.self c.normal-form.new.self c.over-2.new.self _ _ c.in_ok-over.ensures.vars c.normal-form.ensures.grows c.in_ok-over-2.ensures.vars
    (c.deref.ensures.value ∙ c.in_ok-before.ensures ∙ c.vars.ensures))

pub returns-clause-gives : goal.returns-clause-gives
returns-clause-gives c = form_as_before c.args.store.now c.over.new.self c.normal-form.new.self c.over-2.new.self _ _ c.in_ok-over.ensures.vars c.normal-form.ensures.grows c.in_ok-over-2.ensures.vars c.normal-form.result c.args.id c.normal-form.ensures.gives
