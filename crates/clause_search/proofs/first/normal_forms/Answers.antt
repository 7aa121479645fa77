use Rattle.std.proofs.Common.{◌≡◌, ℕ, Vec, arith}
use Rattle.std.specs.declared.alloc.Global.{Global}
use Rattle.logic_core.proofs.Refused.{gives_err}
use Rattle.tableau_branch.specs.Branch.{each}
use Rattle.numbered_terms.specs.Lists.{terms_at}
use Rattle.numbered_facts.proofs.Growing.{same, then}
use Rattle.clause_search.proofs.FirstFacts.{form, forms_begin, forms_next, forms_within, forms_stop, forms_end}
use Rattle.clause_search.proofs.first.normal_forms.Goals as goal

pub loop-formula-init : goal.loop-formula-init
loop-formula-init c = record {
  grows = same c.args.store.now;
  made = forms_begin c.args.store.now c.args.formulas.now c.new-forms.result.items c.new-forms.ensures.items;
  within = rw c.new-forms.ensures.items tt;
}

pub loop-formula-preserved : goal.loop-formula-preserved
loop-formula-preserved c =
    let n = c.args.store.now in let m = c.loop-formula.store in let o = c.normal_form.new.store in
    let g = c.loop-formula.invariant.grows in let d = c.in_ok-form.ensures.grows in
    let ts = c.args.formulas.now in let i = c.loop-formula.formula-index in let t = c.formula-item.result in
    let old = c.loop-formula.forms.items in let new = c.push.new.self.items in let j = c.in_ok-form.form in
    let whole = each (form n) ts in
    record {
      grows = then n m o g d;
      made = forms_next n m o g d ts i t c.loop-formula-test.true c.formula-item.is old whole c.loop-formula.invariant.made c.loop-formula.invariant.within new j c.in_ok-push.ensures.items c.in_ok-form.ensures.gives;
      within = forms_within n m o g d ts i t c.loop-formula-test.true c.formula-item.is old whole c.loop-formula.invariant.made c.loop-formula.invariant.within new j c.in_ok-push.ensures.items c.in_ok-form.ensures.gives;
    }

pub returns-in_err-form-clause-grows : goal.returns-in_err-form-clause-grows
returns-in_err-form-clause-grows c = then c.args.store.now c.loop-formula.store c.normal_form.new.store c.loop-formula.invariant.grows c.normal_form.ensures.grows

pub returns-in_err-form-clause-gives : goal.returns-in_err-form-clause-gives
returns-in_err-form-clause-gives c =
    let n = c.args.store.now in let m = c.loop-formula.store in let o = c.normal_form.new.store in let ts = c.args.formulas.now in
    gives_err (λ (v : Vec ℕ Global). terms_at o.terms v.items) c.from_residual.result c.in_err-form.field-0.0 _ c.from_residual.ensures.1
    (λ wide. forms_stop n m o c.loop-formula.invariant.grows c.normal_form.ensures.grows ts c.loop-formula.formula-index c.formula-item.result c.loop-formula-test.true c.formula-item.is c.loop-formula.forms.items (each (form n) ts) c.loop-formula.invariant.made (c.in_err-form.ensures.gives wide))

pub returns-clause-gives : goal.returns-clause-gives
returns-clause-gives c =
    let n = c.args.store.now in let m = c.loop-formula.store in let ts = c.args.formulas.now in
    forms_end n ts c.loop-formula.formula-index (terms_at m.terms c.loop-formula.forms.items) (each (form n) ts) (omega (arith, c.loop-formula-test.false)) c.loop-formula.invariant.made
