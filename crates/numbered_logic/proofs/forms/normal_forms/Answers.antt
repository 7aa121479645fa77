use Rattle.std.proofs.Common.{◌∙◌, sym, arith, ◌<◌, length, []}
use Rattle.logic_core.specs.Normal.{normal}
use Rattle.numbered_branches.proofs.Listing.{all_at}
use Rattle.numbered_logic.proofs.Later.{grows_same, grows_then, below_later, normal_later}
use Rattle.numbered_logic.proofs.Several.{given_first, given_next, given_low, given_none, given_all, give_fault}
use Rattle.numbered_logic.proofs.forms.normal_forms.Goals as goal

pub loop-id-init : goal.loop-id-init
loop-id-init c = let n = c.args.store.now in record { grows = grows_same n; low = rw c.new-forms.ensures.items tt; given = rw c.new-forms.ensures.items (given_first (λ t. normal n.vars n.defs [] t) n.terms c.args.ids.now n.terms) }

pub normal-requires : goal.normal-requires
normal-requires c = let n = c.args.store.now in
    below_later n c.loop-id.store c.id-item.result c.loop-id.invariant.grows (all_at (λ i. i < length n.terms) c.args.ids.now c.loop-id.id-index c.id-item.result c.requires c.loop-id-test.true c.id-item.is)

pub loop-id-preserved : goal.loop-id-preserved
loop-id-preserved c =
    let n = c.args.store.now in let m = c.loop-id.store in let o = c.normal.new.self in let i = c.id-item.result in
    let low = all_at (λ j. j < length n.terms) c.args.ids.now c.loop-id.id-index i c.requires c.loop-id-test.true c.id-item.is in
    let gives = c.in_ok-form.ensures.gives in let h = c.normal.ensures.grows in
    record {
      grows = grows_then n m o c.loop-id.invariant.grows h;
      low = given_low m.terms o.terms c.loop-id.forms.items _ c.in_ok-form.form h.terms c.loop-id.invariant.low gives.0 c.in_ok-push.ensures.items;
      given = given_next (λ t. normal n.vars n.defs [] t) n.terms c.args.ids.now m.terms o.terms c.loop-id.forms.items _ c.loop-id.id-index i c.in_ok-form.form h.terms c.loop-id.invariant.low c.loop-id-test.true c.id-item.is
          (sym (normal_later n m i c.loop-id.invariant.grows low) ∙ gives.1) c.in_ok-push.ensures.items c.loop-id.invariant.given;
    }

pub returns-in_err-form-clause-grows : goal.returns-in_err-form-clause-grows
returns-in_err-form-clause-grows c = grows_then c.args.store.now c.loop-id.store c.normal.new.self c.loop-id.invariant.grows c.normal.ensures.grows

pub returns-in_err-push-clause-grows : goal.returns-in_err-push-clause-grows
returns-in_err-push-clause-grows c = grows_then c.args.store.now c.loop-id.store c.normal.new.self c.loop-id.invariant.grows c.normal.ensures.grows

pub returns-in_err-form-clause-forms : goal.returns-in_err-form-clause-forms
returns-in_err-form-clause-forms c =
    let n = c.args.store.now in let m = c.loop-id.store in let i = c.id-item.result in
    let low = all_at (λ j. j < length n.terms) c.args.ids.now c.loop-id.id-index i c.requires c.loop-id-test.true c.id-item.is in
    give_fault (c.normal.new.self).terms c.from_residual.result c.in_err-form.field-0.0 _ c.from_residual.ensures.1 (λ wide. given_none (λ t. normal n.vars n.defs [] t) n.terms c.args.ids.now m.terms c.loop-id.forms.items c.loop-id.id-index i
    c.loop-id-test.true c.id-item.is (sym (normal_later n m i c.loop-id.invariant.grows low) ∙ c.in_err-form.ensures.gives wide) c.loop-id.invariant.given)

pub returns-clause-forms : goal.returns-clause-forms
returns-clause-forms c = let n = c.args.store.now in (c.loop-id.invariant.low, given_all (λ t. normal n.vars n.defs [] t) n.terms c.args.ids.now (c.loop-id.store).terms c.loop-id.forms.items c.loop-id.id-index (omega (arith, c.loop-id-test.false)) c.loop-id.invariant.given)
