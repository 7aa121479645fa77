use Rattle.std.proofs.Common.{◌≡◌, ◌<◌, sym, subst, length}
use Rattle.term_bank.specs.Numbered.{at}
use Rattle.logic_rules.specs.Unfolding.{with_call}
use Rattle.numbered_branches.specs.Branches.{branch_at, IsBranchOver}
use Rattle.numbered_branches.proofs.Changing.{branch_more}
use Rattle.numbered_logic.proofs.Attempts.{move_fault}
use Rattle.numbered_logic.proofs.Later.{below_later}
use Rattle.numbered_logic.proofs.Rules.{unfolds_at, unfolds_none}
use Rattle.numbered_facts.proofs.Growing.{then}
use Rattle.numbered_logic.proofs.unfolding.unfold_at.Goals as goal

pub with_call-requires-clause-call : goal.with_call-requires-clause-call
with_call-requires-clause-call c = let n = c.args.store.now in let m = c.unfolded_form.new.store in
    subst (λ ts. c.args.found.term < length ts) (sym c.terms.ensures) (below_later n m c.args.found.term c.unfolded_form.ensures.grows c.requires.found.term)

pub with_call-requires-clause-branch : goal.with_call-requires-clause-branch
with_call-requires-clause-branch c = let n = c.args.store.now in let m = c.unfolded_form.new.store in let g = c.unfolded_form.ensures.grows in
    subst (λ ts. IsBranchOver ts c.args.branch) (sym c.terms.ensures) (branch_more n.terms m.terms g.terms c.args.branch c.requires.branch).0

pub changing-requires-clause-place : goal.changing-requires-clause-place
changing-requires-clause-place c = subst (λ fs. c.args.found.at < length fs) (sym c.in_ok-more.ensures.facts) c.requires.found.place

pub changing-requires-clause-step : goal.changing-requires-clause-step
changing-requires-clause-step c = below_later c.args.store.now c.unfolded_form.new.store c.args.found.term c.unfolded_form.ensures.grows c.requires.found.term

pub changing-requires-clause-branch : goal.changing-requires-clause-branch
changing-requires-clause-branch c = subst (λ ts. IsBranchOver ts c.in_ok-more.more) c.terms.ensures c.in_ok-more.ensures.over

pub returns-in_err-form-clause-gives : goal.returns-in_err-form-clause-gives
returns-in_err-form-clause-gives c = let n = c.args.store.now in let m = c.unfolded_form.new.store in
    move_fault m.terms c.from_residual.result c.in_err-form.field-0.0 _ c.from_residual.ensures.1
    (λ wide. unfolds_none n m c.unfolded_form.ensures.grows c.args.branch c.requires.vars c.requires.branch c.args.found (c.in_err-form.ensures.gives wide))

pub returns-clause-gives : goal.returns-clause-gives
returns-clause-gives c = let n = c.args.store.now in let m = c.unfolded_form.new.store in let more = c.in_ok-more.more in let b = c.args.branch in let a = c.args.found in
    let seen : branch_at m.terms more ≡ with_call m.defs (at m.terms a.term) (branch_at m.terms b) =
    subst (λ ds. branch_at m.terms more ≡ with_call ds (at m.terms a.term) (branch_at m.terms b)) c.defs.ensures (subst (λ ts. branch_at ts more ≡ with_call c.defs.result.now (at ts a.term) (branch_at ts b)) c.terms.ensures c.in_ok-more.ensures.is) in
    unfolds_at n m c.unfolded_form.ensures.grows b c.requires.vars c.requires.branch (c.changing.new.store).terms a c.in_ok-form.form more c.in_ok-changing.field-0 c.requires.found.term c.in_ok-form.ensures.gives.1 seen c.in_ok-changing.ensures.step

pub returns-in_err-changing-clause-grows : goal.returns-in_err-changing-clause-grows
returns-in_err-changing-clause-grows c = then c.args.store.now c.unfolded_form.new.store c.changing.new.store c.unfolded_form.ensures.grows c.changing.ensures.grows

pub returns-clause-grows : goal.returns-clause-grows
returns-clause-grows c = then c.args.store.now c.unfolded_form.new.store c.changing.new.store c.unfolded_form.ensures.grows c.changing.ensures.grows
