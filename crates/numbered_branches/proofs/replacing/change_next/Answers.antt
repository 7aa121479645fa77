use Rattle.std.proofs.Common.{None}
use Rattle.term_bank.specs.Numbered.{at}
use Rattle.tableau_branch.proofs.ChangedFacts.{wide_err}
use Rattle.numbered_branches.specs.Branches.{step_at}
use Rattle.numbered_branches.specs.StepView.{step_seen}
use Rattle.numbered_branches.proofs.Between.{behind_passed, behind_changed}
use Rattle.numbered_branches.proofs.Changing.{made_more}
use Rattle.numbered_branches.proofs.Replaced.{got_below, over_vars, changed_next, changed_not, changed_wide}
use Rattle.numbered_branches.proofs.Growing.{below}
use Rattle.numbered_facts.proofs.Growing.{then}
use Rattle.numbered_branches.proofs.replacing.change_next.Goals as goal

pub returns-in_err-form-clause-wide : goal.returns-in_err-form-clause-wide
returns-in_err-form-clause-wide c =
    let n = c.args.store.now in let old = c.args.made.now in
    let r = c.args.replacing.now in let place = c.args.at in
    let f = c.fact_in-fact.result in let got = c.fact_in-fact.ensures.got in
    let low = got_below n old c.requires.made place f got in
    wide_err c.from_residual.result c.in_err-form.field-0.0 _ c.from_residual.ensures.1
    (λ wide. changed_wide n r c.requires.replacing old c.requires.made place f got (over_vars n r f old.branch.vars None c.requires.vars (c.in_err-form.ensures.gives wide)))

pub append_by-requires-clause-step : goal.append_by-requires-clause-step
append_by-requires-clause-step c = c.node.ensures.below _ (below c.args.store.now c.form_in.new.store c.args.replacing.now.left c.in_ok-form.ensures.grows c.requires.replacing.left)

pub append_by-requires-clause-made : goal.append_by-requires-clause-made
append_by-requires-clause-made c = (made_more c.args.store.now.terms c.form_in.new.store.terms c.in_ok-form.ensures.grows.terms c.args.made.now c.requires.made).0

pub change_at-requires-clause-made : goal.change_at-requires-clause-made
change_at-requires-clause-made c = rw c.terms.ensures c.in_ok-changed-in-Some.ensures.made.0

pub returns-in_ok-changed-in-Some-clause-made : goal.returns-in_ok-changed-in-Some-clause-made
returns-in_ok-changed-in-Some-clause-made c = (rw c.terms.ensures at c.change_at.ensures.made).0

pub returns-in_ok-changed-in-Some-clause-gives : goal.returns-in_ok-changed-in-Some-clause-gives
returns-in_ok-changed-in-Some-clause-gives c =
    let n = c.args.store.now in let old = c.args.made.now in
    let r = c.args.replacing.now in let place = c.args.at in
    let f = c.fact_in-fact.result in let got = c.fact_in-fact.ensures.got in
    let low = got_below n old c.requires.made place f got in
    let u = c.form_in.new.store in let v = c.append_by.new.store in
    let change = rw c.in-Some.is at c.in_ok-form.ensures.gives in
    let before = rw c.terms.ensures at c.change_at.ensures.before in
    let made = rw c.terms.ensures at c.change_at.ensures.made in
    changed_next n r c.requires.replacing old c.requires.made place f got u v c.append_by.new.made c.change_at.new.made c.change_at.result c.in_ok-changed-in-Some.changed c.in-Some.form (step_seen c.node.result)
    c.in_ok-form.ensures.grows c.in_ok-changed-in-Some.ensures.grows low (c.node.ensures.node u.terms) (over_vars n r f old.branch.vars _ c.requires.vars change.1)
    c.in_ok-changed-in-Some.ensures.fact.1 c.in_ok-changed-in-Some.ensures.made.1 before c.change_at.ensures.behind made.1

pub returns-in_ok-changed-in-Some-clause-behind : goal.returns-in_ok-changed-in-Some-clause-behind
returns-in_ok-changed-in-Some-clause-behind c =
    let us = c.form_in.new.store.terms in
    behind_changed c.args.store.now c.form_in.new.store c.append_by.new.store c.in_ok-form.ensures.grows (step_at us (step_seen c.node.result)) (at us c.in-Some.form) c.args.at c.change_at.result c.args.made.now c.append_by.new.made c.change_at.new.made c.requires.made c.in_ok-changed-in-Some.ensures.made.1 c.change_at.ensures.behind

pub returns-in-None-clause-made : goal.returns-in-None-clause-made
returns-in-None-clause-made c = (made_more c.args.store.now.terms c.form_in.new.store.terms c.in_ok-form.ensures.grows.terms c.args.made.now c.requires.made).0

pub returns-in-None-clause-gives : goal.returns-in-None-clause-gives
returns-in-None-clause-gives c =
    let n = c.args.store.now in let old = c.args.made.now in
    let r = c.args.replacing.now in let place = c.args.at in
    let f = c.fact_in-fact.result in let got = c.fact_in-fact.ensures.got in
    let low = got_below n old c.requires.made place f got in
    let change = rw c.in-None.is at c.in_ok-form.ensures.gives in
    changed_not n r c.requires.replacing old c.requires.made place f got c.form_in.new.store c.in_ok-form.ensures.grows (over_vars n r f old.branch.vars _ c.requires.vars change)

pub returns-in_err-changed-in-Some-clause-grows : goal.returns-in_err-changed-in-Some-clause-grows
returns-in_err-changed-in-Some-clause-grows c = then c.args.store.now c.form_in.new.store c.append_by.new.store c.in_ok-form.ensures.grows c.append_by.ensures.grows

pub returns-in_ok-changed-in-Some-clause-grows : goal.returns-in_ok-changed-in-Some-clause-grows
returns-in_ok-changed-in-Some-clause-grows c = then c.args.store.now c.form_in.new.store c.append_by.new.store c.in_ok-form.ensures.grows c.in_ok-changed-in-Some.ensures.grows

pub returns-in-None-clause-behind : goal.returns-in-None-clause-behind
returns-in-None-clause-behind c = behind_passed c.args.store.now c.form_in.new.store c.in_ok-form.ensures.grows c.args.at c.args.made.now c.requires.made
