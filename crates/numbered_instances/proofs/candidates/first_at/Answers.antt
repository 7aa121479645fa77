use Rattle.std.proofs.Common.{◌≡◌, ◌∙◌, ◌<◌, sym, ap, subst, false, Bool, List, Some, None, map, find, option_map, length}
use Rattle.std.specs.List.{AllByRecursion}
use Rattle.logic_core.specs.Tree.{Tree}
use Rattle.logic_rules.specs.Instantiating.{is_unmarked}
use Rattle.term_bank.specs.Numbered.{at}
use Rattle.term_bank.proofs.Numbers.{begins_at}
use Rattle.numbered_terms.specs.Lists.{terms_at, lists_at}
use Rattle.numbered_branches.specs.Branches.{NumberedBranch, NumberedMark, IsMarkOver, branch_at, fact_at, mark_at, terms_in}
use Rattle.numbered_instances.specs.Instances.{body_in, is_for_all, is_new, tuples_in}
use Rattle.numbered_instances.proofs.FactTuples.{as_candidate, no_candidate}
use Rattle.numbered_instances.proofs.Passing.{same_found}
use Rattle.numbered_instances.proofs.candidates.first_at.Goals as goal

pub list_passed-requires-clause-marks : goal.list_passed-requires-clause-marks
list_passed-requires-clause-marks c =
    subst (λ (ts : List Tree). AllByRecursion (IsMarkOver ts) c.deref.result.now) (sym c.terms-terms.ensures)
    (subst (AllByRecursion (IsMarkOver c.args.store.now.terms)) (sym (c.deref.ensures.value ∙ ap (λ (y : NumberedBranch). y.marks) c.branch.view_is)) c.requires.branch.marks)

pub returns-then-not-is_for_all-clause-first : goal.returns-then-not-is_for_all-clause-first
returns-then-not-is_for_all-clause-first c =
    let ts = c.args.store.now.terms in let x = c.args.branch.now in let f = c.args.fact.now in let B = branch_at ts x in
    let other : is_for_all (at ts f.term) ≡ false = (λ k. is_for_all (at (sym c.terms-terms.ensures k) (sym c.fact.view_is k).term)) ∙ sym c.is_for_all.ensures ∙ c.if-not-is_for_all.true in
    ap (find (is_unmarked B)) (no_candidate c.args.store.now.defs B (terms_at ts c.args.ground.now) (fact_at ts f) other)

pub returns-in-Some-clause-first : goal.returns-in-Some-clause-first
returns-in-Some-clause-first c =
    let ts = c.args.store.now.terms in let vs = c.first_new.new.store.terms in let defs = c.args.store.now.defs in
    let x = c.args.branch.now in let f = c.args.fact.now in let G = terms_at ts c.args.ground.now in let is = c.in_ok-tuples.tuples.items in
    let us = c.terms-terms.result.now in let t = at us c.fact.inside.term in
    let first = same_found us c.list_passed.new.passed (lists_at us is) (tuples_in c.vars.result.now c.defs.result.now (terms_at us c.args.ground.now) t) (is_new (map (mark_at us) c.deref.result.now) t) c.in_ok-tuples.ensures.tuples c.in_ok-list_passed.ensures in
    let marks = c.deref.ensures.value ∙ ap (λ (y : NumberedBranch). y.marks) c.branch.view_is in
    let again = c.deref-2.ensures.value ∙ sym c.deref.ensures.value in
    let e = ap (option_map (λ i. terms_in (at vs i))) (sym c.in-Some.is) ∙ c.in_ok-tuple.ensures.first
    ∙ (λ k. find (is_new (map (mark_at (sym c.terms-terms.ensures k)) (again k)) (at (sym c.terms-terms.ensures k) c.fact.inside.term)) (lists_at (sym c.terms-terms.ensures k) is)) ∙ first
    ∙ (λ k. find (is_new (map (mark_at (c.terms-terms.ensures k)) (marks k)) (at (c.terms-terms.ensures k) (c.fact.view_is k).term)) (tuples_in (c.vars.ensures k) (c.defs.ensures k) (terms_at (c.terms-terms.ensures k) c.args.ground.now) (at (c.terms-terms.ensures k) (c.fact.view_is k).term)))
    ∙ (λ k. find (is_new (map (mark_at ts) x.marks) (at ts f.term)) (tuples_in (c.requires.vars k) defs G (at ts f.term))) in
    let same = begins_at ts vs f.term c.in_ok-tuple.ensures.grows.terms c.requires.fact in
    (λ k. Some (record { fact = fact_at vs (c.fact.view_is k); body = body_in (at vs (c.fact.view_is k).term); tuple = terms_in (at vs c.in-Some.tuple) }))
    ∙ (λ k. Some (record { fact = record { term = same k; number = f.number }; body = body_in (same k); tuple = terms_in (at vs c.in-Some.tuple) }))
    ∙ sym (as_candidate defs (branch_at ts x) G (fact_at ts f) (Some (terms_in (at vs c.in-Some.tuple))) e)

pub returns-in-None-clause-first : goal.returns-in-None-clause-first
returns-in-None-clause-first c =
    let ts = c.args.store.now.terms in let vs = c.first_new.new.store.terms in let defs = c.args.store.now.defs in
    let x = c.args.branch.now in let f = c.args.fact.now in let G = terms_at ts c.args.ground.now in let is = c.in_ok-tuples.tuples.items in
    let us = c.terms-terms.result.now in let t = at us c.fact.inside.term in
    let first = same_found us c.list_passed.new.passed (lists_at us is) (tuples_in c.vars.result.now c.defs.result.now (terms_at us c.args.ground.now) t) (is_new (map (mark_at us) c.deref.result.now) t) c.in_ok-tuples.ensures.tuples c.in_ok-list_passed.ensures in
    let marks = c.deref.ensures.value ∙ ap (λ (y : NumberedBranch). y.marks) c.branch.view_is in
    let again = c.deref-2.ensures.value ∙ sym c.deref.ensures.value in
    let e = ap (option_map (λ i. terms_in (at vs i))) (sym c.in-None.is) ∙ c.in_ok-tuple.ensures.first
    ∙ (λ k. find (is_new (map (mark_at (sym c.terms-terms.ensures k)) (again k)) (at (sym c.terms-terms.ensures k) c.fact.inside.term)) (lists_at (sym c.terms-terms.ensures k) is)) ∙ first
    ∙ (λ k. find (is_new (map (mark_at (c.terms-terms.ensures k)) (marks k)) (at (c.terms-terms.ensures k) (c.fact.view_is k).term)) (tuples_in (c.vars.ensures k) (c.defs.ensures k) (terms_at (c.terms-terms.ensures k) c.args.ground.now) (at (c.terms-terms.ensures k) (c.fact.view_is k).term)))
    ∙ (λ k. find (is_new (map (mark_at ts) x.marks) (at ts f.term)) (tuples_in (c.requires.vars k) defs G (at ts f.term))) in
    sym (as_candidate defs (branch_at ts x) G (fact_at ts f) None e)
