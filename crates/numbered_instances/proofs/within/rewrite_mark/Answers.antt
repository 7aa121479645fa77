use Rattle.std.proofs.Common.{◌≡◌, ◌∙◌, ◌<◌, sym, ap, subst, Some, length, map}
use Rattle.logic_core.proofs.Refused.{gives_err}
use Rattle.term_bank.specs.Numbered.{at}
use Rattle.tableau_branch.specs.Branch.{each}
use Rattle.numbered_terms.specs.Lists.{terms_at}
use Rattle.numbered_facts.specs.Answers.{AreAt}
use Rattle.numbered_branches.specs.Branches.{NumberedMark, mark_at, terms_in}
use Rattle.numbered_instances.proofs.WithinTerms.{within_of, fact_leaves, tuple_leaves, mark_made, mark_over}
use Rattle.numbered_facts.proofs.Growing.{then}
use Rattle.numbered_instances.proofs.within.rewrite_mark.Goals as goal

pub returns-clause-gives : goal.returns-clause-gives
returns-clause-gives c =
    let n = c.args.store.now in let m = c.rewrite_within.new.store in let o = c.rewrite_terms.new.store in let p = c.make.new.self in
    let left = c.args.left in let right = c.args.right in let js = c.in_ok-rewritten.rewritten.items in
    let g = c.in_ok-fact.ensures.grows in
    let first = ap (λ (x : NumberedMark). within_of n m g left right c.requires.left c.requires.right n (at n.terms x.fact)) (sym c.mark.view_is) ∙ c.in_ok-fact.ensures.gives.1 in
    let terms = subst (λ (x : NumberedMark). AreAt m.terms c.in_ok-terms.terms.items (terms_in (at m.terms x.tuple))) c.mark.view_is (rw c.terms.ensures at c.in_ok-terms.ensures) in
    let rest = ap (λ is. each (within_of n m g left right c.requires.left c.requires.right m) (terms_at m.terms is)) (sym c.deref.ensures.value) ∙ c.in_ok-rewritten.ensures.gives in
    mark_made n m g left right c.requires.left c.requires.right o p c.in_ok-rewritten.ensures.grows c.in_ok-tuple.ensures.grows c.args.mark.now c.requires.mark c.in_ok-fact.fact c.in_ok-tuple.tuple c.in_ok-terms.terms.items js
    c.in_ok-fact.ensures.gives.0 c.in_ok-tuple.ensures.gives first terms rest

pub returns-clause-over : goal.returns-clause-over
returns-clause-over c =
    let n = c.args.store.now in let m = c.rewrite_within.new.store in let o = c.rewrite_terms.new.store in let p = c.make.new.self in
    mark_over n m c.in_ok-fact.ensures.grows c.args.left c.args.right c.requires.left c.requires.right o p c.in_ok-rewritten.ensures.grows c.in_ok-tuple.ensures.grows c.args.mark.now c.requires.mark c.in_ok-fact.fact c.in_ok-tuple.tuple c.in_ok-terms.terms.items
    c.in_ok-rewritten.rewritten.items c.in_ok-fact.ensures.gives.0 c.in_ok-tuple.ensures.gives

pub returns-in_err-fact-clause-gives : goal.returns-in_err-fact-clause-gives
returns-in_err-fact-clause-gives c =
    let n = c.args.store.now in let m = c.rewrite_within.new.store in let g = c.rewrite_within.ensures.grows in
    let left = c.args.left in let right = c.args.right in
    gives_err (mark_at m.terms) c.from_residual.result c.in_err-fact.field-0.0 _ c.from_residual.ensures.1
    (λ wide. fact_leaves n m g left right c.requires.left c.requires.right c.args.mark.now c.requires.mark
    (ap (λ (x : NumberedMark). within_of n m g left right c.requires.left c.requires.right n (at n.terms x.fact)) (sym c.mark.view_is) ∙ c.in_err-fact.ensures.gives wide))

pub returns-in_err-rewritten-clause-gives : goal.returns-in_err-rewritten-clause-gives
returns-in_err-rewritten-clause-gives c =
    let n = c.args.store.now in let m = c.rewrite_within.new.store in let o = c.rewrite_terms.new.store in let g = c.in_ok-fact.ensures.grows in
    let left = c.args.left in let right = c.args.right in
    let first = ap (λ (x : NumberedMark). within_of n m g left right c.requires.left c.requires.right n (at n.terms x.fact)) (sym c.mark.view_is) ∙ c.in_ok-fact.ensures.gives.1 in
    let terms = subst (λ (x : NumberedMark). AreAt m.terms c.in_ok-terms.terms.items (terms_in (at m.terms x.tuple))) c.mark.view_is (rw c.terms.ensures at c.in_ok-terms.ensures) in
    gives_err (mark_at o.terms) c.from_residual-in_err-rewritten.result c.in_err-rewritten.field-0.0 _ c.from_residual-in_err-rewritten.ensures.1
    (λ wide. tuple_leaves n m g left right c.requires.left c.requires.right c.args.mark.now c.requires.mark (at m.terms c.in_ok-fact.fact) c.in_ok-terms.terms.items first terms
    (ap (λ is. each (within_of n m g left right c.requires.left c.requires.right m) (terms_at m.terms is)) (sym c.deref.ensures.value) ∙ c.in_err-rewritten.ensures.gives wide))

pub returns-in_err-rewritten-clause-grows : goal.returns-in_err-rewritten-clause-grows
returns-in_err-rewritten-clause-grows c = then c.args.store.now c.rewrite_within.new.store c.rewrite_terms.new.store c.rewrite_within.ensures.grows c.rewrite_terms.ensures.grows

pub returns-in_err-tuple-clause-grows : goal.returns-in_err-tuple-clause-grows
returns-in_err-tuple-clause-grows c = then c.args.store.now c.rewrite_terms.new.store c.make.new.self (then c.args.store.now c.rewrite_within.new.store c.rewrite_terms.new.store c.rewrite_within.ensures.grows c.rewrite_terms.ensures.grows) c.make.ensures.grows

pub returns-clause-grows : goal.returns-clause-grows
returns-clause-grows c = then c.args.store.now c.rewrite_terms.new.store c.make.new.self (then c.args.store.now c.rewrite_within.new.store c.rewrite_terms.new.store c.rewrite_within.ensures.grows c.rewrite_terms.ensures.grows) c.make.ensures.grows
