use Rattle.std.proofs.Common.{◌≡◌, ◌∙◌, sym, ap, subst, Some, None, map}
use Rattle.std.specs.List.{AllByRecursion}
use Rattle.logic_core.proofs.Refused.{gives_err}
use Rattle.tableau_branch.specs.Branch.{each}
use Rattle.numbered_terms.specs.Lists.{terms_at}
use Rattle.numbered_facts.proofs.Growing.{same, then}
use Rattle.numbered_branches.specs.Branches.{IsMarkOver, mark_at, made_at}
use Rattle.numbered_instances.proofs.NewTuples.{marks_more}
use Rattle.numbered_instances.proofs.WithinTerms.{within_of, mark_of}
use Rattle.numbered_instances.proofs.RestRewritten.{calls_leave, marks_leave, rest_over_now, rest_given}
use Rattle.numbered_instances.proofs.rewriting.rewrite_rest.Goals as goal

pub returns-in_err-calls-clause-gives : goal.returns-in_err-calls-clause-gives
returns-in_err-calls-clause-gives c =
    let n = c.args.store.now in let m = c.rewrite_terms.new.store in let g = c.rewrite_terms.ensures.grows in let old = c.args.made.now in let l = c.requires.left in let r = c.requires.right in
    let calls : c.calls_of.result.now ≡ old.branch.calls = c.calls_of.ensures in
    gives_err (λ _. made_at m.terms old) c.from_residual.result c.in_err-calls.field-0.0 _ c.from_residual.ensures.1
    (λ wide. calls_leave n m m g (same m) c.args.left c.args.right l r old c.requires.made c.requires.vars
    (ap (λ is. each (within_of n m g c.args.left c.args.right l r n) (terms_at n.terms is)) (sym calls) ∙ c.in_err-calls.ensures.gives wide))

pub returns-in_err-marks-clause-gives : goal.returns-in_err-marks-clause-gives
returns-in_err-marks-clause-gives c =
    let n = c.args.store.now in let m = c.rewrite_terms.new.store in let o = c.rewrite_marks.new.store in let g = c.in_ok-calls.ensures.grows in let d = c.rewrite_marks.ensures.grows in let old = c.args.made.now in let l = c.requires.left in let r = c.requires.right in
    let calls : c.calls_of.result.now ≡ old.branch.calls = c.calls_of.ensures in
    let marks : c.marks_of.result.now ≡ old.branch.marks = c.marks_of.ensures in
    gives_err (λ _. made_at o.terms old) c.from_residual-in_err-marks.result c.in_err-marks.field-0.0 _ c.from_residual-in_err-marks.ensures.1
    (λ wide. marks_leave n m o g d c.args.left c.args.right l r old c.requires.made c.requires.vars c.in_ok-calls.calls.items
    (ap (λ is. each (within_of n m g c.args.left c.args.right l r n) (terms_at n.terms is)) (sym calls) ∙ c.in_ok-calls.ensures.gives)
    (ap (λ ms. each (mark_of n m g c.args.left c.args.right l r m) (map (mark_at m.terms) ms)) (sym marks) ∙ c.in_err-marks.ensures.gives wide))

pub rewrite_marks-requires-clause-marks : goal.rewrite_marks-requires-clause-marks
rewrite_marks-requires-clause-marks c =
    let n = c.args.store.now in let m = c.rewrite_terms.new.store in
    let marks : c.marks_of.result.now ≡ c.args.made.now.branch.marks = c.marks_of.ensures in
    subst (AllByRecursion (IsMarkOver m.terms)) (sym marks) (marks_more n.terms m.terms c.in_ok-calls.ensures.grows.terms c.args.made.now.branch.marks c.requires.made.branch.marks).0

pub returns-clause-made : goal.returns-clause-made
returns-clause-made c =
    let n = c.args.store.now in let m = c.rewrite_terms.new.store in let o = c.rewrite_marks.new.store in let g = c.in_ok-calls.ensures.grows in let d = c.in_ok-marks.ensures.grows in let old = c.args.made.now in let l = c.requires.left in let r = c.requires.right in
    let is = c.in_ok-calls.calls.items in let ms = c.in_ok-marks.marks.items in
    let calls : c.calls_of.result.now ≡ old.branch.calls = c.calls_of.ensures in
    rest_over_now n m o g d c.args.left c.args.right l r old c.requires.made c.requires.vars is
    (ap (λ js. each (within_of n m g c.args.left c.args.right l r n) (terms_at n.terms js)) (sym calls) ∙ c.in_ok-calls.ensures.gives) c.in_ok-calls.ensures.within ms c.in_ok-marks.ensures.over c.put_rest.new.made c.put_rest.ensures

pub returns-clause-gives : goal.returns-clause-gives
returns-clause-gives c =
    let n = c.args.store.now in let m = c.rewrite_terms.new.store in let o = c.rewrite_marks.new.store in let g = c.in_ok-calls.ensures.grows in let d = c.in_ok-marks.ensures.grows in let old = c.args.made.now in let l = c.requires.left in let r = c.requires.right in
    let is = c.in_ok-calls.calls.items in let ms = c.in_ok-marks.marks.items in
    let calls : c.calls_of.result.now ≡ old.branch.calls = c.calls_of.ensures in
    let marks : c.marks_of.result.now ≡ old.branch.marks = c.marks_of.ensures in
    rest_given n m o g d c.args.left c.args.right l r old c.requires.made c.requires.vars is
    (ap (λ js. each (within_of n m g c.args.left c.args.right l r n) (terms_at n.terms js)) (sym calls) ∙ c.in_ok-calls.ensures.gives) c.in_ok-calls.ensures.within ms c.in_ok-marks.ensures.over c.put_rest.new.made c.put_rest.ensures
    (ap (λ ks. each (mark_of n m g c.args.left c.args.right l r m) (map (mark_at m.terms) ks)) (sym marks) ∙ c.in_ok-marks.ensures.gives)

pub returns-in_err-marks-clause-grows : goal.returns-in_err-marks-clause-grows
returns-in_err-marks-clause-grows c = then c.args.store.now c.rewrite_terms.new.store c.rewrite_marks.new.store c.rewrite_terms.ensures.grows c.rewrite_marks.ensures.grows

pub returns-clause-grows : goal.returns-clause-grows
returns-clause-grows c = then c.args.store.now c.rewrite_terms.new.store c.rewrite_marks.new.store c.rewrite_terms.ensures.grows c.rewrite_marks.ensures.grows
