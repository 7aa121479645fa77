use Rattle.std.proofs.Common.{◌≡◌, ◌<◌, sym, subst, length}
use Rattle.std.specs.List.{AllByRecursion}
use Rattle.tableau_branch.specs.Branch.{without}
use Rattle.numbered_branches.specs.Branches.{branch_at, IsBranchOver}
use Rattle.numbered_branches.proofs.Changing.{branch_more}
use Rattle.numbered_logic.proofs.Attempts.{move_fault}
use Rattle.numbered_logic.proofs.Rules.{splits_at, splits_none}
use Rattle.numbered_facts.proofs.Growing.{then}
use Rattle.numbered_logic.proofs.splitting.split_into.Goals as goal

pub without-rest-requires-clause-branch : goal.without-rest-requires-clause-branch
without-rest-requires-clause-branch c = let n = c.args.store.now in let m = c.normal_forms.new.store in let g = c.normal_forms.ensures.grows in
    subst (λ ts. IsBranchOver ts c.args.branch) (sym c.terms.ensures) (branch_more n.terms m.terms g.terms c.args.branch c.requires.branch).0

pub each_case-requires-clause-branch : goal.each_case-requires-clause-branch
each_case-requires-clause-branch c = subst (λ ts. IsBranchOver ts c.without-rest.result) c.terms.ensures c.without-rest.ensures.over

pub each_case-requires-clause-ids : goal.each_case-requires-clause-ids
each_case-requires-clause-ids c = let m = c.normal_forms.new.store in subst (AllByRecursion (λ i. i < length m.terms)) (sym c.deref-2.ensures.value) c.in_ok-forms.ensures.forms.0

pub returns-in_err-forms-clause-gives : goal.returns-in_err-forms-clause-gives
returns-in_err-forms-clause-gives c = let n = c.args.store.now in let m = c.normal_forms.new.store in
    move_fault m.terms c.from_residual.result c.in_err-forms.field-0.0 _ c.from_residual.ensures.1
    (λ wide. splits_none n m c.normal_forms.ensures.grows c.args.branch c.requires.vars c.requires.branch c.args.found c.deref.result.now c.deref.ensures.value (c.in_err-forms.ensures.forms wide))

pub returns-clause-gives : goal.returns-clause-gives
returns-clause-gives c = let n = c.args.store.now in let m = c.normal_forms.new.store in let rest = c.without-rest.result in let b = c.args.branch in let a = c.args.found in
    splits_at n m c.normal_forms.ensures.grows b c.requires.vars c.requires.branch (c.each_case.new.store).terms a c.deref.result.now c.in_ok-forms.forms.items c.deref-2.result.now rest c.in_ok-made.made
    c.deref.ensures.value c.deref-2.ensures.value c.in_ok-forms.ensures.forms.1 (subst (λ ts. branch_at ts rest ≡ without a.at (branch_at ts b)) c.terms.ensures c.without-rest.ensures.without) c.in_ok-made.ensures.made

pub returns-in_err-made-clause-grows : goal.returns-in_err-made-clause-grows
returns-in_err-made-clause-grows c = then c.args.store.now c.normal_forms.new.store c.each_case.new.store c.normal_forms.ensures.grows c.each_case.ensures.grows

pub returns-clause-grows : goal.returns-clause-grows
returns-clause-grows c = then c.args.store.now c.normal_forms.new.store c.each_case.new.store c.normal_forms.ensures.grows c.each_case.ensures.grows
