use Rattle.std.proofs.Common.{ap, ◌∙◌, Some, None, map}
use Rattle.logic_rules.specs.Unfolding.{first_call, unfolded_at}
use Rattle.tableau_branch.specs.Branch.{first_from}
use Rattle.numbered_branches.specs.Branches.{NumberedBranch, fact_at}
use Rattle.numbered_branches.proofs.Changing.{branch_more}
use Rattle.numbered_logic.specs.Found.{found_one_at}
use Rattle.numbered_logic.proofs.Attempts.{passes, gives, faults}
use Rattle.numbered_logic.proofs.Calls.{finds_one_in}
use Rattle.numbered_facts.proofs.Growing.{then}
use Rattle.numbered_logic.proofs.unfolding.unfold.Goals as goal

pub unfold_at-requires-clause-branch : goal.unfold_at-requires-clause-branch
unfold_at-requires-clause-branch c = let n = c.args.store.now in let m = c.oldest_call.new.store in let g = c.oldest_call.ensures.grows in (branch_more n.terms m.terms g.terms c.args.branch c.requires.branch).0

pub unfold_at-requires-clause-vars : goal.unfold_at-requires-clause-vars
unfold_at-requires-clause-vars c = let g = c.oldest_call.ensures.grows in g.vars ∙ c.requires.vars

pub unfold_at-requires-clause-found : goal.unfold_at-requires-clause-found
unfold_at-requires-clause-found c = let n = c.args.store.now in let m = c.oldest_call.new.store in
    (finds_one_in first_call m.terms n.terms c.deref.result.now c.args.branch.facts (Some c.in-Some.found) (c.deref.ensures.value ∙ ap (λ (b : NumberedBranch). b.facts) c.branch.view_is) (rw c.in-Some.is at c.in_ok-found.ensures.found)).0

pub returns-in_err-unfold_at-in-Some-clause-tries : goal.returns-in_err-unfold_at-in-Some-clause-tries
returns-in_err-unfold_at-in-Some-clause-tries c = let n = c.args.store.now in let m = c.oldest_call.new.store in let b = c.args.branch in
    let found = finds_one_in first_call m.terms n.terms c.deref.result.now c.args.branch.facts (Some c.in-Some.found) (c.deref.ensures.value ∙ ap (λ (b : NumberedBranch). b.facts) c.branch.view_is) (rw c.in-Some.is at c.in_ok-found.ensures.found) in
    faults unfolded_at n m c.oldest_call.ensures.grows b c.requires.branch (c.unfold_at.new.store).terms (first_from first_call 0 (map (fact_at n.terms) b.facts)) c.from_residual-in_err-unfold_at-in-Some.result (found_one_at m.terms c.in-Some.found)
    c.in_err-unfold_at-in-Some.field-0.0 found.1 c.from_residual-in_err-unfold_at-in-Some.ensures.1 c.in_err-unfold_at-in-Some.ensures.gives

pub returns-in_ok-unfold_at-in-Some-clause-tries : goal.returns-in_ok-unfold_at-in-Some-clause-tries
returns-in_ok-unfold_at-in-Some-clause-tries c = let n = c.args.store.now in let m = c.oldest_call.new.store in let b = c.args.branch in
    let found = finds_one_in first_call m.terms n.terms c.deref.result.now c.args.branch.facts (Some c.in-Some.found) (c.deref.ensures.value ∙ ap (λ (b : NumberedBranch). b.facts) c.branch.view_is) (rw c.in-Some.is at c.in_ok-found.ensures.found) in
    gives unfolded_at n m c.oldest_call.ensures.grows b c.requires.branch (c.unfold_at.new.store).terms (first_from first_call 0 (map (fact_at n.terms) b.facts)) c.in_ok-unfold_at-in-Some.field-0 (found_one_at m.terms c.in-Some.found) found.1
    c.in_ok-unfold_at-in-Some.ensures.gives

pub returns-in-None-clause-tries : goal.returns-in-None-clause-tries
returns-in-None-clause-tries c = let n = c.args.store.now in let m = c.oldest_call.new.store in let b = c.args.branch in
    passes unfolded_at n m c.oldest_call.ensures.grows b c.requires.branch m.terms (first_from first_call 0 (map (fact_at n.terms) b.facts))
    (finds_one_in first_call m.terms n.terms c.deref.result.now b.facts None (c.deref.ensures.value ∙ ap (λ (b : NumberedBranch). b.facts) c.branch.view_is) (rw c.in-None.is at c.in_ok-found.ensures.found))

pub returns-in_err-unfold_at-in-Some-clause-grows : goal.returns-in_err-unfold_at-in-Some-clause-grows
returns-in_err-unfold_at-in-Some-clause-grows c = then c.args.store.now c.oldest_call.new.store c.unfold_at.new.store c.oldest_call.ensures.grows c.unfold_at.ensures.grows

pub returns-in_ok-unfold_at-in-Some-clause-grows : goal.returns-in_ok-unfold_at-in-Some-clause-grows
returns-in_ok-unfold_at-in-Some-clause-grows c = then c.args.store.now c.oldest_call.new.store c.unfold_at.new.store c.oldest_call.ensures.grows c.unfold_at.ensures.grows
