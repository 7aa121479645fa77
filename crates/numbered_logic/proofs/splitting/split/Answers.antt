use Rattle.std.proofs.Common.{ap, ◌∙◌, Some, None, map}
use Rattle.logic_rules.specs.Splitting.{cases_of, split_at}
use Rattle.tableau_branch.specs.Branch.{first_from}
use Rattle.numbered_branches.specs.Branches.{NumberedBranch, branch_at, fact_at}
use Rattle.numbered_branches.proofs.Changing.{branch_more}
use Rattle.numbered_logic.specs.Found.{found_at}
use Rattle.numbered_logic.proofs.Attempts.{passes, gives, faults}
use Rattle.numbered_logic.proofs.Calls.{finds_cases}
use Rattle.numbered_facts.proofs.Growing.{then}
use Rattle.numbered_logic.proofs.splitting.split.Goals as goal

pub split_into-requires-clause-branch : goal.split_into-requires-clause-branch
split_into-requires-clause-branch c = let n = c.args.store.now in let m = c.oldest_cases.new.store in let g = c.oldest_cases.ensures.grows in (branch_more n.terms m.terms g.terms c.args.branch c.requires.branch).0

pub split_into-requires-clause-vars : goal.split_into-requires-clause-vars
split_into-requires-clause-vars c = let g = c.oldest_cases.ensures.grows in g.vars ∙ c.requires.vars

pub split_into-requires-clause-found : goal.split_into-requires-clause-found
split_into-requires-clause-found c = let n = c.args.store.now in let m = c.oldest_cases.new.store in
    (finds_cases n m c.args.branch c.deref.result.now (Some c.in-Some.found) c.requires.vars (c.deref.ensures.value ∙ ap (λ (b : NumberedBranch). b.facts) c.branch.view_is) (rw c.in-Some.is at c.in_ok-found.ensures.found)).0

pub returns-in_err-split_into-in-Some-clause-tries : goal.returns-in_err-split_into-in-Some-clause-tries
returns-in_err-split_into-in-Some-clause-tries c = let n = c.args.store.now in let m = c.oldest_cases.new.store in let b = c.args.branch in
    let found = finds_cases n m b c.deref.result.now (Some c.in-Some.found) c.requires.vars (c.deref.ensures.value ∙ ap (λ (b : NumberedBranch). b.facts) c.branch.view_is) (rw c.in-Some.is at c.in_ok-found.ensures.found) in
    faults split_at n m c.oldest_cases.ensures.grows b c.requires.branch (c.split_into.new.store).terms (first_from (cases_of n.defs (branch_at n.terms b)) 0 (map (fact_at n.terms) b.facts)) c.from_residual-in_err-split_into-in-Some.result
    (found_at m.terms c.in-Some.found) c.in_err-split_into-in-Some.field-0.0 found.1 c.from_residual-in_err-split_into-in-Some.ensures.1 c.in_err-split_into-in-Some.ensures.gives

pub returns-in_ok-split_into-in-Some-clause-tries : goal.returns-in_ok-split_into-in-Some-clause-tries
returns-in_ok-split_into-in-Some-clause-tries c = let n = c.args.store.now in let m = c.oldest_cases.new.store in let b = c.args.branch in
    let found = finds_cases n m b c.deref.result.now (Some c.in-Some.found) c.requires.vars (c.deref.ensures.value ∙ ap (λ (b : NumberedBranch). b.facts) c.branch.view_is) (rw c.in-Some.is at c.in_ok-found.ensures.found) in
    gives split_at n m c.oldest_cases.ensures.grows b c.requires.branch (c.split_into.new.store).terms (first_from (cases_of n.defs (branch_at n.terms b)) 0 (map (fact_at n.terms) b.facts)) c.in_ok-split_into-in-Some.field-0
    (found_at m.terms c.in-Some.found) found.1 c.in_ok-split_into-in-Some.ensures.gives

pub returns-in-None-clause-tries : goal.returns-in-None-clause-tries
returns-in-None-clause-tries c = let n = c.args.store.now in let m = c.oldest_cases.new.store in let b = c.args.branch in
    passes split_at n m c.oldest_cases.ensures.grows b c.requires.branch m.terms (first_from (cases_of n.defs (branch_at n.terms b)) 0 (map (fact_at n.terms) b.facts))
    (finds_cases n m b c.deref.result.now None c.requires.vars (c.deref.ensures.value ∙ ap (λ (b : NumberedBranch). b.facts) c.branch.view_is) (rw c.in-None.is at c.in_ok-found.ensures.found))

pub returns-in_err-split_into-in-Some-clause-grows : goal.returns-in_err-split_into-in-Some-clause-grows
returns-in_err-split_into-in-Some-clause-grows c = then c.args.store.now c.oldest_cases.new.store c.split_into.new.store c.oldest_cases.ensures.grows c.split_into.ensures.grows

pub returns-in_ok-split_into-in-Some-clause-grows : goal.returns-in_ok-split_into-in-Some-clause-grows
returns-in_ok-split_into-in-Some-clause-grows c = then c.args.store.now c.oldest_cases.new.store c.split_into.new.store c.oldest_cases.ensures.grows c.split_into.ensures.grows
