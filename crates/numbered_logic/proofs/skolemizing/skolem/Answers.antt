use Rattle.std.proofs.Common.{ap, ◌∙◌, Some, None, map}
use Rattle.logic_rules.specs.Skolem.{as_exists, skolemized_at}
use Rattle.tableau_branch.specs.Branch.{first_from}
use Rattle.numbered_branches.specs.Branches.{NumberedBranch, fact_at}
use Rattle.numbered_logic.specs.Exists.{exists_at}
use Rattle.numbered_logic.proofs.Attempts.{passes, gives, faults}
use Rattle.numbered_logic.proofs.ExistsFound.{finds_exists_in}
use Rattle.numbered_logic.proofs.Later.{grows_same}
use Rattle.numbered_logic.proofs.skolemizing.skolem.Goals as goal

pub skolemize_at-requires-clause-found : goal.skolemize_at-requires-clause-found
skolemize_at-requires-clause-found c = let n = c.args.store.now in
    (finds_exists_in c.terms.result.now n.terms c.deref.result.now c.args.branch.facts (Some c.in-Some.found) c.terms.ensures (c.deref.ensures.value ∙ ap (λ (b : NumberedBranch). b.facts) c.branch.view_is) (rw c.in-Some.is at c.in_ok-found.ensures)).0

pub returns-in_err-skolemize_at-in-Some-clause-tries : goal.returns-in_err-skolemize_at-in-Some-clause-tries
returns-in_err-skolemize_at-in-Some-clause-tries c = let n = c.args.store.now in let b = c.args.branch in
    let found = finds_exists_in c.terms.result.now n.terms c.deref.result.now b.facts (Some c.in-Some.found) c.terms.ensures (c.deref.ensures.value ∙ ap (λ (b : NumberedBranch). b.facts) c.branch.view_is) (rw c.in-Some.is at c.in_ok-found.ensures) in
    faults skolemized_at n n (grows_same n) b c.requires (c.skolemize_at.new.store).terms (first_from as_exists 0 (map (fact_at n.terms) b.facts)) c.from_residual-in_err-skolemize_at-in-Some.result (exists_at n.terms c.in-Some.found)
    c.in_err-skolemize_at-in-Some.field-0.0 found.1 c.from_residual-in_err-skolemize_at-in-Some.ensures.1 c.in_err-skolemize_at-in-Some.ensures.gives

pub returns-in_ok-skolemize_at-in-Some-clause-tries : goal.returns-in_ok-skolemize_at-in-Some-clause-tries
returns-in_ok-skolemize_at-in-Some-clause-tries c = let n = c.args.store.now in let b = c.args.branch in
    let found = finds_exists_in c.terms.result.now n.terms c.deref.result.now b.facts (Some c.in-Some.found) c.terms.ensures (c.deref.ensures.value ∙ ap (λ (b : NumberedBranch). b.facts) c.branch.view_is) (rw c.in-Some.is at c.in_ok-found.ensures) in
    gives skolemized_at n n (grows_same n) b c.requires (c.skolemize_at.new.store).terms (first_from as_exists 0 (map (fact_at n.terms) b.facts)) c.in_ok-skolemize_at-in-Some.field-0 (exists_at n.terms c.in-Some.found) found.1
    c.in_ok-skolemize_at-in-Some.ensures.gives

pub returns-in-None-clause-tries : goal.returns-in-None-clause-tries
returns-in-None-clause-tries c = let n = c.args.store.now in let b = c.args.branch in
    passes skolemized_at n n (grows_same n) b c.requires n.terms (first_from as_exists 0 (map (fact_at n.terms) b.facts))
    (finds_exists_in c.terms.result.now n.terms c.deref.result.now b.facts None c.terms.ensures (c.deref.ensures.value ∙ ap (λ (b : NumberedBranch). b.facts) c.branch.view_is) (rw c.in-None.is at c.in_ok-found.ensures))
