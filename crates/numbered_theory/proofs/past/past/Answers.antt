use Rattle.std.proofs.Common.{◌∙◌, sym, ap, None}
use Rattle.term_bank.specs.Numbered.{at}
use Rattle.theory_rules.specs.Past.{past}
use Rattle.numbered_branches.specs.Applied.{TriesAt}
use Rattle.numbered_branches.specs.Branches.{NumberedBranch, branch_at}
use Rattle.numbered_branches.proofs.Changing.{branch_more}
use Rattle.numbered_theory.proofs.Found.{past_found, past_moves}
use Rattle.numbered_theory.proofs.Loops.{from_err}
use Rattle.numbered_facts.proofs.Growing.{then}
use Rattle.numbered_theory.proofs.past.past.Goals as goal

pub returns-in_err-pass_access-in-Some-clause-tries : goal.returns-in_err-pass_access-in-Some-clause-tries
returns-in_err-pass_access-in-Some-clause-tries c =
    let n = c.args.store.now in let m = c.oldest_access.new.store in let code = c.args.branch in
    let is = c.deref.ensures.value ∙ ap (λ (b : NumberedBranch). b.facts) c.branch.view_is in
    let found = rw c.in-Some.is at c.in_ok-found.ensures.finds in
    let b = branch_at n.terms code in
    from_err (λ x. TriesAt c.pass_access.new.store.terms b x (past n.defs b)) c.from_residual-in_err-pass_access-in-Some.result c.in_err-pass_access-in-Some.field-0.0 c.from_residual-in_err-pass_access-in-Some.ensures.1
    (λ d same wide. past_moves n code c.deref.result.now is m c.in_ok-found.ensures.grows c.requires.branch (at m.terms c.in-Some.found) _ found.1 (c.in_err-pass_access-in-Some.ensures.gives (sym same ∙ wide)))

pub returns-in_ok-pass_access-in-Some-clause-tries : goal.returns-in_ok-pass_access-in-Some-clause-tries
returns-in_ok-pass_access-in-Some-clause-tries c =
    let n = c.args.store.now in let m = c.oldest_access.new.store in let code = c.args.branch in
    let is = c.deref.ensures.value ∙ ap (λ (b : NumberedBranch). b.facts) c.branch.view_is in
    let found = rw c.in-Some.is at c.in_ok-found.ensures.finds in
    let moved = c.in_ok-pass_access-in-Some.ensures.gives in
    (moved.0, past_moves n code c.deref.result.now is m c.in_ok-found.ensures.grows c.requires.branch (at m.terms c.in-Some.found) _ found.1 moved.1)

pub returns-in-None-clause-tries : goal.returns-in-None-clause-tries
returns-in-None-clause-tries c =
    let n = c.args.store.now in let m = c.oldest_access.new.store in let code = c.args.branch in
    let is = c.deref.ensures.value ∙ ap (λ (b : NumberedBranch). b.facts) c.branch.view_is in
    let found = rw c.in-None.is at c.in_ok-found.ensures.finds in
    (branch_more n.terms m.terms c.in_ok-found.ensures.grows.terms code c.requires.branch, past_found n code c.deref.result.now is None found)

pub returns-in_err-found-clause-grows : goal.returns-in_err-found-clause-grows
returns-in_err-found-clause-grows c = c.oldest_access.ensures.grows

pub returns-in_err-pass_access-in-Some-clause-grows : goal.returns-in_err-pass_access-in-Some-clause-grows
returns-in_err-pass_access-in-Some-clause-grows c = then c.args.store.now c.oldest_access.new.store c.pass_access.new.store c.in_ok-found.ensures.grows c.pass_access.ensures.grows

pub returns-in_ok-pass_access-in-Some-clause-grows : goal.returns-in_ok-pass_access-in-Some-clause-grows
returns-in_ok-pass_access-in-Some-clause-grows c = then c.args.store.now c.oldest_access.new.store c.pass_access.new.store c.in_ok-found.ensures.grows c.in_ok-pass_access-in-Some.ensures.grows

pub returns-in-None-clause-grows : goal.returns-in-None-clause-grows
returns-in-None-clause-grows c = c.in_ok-found.ensures.grows

pub pass_access-requires-clause-branch : goal.pass_access-requires-clause-branch
pass_access-requires-clause-branch c = (branch_more c.args.store.now.terms c.oldest_access.new.store.terms c.in_ok-found.ensures.grows.terms c.args.branch c.requires.branch).0

pub pass_access-requires-clause-vars : goal.pass_access-requires-clause-vars
pass_access-requires-clause-vars c = c.in_ok-found.ensures.grows.vars ∙ c.requires.vars

pub pass_access-requires-clause-id : goal.pass_access-requires-clause-id
pass_access-requires-clause-id c = (rw c.in-Some.is at c.in_ok-found.ensures.finds).0
