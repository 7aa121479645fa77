use Rattle.std.proofs.Common.{◌∙◌, sym, ap}
use Rattle.tableau_branch.specs.Branch.{none}
use Rattle.theory_rules.specs.ReadsBack.{back_in_parts}
use Rattle.numbered_branches.specs.Applied.{TriesAt}
use Rattle.numbered_branches.specs.Branches.{NumberedBranch, branch_at}
use Rattle.numbered_branches.proofs.Changing.{branch_more}
use Rattle.numbered_theory.specs.Reads.{read_at}
use Rattle.numbered_theory.proofs.Found.{back_is, back_moves}
use Rattle.numbered_theory.proofs.Loops.{from_err}
use Rattle.numbered_facts.proofs.Growing.{then}
use Rattle.numbered_theory.proofs.back.back_in_parts.Goals as goal

pub returns-in_err-move_back-in-Some-clause-tries : goal.returns-in_err-move_back-in-Some-clause-tries
returns-in_err-move_back-in-Some-clause-tries c =
    let n = c.args.store.now in let m = c.oldest_read_back.new.store in let code = c.args.branch in
    let is = c.deref.ensures.value ∙ ap (λ (b : NumberedBranch). b.facts) c.branch.view_is in
    let found = rw c.in-Some.is at c.in_ok-found.ensures.reads in
    let b = branch_at n.terms code in
    from_err (λ x. TriesAt c.move_back.new.store.terms b x (back_in_parts n.defs b)) c.from_residual-in_err-move_back-in-Some.result c.in_err-move_back-in-Some.field-0.0 c.from_residual-in_err-move_back-in-Some.ensures.1
    (λ d same wide. back_moves n code c.deref.result.now is m c.in_ok-found.ensures.grows c.requires.branch (read_at m.terms c.in-Some.found) _ c.requires.vars found.1 (c.in_err-move_back-in-Some.ensures.gives (sym same ∙ wide)))

pub returns-in_ok-move_back-in-Some-clause-tries : goal.returns-in_ok-move_back-in-Some-clause-tries
returns-in_ok-move_back-in-Some-clause-tries c =
    let n = c.args.store.now in let m = c.oldest_read_back.new.store in let code = c.args.branch in
    let is = c.deref.ensures.value ∙ ap (λ (b : NumberedBranch). b.facts) c.branch.view_is in
    let found = rw c.in-Some.is at c.in_ok-found.ensures.reads in
    let moved = c.in_ok-move_back-in-Some.ensures.gives in
    (moved.0, back_moves n code c.deref.result.now is m c.in_ok-found.ensures.grows c.requires.branch (read_at m.terms c.in-Some.found) _ c.requires.vars found.1 moved.1)

pub returns-in-None-clause-tries : goal.returns-in-None-clause-tries
returns-in-None-clause-tries c =
    let n = c.args.store.now in let m = c.oldest_read_back.new.store in let code = c.args.branch in
    let is = c.deref.ensures.value ∙ ap (λ (b : NumberedBranch). b.facts) c.branch.view_is in
    let found = rw c.in-None.is at c.in_ok-found.ensures.reads in
    (branch_more n.terms m.terms c.in_ok-found.ensures.grows.terms code c.requires.branch, back_is n code c.deref.result.now is none c.requires.vars found)

pub returns-in_err-found-clause-grows : goal.returns-in_err-found-clause-grows
returns-in_err-found-clause-grows c = c.oldest_read_back.ensures.grows

pub returns-in_err-move_back-in-Some-clause-grows : goal.returns-in_err-move_back-in-Some-clause-grows
returns-in_err-move_back-in-Some-clause-grows c = then c.args.store.now c.oldest_read_back.new.store c.move_back.new.store c.in_ok-found.ensures.grows c.move_back.ensures.grows

pub returns-in_ok-move_back-in-Some-clause-grows : goal.returns-in_ok-move_back-in-Some-clause-grows
returns-in_ok-move_back-in-Some-clause-grows c = then c.args.store.now c.oldest_read_back.new.store c.move_back.new.store c.in_ok-found.ensures.grows c.in_ok-move_back-in-Some.ensures.grows

pub returns-in-None-clause-grows : goal.returns-in-None-clause-grows
returns-in-None-clause-grows c = c.in_ok-found.ensures.grows

pub move_back-requires-clause-branch : goal.move_back-requires-clause-branch
move_back-requires-clause-branch c = (branch_more c.args.store.now.terms c.oldest_read_back.new.store.terms c.in_ok-found.ensures.grows.terms c.args.branch c.requires.branch).0

pub move_back-requires-clause-vars : goal.move_back-requires-clause-vars
move_back-requires-clause-vars c = c.in_ok-found.ensures.grows.vars ∙ c.requires.vars

pub move_back-requires-clause-found : goal.move_back-requires-clause-found
move_back-requires-clause-found c = (rw c.in-Some.is at c.in_ok-found.ensures.reads).0
