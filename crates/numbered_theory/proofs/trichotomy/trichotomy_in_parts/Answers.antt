use Rattle.std.proofs.Common.{◌∙◌, sym, ap}
use Rattle.tableau_branch.specs.Branch.{none, leaves}
use Rattle.theory_rules.specs.Ways.{trichotomy_in_parts}
use Rattle.numbered_branches.specs.Applied.{TriesAt}
use Rattle.numbered_branches.specs.Branches.{NumberedBranch, branch_at}
use Rattle.numbered_branches.proofs.Changing.{branch_more}
use Rattle.numbered_theory.specs.Places.{place_at, ways_at}
use Rattle.numbered_theory.proofs.Loops.{from_err}
use Rattle.numbered_theory.proofs.TrichotomyMove.{parts_are, parts_give}
use Rattle.numbered_facts.proofs.Growing.{then}
use Rattle.numbered_theory.proofs.trichotomy.trichotomy_in_parts.Goals as goal

pub returns-in_err-found-clause-tries : goal.returns-in_err-found-clause-tries
returns-in_err-found-clause-tries c =
    let n = c.args.store.now in let b = branch_at n.terms c.args.branch in
    let is = c.deref.ensures.value ∙ ap (λ (b : NumberedBranch). b.facts) c.branch.view_is in
    let are = rw c.terms.ensures at c.in_ok-places.ensures in
    from_err (λ x. TriesAt c.first_open.new.store.terms b x (trichotomy_in_parts n.defs b)) c.from_residual-in_err-found.result c.in_err-found.field-0.0 c.from_residual-in_err-found.ensures.1
    (λ d same wide. parts_are n c.args.branch c.deref.result.now c.in_ok-places.places.items c.deref-2.result.now is c.deref-2.ensures.value are leaves (c.in_err-found.ensures.finds (sym same ∙ wide)))

pub returns-in_ok-decide-in-Some-clause-tries : goal.returns-in_ok-decide-in-Some-clause-tries
returns-in_ok-decide-in-Some-clause-tries c =
    let n = c.args.store.now in let m = c.first_open.new.store in
    let is = c.deref.ensures.value ∙ ap (λ (b : NumberedBranch). b.facts) c.branch.view_is in
    let are = rw c.terms.ensures at c.in_ok-places.ensures in
    let found = rw c.in-Some.is at c.in_ok-found.ensures.finds in
    let moved = c.in_ok-decide-in-Some.ensures.step in
    (moved.0, parts_give n c.args.branch c.deref.result.now c.in_ok-places.places.items c.deref-2.result.now is c.deref-2.ensures.value are m c.in_ok-found.ensures.grows c.requires.branch (place_at m.terms c.in-Some.found.0) (ways_at m.terms c.in-Some.found.1) _ found.1.1 moved.1)

pub returns-in-None-clause-tries : goal.returns-in-None-clause-tries
returns-in-None-clause-tries c =
    let n = c.args.store.now in let m = c.first_open.new.store in
    let is = c.deref.ensures.value ∙ ap (λ (b : NumberedBranch). b.facts) c.branch.view_is in
    let are = rw c.terms.ensures at c.in_ok-places.ensures in
    let found = rw c.in-None.is at c.in_ok-found.ensures.finds in
    (branch_more n.terms m.terms c.in_ok-found.ensures.grows.terms c.args.branch c.requires.branch, parts_are n c.args.branch c.deref.result.now c.in_ok-places.places.items c.deref-2.result.now is c.deref-2.ensures.value are none found)

pub returns-in_err-found-clause-grows : goal.returns-in_err-found-clause-grows
returns-in_err-found-clause-grows c = c.first_open.ensures.grows

pub returns-in_err-decide-in-Some-clause-grows : goal.returns-in_err-decide-in-Some-clause-grows
returns-in_err-decide-in-Some-clause-grows c = then c.args.store.now c.first_open.new.store c.decide.new.store c.in_ok-found.ensures.grows c.decide.ensures.grows

pub returns-in_ok-decide-in-Some-clause-grows : goal.returns-in_ok-decide-in-Some-clause-grows
returns-in_ok-decide-in-Some-clause-grows c = then c.args.store.now c.first_open.new.store c.decide.new.store c.in_ok-found.ensures.grows c.in_ok-decide-in-Some.ensures.grows

pub returns-in-None-clause-grows : goal.returns-in-None-clause-grows
returns-in-None-clause-grows c = c.in_ok-found.ensures.grows

pub decide-requires-clause-branch : goal.decide-requires-clause-branch
decide-requires-clause-branch c = (branch_more c.args.store.now.terms c.first_open.new.store.terms c.in_ok-found.ensures.grows.terms c.args.branch c.requires.branch).0

pub decide-requires-clause-place : goal.decide-requires-clause-place
decide-requires-clause-place c = (rw c.in-Some.is at c.in_ok-found.ensures.finds).0

pub decide-requires-clause-ways : goal.decide-requires-clause-ways
decide-requires-clause-ways c = (rw c.in-Some.is at c.in_ok-found.ensures.finds).1.0
