use Rattle.std.proofs.Common.{sym, subst, Option, ◌∙◌, ap}
use Rattle.proof_core.specs.Maps.{below_zero}
use Rattle.tableau_branch.specs.Change.{Made}
use Rattle.term_bank.specs.Numbered.{at}
use Rattle.numbered_branches.specs.Branches.{IsBranchOver, NumberedBranch}
use Rattle.numbered_branches.proofs.Changing.{branch_more}
use Rattle.numbered_theory.specs.Reads.{GivesMadeAt}
use Rattle.numbered_theory.proofs.Passing.{pass_before}
use Rattle.numbered_facts.proofs.Growing.{then}
use Rattle.numbered_branches.proofs.Growing.{below}
use Rattle.numbered_theory.proofs.past.pass_below.Goals as goal

pub pass-requires-clause-branch : goal.pass-requires-clause-branch
pass-requires-clause-branch c =
    let n = c.args.store.now in let u = c.below_zero.new.store in
    subst (IsBranchOver u.terms) (sym c.in_ok-copy.ensures) (branch_more n.terms u.terms c.in_ok-way.ensures.grows.terms c.args.branch.now c.requires.branch).0

pub returns-clause-gives : goal.returns-clause-gives
returns-clause-gives c =
    let n = c.args.store.now in
    let same = pass_before n c.below_zero.new.store c.in_ok-way.ensures.grows c.args.branch.now c.in_ok-copy.copy c.in_ok-copy.ensures c.requires.branch c.args.access c.in_ok-way.way c.args.said (below_zero (at n.terms c.args.distance)) c.requires.access c.requires.said c.in_ok-way.ensures.is.1 in
    subst (λ (o : Option Made). GivesMadeAt c.pass.new.store.terms c.pass.result o) same c.pass.ensures.gives

pub below_zero-requires : goal.below_zero-requires
below_zero-requires c = c.requires.distance

pub pass-requires-clause-vars : goal.pass-requires-clause-vars
pass-requires-clause-vars c = c.in_ok-way.ensures.grows.vars ∙ c.requires.vars ∙ ap (λ (b : NumberedBranch). b.vars) (sym c.in_ok-copy.ensures)

pub pass-requires-clause-access : goal.pass-requires-clause-access
pass-requires-clause-access c = below c.args.store.now c.below_zero.new.store c.args.access c.in_ok-way.ensures.grows c.requires.access

pub pass-requires-clause-way : goal.pass-requires-clause-way
pass-requires-clause-way c = c.in_ok-way.ensures.is.0

pub pass-requires-clause-said : goal.pass-requires-clause-said
pass-requires-clause-said c = below c.args.store.now c.below_zero.new.store c.args.said c.in_ok-way.ensures.grows c.requires.said

pub returns-in_err-way-clause-grows : goal.returns-in_err-way-clause-grows
returns-in_err-way-clause-grows c = c.below_zero.ensures.grows

pub returns-in_err-copy-clause-grows : goal.returns-in_err-copy-clause-grows
returns-in_err-copy-clause-grows c = c.in_ok-way.ensures.grows

pub returns-clause-grows : goal.returns-clause-grows
returns-clause-grows c = then c.args.store.now c.below_zero.new.store c.pass.new.store c.in_ok-way.ensures.grows c.pass.ensures.grows
