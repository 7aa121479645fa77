use Rattle.numbered_branches.proofs.Changing.{branch_more}
use Rattle.numbered_branches.proofs.Growing.{below}
use Rattle.numbered_facts.proofs.Growing.{then}
use Rattle.numbered_theory.proofs.Deciding.{place_later}
use Rattle.numbered_theory.proofs.TrichotomyMove.{decided_is}
use Rattle.numbered_theory.proofs.trichotomy.decide.Goals as goal

pub inner_case-requires-clause-branch : goal.inner_case-requires-clause-branch
inner_case-requires-clause-branch c = (branch_more c.args.store.now.terms c.outer_case.new.store.terms c.in_ok-below.ensures.grows.terms c.args.branch.now c.requires.branch).0

pub inner_case-requires-clause-way : goal.inner_case-requires-clause-way
inner_case-requires-clause-way c = below c.args.store.now c.outer_case.new.store c.args.ways.now.zero c.in_ok-below.ensures.grows c.requires.ways.zero

pub outer_case-requires-2-clause-branch : goal.outer_case-requires-2-clause-branch
outer_case-requires-2-clause-branch c =
    let n = c.args.store.now in let w = c.inner_case.new.store in
    (branch_more n.terms w.terms (then n c.outer_case.new.store w c.in_ok-below.ensures.grows c.in_ok-zero.ensures.grows).terms c.args.branch.now c.requires.branch).0

pub outer_case-requires-2-clause-place : goal.outer_case-requires-2-clause-place
outer_case-requires-2-clause-place c =
    let n = c.args.store.now in let w = c.inner_case.new.store in
    place_later n w (then n c.outer_case.new.store w c.in_ok-below.ensures.grows c.in_ok-zero.ensures.grows) c.args.place.now c.requires.place

pub outer_case-requires-2-clause-way : goal.outer_case-requires-2-clause-way
outer_case-requires-2-clause-way c =
    let n = c.args.store.now in let w = c.inner_case.new.store in
    below n w c.args.ways.now.above (then n c.outer_case.new.store w c.in_ok-below.ensures.grows c.in_ok-zero.ensures.grows) c.requires.ways.above

pub returns-clause-step : goal.returns-clause-step
returns-clause-step c =
    decided_is c.args.store.now c.outer_case.new.store c.inner_case.new.store c.outer_case-2.new.store c.in_ok-below.ensures.grows c.in_ok-zero.ensures.grows c.in_ok-above.ensures.grows c.args.branch.now c.args.place.now c.args.ways.now
    c.in_ok-below.below c.in_ok-zero.zero c.in_ok-above.above c.in_ok-made.made.items c.in_ok-made.ensures.items c.requires.branch c.requires.place c.requires.ways c.in_ok-below.ensures.made c.in_ok-zero.ensures.made c.in_ok-above.ensures.made

pub outer_case-requires-clause-branch : goal.outer_case-requires-clause-branch
outer_case-requires-clause-branch c = c.requires.branch

pub outer_case-requires-clause-place : goal.outer_case-requires-clause-place
outer_case-requires-clause-place c = c.requires.place

pub outer_case-requires-clause-way : goal.outer_case-requires-clause-way
outer_case-requires-clause-way c = c.requires.ways.below

pub returns-in_err-below-clause-grows : goal.returns-in_err-below-clause-grows
returns-in_err-below-clause-grows c = c.outer_case.ensures.grows

pub returns-in_err-zero-clause-grows : goal.returns-in_err-zero-clause-grows
returns-in_err-zero-clause-grows c = then c.args.store.now c.outer_case.new.store c.inner_case.new.store c.in_ok-below.ensures.grows c.inner_case.ensures.grows

pub returns-in_err-above-clause-grows : goal.returns-in_err-above-clause-grows
returns-in_err-above-clause-grows c = then c.args.store.now c.inner_case.new.store c.outer_case-2.new.store (then c.args.store.now c.outer_case.new.store c.inner_case.new.store c.in_ok-below.ensures.grows c.in_ok-zero.ensures.grows) c.outer_case-2.ensures.grows

pub returns-in_err-made-clause-grows : goal.returns-in_err-made-clause-grows
returns-in_err-made-clause-grows c = then c.args.store.now c.inner_case.new.store c.outer_case-2.new.store (then c.args.store.now c.outer_case.new.store c.inner_case.new.store c.in_ok-below.ensures.grows c.in_ok-zero.ensures.grows) c.in_ok-above.ensures.grows

pub returns-clause-grows : goal.returns-clause-grows
returns-clause-grows c = then c.args.store.now c.inner_case.new.store c.outer_case-2.new.store (then c.args.store.now c.outer_case.new.store c.inner_case.new.store c.in_ok-below.ensures.grows c.in_ok-zero.ensures.grows) c.in_ok-above.ensures.grows
