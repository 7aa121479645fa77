use Rattle.numbered_theory.specs.declared.trichotomy.Forms.{Forms}
use Rattle.numbered_theory.proofs.WaysOpen.{ways_are}
use Rattle.numbered_facts.proofs.Growing.{then}
use Rattle.numbered_branches.proofs.Growing.{below}
use Rattle.numbered_theory.proofs.trichotomy.three_ways.Goals as goal

pub returns-clause-ways : goal.returns-clause-ways
returns-clause-ways c =
    let forms : Forms = record { below = c.in_ok-below.below; zero = c.in_ok-zero.zero; above = c.in_ok-above.above } in
    ways_are c.args.store.now c.below_zero.new.store c.way.new.store c.at_zero.new.store c.way-2.new.store c.above_zero.new.store c.way-3.new.store
    c.in_ok-is_below.ensures.grows c.in_ok-below.ensures.grows c.in_ok-is_same.ensures.grows c.in_ok-zero.ensures.grows c.in_ok-is_above.ensures.grows c.in_ok-above.ensures.grows c.args.d c.requires
    c.in_ok-is_below.is_below c.in_ok-is_same.is_same c.in_ok-is_above.is_above forms c.in_ok-is_below.ensures.is c.in_ok-below.ensures.way c.in_ok-is_same.ensures.is c.in_ok-zero.ensures.way c.in_ok-is_above.ensures.is c.in_ok-above.ensures.way

pub returns-in_err-is_below-clause-grows : goal.returns-in_err-is_below-clause-grows
returns-in_err-is_below-clause-grows c = c.below_zero.ensures.grows

pub below_zero-requires : goal.below_zero-requires
below_zero-requires c = c.requires

pub returns-in_err-below-clause-grows : goal.returns-in_err-below-clause-grows
returns-in_err-below-clause-grows c = then c.args.store.now c.below_zero.new.store c.way.new.store c.in_ok-is_below.ensures.grows c.way.ensures.grows

pub way-requires : goal.way-requires
way-requires c = c.in_ok-is_below.ensures.is.0

pub returns-in_err-is_same-clause-grows : goal.returns-in_err-is_same-clause-grows
returns-in_err-is_same-clause-grows c = then c.args.store.now c.way.new.store c.at_zero.new.store (then c.args.store.now c.below_zero.new.store c.way.new.store c.in_ok-is_below.ensures.grows c.in_ok-below.ensures.grows) c.at_zero.ensures.grows

pub at_zero-requires : goal.at_zero-requires
at_zero-requires c = below c.args.store.now c.way.new.store c.args.d (then c.args.store.now c.below_zero.new.store c.way.new.store c.in_ok-is_below.ensures.grows c.in_ok-below.ensures.grows) c.requires

pub returns-in_err-zero-clause-grows : goal.returns-in_err-zero-clause-grows
returns-in_err-zero-clause-grows c = then c.args.store.now c.at_zero.new.store c.way-2.new.store (then c.args.store.now c.way.new.store c.at_zero.new.store (then c.args.store.now c.below_zero.new.store c.way.new.store c.in_ok-is_below.ensures.grows c.in_ok-below.ensures.grows) c.in_ok-is_same.ensures.grows) c.way-2.ensures.grows

pub way-requires-2 : goal.way-requires-2
way-requires-2 c = c.in_ok-is_same.ensures.is.0

pub returns-in_err-is_above-clause-grows : goal.returns-in_err-is_above-clause-grows
returns-in_err-is_above-clause-grows c = then c.args.store.now c.way-2.new.store c.above_zero.new.store (then c.args.store.now c.at_zero.new.store c.way-2.new.store (then c.args.store.now c.way.new.store c.at_zero.new.store (then c.args.store.now c.below_zero.new.store c.way.new.store c.in_ok-is_below.ensures.grows c.in_ok-below.ensures.grows) c.in_ok-is_same.ensures.grows) c.in_ok-zero.ensures.grows) c.above_zero.ensures.grows

pub above_zero-requires : goal.above_zero-requires
above_zero-requires c = below c.args.store.now c.way-2.new.store c.args.d (then c.args.store.now c.at_zero.new.store c.way-2.new.store (then c.args.store.now c.way.new.store c.at_zero.new.store (then c.args.store.now c.below_zero.new.store c.way.new.store c.in_ok-is_below.ensures.grows c.in_ok-below.ensures.grows) c.in_ok-is_same.ensures.grows) c.in_ok-zero.ensures.grows) c.requires

pub returns-in_err-above-clause-grows : goal.returns-in_err-above-clause-grows
returns-in_err-above-clause-grows c = then c.args.store.now c.above_zero.new.store c.way-3.new.store (then c.args.store.now c.way-2.new.store c.above_zero.new.store (then c.args.store.now c.at_zero.new.store c.way-2.new.store (then c.args.store.now c.way.new.store c.at_zero.new.store (then c.args.store.now c.below_zero.new.store c.way.new.store c.in_ok-is_below.ensures.grows c.in_ok-below.ensures.grows) c.in_ok-is_same.ensures.grows) c.in_ok-zero.ensures.grows) c.in_ok-is_above.ensures.grows) c.way-3.ensures.grows

pub way-requires-3 : goal.way-requires-3
way-requires-3 c = c.in_ok-is_above.ensures.is.0

pub returns-clause-grows : goal.returns-clause-grows
returns-clause-grows c = then c.args.store.now c.above_zero.new.store c.way-3.new.store (then c.args.store.now c.way-2.new.store c.above_zero.new.store (then c.args.store.now c.at_zero.new.store c.way-2.new.store (then c.args.store.now c.way.new.store c.at_zero.new.store (then c.args.store.now c.below_zero.new.store c.way.new.store c.in_ok-is_below.ensures.grows c.in_ok-below.ensures.grows) c.in_ok-is_same.ensures.grows) c.in_ok-zero.ensures.grows) c.in_ok-is_above.ensures.grows) c.in_ok-above.ensures.grows
