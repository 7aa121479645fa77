use Rattle.std.proofs.Common.{◌≡◌, true, false}
use Rattle.logic_core.specs.Combine.{lead}
use Rattle.theory_rules.specs.Combining.{counted, are_opposite}
use Rattle.numbered_theory.specs.Entries.{entry_at}
use Rattle.numbered_theory.proofs.PairMade.{says_so, said_before, said_anew}
use Rattle.numbered_facts.proofs.Growing.{then}
use Rattle.numbered_theory.proofs.Entered.{entries_below}
use Rattle.numbered_theory.proofs.combining.combine_pair.Goals as goal

pub returns-then-known-clause-attempts : goal.returns-then-known-clause-attempts
returns-then-known-clause-attempts c =
    let n = c.args.store.now in let m = c.combine_two.new.store in let g = c.in_ok-combined.ensures.grows in
    let es = c.args.entries.now in let d = c.args.d.now in let e = c.args.e.now in let made = c.in_ok-combined.ensures.gives in
    let opposite : are_opposite (lead (counted (entry_at n.terms d))) (lead (counted (entry_at n.terms e))) ≡ true = cc in
    let is : says_so n m g es c.requires.entries d e c.in_ok-combined.combined made.0 opposite made.1 ≡ true = cc (c.in_ok-known.ensures.says, c.if-known.true) in
    said_before n m g es c.requires.entries d e c.in_ok-combined.combined made.0 opposite made.1 is

pub returns-clause-attempts : goal.returns-clause-attempts
returns-clause-attempts c =
    let n = c.args.store.now in let m = c.combine_two.new.store in let g = c.in_ok-combined.ensures.grows in
    let es = c.args.entries.now in let d = c.args.d.now in let e = c.args.e.now in let made = c.in_ok-combined.ensures.gives in
    let opposite : are_opposite (lead (counted (entry_at n.terms d))) (lead (counted (entry_at n.terms e))) ≡ true = cc in
    let is : says_so n m g es c.requires.entries d e c.in_ok-combined.combined made.0 opposite made.1 ≡ false = cc (c.in_ok-known.ensures.says, c.if-known.false) in
    said_anew n m g es c.requires.entries d e c.in_ok-combined.combined made.0 opposite made.1 c.says_nothing_new.new.store c.in_ok-known.ensures.grows is

pub says_nothing_new-requires-clause-entries : goal.says_nothing_new-requires-clause-entries
says_nothing_new-requires-clause-entries c = entries_below c.args.store.now c.combine_two.new.store c.in_ok-combined.ensures.grows c.args.entries.now c.requires.entries

pub says_nothing_new-requires-clause-sum : goal.says_nothing_new-requires-clause-sum
says_nothing_new-requires-clause-sum c = c.in_ok-combined.ensures.gives.0.fact

pub returns-in_err-combined-clause-grows : goal.returns-in_err-combined-clause-grows
returns-in_err-combined-clause-grows c = c.combine_two.ensures.grows

pub returns-in_err-known-clause-grows : goal.returns-in_err-known-clause-grows
returns-in_err-known-clause-grows c = then c.args.store.now c.combine_two.new.store c.says_nothing_new.new.store c.in_ok-combined.ensures.grows c.says_nothing_new.ensures.grows

pub returns-then-known-clause-grows : goal.returns-then-known-clause-grows
returns-then-known-clause-grows c = then c.args.store.now c.combine_two.new.store c.says_nothing_new.new.store c.in_ok-combined.ensures.grows c.in_ok-known.ensures.grows

pub returns-clause-grows : goal.returns-clause-grows
returns-clause-grows c = then c.args.store.now c.combine_two.new.store c.says_nothing_new.new.store c.in_ok-combined.ensures.grows c.in_ok-known.ensures.grows
