use Rattle.std.proofs.Common.{◌∙◌, sym, arith}
use Rattle.numbered_branches.proofs.Changing.{all_take}
use Rattle.numbered_branches.proofs.Listing.{all_at}
use Rattle.numbered_logic.specs.Denied.{IsDenied, denied_at}
use Rattle.numbered_logic.proofs.Pairing.{pair_nowhere, pair_here, pair_itself, pair_later, pair_skipped}
use Rattle.numbered_logic.proofs.closing.pair_behind.Goals as goal

pub loop-i-init : goal.loop-i-init
loop-i-init c = sym (pair_skipped c.args.terms.now c.args.denied.now c.args.start c.requires.start)

pub first_opposed-requires-clause-denied : goal.first_opposed-requires-clause-denied
first_opposed-requires-clause-denied c = all_take (IsDenied c.args.terms.now) c.loop-i.i c.args.denied.now c.requires.denied

pub first_opposed-requires-clause-one : goal.first_opposed-requires-clause-one
first_opposed-requires-clause-one c = all_at (IsDenied c.args.terms.now) c.args.denied.now c.loop-i.i c.index-denied-i.result c.requires.denied (omega (arith, c.loop-i-test.true)) c.index-denied-i.is

pub is_false-requires : goal.is_false-requires
is_false-requires c = (all_at (IsDenied c.args.terms.now) c.args.denied.now c.loop-i.i c.index-denied-i.result c.requires.denied (omega (arith, c.loop-i-test.true)) c.index-denied-i.is)

pub returns-in-Some-clause-pair : goal.returns-in-Some-clause-pair
returns-in-Some-clause-pair c = let ts = c.args.terms.now in
    sym (pair_here ts c.args.denied.now c.loop-i.i c.index-denied-i.result (omega (arith, c.loop-i-test.true)) c.index-denied-i.is (denied_at ts c.in-Some.earlier.now) (sym c.in-Some.ensures.first)) ∙ c.loop-i.invariant

pub returns-in-Some-clause-denied : goal.returns-in-Some-clause-denied
returns-in-Some-clause-denied c = (c.in-Some.ensures.denied, all_at (IsDenied c.args.terms.now) c.args.denied.now c.loop-i.i c.index-denied-i.result c.requires.denied (omega (arith, c.loop-i-test.true)) c.index-denied-i.is)

pub returns-then-is_false-clause-pair : goal.returns-then-is_false-clause-pair
returns-then-is_false-clause-pair c = let ts = c.args.terms.now in
    sym (pair_itself ts c.args.denied.now c.loop-i.i c.index-denied-i.result (omega (arith, c.loop-i-test.true)) c.index-denied-i.is (sym c.in_default.ensures.first) (sym c.is_false.ensures ∙ c.if-is_false.true)) ∙ c.loop-i.invariant

pub returns-then-is_false-clause-denied : goal.returns-then-is_false-clause-denied
returns-then-is_false-clause-denied c = let d = all_at (IsDenied c.args.terms.now) c.args.denied.now c.loop-i.i c.index-denied-i.result c.requires.denied (omega (arith, c.loop-i-test.true)) c.index-denied-i.is in (d, d)

pub loop-i-preserved : goal.loop-i-preserved
loop-i-preserved c = let ts = c.args.terms.now in
    sym (pair_later ts c.args.denied.now c.loop-i.i c.index-denied-i.result (omega (arith, c.loop-i-test.true)) c.index-denied-i.is (sym c.in_default.ensures.first) (sym c.is_false.ensures ∙ c.if-is_false.false)) ∙ c.loop-i.invariant

pub returns-clause-pair : goal.returns-clause-pair
returns-clause-pair c = sym (pair_nowhere c.args.terms.now c.args.denied.now c.loop-i.i (omega (arith, c.loop-i-test.false))) ∙ c.loop-i.invariant
