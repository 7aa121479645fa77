use Rattle.std.proofs.Common.{◌∙◌, sym, arith}
use Rattle.logic_rules.specs.Closing.{are_opposed}
use Rattle.numbered_branches.proofs.Listing.{all_at}
use Rattle.numbered_logic.specs.Denied.{IsDenied, denied_at}
use Rattle.numbered_logic.proofs.Pairing.{find_nowhere, find_here, find_later}
use Rattle.numbered_logic.proofs.closing.first_opposed.Goals as goal

pub are_opposed-requires-clause-f : goal.are_opposed-requires-clause-f
are_opposed-requires-clause-f c = all_at (IsDenied c.args.terms.now) c.args.denied.now c.loop-other.other-index c.other-item.result c.requires.denied c.loop-other-test.true c.other-item.is

pub returns-then-are_opposed-clause-first : goal.returns-then-are_opposed-clause-first
returns-then-are_opposed-clause-first c = let ts = c.args.terms.now in
    sym (find_here ts c.args.denied.now c.loop-other.other-index c.other-item.result c.loop-other-test.true c.other-item.is (λ f. are_opposed f (denied_at ts c.args.one.now)) (sym c.are_opposed.ensures ∙ c.if-are_opposed.true))
    ∙ c.loop-other.invariant

pub returns-then-are_opposed-clause-denied : goal.returns-then-are_opposed-clause-denied
returns-then-are_opposed-clause-denied c = all_at (IsDenied c.args.terms.now) c.args.denied.now c.loop-other.other-index c.other-item.result c.requires.denied c.loop-other-test.true c.other-item.is

pub loop-other-preserved : goal.loop-other-preserved
loop-other-preserved c = let ts = c.args.terms.now in
    sym (find_later ts c.args.denied.now c.loop-other.other-index c.other-item.result c.loop-other-test.true c.other-item.is (λ f. are_opposed f (denied_at ts c.args.one.now)) (sym c.are_opposed.ensures ∙ c.if-are_opposed.false))
    ∙ c.loop-other.invariant

pub returns-clause-first : goal.returns-clause-first
returns-clause-first c = let ts = c.args.terms.now in
    sym (find_nowhere ts (λ f. are_opposed f (denied_at ts c.args.one.now)) c.args.denied.now c.loop-other.other-index (omega (arith, c.loop-other-test.false))) ∙ c.loop-other.invariant
