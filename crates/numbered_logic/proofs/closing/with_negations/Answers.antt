use Rattle.std.proofs.Common.{◌<◌, refl, sym, subst, length, arith}
use Rattle.std.proofs.lemmas.List.{take_all}
use Rattle.numbered_branches.specs.Branches.{IsFactBelow}
use Rattle.numbered_branches.proofs.Listing.{all_at}
use Rattle.numbered_logic.specs.Denied.{AreDenied}
use Rattle.numbered_logic.proofs.Denying.{denied_made, denied_next}
use Rattle.numbered_logic.proofs.Later.{grows_same, grows_then, facts_later}
use Rattle.numbered_logic.proofs.closing.with_negations.Goals as goal

pub loop-fact-init : goal.loop-fact-init
loop-fact-init c = record { grows = grows_same c.args.store.now; denied = rw c.new-all.ensures.items (tt, refl) }

pub negation-requires : goal.negation-requires
negation-requires c = let m = c.loop-fact.store in
    subst (λ i. i < length m.terms) (sym c.term_of-id.ensures)
    (all_at (IsFactBelow (length m.terms)) c.args.facts.now c.loop-fact.fact-index c.fact-item.result (facts_later c.args.store.now m c.args.facts.now c.loop-fact.invariant.grows c.requires) c.loop-fact-test.true c.fact-item.is)

pub returns-in_err-negation-clause-grows : goal.returns-in_err-negation-clause-grows
returns-in_err-negation-clause-grows c = grows_then c.args.store.now c.loop-fact.store c.negation.new.self c.loop-fact.invariant.grows c.negation.ensures.grows

pub returns-in_err-push-clause-grows : goal.returns-in_err-push-clause-grows
returns-in_err-push-clause-grows c = grows_then c.args.store.now c.loop-fact.store c.negation.new.self c.loop-fact.invariant.grows c.negation.ensures.grows

pub loop-fact-preserved : goal.loop-fact-preserved
loop-fact-preserved c =
    let n = c.args.store.now in let m = c.loop-fact.store in let o = c.negation.new.self in let h = c.negation.ensures.grows in let f = c.fact-item.result in
    let low = all_at (IsFactBelow (length m.terms)) c.args.facts.now c.loop-fact.fact-index f (facts_later n m c.args.facts.now c.loop-fact.invariant.grows c.requires) c.loop-fact-test.true c.fact-item.is in
    let made = denied_made m o h f c.term_of-id.result c.in_ok-negation.negation c.denied_by.result low c.term_of-id.ensures c.in_ok-negation.ensures.gives c.denied_by.ensures in
    record {
      grows = grows_then n m o c.loop-fact.invariant.grows h;
      denied = denied_next m.terms o.terms c.loop-fact.all.items _ c.denied_by.result c.args.facts.now c.loop-fact.fact-index f h.terms c.loop-fact-test.true c.fact-item.is c.loop-fact.invariant.denied made c.in_ok-push.ensures.items;
    }

pub returns-clause-denied : goal.returns-clause-denied
returns-clause-denied c = subst (AreDenied (c.loop-fact.store).terms c.loop-fact.all.items) (take_all c.loop-fact.fact-index c.args.facts.now (omega (arith, c.loop-fact-test.false))) c.loop-fact.invariant.denied
