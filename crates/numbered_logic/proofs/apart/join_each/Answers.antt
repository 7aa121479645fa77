use Rattle.std.proofs.Common.{◌≡◌, sym, subst, ◌<◌, nat_eq, true, ◌∷◌, [], length, take, arith}
use Rattle.std.specs.List.{list_any, AllByRecursion}
use Rattle.std.proofs.lemmas.List.{take_all}
use Rattle.logic_core.proofs.EachOf.{every_append}
use Rattle.tableau_branch.proofs.Lists.{take_item}
use Rattle.numbered_branches.specs.Branches.{IsFactBelow}
use Rattle.numbered_branches.proofs.Listing.{all_at}
use Rattle.numbered_logic.specs.Apart.{IsListed}
use Rattle.numbered_logic.proofs.Later.{grows_then, facts_later}
use Rattle.numbered_logic.proofs.NoPair.{listed_still}
use Rattle.numbered_logic.proofs.apart.join_each.Goals as goal

pub join-requires-clause-id : goal.join-requires-clause-id
join-requires-clause-id c = let m = c.loop-fact.store in
    subst (λ i. i < length m.terms) (sym c.term_of-id.ensures)
    (all_at (IsFactBelow (length m.terms)) c.args.facts.now c.loop-fact.fact-index c.fact-item.result (facts_later c.args.store.now m c.args.facts.now c.loop-fact.invariant.grows c.requires.facts) c.loop-fact-test.true c.fact-item.is)

pub loop-fact-preserved : goal.loop-fact-preserved
loop-fact-preserved c =
    let old = c.loop-fact.apart.facts in let new = c.join.new.apart.facts in let i = c.loop-fact.fact-index in let fs = c.args.facts.now in let f = c.fact-item.result in
    record {
      grows = grows_then c.args.store.now c.loop-fact.store c.join.new.store c.loop-fact.invariant.grows c.in_ok-joined.ensures.grows;
      apart = c.in_ok-joined.ensures.apart;
      joined = subst (AllByRecursion (IsListed new)) (sym (take_item fs i f c.loop-fact-test.true c.fact-item.is))
          (every_append (IsListed new) (take i fs) (f ∷ []) (listed_still old new c.in_ok-joined.ensures.kept (take i fs) c.loop-fact.invariant.joined)
          (subst (λ n. list_any (nat_eq n) new ≡ true) c.term_of-id.ensures (c.in_ok-joined.ensures.joined c.if-not-joined.false), tt));
    }

pub returns-clause-joined : goal.returns-clause-joined
returns-clause-joined c = λ h. subst (AllByRecursion (IsListed c.loop-fact.apart.facts)) (take_all c.loop-fact.fact-index c.args.facts.now (omega (arith, c.loop-fact-test.false))) c.loop-fact.invariant.joined
