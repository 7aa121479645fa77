use Rattle.std.proofs.Common.{◌≡◌, ◌≤◌, sym, ap, subst, ◌∙◌, List, false, map, take, drop, length, arith}
use Rattle.std.specs.List.{AllByRecursion}
use Rattle.logic_core.specs.Subterm.{occurs}
use Rattle.term_bank.specs.Numbered.{at}
use Rattle.tableau_branch.specs.Branch.{Fact}
use Rattle.numbered_branches.specs.Branches.{NumberedFact, fact_at}
use Rattle.numbered_branches.specs.Replacing.{IsPassed}
use Rattle.numbered_branches.proofs.Changing.{all_weaker}
use Rattle.numbered_instances.specs.Shared.{AreShared}
use Rattle.numbered_instances.proofs.near.change_near.Goals as goal

pub change_between-requires-clause-within : goal.change_between-requires-clause-within
change_between-requires-clause-within c = subst (λ (fs : List NumberedFact). c.places_of-places.result.until ≤ length fs) c.facts_in.ensures c.places_of-places.ensures.within

pub change_between-requires-clause-front : goal.change_between-requires-clause-front
change_between-requires-clause-front c =
    let ts = c.args.store.now.terms in let r = c.args.replacing.now in
    all_weaker (λ (f : Fact). occurs (at ts r.left) f.term ≡ false) (IsPassed ts r) c.requires.passed (take c.places_of-places.result.from (map (fact_at ts) c.args.made.now.branch.facts))
    (subst (λ (fs : List NumberedFact). AllByRecursion (λ (f : Fact). occurs (at ts r.left) f.term ≡ false) (take c.places_of-places.result.from (map (fact_at ts) fs))) c.facts_in.ensures c.places_of-places.ensures.front)

pub change_between-requires-clause-rest : goal.change_between-requires-clause-rest
change_between-requires-clause-rest c =
    let ts = c.args.store.now.terms in let r = c.args.replacing.now in
    all_weaker (λ (f : Fact). occurs (at ts r.left) f.term ≡ false) (IsPassed ts r) c.requires.passed (drop c.places_of-places.result.until (map (fact_at ts) c.args.made.now.branch.facts))
    (subst (λ (fs : List NumberedFact). AllByRecursion (λ (f : Fact). occurs (at ts r.left) f.term ≡ false) (drop c.places_of-places.result.until (map (fact_at ts) fs))) c.facts_in.ensures c.places_of-places.ensures.rest)
