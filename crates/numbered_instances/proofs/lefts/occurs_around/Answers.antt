use Rattle.std.proofs.Common.{◌≡◌, ◌∙◌, ◌<◌, sym, ap, subst, false, length, map, take, drop, arith}
use Rattle.std.specs.List.{list_any, AllByRecursion}
use Rattle.std.proofs.lemmas.Result.{IfOk-weaker}
use Rattle.tableau_branch.specs.Replacing.{rewrites}
use Rattle.term_bank.specs.Numbered.{at}
use Rattle.term_bank.proofs.Numbers.{begins_at, begins_length}
use Rattle.numbered_facts.proofs.Growing.{then}
use Rattle.numbered_branches.specs.Branches.{IsFactBelow, fact_at}
use Rattle.numbered_branches.proofs.Changing.{all_take, all_drop}
use Rattle.numbered_instances.proofs.LeftFacts.{facts_low, facts_stay}
use Rattle.numbered_instances.proofs.Around.{any_behind, any_before}
use Rattle.numbered_instances.proofs.lefts.occurs_around.Goals as goal

pub occurs_in_another-requires-clause-facts : goal.occurs_in_another-requires-clause-facts
occurs_in_another-requires-clause-facts c = let n = length c.args.store.now.terms in
    subst (AllByRecursion (IsFactBelow n)) (sym c.behind-rest.ensures) (all_drop (IsFactBelow n) c.args.place c.args.facts.now c.requires.facts)

pub returns-then-branch-clause-gives : goal.returns-then-branch-clause-gives
returns-then-branch-clause-gives c =
    let ts = c.args.store.now.terms in let p = rewrites c.args.number (at ts c.args.left) in
    any_behind p ts c.args.place c.args.facts.now (sym (c.in_ok-occurs_in_another.ensures.gives ∙ ap (λ fs. list_any p (map (fact_at ts) fs)) c.behind-rest.ensures) ∙ c.if-branch.true)

pub occurs_in_another-requires-2-clause-left : goal.occurs_in_another-requires-2-clause-left
occurs_in_another-requires-2-clause-left c = omega (arith, c.requires.left, begins_length c.args.store.now.terms c.occurs_in_another.new.store.terms c.in_ok-occurs_in_another.ensures.grows.terms)

pub occurs_in_another-requires-2-clause-facts : goal.occurs_in_another-requires-2-clause-facts
occurs_in_another-requires-2-clause-facts c = let us = c.occurs_in_another.new.store.terms in
    subst (AllByRecursion (IsFactBelow (length us))) (sym c.front.ensures)
    (all_take (IsFactBelow (length us)) c.args.place c.args.facts.now (facts_low c.args.store.now.terms us c.in_ok-occurs_in_another.ensures.grows.terms c.args.facts.now c.requires.facts))

pub returns-clause-grows : goal.returns-clause-grows
returns-clause-grows c = then c.args.store.now c.occurs_in_another.new.store c.occurs_in_another-2.new.store c.in_ok-occurs_in_another.ensures.grows c.occurs_in_another-2.ensures.grows

pub returns-clause-gives : goal.returns-clause-gives
returns-clause-gives c =
    let ts = c.args.store.now.terms in let us = c.occurs_in_another.new.store.terms in let b = c.in_ok-occurs_in_another.ensures.grows.terms in
    let fs = c.args.facts.now in let k = c.args.place in let l = c.args.left in let p = rewrites c.args.number (at ts l) in
    let none : list_any p (map (fact_at ts) (drop k fs)) ≡ false = sym (c.in_ok-occurs_in_another.ensures.gives ∙ ap (λ gs. list_any p (map (fact_at ts) gs)) c.behind-rest.ensures) ∙ c.if-branch.false in
    let same : list_any (rewrites c.args.number (at us l)) (map (fact_at us) c.front.result.now) ≡ list_any p (map (fact_at ts) fs) =
    (λ i. list_any (rewrites c.args.number (begins_at ts us l b c.requires.left i)) (map (fact_at us) (c.front.ensures i)))
    ∙ ap (list_any p) (facts_stay ts us b (take k fs) (all_take (IsFactBelow (length ts)) k fs c.requires.facts))
    ∙ any_before p ts k fs none in
    IfOk-weaker c.occurs_in_another-2.result _ _ (λ r e. e ∙ same) c.occurs_in_another-2.ensures.gives
