use Rattle.std.proofs.Common.{◌≡◌, ◌∙◌, ◌<◌, refl, sym, ap, subst, false, Some, length, map, arith}
use Rattle.std.specs.List.{list_any, AllByRecursion}
use Rattle.logic_core.specs.Wide.{when}
use Rattle.tableau_branch.specs.Oriented.{left_side}
use Rattle.tableau_branch.specs.Replacing.{rewrites}
use Rattle.term_bank.specs.Numbered.{at}
use Rattle.term_bank.proofs.Numbers.{begins_at, begins_length}
use Rattle.numbered_terms.specs.Stored.{AreStored}
use Rattle.numbered_facts.specs.Answers.{StandsFor}
use Rattle.numbered_branches.specs.Branches.{NumberedFact, IsFactBelow, fact_at}
use Rattle.numbered_instances.specs.Shared.{in_two}
use Rattle.numbered_instances.proofs.Alone.{alone_rewrites}
use Rattle.numbered_instances.proofs.LeftSides.{left_occurs}
use Rattle.numbered_instances.proofs.LeftFacts.{some_left, facts_low, facts_stay, terms_same, got_fact}
use Rattle.numbered_facts.proofs.Growing.{then}
use Rattle.numbered_instances.proofs.lefts.left_in_another.Goals as goal

pub returns-then-is_alone-clause-gives : goal.returns-then-is_alone-clause-gives
returns-then-is_alone-clause-gives c =
    let n = c.args.store.now in let ts = n.terms in let us = c.left_side.new.self.terms in
    let fs = c.args.facts.now in let f = fact_at ts c.args.fact.now in let l = at us c.in-Some.left in
    let b = c.in_ok-left.ensures.grows.terms in
    let gives = subst (λ o. StandsFor us o (left_side n.vars n.defs (at ts c.fact.inside.term))) c.in-Some.is c.in_ok-left.ensures.gives in
    let side : left_side n.vars n.defs f.term ≡ Some l = sym (λ k. left_side n.vars n.defs (at ts (c.fact.view_is k).term)) ∙ gives.1 in
    let stored = subst AreStored c.terms.ensures c.are_stored.ensures in
    let ids = map (λ (g : NumberedFact). g.term) fs in
    let two : in_two l (map (at us) ids) ≡ false = c.is_alone.ensures c.if-is_alone.true us ids (c.requires.shared us b stored) in
    some_left n fs f l false side (sym (alone_rewrites l f.number (map (fact_at ts) fs) c.requires.there.0 f (got_fact ts fs c.requires.there.0 c.args.fact.now c.requires.there.1) refl (left_occurs n.vars n.defs f.term l side)
    (ap (in_two l) (sym (terms_same ts us b fs c.requires.facts)) ∙ two)))

pub occurs_around-requires-clause-facts : goal.occurs_around-requires-clause-facts
occurs_around-requires-clause-facts c =
    facts_low c.args.store.now.terms c.left_side.new.self.terms c.in_ok-left.ensures.grows.terms c.args.facts.now c.requires.facts

pub returns-then-branch-clause-gives : goal.returns-then-branch-clause-gives
returns-then-branch-clause-gives c =
    let n = c.args.store.now in let ts = n.terms in let us = c.left_side.new.self.terms in let vs = c.occurs_around.new.store.terms in
    let fs = c.args.facts.now in let f = fact_at ts c.args.fact.now in let left = c.in-Some.left in let l = at us left in
    let b = c.in_ok-left.ensures.grows.terms in let d = c.in_ok-occurs_around.ensures.grows.terms in
    let gives = subst (λ o. StandsFor us o (left_side n.vars n.defs (at ts c.fact.inside.term))) c.in-Some.is c.in_ok-left.ensures.gives in
    let side : left_side n.vars n.defs f.term ≡ Some l = sym (λ k. left_side n.vars n.defs (at ts (c.fact.view_is k).term)) ∙ gives.1 in
    let facts = facts_stay ts us b fs c.requires.facts in
    let there = c.in_ok-occurs_around.ensures.gives ∙ (λ k. list_any (rewrites (c.fact.view_is k).number l) (facts k)) in (
      omega (arith, gives.0, begins_length us vs d),
      some_left n fs f l c.in_ok-occurs_around.field-0 side there ∙ ap (λ q. when q (Some l)) c.if-branch.true ∙ ap Some (sym (begins_at us vs left d gives.0)),
    )

pub returns-clause-gives : goal.returns-clause-gives
returns-clause-gives c =
    let n = c.args.store.now in let ts = n.terms in let us = c.left_side.new.self.terms in
    let fs = c.args.facts.now in let f = fact_at ts c.args.fact.now in let left = c.in-Some.left in let l = at us left in
    let b = c.in_ok-left.ensures.grows.terms in
    let gives = subst (λ o. StandsFor us o (left_side n.vars n.defs (at ts c.fact.inside.term))) c.in-Some.is c.in_ok-left.ensures.gives in
    let side : left_side n.vars n.defs f.term ≡ Some l = sym (λ k. left_side n.vars n.defs (at ts (c.fact.view_is k).term)) ∙ gives.1 in
    let facts = facts_stay ts us b fs c.requires.facts in
    let there = c.in_ok-occurs_around.ensures.gives ∙ (λ k. list_any (rewrites (c.fact.view_is k).number l) (facts k)) in
    some_left n fs f l c.in_ok-occurs_around.field-0 side there ∙ ap (λ q. when q (Some l)) c.if-branch.false

pub occurs_around-requires-clause-left : goal.occurs_around-requires-clause-left
occurs_around-requires-clause-left c = let n = c.args.store.now in
    (subst (λ o. StandsFor c.left_side.new.self.terms o (left_side n.vars n.defs (at n.terms c.fact.inside.term))) c.in-Some.is c.in_ok-left.ensures.gives).0

pub returns-in_err-occurs_around-clause-grows : goal.returns-in_err-occurs_around-clause-grows
returns-in_err-occurs_around-clause-grows c = then c.args.store.now c.left_side.new.self c.occurs_around.new.store c.in_ok-left.ensures.grows c.occurs_around.ensures.grows

pub returns-then-branch-clause-grows : goal.returns-then-branch-clause-grows
returns-then-branch-clause-grows c = then c.args.store.now c.left_side.new.self c.occurs_around.new.store c.in_ok-left.ensures.grows c.in_ok-occurs_around.ensures.grows

pub returns-clause-grows : goal.returns-clause-grows
returns-clause-grows c = then c.args.store.now c.left_side.new.self c.occurs_around.new.store c.in_ok-left.ensures.grows c.in_ok-occurs_around.ensures.grows
