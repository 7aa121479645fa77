use Rattle.std.proofs.Common.{◌++◌, ◌<◌, ◌∙◌, List, ℕ, sym, subst, map, drop, length}
use Rattle.std.specs.List.{AllByRecursion}
use Rattle.term_bank.proofs.Numbers.{begins_same, begins_then}
use Rattle.numbered_facts.proofs.Growing.{then}
use Rattle.numbered_branches.specs.Branches.{NumberedFact}
use Rattle.numbered_instances.specs.Shared.{AreShared}
use Rattle.numbered_instances.proofs.LeftFacts.{low_terms}
use Rattle.numbered_instances.proofs.SharedAtoms.{numbers_on}
use Rattle.numbered_instances.proofs.shared.Shared.list.Goals as goal

pub count_new-requires-clause-listed : goal.count_new-requires-clause-listed
count_new-requires-clause-listed c = subst (AllByRecursion (λ i. i < length c.args.store.now.terms)) (sym c.deref.ensures.value) c.requires.counted.0

pub leave_rest-requires : goal.leave_rest-requires
leave_rest-requires c = let ts = c.args.store.now.terms in let us = c.count_new.new.store.terms in
    subst (AllByRecursion (λ i. i < length us)) (sym c.deref-2.ensures.value) (numbers_on ts us c.in_ok-from.ensures.grows.terms c.args.self.now.listed.items c.requires.counted.0)

pub returns-clause-grows : goal.returns-clause-grows
returns-clause-grows c = then c.args.store.now c.count_new.new.store c.leave_rest.new.store c.in_ok-from.ensures.grows c.in_ok-leave_rest.ensures.grows

pub returns-clause-counted : goal.returns-clause-counted
returns-clause-counted c =
    let ts = c.args.store.now.terms in let us = c.count_new.new.store.terms in let vs = c.leave_rest.new.store.terms in let fs = c.args.facts.now in
    let T = λ (f : NumberedFact). f.term in let is = map T fs in let from = c.in_ok-from.from in
    let begins = begins_then ts us vs c.in_ok-from.ensures.grows.terms c.in_ok-leave_rest.ensures.grows.terms in
    let first = c.count_new.new.counts.items in let last = c.leave_rest.new.counts.items in
    let counted = c.in_ok-from.ensures.counted (subst (λ (ys : List ℕ). AreShared ts ys c.args.self.now.counts.items) (sym c.deref.ensures.value) c.requires.counted.1) in
    let left = c.in_ok-leave_rest.ensures.left is (subst (λ (ys : List ℕ). AreShared us (is ++ drop from ys) first) (c.deref.ensures.value ∙ sym c.deref-2.ensures.value) counted) in
    subst (λ (ys : List ℕ). AllByRecursion (λ i. i < length vs) ys × AreShared vs ys last) (sym c.in_ok-list_again.ensures) (numbers_on ts vs begins is (low_terms ts ts (begins_same ts) fs c.requires.facts), left)
