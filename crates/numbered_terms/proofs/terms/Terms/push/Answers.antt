use Rattle.std.proofs.Common.{◌≡◌, ◌∙◌, ◌<◌, sym, ap, subst, length, get_or, None, [], ◌∷◌, ◌++◌}
use Rattle.std.specs.List.{AllByRecursion}
use Rattle.logic_core.specs.Size.{capped}
use Rattle.term_bank.specs.Numbered.{at, number_of, Begins}
use Rattle.term_bank.specs.Node.{tree_over, numbers_in}
use Rattle.term_bank.proofs.Numbers.{number_is, begins_same}
use Rattle.numbered_terms.specs.At.{IsAt}
use Rattle.numbered_terms.specs.Measures.{node_size, node_reach}
use Rattle.numbered_terms.proofs.Measuring.{measured_next}
use Rattle.numbered_terms.proofs.Stores.{made_next}
use Rattle.numbered_terms.proofs.terms.Terms.push.Goals as goal

pub push-requires-clause-lower : goal.push-requires-clause-lower
push-requires-clause-lower c = subst (λ ts. AllByRecursion (λ j. j < length ts) (numbers_in c.args.node)) (sym c.self.view_is) c.requires.lower

pub push-requires-clause-new : goal.push-requires-clause-new
push-requires-clause-new c = subst (λ ts. number_of ts (tree_over (at ts) c.args.node) ≡ None) (sym c.self.view_is) c.requires.new

pub invariant_of-self-2 : goal.invariant_of-self-2
invariant_of-self-2 c = measured_next c.self.inside.nodes c.push.new.self c.self.inside.sizes.items c.put_size.new.sizes.items c.self.inside.reaches.items c.put_reach.new.reaches.items c.args.node c.size-size.result c.reach-reach.result
    (subst (λ ts. AllByRecursion (λ j. j < length ts) (numbers_in c.args.node)) (sym c.self.view_is) c.requires.lower)
    c.in_ok-push.ensures.ok
    c.self.invariant
    (c.size-size.ensures ∙ ap (λ xs. capped (node_size (λ i. get_or xs i 0) c.args.node)) c.deref.ensures.value)
    (c.reach-reach.ensures ∙ ap (λ xs. node_reach (λ i. get_or xs i 0) c.args.node) c.deref-2.ensures.value)
    (c.put_size.ensures ∙ ap (λ xs. xs ++ c.size-size.result ∷ []) c.in_ok-reserve.ensures.items)
    (c.put_reach.ensures ∙ ap (λ xs. xs ++ c.reach-reach.result ∷ []) c.in_ok-reserve-2.ensures.items)

pub returns-clause-grows : goal.returns-clause-grows
returns-clause-grows c = subst (λ ts. Begins ts c.push.new.self) c.self.view_is (tree_over (at c.self.inside.nodes) c.args.node ∷ [], c.in_ok-push.ensures.ok)

pub returns-clause-number : goal.returns-clause-number
returns-clause-number c =
    let ts = c.self.inside.nodes in let us = c.push.new.self in let t = tree_over (at ts) c.args.node in let i = c.len-number.result in
    let none : number_of ts t ≡ None = subst (λ xs. number_of xs (tree_over (at xs) c.args.node) ≡ None) (sym c.self.view_is) c.requires.new in
    subst (λ xs. IsAt us i (tree_over (at xs) c.args.node)) c.self.view_is (number_is us t i (made_next ts us t i none c.in_ok-push.ensures.ok c.len-number.ensures))

pub push-requires-clause-hash : goal.push-requires-clause-hash
push-requires-clause-hash c = c.requires.hash

pub returns-in_err-reserve-clause-grows : goal.returns-in_err-reserve-clause-grows
returns-in_err-reserve-clause-grows c = subst (λ ts. Begins ts c.self.inside.nodes) c.self.view_is (begins_same c.self.inside.nodes)

pub returns-in_err-reserve-2-clause-grows : goal.returns-in_err-reserve-2-clause-grows
returns-in_err-reserve-2-clause-grows c = subst (λ ts. Begins ts c.self.inside.nodes) c.self.view_is (begins_same c.self.inside.nodes)

pub returns-in_err-push-clause-grows : goal.returns-in_err-push-clause-grows
returns-in_err-push-clause-grows c = subst (λ ts. Begins ts c.push.new.self) c.self.view_is (subst (λ us. Begins c.self.inside.nodes us) (sym c.in_err-push.ensures.memory) (begins_same c.self.inside.nodes))
