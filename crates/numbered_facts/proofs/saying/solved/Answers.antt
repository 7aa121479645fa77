use Rattle.std.proofs.Common.{◌≡◌, ◌∙◌, ◌<◌, sym, ap, subst, ℕ, ℤ, map, length, IfOk, FitsSigned, arith, rules}
use Rattle.std.specs.Int.{w128}
use Rattle.std.specs.List.{AllByRecursion}
use Rattle.std.proofs.lemmas.Int.{to_z-of_z}
use Rattle.logic_core.specs.Tree.{linear}
use Rattle.logic_core.specs.View.{parts_of}
use Rattle.term_bank.specs.Numbered.{at}
use Rattle.term_bank.specs.Node.{tree_over, numbers_in}
use Rattle.numbered_terms.specs.Lists.{atoms_at}
use Rattle.numbered_terms.proofs.Items.{all_lower}
use Rattle.numbered_facts.specs.Answers.{StandsFor}
use Rattle.numbered_facts.specs.Saying.{coefficient_of, without}
use Rattle.numbered_facts.proofs.Coefficients.{without_below, solved_there, not_solved, solved_as}
use Rattle.numbered_facts.proofs.saying.solved.Goals as goal

pub solved_by-requires : goal.solved_by-requires
solved_by-requires c =
    let ts = c.args.terms.now in let ps = c.in-Sum.parts.items in
    let low = subst (λ m. AllByRecursion (λ j. j < c.args.d) (numbers_in m)) c.in-Sum.is c.node.ensures.lower in
    without_below (λ j. j < length ts) c.args.t ps c.in_ok-rest-in-Some.rest.parts.items (c.in_ok-rest-in-Some.ensures.parts ∙ ap (without c.args.t) c.deref-in-Some.ensures.value)
    (all_lower c.args.d (length ts) (map (λ (p : ℤ × ℕ). p.1) ps) (omega (arith, c.requires.d)) low)

pub returns-in_ok-rest-in-Some-clause-gives : goal.returns-in_ok-rest-in-Some-clause-gives
returns-in_ok-rest-in-Some-clause-gives c =
    let ts = c.args.terms.now in let ps = c.in-Sum.parts.items in
    let fits : FitsSigned w128 c.in-Sum.c = search rules in
    let factor : FitsSigned w128 c.in-Some.k = search rules in
    let shape : at ts c.args.d ≡ linear (parts_of (atoms_at ts ps)) c.in-Sum.c = sym c.node.ensures.node ∙ ap (tree_over (at ts)) c.in-Sum.is in
    let low = subst (λ m. AllByRecursion (λ j. j < c.args.d) (numbers_in m)) c.in-Sum.is c.node.ensures.lower in
    let below = all_lower c.args.d (length ts) (map (λ (p : ℤ × ℕ). p.1) ps) (omega (arith, c.requires.d)) low in
    let found = sym (c.coefficient_of.ensures ∙ ap (coefficient_of c.args.t) c.deref.ensures.value) ∙ c.in-Some.is in
    let parts = c.in_ok-rest-in-Some.ensures.parts ∙ ap (without c.args.t) c.deref-in-Some.ensures.value in
    let rest = rw (to_z-of_z w128 c.in-Sum.c fits) at c.in_ok-rest-in-Some.ensures.rest in
    let whole = solved_there ts c.are_stored.ensures c.args.t c.requires.t c.args.d ps c.in-Sum.c shape below c.in-Some.k c.in_ok-rest-in-Some.rest found parts rest in
    subst (λ o. IfOk c.solved_by.result (λ x. StandsFor c.solved_by.new.terms x o)) whole (rw (to_z-of_z w128 c.in-Some.k factor) at c.solved_by.ensures.gives)

pub returns-in-None-clause-gives : goal.returns-in-None-clause-gives
returns-in-None-clause-gives c =
    let ts = c.args.terms.now in let ps = c.in-Sum.parts.items in
    let shape : at ts c.args.d ≡ linear (parts_of (atoms_at ts ps)) c.in-Sum.c = sym c.node.ensures.node ∙ ap (tree_over (at ts)) c.in-Sum.is in
    let low = subst (λ m. AllByRecursion (λ j. j < c.args.d) (numbers_in m)) c.in-Sum.is c.node.ensures.lower in
    let below = all_lower c.args.d (length ts) (map (λ (p : ℤ × ℕ). p.1) ps) (omega (arith, c.requires.d)) low in
    let none = sym (c.coefficient_of.ensures ∙ ap (coefficient_of c.args.t) c.deref.ensures.value) ∙ c.in-None.is in
    not_solved ts c.are_stored.ensures c.args.t c.requires.t c.args.d ps c.in-Sum.c shape below none

pub returns-in_default-clause-gives : goal.returns-in_default-clause-gives
returns-in_default-clause-gives c =
    let ts = c.args.terms.now in
    subst (λ o. IfOk c.solved_alone.result (λ x. StandsFor c.solved_alone.new.terms x o)) (solved_as (at ts) c.node.result.now (at ts c.args.d) (at ts c.args.t) c.in_default.not-Num c.in_default.not-Sum c.node.ensures.node) c.solved_alone.ensures.gives
