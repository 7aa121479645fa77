use Rattle.std.proofs.Common.{◌≡◌, ◌∙◌, ◌<◌, sym, ap, subst, ℕ, ℤ, map, length, FitsSigned, arith, rules}
use Rattle.std.specs.Int.{w128}
use Rattle.std.specs.List.{AllByRecursion}
use Rattle.std.proofs.lemmas.Int.{to_z-of_z}
use Rattle.logic_core.specs.Tree.{linear}
use Rattle.logic_core.specs.View.{parts_of}
use Rattle.term_bank.specs.Numbered.{at}
use Rattle.term_bank.specs.Node.{tree_over, numbers_in}
use Rattle.numbered_terms.specs.Lists.{atoms_at}
use Rattle.numbered_terms.proofs.Items.{all_lower}
use Rattle.numbered_facts.proofs.Quotients.{quotient_made, quotient_below}
use Rattle.numbered_facts.proofs.tightening.quotient_of.Goals as goal

pub returns-in-Sum-clause-is : goal.returns-in-Sum-clause-is
returns-in-Sum-clause-is c =
    let ts = c.args.terms.now in let ps = c.in-Sum.parts.items in
    let fits : FitsSigned w128 c.in-Sum.c = search rules in
    let shape : at ts c.args.id ≡ linear (parts_of (atoms_at ts ps)) c.in-Sum.c = sym c.node.ensures.node ∙ ap (tree_over (at ts)) c.in-Sum.is in
    quotient_made ts c.args.g c.args.id ps c.deref.result.now c.in-Sum.c c.deref.ensures.value shape c.divided.result c.divided.ensures.parts (rw (to_z-of_z w128 c.in-Sum.c fits) at c.divided.ensures.rest)

pub returns-in-Sum-clause-within : goal.returns-in-Sum-clause-within
returns-in-Sum-clause-within c =
    let ts = c.args.terms.now in let ps = c.in-Sum.parts.items in
    let low = subst (λ m. AllByRecursion (λ j. j < c.args.id) (numbers_in m)) c.in-Sum.is c.node.ensures.lower in
    quotient_below ts c.args.g c.args.id ps c.deref.result.now c.in-Sum.c c.deref.ensures.value (all_lower c.args.id (length ts) (map (λ (p : ℤ × ℕ). p.1) ps) (omega (arith, c.requires.id)) low) c.divided.result c.divided.ensures.parts
