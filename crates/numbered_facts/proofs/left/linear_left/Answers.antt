use Rattle.std.proofs.Common.{◌≡◌, ◌∙◌, sym, ap, subst, Option, ℕ, Some, None, option_map, FitsSigned, rules, ◌<◌, ℤ, map, length, arith}
use Rattle.std.specs.Int.{w128}
use Rattle.std.proofs.lemmas.Int.{to_z-of_z}
use Rattle.logic_core.specs.View.{parts_of}
use Rattle.logic_core.specs.Combine.{sum_of}
use Rattle.tableau_branch.specs.Oriented.{solvable_among, simple_lead, linear_left}
use Rattle.term_bank.specs.Numbered.{at}
use Rattle.term_bank.specs.Node.{tree_over, numbers_in}
use Rattle.numbered_terms.specs.Lists.{atoms_at, AtomsBelow}
use Rattle.numbered_facts.specs.Answers.{StandsFor}
use Rattle.numbered_facts.proofs.LeftSides.{whole_left, left_simple, left_solved}
use Rattle.std.specs.List.{AllByRecursion}
use Rattle.numbered_terms.proofs.Items.{all_lower}
use Rattle.numbered_facts.proofs.left.linear_left.Goals as goal

pub returns-in_default : goal.returns-in_default
returns-in_default c = (c.requires, subst (λ t. linear_left (sum_of t) ≡ Some t) c.node.ensures.node (whole_left (at c.args.terms.now) c.node.result.now c.in_default.not-Num c.in_default.not-Sum))

pub returns-in-None : goal.returns-in-None
returns-in-None c = let ts = c.args.terms.now in let ps = parts_of (atoms_at ts c.in-Sum.parts.items) in let fits : FitsSigned w128 c.in-Sum.rest = search rules in
    let of : solvable_among ps ps ≡ None = subst (λ (o : Option ℕ). StandsFor ts o (solvable_among ps ps)) c.in-None.is
    (subst (λ qs. StandsFor ts c.in_ok-variable-in-Sum.field-0 (solvable_among (parts_of (atoms_at ts qs)) (parts_of (atoms_at ts qs)))) c.deref.ensures.value c.in_ok-variable-in-Sum.ensures) in
    let lead : option_map (at ts) c.simple_lead.result ≡ simple_lead ps c.in-Sum.rest = rw (to_z-of_z w128 c.in-Sum.rest fits, c.deref-in-None.ensures.value) at c.simple_lead.ensures.is in
    left_simple ts (at ts c.args.id) ps c.in-Sum.rest c.simple_lead.result (sym c.node.ensures.node ∙ ap (tree_over (at ts)) c.in-Sum.is) of lead c.simple_lead.ensures.within

pub returns-in-Some : goal.returns-in-Some
returns-in-Some c = let ts = c.args.terms.now in let ps = parts_of (atoms_at ts c.in-Sum.parts.items) in
    let of : StandsFor ts (Some c.in-Some.variable) (solvable_among ps ps) = subst (λ (o : Option ℕ). StandsFor ts o (solvable_among ps ps)) c.in-Some.is
    (subst (λ qs. StandsFor ts c.in_ok-variable-in-Sum.field-0 (solvable_among (parts_of (atoms_at ts qs)) (parts_of (atoms_at ts qs)))) c.deref.ensures.value c.in_ok-variable-in-Sum.ensures) in
    left_solved ts (at ts c.args.id) ps c.in-Sum.rest c.in-Some.variable (sym c.node.ensures.node ∙ ap (tree_over (at ts)) c.in-Sum.is) of

pub solvable-requires : goal.solvable-requires
solvable-requires c = let ts = c.args.terms.now in
    let low = subst (λ m. AllByRecursion (λ j. j < c.args.id) (numbers_in m)) c.in-Sum.is c.node.ensures.lower in
    subst (AtomsBelow (length ts)) (sym c.deref.ensures.value) (all_lower c.args.id (length ts) (map (λ (p : ℤ × ℕ). p.1) c.in-Sum.parts.items) (omega (arith, c.requires)) low)

pub simple_lead-requires : goal.simple_lead-requires
simple_lead-requires c = let ts = c.args.terms.now in
    let low = subst (λ m. AllByRecursion (λ j. j < c.args.id) (numbers_in m)) c.in-Sum.is c.node.ensures.lower in
    subst (AtomsBelow (length ts)) (sym c.deref-in-None.ensures.value) (all_lower c.args.id (length ts) (map (λ (p : ℤ × ℕ). p.1) c.in-Sum.parts.items) (omega (arith, c.requires)) low)
