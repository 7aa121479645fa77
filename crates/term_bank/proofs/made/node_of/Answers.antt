use Rattle.std.proofs.Common.{FitsSigned, rules, ℤ, ◌≡◌, ◌∙◌, sym, ap, subst, [], ◌∷◌, map}
use Rattle.std.specs.Int.{w128}
use Rattle.std.proofs.lemmas.Int.{to_z-of_z}
use Rattle.logic_core.specs.Tree.{Tree, num, truth, free, bound, linear, mul, read, write, choose, call, negation, all, some, equal, at_most, for_all, exists}
use Rattle.logic_core.specs.TermView.{tree_of}
use Rattle.logic_core.specs.View.{trees_of, parts_of, patterns_of, each_items}
use Rattle.term_bank.specs.Standing.{direct, triggers}
use Rattle.term_bank.proofs.Led.{listed_trees, atoms_parts, lists_patterns}
use Rattle.term_bank.proofs.MadeNodes.{one_tree, two_tree, three_tree, list_tree, quantified_tree, sum_made}
use Rattle.term_bank.proofs.made.node_of.Goals as goal

pub returns-in_ok-a-in-Mul : goal.returns-in_ok-a-in-Mul
returns-in_ok-a-in-Mul c = let q : c.args.term.now ≡ mul c.in-Mul.field-0.value c.in-Mul.field-1.value = sym c.term.view_is ∙ ap tree_of c.in-Mul.is in λ ts p l. two_tree mul ts c.args.parts.items _ _ c.args.term.now c.in-Mul.field-0.value c.in-Mul.field-1.value (ap direct q) q (sym c.deref-in-Mul.ensures.value ∙ c.in_ok-a-in-Mul.ensures) p

pub returns-in_ok-a-in-Read : goal.returns-in_ok-a-in-Read
returns-in_ok-a-in-Read c = let q : c.args.term.now ≡ read c.in-Read.field-0.value c.in-Read.field-1.value = sym c.term.view_is ∙ ap tree_of c.in-Read.is in λ ts p l. two_tree read ts c.args.parts.items _ _ c.args.term.now c.in-Read.field-0.value c.in-Read.field-1.value (ap direct q) q (sym c.deref-in-Read.ensures.value ∙ c.in_ok-a-in-Read.ensures) p

pub returns-in_ok-a-in-Eq : goal.returns-in_ok-a-in-Eq
returns-in_ok-a-in-Eq c = let q : c.args.term.now ≡ equal c.in-Eq.field-0.value c.in-Eq.field-1.value = sym c.term.view_is ∙ ap tree_of c.in-Eq.is in λ ts p l. two_tree equal ts c.args.parts.items _ _ c.args.term.now c.in-Eq.field-0.value c.in-Eq.field-1.value (ap direct q) q (sym c.deref-in-Eq.ensures.value ∙ c.in_ok-a-in-Eq.ensures) p

pub returns-in_ok-a-in-Le : goal.returns-in_ok-a-in-Le
returns-in_ok-a-in-Le c = let q : c.args.term.now ≡ at_most c.in-Le.field-0.value c.in-Le.field-1.value = sym c.term.view_is ∙ ap tree_of c.in-Le.is in λ ts p l. two_tree at_most ts c.args.parts.items _ _ c.args.term.now c.in-Le.field-0.value c.in-Le.field-1.value (ap direct q) q (sym c.deref-in-Le.ensures.value ∙ c.in_ok-a-in-Le.ensures) p

pub returns-in_ok-a-in-Write : goal.returns-in_ok-a-in-Write
returns-in_ok-a-in-Write c = let q : c.args.term.now ≡ write c.in-Write.field-0.value c.in-Write.field-1.value c.in-Write.field-2.value = sym c.term.view_is ∙ ap tree_of c.in-Write.is in λ ts p l. three_tree write ts c.args.parts.items _ _ _ c.args.term.now c.in-Write.field-0.value c.in-Write.field-1.value c.in-Write.field-2.value (ap direct q) q (sym c.deref-in-Write.ensures.value ∙ c.in_ok-a-in-Write.ensures) p

pub returns-in_ok-a-in-If : goal.returns-in_ok-a-in-If
returns-in_ok-a-in-If c = let q : c.args.term.now ≡ choose c.in-If.field-0.value c.in-If.field-1.value c.in-If.field-2.value = sym c.term.view_is ∙ ap tree_of c.in-If.is in λ ts p l. three_tree choose ts c.args.parts.items _ _ _ c.args.term.now c.in-If.field-0.value c.in-If.field-1.value c.in-If.field-2.value (ap direct q) q (sym c.deref-in-If.ensures.value ∙ c.in_ok-a-in-If.ensures) p

pub returns-in_ok-only-in-Not : goal.returns-in_ok-only-in-Not
returns-in_ok-only-in-Not c = let q : c.args.term.now ≡ negation c.in-Not.field-0.value = sym c.term.view_is ∙ ap tree_of c.in-Not.is in λ ts p l. one_tree negation ts c.args.parts.items _ c.args.term.now c.in-Not.field-0.value (ap direct q) q (sym c.deref-in-Not.ensures.value ∙ c.in_ok-only-in-Not.ensures) p

pub returns-in-And : goal.returns-in-And
returns-in-And c = let q : c.args.term.now ≡ all (trees_of c.in-And.field-0.items) = sym c.term.view_is ∙ ap tree_of c.in-And.is in λ ts p l. list_tree (all) ts c.args.parts.items c.args.term.now c.in-And.field-0.items (ap direct q ∙ listed_trees c.in-And.field-0.items) q p

pub returns-in-Or : goal.returns-in-Or
returns-in-Or c = let q : c.args.term.now ≡ some (trees_of c.in-Or.field-0.items) = sym c.term.view_is ∙ ap tree_of c.in-Or.is in λ ts p l. list_tree (some) ts c.args.parts.items c.args.term.now c.in-Or.field-0.items (ap direct q ∙ listed_trees c.in-Or.field-0.items) q p

pub returns-in-Call : goal.returns-in-Call
returns-in-Call c = let q : c.args.term.now ≡ call c.in-Call.f (trees_of c.in-Call.field-1.items) = sym c.term.view_is ∙ ap tree_of c.in-Call.is in λ ts p l. list_tree (call c.in-Call.f) ts c.args.parts.items c.args.term.now c.in-Call.field-1.items (ap direct q ∙ listed_trees c.in-Call.field-1.items) q p

pub returns-in_ok-body-in-ForAll : goal.returns-in_ok-body-in-ForAll
returns-in_ok-body-in-ForAll c = let q : c.args.term.now ≡ for_all c.in-ForAll.sorts.items (patterns_of (each_items c.in-ForAll.field-1.items)) c.in-ForAll.field-2.value = sym c.term.view_is ∙ ap tree_of c.in-ForAll.is in let s : c.in_ok-sorts-in-ForAll.sorts.items ≡ c.in-ForAll.sorts.items = c.in_ok-sorts-in-ForAll.ensures ∙ c.deref-in-ForAll.ensures.value in
    λ ts p l. rw s (quantified_tree (for_all c.in-ForAll.sorts.items) ts c.args.parts.items c.args.lists.items _ c.args.term.now c.in-ForAll.field-2.value (each_items c.in-ForAll.field-1.items) (ap direct q) (ap triggers q ∙ lists_patterns (each_items c.in-ForAll.field-1.items)) q
    (sym c.deref-in-ForAll-2.ensures.value ∙ c.in_ok-body-in-ForAll.ensures) p l)

pub returns-in_ok-body-in-Exists : goal.returns-in_ok-body-in-Exists
returns-in_ok-body-in-Exists c = let q : c.args.term.now ≡ exists c.in-Exists.sorts.items (patterns_of (each_items c.in-Exists.field-1.items)) c.in-Exists.field-2.value = sym c.term.view_is ∙ ap tree_of c.in-Exists.is in let s : c.in_ok-sorts-in-Exists.sorts.items ≡ c.in-Exists.sorts.items = c.in_ok-sorts-in-Exists.ensures ∙ c.deref-in-Exists.ensures.value in
    λ ts p l. rw s (quantified_tree (exists c.in-Exists.sorts.items) ts c.args.parts.items c.args.lists.items _ c.args.term.now c.in-Exists.field-2.value (each_items c.in-Exists.field-1.items) (ap direct q) (ap triggers q ∙ lists_patterns (each_items c.in-Exists.field-1.items)) q
    (sym c.deref-in-Exists-2.ensures.value ∙ c.in_ok-body-in-Exists.ensures) p l)

pub returns-in_ok-atoms_of-in-Sum : goal.returns-in_ok-atoms_of-in-Sum
returns-in_ok-atoms_of-in-Sum c = let q : c.args.term.now ≡ linear (parts_of c.in-Sum.atoms.items) c.in-Sum.rest = sym c.term.view_is ∙ ap tree_of c.in-Sum.is in
    let fits : FitsSigned w128 c.in-Sum.rest = search rules in
    λ ts p l. rw (to_z-of_z w128 _ fits) (sum_made ts c.args.parts.items c.in_ok-atoms_of-in-Sum.field-0.items c.in-Sum.atoms.items c.in-Sum.rest c.args.term.now q (ap direct q ∙ atoms_parts c.in-Sum.atoms.items)
    (c.in_ok-atoms_of-in-Sum.ensures.numbers ∙ c.deref-in-Sum.ensures.value) (c.in_ok-atoms_of-in-Sum.ensures.coefficients ∙ ap (map (λ (x : ℤ × Tree). x.0)) c.deref.ensures.value) p)
