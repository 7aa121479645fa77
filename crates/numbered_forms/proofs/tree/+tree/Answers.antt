use Rattle.std.proofs.Common.{◌≡◌, ◌∙◌, ◌<◌, sym, ap, subst, length, FitsSigned, arith, rules}
use Rattle.std.specs.Int.{w128}
use Rattle.std.specs.List.{AllByRecursion}
use Rattle.std.proofs.lemmas.Int.{to_z-of_z}
use Rattle.logic_core.specs.Tree.{linear, mul, read, write, choose, call, negation, all, some, equal, at_most, for_all, exists}
use Rattle.logic_core.specs.View.{trees_of, parts_of, patterns_of}
use Rattle.term_bank.specs.Numbered.{at}
use Rattle.term_bank.specs.Node.{tree_over, numbers_in, in_lists}
use Rattle.numbered_terms.specs.Lists.{terms_at, atoms_at, lists_at, AtomsBelow}
use Rattle.numbered_terms.proofs.Items.{atom_at, row_below}
use Rattle.numbered_forms.proofs.tree.+tree.Goals as goal

pub tree-returns-in_ok-parts-in-Sum : goal.tree-returns-in_ok-parts-in-Sum
tree-returns-in_ok-parts-in-Sum t c =
    let ts = c.args.terms.now in
    let fits : FitsSigned w128 c.in-Sum.c = search rules in
    let atoms = c.in_ok-parts-in-Sum.ensures ∙ ap (atoms_at ts) c.deref.ensures.value in
    let shape : linear (parts_of (atoms_at ts c.in-Sum.parts.items)) c.in-Sum.c ≡ at ts c.args.id = sym (ap (tree_over (at ts)) c.in-Sum.is) ∙ c.node.ensures.node in
    (rw (to_z-of_z w128 c.in-Sum.c fits) at c.new-in-Sum.ensures) ∙ ap (λ xs. linear (parts_of xs) c.in-Sum.c) atoms ∙ shape

pub tree-returns-in_ok-boxed_tree-in-ForAll : goal.tree-returns-in_ok-boxed_tree-in-ForAll
tree-returns-in_ok-boxed_tree-in-ForAll t c =
    let ts = c.args.terms.now in
    let sorts = c.in_ok-copy_sorts-in-ForAll.ensures ∙ c.deref-in-ForAll.ensures.value in
    let lists = c.in_ok-tree_lists-in-ForAll.ensures ∙ ap (lists_at ts) c.deref-in-ForAll-2.ensures.value in
    let shape : for_all c.in-ForAll.sorts.items (patterns_of (lists_at ts c.in-ForAll.lists.items)) (at ts c.in-ForAll.body) ≡ at ts c.args.id = sym (ap (tree_over (at ts)) c.in-ForAll.is) ∙ c.node.ensures.node in
    c.new-in-ForAll.ensures ∙ (λ k. for_all (sorts k) (patterns_of (lists k)) (c.in_ok-boxed_tree-in-ForAll.ensures k)) ∙ shape

pub tree-returns-in_ok-boxed_tree-in-Exists : goal.tree-returns-in_ok-boxed_tree-in-Exists
tree-returns-in_ok-boxed_tree-in-Exists t c =
    let ts = c.args.terms.now in
    let sorts = c.in_ok-copy_sorts-in-Exists.ensures ∙ c.deref-in-Exists.ensures.value in
    let lists = c.in_ok-tree_lists-in-Exists.ensures ∙ ap (lists_at ts) c.deref-in-Exists-2.ensures.value in
    let shape : exists c.in-Exists.sorts.items (patterns_of (lists_at ts c.in-Exists.lists.items)) (at ts c.in-Exists.body) ≡ at ts c.args.id = sym (ap (tree_over (at ts)) c.in-Exists.is) ∙ c.node.ensures.node in
    c.new-in-Exists.ensures ∙ (λ k. exists (sorts k) (patterns_of (lists k)) (c.in_ok-boxed_tree-in-Exists.ensures k)) ∙ shape

pub tree_atoms-tree-requires : goal.tree_atoms-tree-requires
tree_atoms-tree-requires t c =
    let l : c.loop-i.i < length c.args.parts.now = omega arith in
    let low = atom_at c.args.below c.args.parts.now c.loop-i.i c.index-parts-i-in-loop-i.result c.requires.parts l in
    (omega (arith, c.decreases, low), omega (arith, c.requires.below, low))

pub tree_lists-tree_each-requires : goal.tree_lists-tree_each-requires
tree_lists-tree_each-requires t c =
    let l : c.loop-i.i < length c.args.lists.now = omega arith in (
      omega (arith, c.decreases),
      (
        c.requires.below,
        subst (AllByRecursion (λ j. j < c.args.below)) (sym c.deref.ensures.value) (row_below c.args.below c.args.lists.now c.loop-i.i c.index-lists-i.result c.requires.lists l c.index-lists-i.is),
      ),
    )

pub tree-tree_atoms-requires : goal.tree-tree_atoms-requires
tree-tree_atoms-requires t c = let whole = subst (λ m. AllByRecursion (λ j. j < c.args.id) (numbers_in m)) c.in-Sum.is c.node.ensures.lower in
    (omega (arith, c.decreases, c.id.view_is), (omega (arith, c.requires, c.id.view_is), subst (λ n. AtomsBelow n c.deref.result.now) (sym c.id.view_is) (subst (AtomsBelow c.args.id) (sym c.deref.ensures.value) whole)))

pub tree-boxed_tree-requires : goal.tree-boxed_tree-requires
tree-boxed_tree-requires t c = let whole = subst (λ m. AllByRecursion (λ j. j < c.args.id) (numbers_in m)) c.in-Mul.is c.node.ensures.lower in (omega (arith, c.decreases, whole.0), omega (arith, c.requires, whole.0))

pub tree-boxed_tree-requires-in-Mul : goal.tree-boxed_tree-requires-in-Mul
tree-boxed_tree-requires-in-Mul t c = let whole = subst (λ m. AllByRecursion (λ j. j < c.args.id) (numbers_in m)) c.in-Mul.is c.node.ensures.lower in (omega (arith, c.decreases, whole.1.0), omega (arith, c.requires, whole.1.0))

pub tree-returns-in_ok-boxed_tree-in-Mul-2 : goal.tree-returns-in_ok-boxed_tree-in-Mul-2
tree-returns-in_ok-boxed_tree-in-Mul-2 t c = c.new-in-Mul.ensures ∙ (λ k. mul (c.in_ok-boxed_tree-in-Mul.ensures k) (c.in_ok-boxed_tree-in-Mul-2.ensures k)) ∙ ap (tree_over (at c.args.terms.now)) (sym c.in-Mul.is) ∙ c.node.ensures.node

pub tree-boxed_tree-requires-in-Read : goal.tree-boxed_tree-requires-in-Read
tree-boxed_tree-requires-in-Read t c = let whole = subst (λ m. AllByRecursion (λ j. j < c.args.id) (numbers_in m)) c.in-Read.is c.node.ensures.lower in (omega (arith, c.decreases, whole.0), omega (arith, c.requires, whole.0))

pub tree-boxed_tree-requires-in-Read-2 : goal.tree-boxed_tree-requires-in-Read-2
tree-boxed_tree-requires-in-Read-2 t c = let whole = subst (λ m. AllByRecursion (λ j. j < c.args.id) (numbers_in m)) c.in-Read.is c.node.ensures.lower in (omega (arith, c.decreases, whole.1.0), omega (arith, c.requires, whole.1.0))

pub tree-returns-in_ok-boxed_tree-in-Read-2 : goal.tree-returns-in_ok-boxed_tree-in-Read-2
tree-returns-in_ok-boxed_tree-in-Read-2 t c = c.new-in-Read.ensures ∙ (λ k. read (c.in_ok-boxed_tree-in-Read.ensures k) (c.in_ok-boxed_tree-in-Read-2.ensures k)) ∙ ap (tree_over (at c.args.terms.now)) (sym c.in-Read.is) ∙ c.node.ensures.node

pub tree-boxed_tree-requires-in-Write : goal.tree-boxed_tree-requires-in-Write
tree-boxed_tree-requires-in-Write t c = let whole = subst (λ m. AllByRecursion (λ j. j < c.args.id) (numbers_in m)) c.in-Write.is c.node.ensures.lower in (omega (arith, c.decreases, whole.0), omega (arith, c.requires, whole.0))

pub tree-boxed_tree-requires-in-Write-2 : goal.tree-boxed_tree-requires-in-Write-2
tree-boxed_tree-requires-in-Write-2 t c = let whole = subst (λ m. AllByRecursion (λ j. j < c.args.id) (numbers_in m)) c.in-Write.is c.node.ensures.lower in (omega (arith, c.decreases, whole.1.0), omega (arith, c.requires, whole.1.0))

pub tree-boxed_tree-requires-in-Write-3 : goal.tree-boxed_tree-requires-in-Write-3
tree-boxed_tree-requires-in-Write-3 t c = let whole = subst (λ m. AllByRecursion (λ j. j < c.args.id) (numbers_in m)) c.in-Write.is c.node.ensures.lower in (omega (arith, c.decreases, whole.1.1.0), omega (arith, c.requires, whole.1.1.0))

pub tree-returns-in_ok-boxed_tree-in-Write-3 : goal.tree-returns-in_ok-boxed_tree-in-Write-3
tree-returns-in_ok-boxed_tree-in-Write-3 t c = c.new-in-Write.ensures ∙ (λ k. write (c.in_ok-boxed_tree-in-Write.ensures k) (c.in_ok-boxed_tree-in-Write-2.ensures k) (c.in_ok-boxed_tree-in-Write-3.ensures k)) ∙ ap (tree_over (at c.args.terms.now)) (sym c.in-Write.is) ∙ c.node.ensures.node

pub tree-boxed_tree-requires-in-If : goal.tree-boxed_tree-requires-in-If
tree-boxed_tree-requires-in-If t c = let whole = subst (λ m. AllByRecursion (λ j. j < c.args.id) (numbers_in m)) c.in-If.is c.node.ensures.lower in (omega (arith, c.decreases, whole.0), omega (arith, c.requires, whole.0))

pub tree-boxed_tree-requires-in-If-2 : goal.tree-boxed_tree-requires-in-If-2
tree-boxed_tree-requires-in-If-2 t c = let whole = subst (λ m. AllByRecursion (λ j. j < c.args.id) (numbers_in m)) c.in-If.is c.node.ensures.lower in (omega (arith, c.decreases, whole.1.0), omega (arith, c.requires, whole.1.0))

pub tree-boxed_tree-requires-in-If-3 : goal.tree-boxed_tree-requires-in-If-3
tree-boxed_tree-requires-in-If-3 t c = let whole = subst (λ m. AllByRecursion (λ j. j < c.args.id) (numbers_in m)) c.in-If.is c.node.ensures.lower in (omega (arith, c.decreases, whole.1.1.0), omega (arith, c.requires, whole.1.1.0))

pub tree-returns-in_ok-boxed_tree-in-If-3 : goal.tree-returns-in_ok-boxed_tree-in-If-3
tree-returns-in_ok-boxed_tree-in-If-3 t c = c.new-in-If.ensures ∙ (λ k. choose (c.in_ok-boxed_tree-in-If.ensures k) (c.in_ok-boxed_tree-in-If-2.ensures k) (c.in_ok-boxed_tree-in-If-3.ensures k)) ∙ ap (tree_over (at c.args.terms.now)) (sym c.in-If.is) ∙ c.node.ensures.node

pub tree-boxed_tree-requires-in-Not : goal.tree-boxed_tree-requires-in-Not
tree-boxed_tree-requires-in-Not t c = let whole = subst (λ m. AllByRecursion (λ j. j < c.args.id) (numbers_in m)) c.in-Not.is c.node.ensures.lower in (omega (arith, c.decreases, whole.0), omega (arith, c.requires, whole.0))

pub tree-returns-in_ok-boxed_tree-in-Not : goal.tree-returns-in_ok-boxed_tree-in-Not
tree-returns-in_ok-boxed_tree-in-Not t c = c.new-in-Not.ensures ∙ (λ k. negation (c.in_ok-boxed_tree-in-Not.ensures k)) ∙ ap (tree_over (at c.args.terms.now)) (sym c.in-Not.is) ∙ c.node.ensures.node

pub tree-boxed_tree-requires-in-Eq : goal.tree-boxed_tree-requires-in-Eq
tree-boxed_tree-requires-in-Eq t c = let whole = subst (λ m. AllByRecursion (λ j. j < c.args.id) (numbers_in m)) c.in-Eq.is c.node.ensures.lower in (omega (arith, c.decreases, whole.0), omega (arith, c.requires, whole.0))

pub tree-boxed_tree-requires-in-Eq-2 : goal.tree-boxed_tree-requires-in-Eq-2
tree-boxed_tree-requires-in-Eq-2 t c = let whole = subst (λ m. AllByRecursion (λ j. j < c.args.id) (numbers_in m)) c.in-Eq.is c.node.ensures.lower in (omega (arith, c.decreases, whole.1.0), omega (arith, c.requires, whole.1.0))

pub tree-returns-in_ok-boxed_tree-in-Eq-2 : goal.tree-returns-in_ok-boxed_tree-in-Eq-2
tree-returns-in_ok-boxed_tree-in-Eq-2 t c = c.new-in-Eq.ensures ∙ (λ k. equal (c.in_ok-boxed_tree-in-Eq.ensures k) (c.in_ok-boxed_tree-in-Eq-2.ensures k)) ∙ ap (tree_over (at c.args.terms.now)) (sym c.in-Eq.is) ∙ c.node.ensures.node

pub tree-boxed_tree-requires-in-Le : goal.tree-boxed_tree-requires-in-Le
tree-boxed_tree-requires-in-Le t c = let whole = subst (λ m. AllByRecursion (λ j. j < c.args.id) (numbers_in m)) c.in-Le.is c.node.ensures.lower in (omega (arith, c.decreases, whole.0), omega (arith, c.requires, whole.0))

pub tree-boxed_tree-requires-in-Le-2 : goal.tree-boxed_tree-requires-in-Le-2
tree-boxed_tree-requires-in-Le-2 t c = let whole = subst (λ m. AllByRecursion (λ j. j < c.args.id) (numbers_in m)) c.in-Le.is c.node.ensures.lower in (omega (arith, c.decreases, whole.1.0), omega (arith, c.requires, whole.1.0))

pub tree-returns-in_ok-boxed_tree-in-Le-2 : goal.tree-returns-in_ok-boxed_tree-in-Le-2
tree-returns-in_ok-boxed_tree-in-Le-2 t c = c.new-in-Le.ensures ∙ (λ k. at_most (c.in_ok-boxed_tree-in-Le.ensures k) (c.in_ok-boxed_tree-in-Le-2.ensures k)) ∙ ap (tree_over (at c.args.terms.now)) (sym c.in-Le.is) ∙ c.node.ensures.node

pub tree-tree_each-requires : goal.tree-tree_each-requires
tree-tree_each-requires t c = let whole = subst (λ m. AllByRecursion (λ j. j < c.args.id) (numbers_in m)) c.in-Call.is c.node.ensures.lower in
    (omega (arith, c.decreases, c.id.view_is), (omega (arith, c.requires, c.id.view_is), subst (λ n. AllByRecursion (λ j. j < n) c.deref-in-Call.result.now) (sym c.id.view_is) (subst (AllByRecursion (λ j. j < c.args.id)) (sym c.deref-in-Call.ensures.value) whole)))

pub tree-returns-in_ok-args-in-Call : goal.tree-returns-in_ok-args-in-Call
tree-returns-in_ok-args-in-Call t c = c.new-in-Call.ensures ∙ ap (λ xs. call c.in-Call.f (trees_of xs)) (c.in_ok-args-in-Call.ensures ∙ ap (terms_at c.args.terms.now) c.deref-in-Call.ensures.value) ∙ ap (tree_over (at c.args.terms.now)) (sym c.in-Call.is) ∙ c.node.ensures.node

pub tree-tree_each-requires-in-And : goal.tree-tree_each-requires-in-And
tree-tree_each-requires-in-And t c = let whole = subst (λ m. AllByRecursion (λ j. j < c.args.id) (numbers_in m)) c.in-And.is c.node.ensures.lower in
    (omega (arith, c.decreases, c.id.view_is), (omega (arith, c.requires, c.id.view_is), subst (λ n. AllByRecursion (λ j. j < n) c.deref-in-And.result.now) (sym c.id.view_is) (subst (AllByRecursion (λ j. j < c.args.id)) (sym c.deref-in-And.ensures.value) whole)))

pub tree-returns-in_ok-tree_each-in-And : goal.tree-returns-in_ok-tree_each-in-And
tree-returns-in_ok-tree_each-in-And t c = c.new-in-And.ensures ∙ ap (λ xs. all (trees_of xs)) (c.in_ok-tree_each-in-And.ensures ∙ ap (terms_at c.args.terms.now) c.deref-in-And.ensures.value) ∙ ap (tree_over (at c.args.terms.now)) (sym c.in-And.is) ∙ c.node.ensures.node

pub tree-tree_each-requires-in-Or : goal.tree-tree_each-requires-in-Or
tree-tree_each-requires-in-Or t c = let whole = subst (λ m. AllByRecursion (λ j. j < c.args.id) (numbers_in m)) c.in-Or.is c.node.ensures.lower in
    (omega (arith, c.decreases, c.id.view_is), (omega (arith, c.requires, c.id.view_is), subst (λ n. AllByRecursion (λ j. j < n) c.deref-in-Or.result.now) (sym c.id.view_is) (subst (AllByRecursion (λ j. j < c.args.id)) (sym c.deref-in-Or.ensures.value) whole)))

pub tree-returns-in_ok-tree_each-in-Or : goal.tree-returns-in_ok-tree_each-in-Or
tree-returns-in_ok-tree_each-in-Or t c = c.new-in-Or.ensures ∙ ap (λ xs. some (trees_of xs)) (c.in_ok-tree_each-in-Or.ensures ∙ ap (terms_at c.args.terms.now) c.deref-in-Or.ensures.value) ∙ ap (tree_over (at c.args.terms.now)) (sym c.in-Or.is) ∙ c.node.ensures.node

pub tree-tree_lists-requires : goal.tree-tree_lists-requires
tree-tree_lists-requires t c = let whole = subst (λ m. AllByRecursion (λ j. j < c.args.id) (numbers_in m)) c.in-ForAll.is c.node.ensures.lower in
    (omega (arith, c.decreases, c.id.view_is), (omega (arith, c.requires, c.id.view_is), subst (λ n. AllByRecursion (λ j. j < n) (in_lists c.deref-in-ForAll-2.result.now)) (sym c.id.view_is) (subst (λ ls. AllByRecursion (λ j. j < c.args.id) (in_lists ls)) (sym c.deref-in-ForAll-2.ensures.value) whole.1)))

pub tree-boxed_tree-requires-in-ForAll : goal.tree-boxed_tree-requires-in-ForAll
tree-boxed_tree-requires-in-ForAll t c = let whole = subst (λ m. AllByRecursion (λ j. j < c.args.id) (numbers_in m)) c.in-ForAll.is c.node.ensures.lower in (omega (arith, c.decreases, whole.0), omega (arith, c.requires, whole.0))

pub tree-tree_lists-requires-in-Exists : goal.tree-tree_lists-requires-in-Exists
tree-tree_lists-requires-in-Exists t c = let whole = subst (λ m. AllByRecursion (λ j. j < c.args.id) (numbers_in m)) c.in-Exists.is c.node.ensures.lower in
    (omega (arith, c.decreases, c.id.view_is), (omega (arith, c.requires, c.id.view_is), subst (λ n. AllByRecursion (λ j. j < n) (in_lists c.deref-in-Exists-2.result.now)) (sym c.id.view_is) (subst (λ ls. AllByRecursion (λ j. j < c.args.id) (in_lists ls)) (sym c.deref-in-Exists-2.ensures.value) whole.1)))

pub tree-boxed_tree-requires-in-Exists : goal.tree-boxed_tree-requires-in-Exists
tree-boxed_tree-requires-in-Exists t c = let whole = subst (λ m. AllByRecursion (λ j. j < c.args.id) (numbers_in m)) c.in-Exists.is c.node.ensures.lower in (omega (arith, c.decreases, whole.0), omega (arith, c.requires, whole.0))
