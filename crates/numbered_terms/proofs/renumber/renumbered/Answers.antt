use Rattle.std.proofs.Common.{FitsSigned, rules, ◌∙◌, ◌≡◌, sym, ap, map, ℤ, ℕ, Vec}
use Rattle.std.specs.Int.{w128}
use Rattle.std.specs.declared.alloc.Global.{Global}
use Rattle.std.proofs.lemmas.Int.{to_z-of_z}
use Rattle.logic_core.specs.Tree.{free, linear, mul, read, write, choose, call, negation, all, some, equal, at_most, for_all, exists}
use Rattle.logic_core.specs.View.{trees_of, parts_of, patterns_of}
use Rattle.term_bank.specs.Node.{tree_over}
use Rattle.numbered_terms.specs.Renumbered.{new_of}
use Rattle.numbered_terms.proofs.Renumbering.{new_list, new_sum, new_rows}
use Rattle.numbered_terms.proofs.renumber.renumbered.Goals as goal

pub returns-in_ok-new_atoms-in-Sum : goal.returns-in_ok-new_atoms-in-Sum
returns-in_ok-new_atoms-in-Sum c = let fits : FitsSigned w128 c.in-Sum.rest = search rules in
    rw (to_z-of_z w128 _ fits) (ap (λ ps. linear (parts_of ps) c.in-Sum.rest) (new_sum (new_of c.args.found.now.entries) c.in-Sum.parts.items c.in_ok-new_atoms-in-Sum.field-0.items (c.in_ok-new_atoms-in-Sum.ensures ∙ ap (map (λ (p : ℤ × ℕ). (p.0, new_of c.args.found.now.entries p.1))) c.deref.ensures.value))
    ∙ ap (tree_over (λ i. free (new_of c.args.found.now.entries i))) (sym c.in-Sum.is))

pub returns-in_ok-new_numbers-in-Call : goal.returns-in_ok-new_numbers-in-Call
returns-in_ok-new_numbers-in-Call c = ap (λ ts. call c.in-Call.f (trees_of ts)) (new_list (new_of c.args.found.now.entries) c.in-Call.terms.items c.in_ok-new_numbers-in-Call.field-0.items (c.in_ok-new_numbers-in-Call.ensures ∙ ap (map (new_of c.args.found.now.entries)) c.deref-in-Call.ensures.value))
    ∙ ap (tree_over (λ i. free (new_of c.args.found.now.entries i))) (sym c.in-Call.is)

pub returns-in_ok-new_numbers-in-And : goal.returns-in_ok-new_numbers-in-And
returns-in_ok-new_numbers-in-And c = ap (λ ts. all (trees_of ts)) (new_list (new_of c.args.found.now.entries) c.in-And.terms.items c.in_ok-new_numbers-in-And.field-0.items (c.in_ok-new_numbers-in-And.ensures ∙ ap (map (new_of c.args.found.now.entries)) c.deref-in-And.ensures.value))
    ∙ ap (tree_over (λ i. free (new_of c.args.found.now.entries i))) (sym c.in-And.is)

pub returns-in_ok-new_numbers-in-Or : goal.returns-in_ok-new_numbers-in-Or
returns-in_ok-new_numbers-in-Or c = ap (λ ts. some (trees_of ts)) (new_list (new_of c.args.found.now.entries) c.in-Or.terms.items c.in_ok-new_numbers-in-Or.field-0.items (c.in_ok-new_numbers-in-Or.ensures ∙ ap (map (new_of c.args.found.now.entries)) c.deref-in-Or.ensures.value))
    ∙ ap (tree_over (λ i. free (new_of c.args.found.now.entries i))) (sym c.in-Or.is)

pub returns-in_ok-new_lists-in-ForAll : goal.returns-in_ok-new_lists-in-ForAll
returns-in_ok-new_lists-in-ForAll c =
    let s : c.in_ok-copy_sorts-in-ForAll.field-0.items ≡ c.in-ForAll.sorts.items = c.in_ok-copy_sorts-in-ForAll.ensures ∙ c.deref-in-ForAll.ensures.value in
    let r = new_rows (new_of c.args.found.now.entries) c.in-ForAll.lists.items c.in_ok-new_lists-in-ForAll.field-0.items (c.in_ok-new_lists-in-ForAll.ensures ∙ ap (map (λ (w : Vec ℕ Global). map (new_of c.args.found.now.entries) w.items)) c.deref-in-ForAll-2.ensures.value) in
    (λ k. for_all (s k) (patterns_of (r k)) (free (c.new_number-in-ForAll.ensures k)))
    ∙ ap (tree_over (λ i. free (new_of c.args.found.now.entries i))) (sym c.in-ForAll.is)

pub returns-in_ok-new_lists-in-Exists : goal.returns-in_ok-new_lists-in-Exists
returns-in_ok-new_lists-in-Exists c =
    let s : c.in_ok-copy_sorts-in-Exists.field-0.items ≡ c.in-Exists.sorts.items = c.in_ok-copy_sorts-in-Exists.ensures ∙ c.deref-in-Exists.ensures.value in
    let r = new_rows (new_of c.args.found.now.entries) c.in-Exists.lists.items c.in_ok-new_lists-in-Exists.field-0.items (c.in_ok-new_lists-in-Exists.ensures ∙ ap (map (λ (w : Vec ℕ Global). map (new_of c.args.found.now.entries) w.items)) c.deref-in-Exists-2.ensures.value) in
    (λ k. exists (s k) (patterns_of (r k)) (free (c.new_number-in-Exists.ensures k)))
    ∙ ap (tree_over (λ i. free (new_of c.args.found.now.entries i))) (sym c.in-Exists.is)

pub returns-in-Num : goal.returns-in-Num
returns-in-Num c = let fits : FitsSigned w128 c.in-Num.n = search rules in rw (to_z-of_z w128 _ fits) (ap (tree_over (λ i. free (new_of c.args.found.now.entries i))) (sym c.in-Num.is))

pub returns-in-Truth : goal.returns-in-Truth
returns-in-Truth c = ap (tree_over (λ i. free (new_of c.args.found.now.entries i))) (sym c.in-Truth.is)

pub returns-in-Free : goal.returns-in-Free
returns-in-Free c = ap (tree_over (λ i. free (new_of c.args.found.now.entries i))) (sym c.in-Free.is)

pub returns-in-Bound : goal.returns-in-Bound
returns-in-Bound c = ap (tree_over (λ i. free (new_of c.args.found.now.entries i))) (sym c.in-Bound.is)

pub returns-in-Mul : goal.returns-in-Mul
returns-in-Mul c = (λ k. mul (free (c.new_number.ensures k)) (free (c.new_number-in-Mul.ensures k))) ∙ ap (tree_over (λ i. free (new_of c.args.found.now.entries i))) (sym c.in-Mul.is)

pub returns-in-Read : goal.returns-in-Read
returns-in-Read c = (λ k. read (free (c.new_number-in-Read.ensures k)) (free (c.new_number-in-Read-2.ensures k))) ∙ ap (tree_over (λ i. free (new_of c.args.found.now.entries i))) (sym c.in-Read.is)

pub returns-in-Write : goal.returns-in-Write
returns-in-Write c = (λ k. write (free (c.new_number-in-Write.ensures k)) (free (c.new_number-in-Write-2.ensures k)) (free (c.new_number-in-Write-3.ensures k))) ∙ ap (tree_over (λ i. free (new_of c.args.found.now.entries i))) (sym c.in-Write.is)

pub returns-in-If : goal.returns-in-If
returns-in-If c = (λ k. choose (free (c.new_number-in-If.ensures k)) (free (c.new_number-in-If-2.ensures k)) (free (c.new_number-in-If-3.ensures k))) ∙ ap (tree_over (λ i. free (new_of c.args.found.now.entries i))) (sym c.in-If.is)

pub returns-in-Not : goal.returns-in-Not
returns-in-Not c = (λ k. negation (free (c.new_number-in-Not.ensures k))) ∙ ap (tree_over (λ i. free (new_of c.args.found.now.entries i))) (sym c.in-Not.is)

pub returns-in-Eq : goal.returns-in-Eq
returns-in-Eq c = (λ k. equal (free (c.new_number-in-Eq.ensures k)) (free (c.new_number-in-Eq-2.ensures k))) ∙ ap (tree_over (λ i. free (new_of c.args.found.now.entries i))) (sym c.in-Eq.is)

pub returns-in-Le : goal.returns-in-Le
returns-in-Le c = (λ k. at_most (free (c.new_number-in-Le.ensures k)) (free (c.new_number-in-Le-2.ensures k))) ∙ ap (tree_over (λ i. free (new_of c.args.found.now.entries i))) (sym c.in-Le.is)
