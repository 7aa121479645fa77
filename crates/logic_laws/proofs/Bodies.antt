-- A definition's body has the definition's sort over all definitions, and over more variables.
use Rattle.std.proofs.Common.{◌≡◌, refl, subst, ℕ, zero, suc, true, Some, List, [], ◌∷◌, ◌++◌, reverse, slice_get, append_assoc}
use Rattle.logic_core.proofs.Booleans.{both_true, all_true}
use Rattle.logic_core.specs.Tree.{Kind}
use Rattle.logic_core.specs.Def.{Def}
use Rattle.logic_core.specs.Sorts.{is, sort_of, bodies_sorted}
use Rattle.logic_laws.proofs.SortTests.{is_sort, sort_is}
use Rattle.logic_laws.proofs.SortFrame.{Within, within_more, within_itself, sort_over}

body_sort_from : (vars : List Kind) (ds below : List Def) (n : ℕ) (d : Def) → bodies_sorted vars below ds ≡ true → slice_get ds n ≡ Some d → sort_of vars (below ++ ds) (reverse d.params) d.body ≡ Some d.sort
body_sort_from vars [] below n d s e = absurd (cc)
body_sort_from vars (c ∷ ds) below zero d s e =
    let p = both_true (is c.sort (sort_of vars below (reverse c.params) c.body)) (bodies_sorted vars (below ++ c ∷ []) ds) s in
    let q : c ≡ d = cc in
    subst (λ x. sort_of vars (below ++ c ∷ ds) (reverse x.params) x.body ≡ Some x.sort) q
    (sort_over vars below vars (below ++ c ∷ ds) (within_itself vars) (within_more below (c ∷ ds)) c.body (reverse c.params) (reverse c.params) (within_itself (reverse c.params)) c.sort (is_sort c.sort (sort_of vars below (reverse c.params) c.body) p.0))
body_sort_from vars (c ∷ ds) below (suc n) d s e =
    let p = both_true (is c.sort (sort_of vars below (reverse c.params) c.body)) (bodies_sorted vars (below ++ c ∷ []) ds) s in
    subst (λ xs. sort_of vars xs (reverse d.params) d.body ≡ Some d.sort) (append_assoc below (c ∷ []) ds) (body_sort_from vars ds (below ++ c ∷ []) n d p.1 e)

-- over its parameters
pub body_sort : (vars : List Kind) (defs : List Def) (n : ℕ) (d : Def) → bodies_sorted vars [] defs ≡ true → slice_get defs n ≡ Some d → sort_of vars defs (reverse d.params) d.body ≡ Some d.sort
body_sort vars defs n d s e = body_sort_from vars defs [] n d s e

bodies_over_from : (vars vars' : List Kind) (ds below : List Def) → Within vars vars' → bodies_sorted vars below ds ≡ true → bodies_sorted vars' below ds ≡ true
bodies_over_from vars vars' [] below w s = refl
bodies_over_from vars vars' (d ∷ ds) below w s =
    let p = both_true (is d.sort (sort_of vars below (reverse d.params) d.body)) (bodies_sorted vars (below ++ d ∷ []) ds) s in
    all_true (is d.sort (sort_of vars' below (reverse d.params) d.body)) (bodies_sorted vars' (below ++ d ∷ []) ds)
    (sort_is d.sort (sort_of vars' below (reverse d.params) d.body) (sort_over vars below vars' below w (within_itself below) d.body (reverse d.params) (reverse d.params) (within_itself (reverse d.params)) d.sort (is_sort d.sort (sort_of vars below (reverse d.params) d.body) p.0)))
    (bodies_over_from vars vars' ds (below ++ d ∷ []) w p.1)

-- more variables change nothing
pub bodies_over : (vars vars' : List Kind) (defs : List Def) → Within vars vars' → bodies_sorted vars [] defs ≡ true → bodies_sorted vars' [] defs ≡ true
bodies_over vars vars' defs w s = bodies_over_from vars vars' defs [] w s
