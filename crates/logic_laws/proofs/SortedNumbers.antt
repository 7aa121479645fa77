-- A well-sorted term mentions only variables and definitions that are there, and a well-sorted body calls only definitions before its own.
use Rattle.std.specs.Prelude.{◌≡◌, refl, ℕ, zero, suc, ◌<◌, Bool, true, false, ◌&&◌, is_some, List, [], ◌∷◌, ◌++◌, reverse, take, slice_get, Option, Some, None}
use Rattle.std.proofs.Common.{arith, ap}
use Rattle.std.proofs.lemmas.Bool.{and_from, and_parts}
use mathlib.Core.Path.{subst, sym}
use mathlib.Core.List.{append_assoc, append-nil}
use Rattle.logic_core.specs.Tree.{Kind, int, boolean, Tree, num, truth, free, bound, linear, mul, read, write, choose, call, negation, all, some, equal, at_most, for_all, exists, Trees, no_trees, tree, Parts, no_parts, part, Patterns, no_patterns, pattern}
use Rattle.logic_core.specs.Def.{Def}
use Rattle.logic_core.specs.Same.{is_some_and}
use Rattle.logic_core.specs.Wide.{◌>>=◌, when}
use Rattle.logic_core.specs.Sorts.{is, range, sort_of, are, are_formulas, are_ints, have_sorts, have_sorts_in, bodies_sorted}
use Rattle.logic_core.specs.Renamed.{EachHas, EachInTrees, EachInParts, EachInPatterns}
use Rattle.logic_core.proofs.ThereIs.{of_bind, of_when, of_is, There}

of_both : {A : Type 0} (o : Option A) (c : Bool) → is_some_and o (λ a. c) ≡ true → There o × (c ≡ true)
of_both None c h = let d : false ≡ true = h in absurd cc
of_both (Some a) c h = (refl, h)

module _ (vars : List Kind) (defs : List Def) where
  abbrev pub HasVariable : ℕ → Type 0
  HasVariable v = There (slice_get vars v)

  abbrev pub HasDefinition : ℕ → Type 0
  HasDefinition f = There (slice_get defs f)

  abbrev Sorted : List Kind → Tree → Type 0
  Sorted b t = There (sort_of vars defs b t)

  two : (b : List Kind) (x y : Tree) (k l : Kind) → (is k (sort_of vars defs b x) && is l (sort_of vars defs b y)) ≡ true → Sorted b x × Sorted b y
  two b x y k l h = let p = and_parts (is k (sort_of vars defs b x)) (is l (sort_of vars defs b y)) h in (of_is k _ p.0, of_is l _ p.1)

  mutual
    pub mentions_there : (t : Tree) (s : List Kind) → Sorted s t → EachHas HasVariable HasDefinition t
    mentions_there (num n) s h = tt
    mentions_there (truth x) s h = tt
    mentions_there (free v) s h = h
    mentions_there (bound v) s h = tt
    mentions_there (linear ps c) s h = parts_there ps s (of_when _ _ h)
    mentions_there (mul x y) s h = let p = two s x y int int (of_when _ _ h) in (mentions_there x s p.0, mentions_there y s p.1)
    mentions_there (read m i) s h =
        let p = of_bind (sort_of vars defs s m) (λ k. range k >>= λ r. when (is int (sort_of vars defs s i)) (Some r)) h in
        let q = of_bind (range p.1.0) (λ r. when (is int (sort_of vars defs s i)) (Some r)) p.1.1 in
        (mentions_there m s p.0, mentions_there i s (of_is int _ (of_when _ _ q.1.1)))
    mentions_there (write m i x) s h =
        let p = of_bind (sort_of vars defs s m) (λ k. range k >>= λ r. when (is int (sort_of vars defs s i) && is r (sort_of vars defs s x)) (Some k)) h in
        let q = of_bind (range p.1.0) (λ r. when (is int (sort_of vars defs s i) && is r (sort_of vars defs s x)) (Some p.1.0)) p.1.1 in
        let r = two s i x int q.1.0 (of_when _ _ q.1.1) in
        (mentions_there m s p.0, mentions_there i s r.0, mentions_there x s r.1)
    mentions_there (choose c x y) s h =
        let p = of_bind (sort_of vars defs s x) (λ k. when (is boolean (sort_of vars defs s c) && is k (sort_of vars defs s y)) (Some k)) h in
        let r = two s c y boolean p.1.0 (of_when _ _ p.1.1) in
        (mentions_there c s r.0, mentions_there x s p.0, mentions_there y s r.1)
    mentions_there (call f ts) s h =
        let p = of_bind (slice_get defs f) (λ d. when (are vars defs s d.params ts) (Some d.sort)) h in
        (p.0, arguments_there ts s (p.1.0).params (of_when _ _ p.1.1))
    mentions_there (negation x) s h = mentions_there x s (of_is boolean _ (of_when _ _ h))
    mentions_there (all ts) s h = formulas_there ts s (of_when _ _ h)
    mentions_there (some ts) s h = formulas_there ts s (of_when _ _ h)
    mentions_there (equal x y) s h =
        let p = of_bind (sort_of vars defs s x) (λ k. when (is k (sort_of vars defs s y)) (Some boolean)) h in
        (mentions_there x s p.0, mentions_there y s (of_is p.1.0 _ (of_when _ _ p.1.1)))
    mentions_there (at_most x y) s h = let p = two s x y int int (of_when _ _ h) in (mentions_there x s p.0, mentions_there y s p.1)
    mentions_there (for_all ss ps t) s h =
        let p = and_parts (have_sorts_in vars defs (reverse ss ++ s) ps) (is boolean (sort_of vars defs (reverse ss ++ s) t)) (of_when _ _ h) in
        (patterns_there ps (reverse ss ++ s) p.0, mentions_there t (reverse ss ++ s) (of_is boolean _ p.1))
    mentions_there (exists ss ps t) s h =
        let p = and_parts (have_sorts_in vars defs (reverse ss ++ s) ps) (is boolean (sort_of vars defs (reverse ss ++ s) t)) (of_when _ _ h) in
        (patterns_there ps (reverse ss ++ s) p.0, mentions_there t (reverse ss ++ s) (of_is boolean _ p.1))

    arguments_there : (ts : Trees) (s ks : List Kind) → are vars defs s ks ts ≡ true → EachInTrees HasVariable HasDefinition ts
    arguments_there no_trees s ks h = tt
    arguments_there (tree t ts) s [] h = let c : false ≡ true = h in absurd cc
    arguments_there (tree t ts) s (k ∷ ks) h = let p = and_parts (is k (sort_of vars defs s t)) (are vars defs s ks ts) h in (mentions_there t s (of_is k _ p.0), arguments_there ts s ks p.1)

    formulas_there : (ts : Trees) (s : List Kind) → are_formulas vars defs s ts ≡ true → EachInTrees HasVariable HasDefinition ts
    formulas_there no_trees s h = tt
    formulas_there (tree t ts) s h = let p = and_parts (is boolean (sort_of vars defs s t)) (are_formulas vars defs s ts) h in (mentions_there t s (of_is boolean _ p.0), formulas_there ts s p.1)

    parts_there : (ps : Parts) (s : List Kind) → are_ints vars defs s ps ≡ true → EachInParts HasVariable HasDefinition ps
    parts_there no_parts s h = tt
    parts_there (part k t ps) s h = let p = and_parts (is int (sort_of vars defs s t)) (are_ints vars defs s ps) h in (mentions_there t s (of_is int _ p.0), parts_there ps s p.1)

    terms_there : (ts : Trees) (s : List Kind) → have_sorts vars defs s ts ≡ true → EachInTrees HasVariable HasDefinition ts
    terms_there no_trees s h = tt
    terms_there (tree t ts) s h = let p = of_both (sort_of vars defs s t) (have_sorts vars defs s ts) h in (mentions_there t s p.0, terms_there ts s p.1)

    patterns_there : (ps : Patterns) (s : List Kind) → have_sorts_in vars defs s ps ≡ true → EachInPatterns HasVariable HasDefinition ps
    patterns_there no_patterns s h = tt
    patterns_there (pattern ts ps) s h = let p = and_parts (have_sorts vars defs s ts) (have_sorts_in vars defs s ps) h in (terms_there ts s p.0, patterns_there ps s p.1)

  pub formula_is_sorted : (s : List Kind) (t : Tree) (k : Kind) → sort_of vars defs s t ≡ Some k → Sorted s t
  formula_is_sorted s t k e = ap is_some e

-- what stands in a front of a list
pub there_in_front : {A : Type 0} (xs : List A) (m n : ℕ) → There (slice_get (take m xs) n) → (n < m) × There (slice_get xs n)
there_in_front xs zero n h = let c : false ≡ true = h in absurd cc
there_in_front [] (suc m) n h = let c : false ≡ true = h in absurd cc
there_in_front (x ∷ xs) (suc m) zero h = (omega arith, refl)
there_in_front (x ∷ xs) (suc m) (suc n) h = let p = there_in_front xs m n h in (omega (p.0, arith), p.1)

sorted_from : (vars : List Kind) (ds below : List Def) (m : ℕ) (d : Def) → bodies_sorted vars below ds ≡ true → slice_get ds m ≡ Some d → There (sort_of vars (below ++ take m ds) (reverse d.params) d.body)
sorted_from vars [] below m d h e = absurd cc
sorted_from vars (x ∷ ds) below zero d h e =
    let same : x ≡ d = cc in
    let p = and_parts (is x.sort (sort_of vars below (reverse x.params) x.body)) (bodies_sorted vars (below ++ x ∷ []) ds) h in
    let here : There (sort_of vars below (reverse d.params) d.body) = subst (λ (y : Def). There (sort_of vars below (reverse y.params) y.body)) same (of_is x.sort _ p.0) in
    subst (λ bs. There (sort_of vars bs (reverse d.params) d.body)) (sym (append-nil below)) here
sorted_from vars (x ∷ ds) below (suc m) d h e =
    let p = and_parts (is x.sort (sort_of vars below (reverse x.params) x.body)) (bodies_sorted vars (below ++ x ∷ []) ds) h in
    subst (λ bs. There (sort_of vars bs (reverse d.params) d.body)) (append_assoc below (x ∷ []) (take m ds)) (sorted_from vars ds (below ++ x ∷ []) m d p.1 e)

-- the body of a definition is well sorted over those before it
pub body_is_sorted : (vars : List Kind) (defs : List Def) (f : ℕ) (d : Def) → bodies_sorted vars [] defs ≡ true → slice_get defs f ≡ Some d → There (sort_of vars (take f defs) (reverse d.params) d.body)
body_is_sorted vars defs f d h e = sorted_from vars defs [] f d h e

-- its body has its sort over those before it
sort_from : (vars : List Kind) (ds below : List Def) (m : ℕ) (d : Def) → bodies_sorted vars below ds ≡ true → slice_get ds m ≡ Some d → is d.sort (sort_of vars (below ++ take m ds) (reverse d.params) d.body) ≡ true
sort_from vars [] below m d h e = absurd cc
sort_from vars (x ∷ ds) below zero d h e =
    let same : x ≡ d = cc in
    let p = and_parts (is x.sort (sort_of vars below (reverse x.params) x.body)) (bodies_sorted vars (below ++ x ∷ []) ds) h in
    subst (λ bs. is d.sort (sort_of vars bs (reverse d.params) d.body) ≡ true) (sym (append-nil below)) (subst (λ (y : Def). is y.sort (sort_of vars below (reverse y.params) y.body) ≡ true) same p.0)
sort_from vars (x ∷ ds) below (suc m) d h e =
    let p = and_parts (is x.sort (sort_of vars below (reverse x.params) x.body)) (bodies_sorted vars (below ++ x ∷ []) ds) h in
    subst (λ bs. is d.sort (sort_of vars bs (reverse d.params) d.body) ≡ true) (append_assoc below (x ∷ []) (take m ds)) (sort_from vars ds (below ++ x ∷ []) m d p.1 e)

pub body_has_sort : (vars : List Kind) (defs : List Def) (f : ℕ) (d : Def) → bodies_sorted vars [] defs ≡ true → slice_get defs f ≡ Some d → is d.sort (sort_of vars (take f defs) (reverse d.params) d.body) ≡ true
body_has_sort vars defs f d h e = sort_from vars defs [] f d h e

-- and where each has, they are well sorted
bodies_by : (vars : List Kind) (ds below : List Def) → ((m : ℕ) (d : Def) → slice_get ds m ≡ Some d → is d.sort (sort_of vars (below ++ take m ds) (reverse d.params) d.body) ≡ true) → bodies_sorted vars below ds ≡ true
bodies_by vars [] below f = refl
bodies_by vars (d ∷ ds) below f =
    and_from (is d.sort (sort_of vars below (reverse d.params) d.body)) (bodies_sorted vars (below ++ d ∷ []) ds)
    (subst (λ bs. is d.sort (sort_of vars bs (reverse d.params) d.body) ≡ true) (append-nil below) (f zero d refl))
    (bodies_by vars ds (below ++ d ∷ []) (λ m x e. subst (λ bs. is x.sort (sort_of vars bs (reverse x.params) x.body) ≡ true) (sym (append_assoc below (d ∷ []) (take m ds))) (f (suc m) x e)))

pub bodies_by_number : (vars : List Kind) (defs : List Def) → ((m : ℕ) (d : Def) → slice_get defs m ≡ Some d → is d.sort (sort_of vars (take m defs) (reverse d.params) d.body) ≡ true) → bodies_sorted vars [] defs ≡ true
bodies_by_number vars defs f = bodies_by vars defs [] f
