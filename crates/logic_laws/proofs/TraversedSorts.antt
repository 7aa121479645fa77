-- A walk over a term keeps its sort, where what stands for a node has the node's sort, and what is left of variables and calls has the sorts that they had.
-- Here d is the depth, b and b' are the sorts of the bound variables before and after, r that they belong together there, h what the term's variables and definitions have.
use Rattle.std.proofs.Common.{◌≡◌, ◌∙◌, refl, ℕ, ◌&&◌, List, [], ◌∷◌, ◌++◌, reverse, slice_get, Option, Some, None, unwrap_or}
use Rattle.std.specs.Option.{IfSome}
use Rattle.logic_core.specs.Tree.{Kind, int, boolean, Tree, num, truth, free, bound, linear, mul, read, write, choose, call, negation, all, some, equal, at_most, for_all, exists, Trees, no_trees, tree, Parts, no_parts, part, Patterns, no_patterns, pattern}
use Rattle.logic_core.specs.Def.{Def}
use Rattle.logic_core.specs.Same.{is_some_and}
use Rattle.logic_core.specs.Wide.{◌>>=◌, when}
use Rattle.logic_core.specs.Sorts.{is, range, sort_of, are, are_formulas, are_ints, have_sorts, have_sorts_in}
use Rattle.logic_core.specs.Renamed.{EachHas, EachInTrees, EachInParts, EachInPatterns}
use Rattle.logic_core.specs.Traversed.{traversed, traversed_each, traversed_parts, traversed_patterns}

-- what a test says of the definition of a number, by its parameters and its sort, it says of that of the new number
abbrev pub SameHead : List Def → List Def → ℕ → ℕ → Type 0
SameHead defs defs' f f' = (g : List Kind → Kind → Option Kind) → (slice_get defs' f' >>= λ d. g d.params d.sort) ≡ (slice_get defs f >>= λ d. g d.params d.sort)

module _ (stands : ℕ → Tree → Option Tree) (under : ℕ → List Kind → ℕ) (number : ℕ → ℕ) (vars vars' : List Kind) (defs defs' : List Def) (V C : ℕ → Type 0)
    (Reach : ℕ → List Kind → List Kind → Type 0)
    (reach_under : (d : ℕ) (b b' ss : List Kind) → Reach d b b' → Reach (under d ss) (reverse ss ++ b) (reverse ss ++ b'))
    (new_sort : (t : Tree) (d : ℕ) (b b' : List Kind) → Reach d b b' → EachHas V C t → IfSome (stands d t) (λ u. sort_of vars' defs' b' u ≡ sort_of vars defs b t))
    (free_left : (v d : ℕ) → V v → stands d (free v) ≡ None → slice_get vars' v ≡ slice_get vars v)
    (bound_left : (v d : ℕ) (b b' : List Kind) → Reach d b b' → stands d (bound v) ≡ None → slice_get b' v ≡ slice_get b v)
    (heads : (f : ℕ) → C f → SameHead defs defs' f (number f)) where
  abbrev go : ℕ → Tree → Tree
  go d t = traversed stands under number d t

  node : (t u : Tree) (d : ℕ) (b b' : List Kind) → Reach d b b' → EachHas V C t → (stands d t ≡ None → sort_of vars' defs' b' u ≡ sort_of vars defs b t) → sort_of vars' defs' b' (unwrap_or (stands d t) u) ≡ sort_of vars defs b t
  node t u d b b' r h left = by_what (stands d t) (new_sort t d b b' r h) left
    where
      by_what : (o : Option Tree) → IfSome o (λ x. sort_of vars' defs' b' x ≡ sort_of vars defs b t) → (o ≡ None → sort_of vars' defs' b' u ≡ sort_of vars defs b t) → sort_of vars' defs' b' (unwrap_or o u) ≡ sort_of vars defs b t
      by_what None f left = left refl
      by_what (Some x) f left = f

  mutual
    pub traversed_sort : (t : Tree) (d : ℕ) (b b' : List Kind) → Reach d b b' → EachHas V C t → sort_of vars' defs' b' (traversed stands under number d t) ≡ sort_of vars defs b t
    traversed_sort (num n) d b b' r h = node (num n) (num n) d b b' r h (λ e. refl)
    traversed_sort (truth x) d b b' r h = node (truth x) (truth x) d b b' r h (λ e. refl)
    traversed_sort (free v) d b b' r h = node (free v) (free v) d b b' r h (λ e. free_left v d h e)
    traversed_sort (bound v) d b b' r h = node (bound v) (bound v) d b b' r h (λ e. bound_left v d b b' r e)
    traversed_sort (linear ps c) d b b' r h = node (linear ps c) (linear (traversed_parts stands under number d ps) c) d b b' r h (λ e. λ j. when (ints_left ps d b b' r h j) (Some int))
    traversed_sort (mul x y) d b b' r h = node (mul x y) (mul (go d x) (go d y)) d b b' r h (λ e. λ j. when (is int (traversed_sort x d b b' r h.0 j) && is int (traversed_sort y d b b' r h.1 j)) (Some int))
    traversed_sort (read x y) d b b' r h = node (read x y) (read (go d x) (go d y)) d b b' r h (λ e. λ j. traversed_sort x d b b' r h.0 j >>= λ s. range s >>= λ q. when (is int (traversed_sort y d b b' r h.1 j)) (Some q))
    traversed_sort (write x y z) d b b' r h = node (write x y z) (write (go d x) (go d y) (go d z)) d b b' r h (λ e. λ j. traversed_sort x d b b' r h.0 j >>= λ s. range s >>= λ q. when (is int (traversed_sort y d b b' r h.1 j) && is q (traversed_sort z d b b' r h.2 j)) (Some s))
    traversed_sort (choose x y z) d b b' r h = node (choose x y z) (choose (go d x) (go d y) (go d z)) d b b' r h (λ e. λ j. traversed_sort y d b b' r h.1 j >>= λ s. when (is boolean (traversed_sort x d b b' r h.0 j) && is s (traversed_sort z d b b' r h.2 j)) (Some s))
    traversed_sort (call f ts) d b b' r h = node (call f ts) (call (number f) (traversed_each stands under number d ts)) d b b' r h (λ e.
        let inside : (slice_get defs' (number f) >>= λ q. when (are vars' defs' b' q.params (traversed_each stands under number d ts)) (Some q.sort)) ≡ (slice_get defs' (number f) >>= λ q. when (are vars defs b q.params ts) (Some q.sort))
        = λ j. slice_get defs' (number f) >>= λ q. when (are_left ts q.params d b b' r h.1 j) (Some q.sort) in
        inside ∙ heads f h.0 (λ ks k. when (are vars defs b ks ts) (Some k)))
    traversed_sort (negation x) d b b' r h = node (negation x) (negation (go d x)) d b b' r h (λ e. λ j. when (is boolean (traversed_sort x d b b' r h j)) (Some boolean))
    traversed_sort (all ts) d b b' r h = node (all ts) (all (traversed_each stands under number d ts)) d b b' r h (λ e. λ j. when (formulas_left ts d b b' r h j) (Some boolean))
    traversed_sort (some ts) d b b' r h = node (some ts) (some (traversed_each stands under number d ts)) d b b' r h (λ e. λ j. when (formulas_left ts d b b' r h j) (Some boolean))
    traversed_sort (equal x y) d b b' r h = node (equal x y) (equal (go d x) (go d y)) d b b' r h (λ e. λ j. traversed_sort x d b b' r h.0 j >>= λ s. when (is s (traversed_sort y d b b' r h.1 j)) (Some boolean))
    traversed_sort (at_most x y) d b b' r h = node (at_most x y) (at_most (go d x) (go d y)) d b b' r h (λ e. λ j. when (is int (traversed_sort x d b b' r h.0 j) && is int (traversed_sort y d b b' r h.1 j)) (Some boolean))
    traversed_sort (for_all ss ps t) d b b' r h = node (for_all ss ps t) (for_all ss (traversed_patterns stands under number (under d ss) ps) (go (under d ss) t)) d b b' r h (λ e. λ j. when (patterns_left ps (under d ss) (reverse ss ++ b) (reverse ss ++ b') (reach_under d b b' ss r) h.0 j && is boolean (traversed_sort t (under d ss) (reverse ss ++ b) (reverse ss ++ b') (reach_under d b b' ss r) h.1 j)) (Some boolean))
    traversed_sort (exists ss ps t) d b b' r h = node (exists ss ps t) (exists ss (traversed_patterns stands under number (under d ss) ps) (go (under d ss) t)) d b b' r h (λ e. λ j. when (patterns_left ps (under d ss) (reverse ss ++ b) (reverse ss ++ b') (reach_under d b b' ss r) h.0 j && is boolean (traversed_sort t (under d ss) (reverse ss ++ b) (reverse ss ++ b') (reach_under d b b' ss r) h.1 j)) (Some boolean))

    are_left : (ts : Trees) (ks : List Kind) (d : ℕ) (b b' : List Kind) → Reach d b b' → EachInTrees V C ts → are vars' defs' b' ks (traversed_each stands under number d ts) ≡ are vars defs b ks ts
    are_left no_trees [] d b b' r h = refl
    are_left no_trees (k ∷ ks) d b b' r h = refl
    are_left (tree t ts) [] d b b' r h = refl
    are_left (tree t ts) (k ∷ ks) d b b' r h = λ j. is k (traversed_sort t d b b' r h.0 j) && are_left ts ks d b b' r h.1 j

    formulas_left : (ts : Trees) (d : ℕ) (b b' : List Kind) → Reach d b b' → EachInTrees V C ts → are_formulas vars' defs' b' (traversed_each stands under number d ts) ≡ are_formulas vars defs b ts
    formulas_left no_trees d b b' r h = refl
    formulas_left (tree t ts) d b b' r h = λ j. is boolean (traversed_sort t d b b' r h.0 j) && formulas_left ts d b b' r h.1 j

    ints_left : (ps : Parts) (d : ℕ) (b b' : List Kind) → Reach d b b' → EachInParts V C ps → are_ints vars' defs' b' (traversed_parts stands under number d ps) ≡ are_ints vars defs b ps
    ints_left no_parts d b b' r h = refl
    ints_left (part k t ps) d b b' r h = λ j. is int (traversed_sort t d b b' r h.0 j) && ints_left ps d b b' r h.1 j

    have_left : (ts : Trees) (d : ℕ) (b b' : List Kind) → Reach d b b' → EachInTrees V C ts → have_sorts vars' defs' b' (traversed_each stands under number d ts) ≡ have_sorts vars defs b ts
    have_left no_trees d b b' r h = refl
    have_left (tree t ts) d b b' r h = λ j. is_some_and (traversed_sort t d b b' r h.0 j) (λ s. have_left ts d b b' r h.1 j)

    patterns_left : (ps : Patterns) (d : ℕ) (b b' : List Kind) → Reach d b b' → EachInPatterns V C ps → have_sorts_in vars' defs' b' (traversed_patterns stands under number d ps) ≡ have_sorts_in vars defs b ps
    patterns_left no_patterns d b b' r h = refl
    patterns_left (pattern ts ps) d b b' r h = λ j. have_left ts d b b' r h.0 j && patterns_left ps d b b' r h.1 j
