-- Chosen triggers keep sorts: they are parts of a well-sorted body, and so well sorted.
use Rattle.std.specs.Prelude.{◌≡◌, refl, ℕ, true, false, ◌&&◌, List, [], ◌∷◌, ◌++◌, reverse, length, filter, slice_get, Option, Some, None}
use Rattle.std.specs.List.{AllByRecursion}
use Rattle.logic_core.proofs.Booleans.{both_true, and_false}
use mathlib.Core.Path.{◌∙◌}
use Rattle.logic_core.specs.Tree.{Kind, int, boolean, Tree, num, truth, free, bound, linear, mul, read, write, choose, call, negation, all, some, equal, at_most, for_all, exists, Trees, no_trees, tree, Parts, no_parts, part, Patterns, no_patterns, pattern}
use Rattle.logic_core.specs.Def.{Def}
use Rattle.logic_core.specs.Same.{same_kind, is_some_and}
use Rattle.logic_core.specs.Wide.{◌>>=◌, when}
use Rattle.logic_core.specs.Sorts.{is, range, sort_of, are, are_formulas, are_ints, have_sorts, have_sorts_in}
use Rattle.logic_core.specs.Subterm.{outside, outside_each, outside_parts}
use Rattle.logic_core.specs.View.{trees_of}
use Rattle.logic_core.proofs.ThereIs.{of_bind, of_when, of_is, There}
use Rattle.logic_core.proofs.EachOf.{every_append}
use Rattle.quantifier_triggers.specs.Candidates.{is_candidate, candidates}
use Rattle.quantifier_triggers.specs.Choice.{pick, as_trigger, chosen, triggers, with_triggers, each_with_triggers, parts_with_triggers}
use Rattle.quantifier_triggers.proofs.Lists.{every_kept}
use Rattle.quantifier_triggers.proofs.Rules.{every_joined, Covers, is_picked}

module _ (vars : List Kind) (defs : List Def) where
  abbrev Sorted : List Kind → Tree → Type 0
  Sorted b t = There (sort_of vars defs b t)

  two : (b : List Kind) (x y : Tree) (k l : Kind) → (is k (sort_of vars defs b x) && is l (sort_of vars defs b y)) ≡ true → Sorted b x × Sorted b y
  two b x y k l h = let p = both_true (is k (sort_of vars defs b x)) (is l (sort_of vars defs b y)) h in (of_is k _ p.0, of_is l _ p.1)

  mutual
    every_part : (b : List Kind) (t : Tree) → Sorted b t → AllByRecursion (Sorted b) (outside t)
    every_part b (num n) h = (h, tt)
    every_part b (truth x) h = (h, tt)
    every_part b (free v) h = (h, tt)
    every_part b (bound v) h = (h, tt)
    every_part b (linear ps c) h = (h, every_part_of_sum b ps (of_when (are_ints vars defs b ps) _ h))
    every_part b (mul x y) h = let p = two b x y int int (of_when _ _ h) in (h, every_append (Sorted b) (outside x) (outside y) (every_part b x p.0) (every_part b y p.1))
    every_part b (read m i) h =
        let p = of_bind (sort_of vars defs b m) (λ s. range s >>= λ r. when (is int (sort_of vars defs b i)) (Some r)) h in
        let q = of_bind (range p.1.0) (λ r. when (is int (sort_of vars defs b i)) (Some r)) p.1.1 in
        (h, every_append (Sorted b) (outside m) (outside i) (every_part b m p.0) (every_part b i (of_is int _ (of_when _ _ q.1.1))))
    every_part b (write m i x) h =
        let p = of_bind (sort_of vars defs b m) (λ s. range s >>= λ r. when (is int (sort_of vars defs b i) && is r (sort_of vars defs b x)) (Some s)) h in
        let q = of_bind (range p.1.0) (λ r. when (is int (sort_of vars defs b i) && is r (sort_of vars defs b x)) (Some p.1.0)) p.1.1 in
        let r = two b i x int q.1.0 (of_when _ _ q.1.1) in
        (h, every_append (Sorted b) (outside m ++ outside i) (outside x) (every_append (Sorted b) (outside m) (outside i) (every_part b m p.0) (every_part b i r.0)) (every_part b x r.1))
    every_part b (choose c x y) h =
        let p = of_bind (sort_of vars defs b x) (λ s. when (is boolean (sort_of vars defs b c) && is s (sort_of vars defs b y)) (Some s)) h in
        let r = two b c y boolean p.1.0 (of_when _ _ p.1.1) in
        (h, every_append (Sorted b) (outside c ++ outside x) (outside y) (every_append (Sorted b) (outside c) (outside x) (every_part b c r.0) (every_part b x p.0)) (every_part b y r.1))
    every_part b (call f ts) h =
        let p = of_bind (slice_get defs f) (λ d. when (are vars defs b d.params ts) (Some d.sort)) h in
        (h, every_part_of_call b (p.1.0).params ts (of_when _ _ p.1.1))
    every_part b (negation x) h = (h, every_part b x (of_is boolean _ (of_when _ _ h)))
    every_part b (all ts) h = (h, every_part_of_each b ts (of_when _ _ h))
    every_part b (some ts) h = (h, every_part_of_each b ts (of_when _ _ h))
    every_part b (equal x y) h =
        let p = of_bind (sort_of vars defs b x) (λ s. when (is s (sort_of vars defs b y)) (Some boolean)) h in
        (h, every_append (Sorted b) (outside x) (outside y) (every_part b x p.0) (every_part b y (of_is p.1.0 _ (of_when _ _ p.1.1))))
    every_part b (at_most x y) h = let p = two b x y int int (of_when _ _ h) in (h, every_append (Sorted b) (outside x) (outside y) (every_part b x p.0) (every_part b y p.1))
    every_part b (for_all ss ps t) h = (h, tt)
    every_part b (exists ss ps t) h = (h, tt)

    every_part_of_sum : (b : List Kind) (ps : Parts) → are_ints vars defs b ps ≡ true → AllByRecursion (Sorted b) (outside_parts ps)
    every_part_of_sum b no_parts h = tt
    every_part_of_sum b (part k t ps) h =
        let p = both_true (is int (sort_of vars defs b t)) (are_ints vars defs b ps) h in
        every_append (Sorted b) (outside t) (outside_parts ps) (every_part b t (of_is int _ p.0)) (every_part_of_sum b ps p.1)

    every_part_of_each : (b : List Kind) (ts : Trees) → are_formulas vars defs b ts ≡ true → AllByRecursion (Sorted b) (outside_each ts)
    every_part_of_each b no_trees h = tt
    every_part_of_each b (tree t ts) h =
        let p = both_true (is boolean (sort_of vars defs b t)) (are_formulas vars defs b ts) h in
        every_append (Sorted b) (outside t) (outside_each ts) (every_part b t (of_is boolean _ p.0)) (every_part_of_each b ts p.1)

    every_part_of_call : (b ks : List Kind) (ts : Trees) → are vars defs b ks ts ≡ true → AllByRecursion (Sorted b) (outside_each ts)
    every_part_of_call b ks no_trees h = tt
    every_part_of_call b [] (tree t ts) h = let c : false ≡ true = h in absurd cc
    every_part_of_call b (k ∷ ks) (tree t ts) h =
        let p = both_true (is k (sort_of vars defs b t)) (are vars defs b ks ts) h in
        every_append (Sorted b) (outside t) (outside_each ts) (every_part b t (of_is k _ p.0)) (every_part_of_call b ks ts p.1)

  are_there : (b : List Kind) (us : List Tree) → AllByRecursion (Sorted b) us → have_sorts vars defs b (trees_of us) ≡ true
  are_there b [] h = refl
  are_there b (u ∷ us) h = at_sort (sort_of vars defs b u) h.0 (are_there b us h.1)
    where
      at_sort : (o : Option Kind) → There o → have_sorts vars defs b (trees_of us) ≡ true → is_some_and o (λ s. have_sorts vars defs b (trees_of us)) ≡ true
      at_sort None t r = t
      at_sort (Some k) t r = r

  -- over the definitions by which triggers are chosen
  module _ (given : List Def) where
    chosen_sorted : (b : List Kind) (n : ℕ) (body : Tree) → Sorted b body → have_sorts_in vars defs b (chosen given n body) ≡ true
    chosen_sorted b n body h = of_pick (pick n cs) (is_picked (Sorted b) n cs are_sorted)
      where
        cs : List Tree
        cs = candidates given n body

        are_sorted : AllByRecursion (Sorted b) cs
        are_sorted = every_joined (Sorted b) (filter (is_candidate given n) (outside body)) [] tt (every_kept (is_candidate given n) (Sorted b) (Sorted b) (λ t p e. p) (outside body) (every_part b body h))

        of_pick : (o : Option (List Tree)) → Covers (Sorted b) n [] o → have_sorts_in vars defs b (as_trigger o) ≡ true
        of_pick None r = refl
        of_pick (Some us) r = λ j. are_there b us r.0 j && true

    same_test : (b : List Kind) (n : ℕ) (ps : Patterns) (body : Tree) → (have_sorts_in vars defs b (triggers given n ps body) && is boolean (sort_of vars defs b body)) ≡ (have_sorts_in vars defs b ps && is boolean (sort_of vars defs b body))
    same_test b n (pattern ts ps) body = refl
    same_test b n no_patterns body = by_sort (sort_of vars defs b body) (chosen_sorted b n body)
      where
        by_sort : (o : Option Kind) → (There o → have_sorts_in vars defs b (chosen given n body) ≡ true) → (have_sorts_in vars defs b (chosen given n body) && is boolean o) ≡ is boolean o
        by_sort None f = and_false (have_sorts_in vars defs b (chosen given n body))
        by_sort (Some k) f = λ j. f refl j && same_kind k boolean

    same_quantified : (ss : List Kind) (ps : Patterns) (t : Tree) (b : List Kind) → sort_of vars defs (reverse ss ++ b) (with_triggers given t) ≡ sort_of vars defs (reverse ss ++ b) t
        → (have_sorts_in vars defs (reverse ss ++ b) (triggers given (length ss) ps t) && is boolean (sort_of vars defs (reverse ss ++ b) (with_triggers given t)))
        ≡ (have_sorts_in vars defs (reverse ss ++ b) ps && is boolean (sort_of vars defs (reverse ss ++ b) t))
    same_quantified ss ps t b e =
        let first : (have_sorts_in vars defs (reverse ss ++ b) (triggers given (length ss) ps t) && is boolean (sort_of vars defs (reverse ss ++ b) (with_triggers given t)))
        ≡ (have_sorts_in vars defs (reverse ss ++ b) (triggers given (length ss) ps t) && is boolean (sort_of vars defs (reverse ss ++ b) t))
        = λ j. have_sorts_in vars defs (reverse ss ++ b) (triggers given (length ss) ps t) && is boolean (e j) in
        first ∙ same_test (reverse ss ++ b) (length ss) ps t

    mutual
      pub same_sort : (t : Tree) (b : List Kind) → sort_of vars defs b (with_triggers given t) ≡ sort_of vars defs b t
      same_sort (num n) b = refl
      same_sort (truth x) b = refl
      same_sort (free v) b = refl
      same_sort (bound v) b = refl
      same_sort (linear ps c) b = λ j. when (same_ints ps b j) (Some int)
      same_sort (mul x y) b = λ j. when (is int (same_sort x b j) && is int (same_sort y b j)) (Some int)
      same_sort (read m i) b = λ j. same_sort m b j >>= λ s. range s >>= λ r. when (is int (same_sort i b j)) (Some r)
      same_sort (write m i x) b = λ j. same_sort m b j >>= λ s. range s >>= λ r. when (is int (same_sort i b j) && is r (same_sort x b j)) (Some s)
      same_sort (choose c x y) b = λ j. same_sort x b j >>= λ s. when (is boolean (same_sort c b j) && is s (same_sort y b j)) (Some s)
      same_sort (call f ts) b = λ j. slice_get defs f >>= λ d. when (same_are ts b d.params j) (Some d.sort)
      same_sort (negation x) b = λ j. when (is boolean (same_sort x b j)) (Some boolean)
      same_sort (all ts) b = λ j. when (same_formulas ts b j) (Some boolean)
      same_sort (some ts) b = λ j. when (same_formulas ts b j) (Some boolean)
      same_sort (equal x y) b = λ j. same_sort x b j >>= λ s. when (is s (same_sort y b j)) (Some boolean)
      same_sort (at_most x y) b = λ j. when (is int (same_sort x b j) && is int (same_sort y b j)) (Some boolean)
      same_sort (for_all ss ps t) b = λ j. when (same_quantified ss ps t b (same_sort t (reverse ss ++ b)) j) (Some boolean)
      same_sort (exists ss ps t) b = λ j. when (same_quantified ss ps t b (same_sort t (reverse ss ++ b)) j) (Some boolean)

      same_are : (ts : Trees) (b ks : List Kind) → are vars defs b ks (each_with_triggers given ts) ≡ are vars defs b ks ts
      same_are no_trees b [] = refl
      same_are no_trees b (k ∷ ks) = refl
      same_are (tree t ts) b [] = refl
      same_are (tree t ts) b (k ∷ ks) = λ j. is k (same_sort t b j) && same_are ts b ks j

      same_formulas : (ts : Trees) (b : List Kind) → are_formulas vars defs b (each_with_triggers given ts) ≡ are_formulas vars defs b ts
      same_formulas no_trees b = refl
      same_formulas (tree t ts) b = λ j. is boolean (same_sort t b j) && same_formulas ts b j

      same_ints : (ps : Parts) (b : List Kind) → are_ints vars defs b (parts_with_triggers given ps) ≡ are_ints vars defs b ps
      same_ints no_parts b = refl
      same_ints (part k t ps) b = λ j. is int (same_sort t b j) && same_ints ps b j
