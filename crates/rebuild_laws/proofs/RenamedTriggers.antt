-- Choosing triggers commutes with new numbers, one to one, that keep which definitions are plain.
use Rattle.std.specs.Prelude.{◌≡◌, refl, ℕ, ◌+◌, nat_lt, Bool, true, false, ◌&&◌, ◌||◌, cond, if◌then◌else◌, List, [], ◌∷◌, ◌++◌, map, length, fold, filter, filter_map, slice_get, Option, Some, None, option_map}
use Rattle.std.specs.List.{AllByRecursion, list_any, list_all, cons_option}
use Rattle.std.proofs.Common.{ap, sym, ◌∙◌, true≢false}
use Rattle.std.proofs.lemmas.List.{map-append}
use Rattle.logic_core.specs.Tree.{Tree, num, truth, free, bound, linear, mul, read, write, choose, call, negation, all, some, equal, at_most, for_all, exists, Trees, no_trees, tree, Parts, no_parts, part, Patterns, no_patterns, pattern, nodes, trees_nodes, parts_nodes, patterns_nodes}
use Rattle.logic_core.specs.Def.{Def}
use Rattle.logic_core.specs.Size.{capped}
use Rattle.logic_core.specs.View.{trees_of}
use Rattle.logic_core.specs.Same.{same_term}
use Rattle.logic_core.specs.Subterm.{outside, outside_each, outside_parts}
use Rattle.logic_core.specs.Renamed.{both_renamed, each_both_renamed, parts_both_renamed, patterns_both_renamed, EachHas, EachInTrees, EachInParts}
use Rattle.logic_core.proofs.SameTerm.{same_is_equal, same_as_itself}
use Rattle.logic_laws.proofs.RenamedVariables.{renames_nothing}
use Rattle.quantifier_triggers.specs.Candidates.{is_simple, is_built, bound_number, bound_numbers, touches, covers, is_plain, joined, once, is_read_or_call, is_candidate, candidates}
use Rattle.quantifier_triggers.specs.Choice.{smaller, least, any_new, adds, cover, pick, as_trigger, triggers, with_triggers, each_with_triggers, parts_with_triggers}
use Rattle.obligation_text.proofs.RenamedTerms.{renamed_twice}
use Rattle.rebuild_laws.proofs.TriggersHave.{outside_has, filtered_has, joined_has}

two_trees : (f : Tree → Tree) (xs ys ns ms : List Tree) → xs ≡ map f ns → ys ≡ map f ms → xs ++ ys ≡ map f (ns ++ ms)
two_trees f xs ys ns ms p q = (λ j. p j ++ q j) ∙ sym (map-append f ns ms)

module _ (new_def new_var : ℕ → ℕ) where
  abbrev new_term : Tree → Tree
  new_term t = both_renamed new_def new_var t

  mutual
    outside_renamed : (t : Tree) → outside (new_term t) ≡ map new_term (outside t)
    outside_renamed (num n) = refl
    outside_renamed (truth b) = refl
    outside_renamed (free v) = refl
    outside_renamed (bound v) = refl
    outside_renamed (linear ps c) = ap (λ ts. new_term (linear ps c) ∷ ts) (outside_parts_renamed ps)
    outside_renamed (mul x y) = ap (λ ts. new_term (mul x y) ∷ ts) (two_trees new_term (outside (new_term x)) (outside (new_term y)) (outside x) (outside y) (outside_renamed x) (outside_renamed y))
    outside_renamed (read x y) = ap (λ ts. new_term (read x y) ∷ ts) (two_trees new_term (outside (new_term x)) (outside (new_term y)) (outside x) (outside y) (outside_renamed x) (outside_renamed y))
    outside_renamed (write x y z) = ap (λ ts. new_term (write x y z) ∷ ts) (two_trees new_term (outside (new_term x) ++ outside (new_term y)) (outside (new_term z)) (outside x ++ outside y) (outside z) (two_trees new_term (outside (new_term x)) (outside (new_term y)) (outside x) (outside y) (outside_renamed x) (outside_renamed y)) (outside_renamed z))
    outside_renamed (choose x y z) = ap (λ ts. new_term (choose x y z) ∷ ts) (two_trees new_term (outside (new_term x) ++ outside (new_term y)) (outside (new_term z)) (outside x ++ outside y) (outside z) (two_trees new_term (outside (new_term x)) (outside (new_term y)) (outside x) (outside y) (outside_renamed x) (outside_renamed y)) (outside_renamed z))
    outside_renamed (call f us) = ap (λ ts. new_term (call f us) ∷ ts) (outside_each_renamed us)
    outside_renamed (negation x) = ap (λ ts. new_term (negation x) ∷ ts) (outside_renamed x)
    outside_renamed (all us) = ap (λ ts. new_term (all us) ∷ ts) (outside_each_renamed us)
    outside_renamed (some us) = ap (λ ts. new_term (some us) ∷ ts) (outside_each_renamed us)
    outside_renamed (equal x y) = ap (λ ts. new_term (equal x y) ∷ ts) (two_trees new_term (outside (new_term x)) (outside (new_term y)) (outside x) (outside y) (outside_renamed x) (outside_renamed y))
    outside_renamed (at_most x y) = ap (λ ts. new_term (at_most x y) ∷ ts) (two_trees new_term (outside (new_term x)) (outside (new_term y)) (outside x) (outside y) (outside_renamed x) (outside_renamed y))
    outside_renamed (for_all ss ps t) = refl
    outside_renamed (exists ss ps t) = refl

    outside_each_renamed : (ts : Trees) → outside_each (each_both_renamed new_def new_var ts) ≡ map new_term (outside_each ts)
    outside_each_renamed no_trees = refl
    outside_each_renamed (tree t ts) = two_trees new_term (outside (new_term t)) (outside_each (each_both_renamed new_def new_var ts)) (outside t) (outside_each ts) (outside_renamed t) (outside_each_renamed ts)

    outside_parts_renamed : (ps : Parts) → outside_parts (parts_both_renamed new_def new_var ps) ≡ map new_term (outside_parts ps)
    outside_parts_renamed no_parts = refl
    outside_parts_renamed (part k t ps) = two_trees new_term (outside (new_term t)) (outside_parts (parts_both_renamed new_def new_var ps)) (outside t) (outside_parts ps) (outside_renamed t) (outside_parts_renamed ps)

  mutual
    nodes_renamed : (t : Tree) → nodes (new_term t) ≡ nodes t
    nodes_renamed (num n) = refl
    nodes_renamed (truth b) = refl
    nodes_renamed (free v) = refl
    nodes_renamed (bound v) = refl
    nodes_renamed (linear ps c) = λ j. parts_nodes_renamed ps j + 1
    nodes_renamed (mul x y) = λ j. nodes_renamed x j + nodes_renamed y j + 1
    nodes_renamed (read x y) = λ j. nodes_renamed x j + nodes_renamed y j + 1
    nodes_renamed (write x y z) = λ j. nodes_renamed x j + nodes_renamed y j + nodes_renamed z j + 1
    nodes_renamed (choose x y z) = λ j. nodes_renamed x j + nodes_renamed y j + nodes_renamed z j + 1
    nodes_renamed (call f ts) = λ j. trees_nodes_renamed ts j + 1
    nodes_renamed (negation x) = λ j. nodes_renamed x j + 1
    nodes_renamed (all ts) = λ j. trees_nodes_renamed ts j + 1
    nodes_renamed (some ts) = λ j. trees_nodes_renamed ts j + 1
    nodes_renamed (equal x y) = λ j. nodes_renamed x j + nodes_renamed y j + 1
    nodes_renamed (at_most x y) = λ j. nodes_renamed x j + nodes_renamed y j + 1
    nodes_renamed (for_all ss ps t) = λ j. patterns_nodes_renamed ps j + nodes_renamed t j + 1
    nodes_renamed (exists ss ps t) = λ j. patterns_nodes_renamed ps j + nodes_renamed t j + 1

    trees_nodes_renamed : (ts : Trees) → trees_nodes (each_both_renamed new_def new_var ts) ≡ trees_nodes ts
    trees_nodes_renamed no_trees = refl
    trees_nodes_renamed (tree t ts) = λ j. nodes_renamed t j + trees_nodes_renamed ts j

    parts_nodes_renamed : (ps : Parts) → parts_nodes (parts_both_renamed new_def new_var ps) ≡ parts_nodes ps
    parts_nodes_renamed no_parts = refl
    parts_nodes_renamed (part k t ps) = λ j. nodes_renamed t j + parts_nodes_renamed ps j

    patterns_nodes_renamed : (ps : Patterns) → patterns_nodes (patterns_both_renamed new_def new_var ps) ≡ patterns_nodes ps
    patterns_nodes_renamed no_patterns = refl
    patterns_nodes_renamed (pattern ts ps) = λ j. trees_nodes_renamed ts j + patterns_nodes_renamed ps j

  simple_renamed : (t : Tree) → is_simple (new_term t) ≡ is_simple t
  simple_renamed (num n) = refl
  simple_renamed (truth b) = refl
  simple_renamed (free v) = refl
  simple_renamed (bound v) = refl
  simple_renamed (linear ps c) = refl
  simple_renamed (mul x y) = refl
  simple_renamed (read x y) = refl
  simple_renamed (write x y z) = refl
  simple_renamed (choose x y z) = refl
  simple_renamed (call f ts) = refl
  simple_renamed (negation x) = refl
  simple_renamed (all ts) = refl
  simple_renamed (some ts) = refl
  simple_renamed (equal x y) = refl
  simple_renamed (at_most x y) = refl
  simple_renamed (for_all ss ps t) = refl
  simple_renamed (exists ss ps t) = refl

  number_renamed : (t : Tree) → bound_number (new_term t) ≡ bound_number t
  number_renamed (num n) = refl
  number_renamed (truth b) = refl
  number_renamed (free v) = refl
  number_renamed (bound v) = refl
  number_renamed (linear ps c) = refl
  number_renamed (mul x y) = refl
  number_renamed (read x y) = refl
  number_renamed (write x y z) = refl
  number_renamed (choose x y z) = refl
  number_renamed (call f ts) = refl
  number_renamed (negation x) = refl
  number_renamed (all ts) = refl
  number_renamed (some ts) = refl
  number_renamed (equal x y) = refl
  number_renamed (at_most x y) = refl
  number_renamed (for_all ss ps t) = refl
  number_renamed (exists ss ps t) = refl

  all_simple_renamed : (ts : List Tree) → list_all is_simple (map new_term ts) ≡ list_all is_simple ts
  all_simple_renamed [] = refl
  all_simple_renamed (t ∷ ts) = λ j. simple_renamed t j && all_simple_renamed ts j

  built_renamed : (t : Tree) → is_built (new_term t) ≡ is_built t
  built_renamed t = ap (list_all is_simple) (outside_renamed t) ∙ all_simple_renamed (outside t)

  all_numbers_renamed : (ts : List Tree) → filter_map bound_number (map new_term ts) ≡ filter_map bound_number ts
  all_numbers_renamed [] = refl
  all_numbers_renamed (t ∷ ts) = λ j. cons_option (number_renamed t j) (all_numbers_renamed ts j)

  numbers_renamed : (t : Tree) → bound_numbers (new_term t) ≡ bound_numbers t
  numbers_renamed t = ap (filter_map bound_number) (outside_renamed t) ∙ all_numbers_renamed (outside t)

  -- renamed ones pass where the terms do
  filtered_renamed : (P : Tree → Type 0) (p q : Tree → Bool) → ((t : Tree) → P t → p (new_term t) ≡ q t) → (ts : List Tree) → AllByRecursion P ts → filter p (map new_term ts) ≡ map new_term (filter q ts)
  filtered_renamed P p q same [] h = refl
  filtered_renamed P p q same (t ∷ ts) h =
      (λ j. cond (same t h.0 j) (new_term t ∷ filtered_renamed P p q same ts h.1 j) (filtered_renamed P p q same ts h.1 j)) ∙ by (q t)
    where
      by : (b : Bool) → cond b (new_term t ∷ map new_term (filter q ts)) (map new_term (filter q ts)) ≡ map new_term (cond b (t ∷ filter q ts) (filter q ts))
      by true = refl
      by false = refl

  smaller_renamed : (t u : Tree) → smaller (new_term t) (new_term u) ≡ new_term (smaller t u)
  smaller_renamed t u = (λ j. cond (nat_lt (capped (nodes_renamed u j)) (capped (nodes_renamed t j))) (new_term u) (new_term t)) ∙ by (nat_lt (capped (nodes u)) (capped (nodes t)))
    where
      by : (b : Bool) → cond b (new_term u) (new_term t) ≡ new_term (cond b u t)
      by true = refl
      by false = refl

  smallest_renamed : (t : Tree) (ts : List Tree) → fold smaller (new_term t) (map new_term ts) ≡ new_term (fold smaller t ts)
  smallest_renamed t [] = refl
  smallest_renamed t (u ∷ us) = ap (λ x. fold smaller x (map new_term us)) (smaller_renamed t u) ∙ smallest_renamed (smaller t u) us

  least_renamed : (ts : List Tree) → least (map new_term ts) ≡ option_map new_term (least ts)
  least_renamed [] = refl
  least_renamed (t ∷ ts) = ap Some (smallest_renamed t ts)

  more_renamed : (t : Tree) (o : Option (List Tree)) → option_map (λ us. new_term t ∷ us) (option_map (map new_term) o) ≡ option_map (map new_term) (option_map (λ us. t ∷ us) o)
  more_renamed t None = refl
  more_renamed t (Some us) = refl

  cover_renamed : (n : ℕ) (there : List ℕ) (ts : List Tree) → cover n there (map new_term ts) ≡ option_map (map new_term) (cover n there ts)
  cover_renamed n there [] = by (covers n there)
    where
      by : (b : Bool) → cond b (Some []) None ≡ option_map (map new_term) (cond b (Some []) None)
      by true = refl
      by false = refl
  cover_renamed n there (t ∷ ts) =
      let taken : option_map (λ us. new_term t ∷ us) (cover n (there ++ bound_numbers (new_term t)) (map new_term ts)) ≡ option_map (map new_term) (option_map (λ us. t ∷ us) (cover n (there ++ bound_numbers t) ts))
      = ap (λ vs. option_map (λ us. new_term t ∷ us) (cover n (there ++ vs) (map new_term ts))) (numbers_renamed t)
      ∙ ap (option_map (λ us. new_term t ∷ us)) (cover_renamed n (there ++ bound_numbers t) ts)
      ∙ more_renamed t (cover n (there ++ bound_numbers t) ts) in
      (λ j. elim (covers n there) [ true ↦ Some [] | false ↦ elim (any_new n there (numbers_renamed t j)) [ true ↦ taken j | false ↦ cover_renamed n there ts j ] ])
      ∙ by (covers n there) (adds n there t)
    where
      by : (a b : Bool) → elim a [ true ↦ Some [] | false ↦ elim b [ true ↦ option_map (map new_term) (option_map (λ us. t ∷ us) (cover n (there ++ bound_numbers t) ts)) | false ↦ option_map (map new_term) (cover n there ts) ] ]
          ≡ option_map (map new_term) (elim a [ true ↦ Some [] | false ↦ elim b [ true ↦ option_map (λ us. t ∷ us) (cover n (there ++ bound_numbers t) ts) | false ↦ cover n there ts ] ])
      by true b = refl
      by false true = refl
      by false false = refl

  abbrev Anything : Tree → Type 0
  Anything t = Unit {0}

  anything : (ts : List Tree) → AllByRecursion Anything ts
  anything [] = tt
  anything (t ∷ ts) = (tt, anything ts)

  pick_renamed : (n : ℕ) (ts : List Tree) → pick n (map new_term ts) ≡ option_map (map new_term) (pick n ts)
  pick_renamed n ts =
      let covering : least (filter (λ t. covers n (bound_numbers t)) (map new_term ts)) ≡ option_map new_term (least (filter (λ t. covers n (bound_numbers t)) ts))
      = ap least (filtered_renamed Anything (λ t. covers n (bound_numbers t)) (λ t. covers n (bound_numbers t)) (λ t h. ap (covers n) (numbers_renamed t)) ts (anything ts))
      ∙ least_renamed (filter (λ t. covers n (bound_numbers t)) ts) in
      (λ j. elim (covering j) [ Some t ↦ Some (t ∷ []) | None ↦ cover_renamed n [] ts j ]) ∙ by (least (filter (λ t. covers n (bound_numbers t)) ts))
    where
      by : (o : Option Tree) → elim (option_map new_term o) [ Some t ↦ Some (t ∷ []) | None ↦ option_map (map new_term) (cover n [] ts) ] ≡ option_map (map new_term) (elim o [ Some t ↦ Some (t ∷ []) | None ↦ cover n [] ts ])
      by None = refl
      by (Some t) = refl

  pub trees_renamed : (ts : List Tree) → trees_of (map new_term ts) ≡ each_both_renamed new_def new_var (trees_of ts)
  trees_renamed [] = refl
  trees_renamed (t ∷ ts) = λ j. tree (new_term t) (trees_renamed ts j)

  trigger_renamed : (o : Option (List Tree)) → as_trigger (option_map (map new_term) o) ≡ patterns_both_renamed new_def new_var (as_trigger o)
  trigger_renamed None = refl
  trigger_renamed (Some ts) = λ j. pattern (trees_renamed ts j) no_patterns

  -- where the old numbers are known by the new ones
  module _ (D V : ℕ → Type 0) (old_def old_var : ℕ → ℕ) (back_def : (f : ℕ) → D f → old_def (new_def f) ≡ f) (back_var : (v : ℕ) → V v → old_var (new_var v) ≡ v) where
    back : (t : Tree) → EachHas V D t → both_renamed old_def old_var (new_term t) ≡ t
    back t h = renamed_twice new_def new_var old_def old_var (λ f. f) (λ v. v) V D back_var back_def t h ∙ renames_nothing t

    same_renamed : (t u : Tree) → EachHas V D t → EachHas V D u → same_term (new_term t) (new_term u) ≡ same_term t u
    same_renamed t u h k = by (same_term t u) refl (same_term (new_term t) (new_term u)) refl
      where
        by : (a : Bool) → same_term t u ≡ a → (b : Bool) → same_term (new_term t) (new_term u) ≡ b → same_term (new_term t) (new_term u) ≡ same_term t u
        by true e true f = f ∙ sym e
        by true e false f = absurd (true≢false (sym (ap (λ x. same_term (new_term t) (new_term x)) (sym (same_is_equal t u e)) ∙ same_as_itself (new_term t)) ∙ f))
        by false e true f = let one : t ≡ u = sym (back t h) ∙ ap (both_renamed old_def old_var) (same_is_equal (new_term t) (new_term u) f) ∙ back u k in absurd (true≢false (sym (ap (same_term t) (sym one) ∙ same_as_itself t) ∙ e))
        by false e false f = f ∙ sym e

    any_renamed : (t : Tree) (ts : List Tree) → EachHas V D t → AllByRecursion (EachHas V D) ts → list_any (same_term (new_term t)) (map new_term ts) ≡ list_any (same_term t) ts
    any_renamed t [] h k = refl
    any_renamed t (u ∷ us) h k = λ j. same_renamed t u h k.0 j || any_renamed t us h k.1 j

    joined_renamed : (ts : List Tree) (t : Tree) → AllByRecursion (EachHas V D) ts → EachHas V D t → joined (map new_term ts) (new_term t) ≡ map new_term (joined ts t)
    joined_renamed ts t k h = ap (λ b. if b then map new_term ts else map new_term ts ++ new_term t ∷ []) (any_renamed t ts h k) ∙ by (list_any (same_term t) ts)
      where
        by : (b : Bool) → (if b then map new_term ts else map new_term ts ++ new_term t ∷ []) ≡ map new_term (if b then ts else ts ++ t ∷ [])
        by true = refl
        by false = sym (map-append new_term ts (t ∷ []))

    folded_renamed : (ts us : List Tree) → AllByRecursion (EachHas V D) ts → AllByRecursion (EachHas V D) us → fold joined (map new_term ts) (map new_term us) ≡ map new_term (fold joined ts us)
    folded_renamed ts [] h k = refl
    folded_renamed ts (u ∷ us) h k = ap (λ xs. fold joined xs (map new_term us)) (joined_renamed ts u h k.0) ∙ folded_renamed (joined ts u) us (joined_has V D ts u h k.0) k.1

    -- and plain definitions stay plain
    module _ (defs more : List Def) (plain : (f : ℕ) → D f → is_plain (slice_get more (new_def f)) ≡ is_plain (slice_get defs f)) where
      head_renamed : (t : Tree) → EachHas V D t → is_read_or_call more (new_term t) ≡ is_read_or_call defs t
      head_renamed (num n) h = refl
      head_renamed (truth b) h = refl
      head_renamed (free v) h = refl
      head_renamed (bound v) h = refl
      head_renamed (linear ps c) h = refl
      head_renamed (mul x y) h = refl
      head_renamed (read x y) h = refl
      head_renamed (write x y z) h = refl
      head_renamed (choose x y z) h = refl
      head_renamed (call f ts) h = plain f h.0
      head_renamed (negation x) h = refl
      head_renamed (all ts) h = refl
      head_renamed (some ts) h = refl
      head_renamed (equal x y) h = refl
      head_renamed (at_most x y) h = refl
      head_renamed (for_all ss ps t) h = refl
      head_renamed (exists ss ps t) h = refl

      candidate_renamed : (n : ℕ) (t : Tree) → EachHas V D t → is_candidate more n (new_term t) ≡ is_candidate defs n t
      candidate_renamed n t h = λ j. head_renamed t h j && (built_renamed t j && touches n (numbers_renamed t j))

      candidates_renamed : (n : ℕ) (t : Tree) → EachHas V D t → candidates more n (new_term t) ≡ map new_term (candidates defs n t)
      candidates_renamed n t h =
          ap (λ ts. once (filter (is_candidate more n) ts)) (outside_renamed t)
          ∙ ap once (filtered_renamed (EachHas V D) (is_candidate more n) (is_candidate defs n) (candidate_renamed n) (outside t) (outside_has V D t h))
          ∙ folded_renamed [] (filter (is_candidate defs n) (outside t)) tt (filtered_has V D (is_candidate defs n) (outside t) (outside_has V D t h))

      triggers_renamed : (n : ℕ) (ps : Patterns) (t : Tree) → EachHas V D t → triggers more n (patterns_both_renamed new_def new_var ps) (new_term t) ≡ patterns_both_renamed new_def new_var (triggers defs n ps t)
      triggers_renamed n no_patterns t h = ap (λ ts. as_trigger (pick n ts)) (candidates_renamed n t h) ∙ ap as_trigger (pick_renamed n (candidates defs n t)) ∙ trigger_renamed (pick n (candidates defs n t))
      triggers_renamed n (pattern ts ps) t h = refl

      mutual
        pub with_triggers_renamed : (t : Tree) → EachHas V D t → with_triggers more (new_term t) ≡ new_term (with_triggers defs t)
        with_triggers_renamed (num n) h = refl
        with_triggers_renamed (truth b) h = refl
        with_triggers_renamed (free v) h = refl
        with_triggers_renamed (bound v) h = refl
        with_triggers_renamed (linear ps c) h = λ j. linear (parts_with_renamed ps h j) c
        with_triggers_renamed (mul x y) h = λ j. mul (with_triggers_renamed x h.0 j) (with_triggers_renamed y h.1 j)
        with_triggers_renamed (read x y) h = λ j. read (with_triggers_renamed x h.0 j) (with_triggers_renamed y h.1 j)
        with_triggers_renamed (write x y z) h = λ j. write (with_triggers_renamed x h.0 j) (with_triggers_renamed y h.1 j) (with_triggers_renamed z h.2 j)
        with_triggers_renamed (choose x y z) h = λ j. choose (with_triggers_renamed x h.0 j) (with_triggers_renamed y h.1 j) (with_triggers_renamed z h.2 j)
        with_triggers_renamed (call f ts) h = λ j. call (new_def f) (each_with_renamed ts h.1 j)
        with_triggers_renamed (negation x) h = λ j. negation (with_triggers_renamed x h j)
        with_triggers_renamed (all ts) h = λ j. all (each_with_renamed ts h j)
        with_triggers_renamed (some ts) h = λ j. some (each_with_renamed ts h j)
        with_triggers_renamed (equal x y) h = λ j. equal (with_triggers_renamed x h.0 j) (with_triggers_renamed y h.1 j)
        with_triggers_renamed (at_most x y) h = λ j. at_most (with_triggers_renamed x h.0 j) (with_triggers_renamed y h.1 j)
        with_triggers_renamed (for_all ss ps t) h = λ j. for_all ss (triggers_renamed (length ss) ps t h.1 j) (with_triggers_renamed t h.1 j)
        with_triggers_renamed (exists ss ps t) h = λ j. exists ss (triggers_renamed (length ss) ps t h.1 j) (with_triggers_renamed t h.1 j)

        each_with_renamed : (ts : Trees) → EachInTrees V D ts → each_with_triggers more (each_both_renamed new_def new_var ts) ≡ each_both_renamed new_def new_var (each_with_triggers defs ts)
        each_with_renamed no_trees h = refl
        each_with_renamed (tree t ts) h = λ j. tree (with_triggers_renamed t h.0 j) (each_with_renamed ts h.1 j)

        parts_with_renamed : (ps : Parts) → EachInParts V D ps → parts_with_triggers more (parts_both_renamed new_def new_var ps) ≡ parts_both_renamed new_def new_var (parts_with_triggers defs ps)
        parts_with_renamed no_parts h = refl
        parts_with_renamed (part k t ps) h = λ j. part k (with_triggers_renamed t h.0 j) (parts_with_renamed ps h.1 j)
