-- What each variable and each definition in a term has, as lists.
use Rattle.std.specs.Prelude.{◌≡◌, refl, ℕ, List, [], ◌∷◌, ◌++◌, flat_map}
use Rattle.std.proofs.Common.{ap, sym, ◌∙◌}
use Rattle.std.proofs.lemmas.Grind.{flat_map-append}
use Rattle.std.proofs.lemmas.List.{append-nil}
use Rattle.logic_core.specs.View.{trees_of}
use Rattle.std.specs.List.{AllByRecursion}
use Rattle.logic_core.specs.Tree.{Tree, num, truth, free, bound, linear, mul, read, write, choose, call, negation, all, some, equal, at_most, for_all, exists, Trees, no_trees, tree, Parts, no_parts, part, Patterns, no_patterns, pattern}
use Rattle.logic_core.specs.Renamed.{EachHas, EachInTrees, EachInParts, EachInPatterns}
use Rattle.logic_core.specs.Variables.{variables, variables_of_each, variables_of_parts, variables_of_patterns, calls, calls_of_each, calls_of_parts, calls_of_patterns}
use Rattle.logic_core.proofs.EachOf.{every_append}

module _ (V C : ℕ → Type 0) where
  abbrev Have : List ℕ → List ℕ → Type 0
  Have vs fs = AllByRecursion V vs × AllByRecursion C fs

  both : (vs ws fs gs : List ℕ) → Have vs fs → Have ws gs → Have (vs ++ ws) (fs ++ gs)
  both vs ws fs gs h k = (every_append V vs ws h.0 k.0, every_append C fs gs h.1 k.1)

  mutual
    as_lists : (t : Tree) → EachHas V C t → Have (variables t) (calls t)
    as_lists (num n) h = (tt, tt)
    as_lists (truth x) h = (tt, tt)
    as_lists (free v) h = ((h, tt), tt)
    as_lists (bound v) h = (tt, tt)
    as_lists (linear ps c) h = parts_as_lists ps h
    as_lists (mul x y) h = both (variables x) (variables y) (calls x) (calls y) (as_lists x h.0) (as_lists y h.1)
    as_lists (read x y) h = both (variables x) (variables y) (calls x) (calls y) (as_lists x h.0) (as_lists y h.1)
    as_lists (write x y z) h = both (variables x) (variables y ++ variables z) (calls x) (calls y ++ calls z) (as_lists x h.0) (both (variables y) (variables z) (calls y) (calls z) (as_lists y h.1) (as_lists z h.2))
    as_lists (choose x y z) h = both (variables x) (variables y ++ variables z) (calls x) (calls y ++ calls z) (as_lists x h.0) (both (variables y) (variables z) (calls y) (calls z) (as_lists y h.1) (as_lists z h.2))
    as_lists (call f ts) h = let r = each_as_lists ts h.1 in (r.0, (h.0, r.1))
    as_lists (negation x) h = as_lists x h
    as_lists (all ts) h = each_as_lists ts h
    as_lists (some ts) h = each_as_lists ts h
    as_lists (equal x y) h = both (variables x) (variables y) (calls x) (calls y) (as_lists x h.0) (as_lists y h.1)
    as_lists (at_most x y) h = both (variables x) (variables y) (calls x) (calls y) (as_lists x h.0) (as_lists y h.1)
    as_lists (for_all ss ps t) h = both (variables_of_patterns ps) (variables t) (calls_of_patterns ps) (calls t) (patterns_as_lists ps h.0) (as_lists t h.1)
    as_lists (exists ss ps t) h = both (variables_of_patterns ps) (variables t) (calls_of_patterns ps) (calls t) (patterns_as_lists ps h.0) (as_lists t h.1)

    each_as_lists : (ts : Trees) → EachInTrees V C ts → Have (variables_of_each ts) (calls_of_each ts)
    each_as_lists no_trees h = (tt, tt)
    each_as_lists (tree t ts) h = both (variables t) (variables_of_each ts) (calls t) (calls_of_each ts) (as_lists t h.0) (each_as_lists ts h.1)

    parts_as_lists : (ps : Parts) → EachInParts V C ps → Have (variables_of_parts ps) (calls_of_parts ps)
    parts_as_lists no_parts h = (tt, tt)
    parts_as_lists (part k t ps) h = both (variables t) (variables_of_parts ps) (calls t) (calls_of_parts ps) (as_lists t h.0) (parts_as_lists ps h.1)

    patterns_as_lists : (ps : Patterns) → EachInPatterns V C ps → Have (variables_of_patterns ps) (calls_of_patterns ps)
    patterns_as_lists no_patterns h = (tt, tt)
    patterns_as_lists (pattern ts ps) h = both (variables_of_each ts) (variables_of_patterns ps) (calls_of_each ts) (calls_of_patterns ps) (each_as_lists ts h.0) (patterns_as_lists ps h.1)

  pub variables_have : (t : Tree) → EachHas V C t → AllByRecursion V (variables t)
  variables_have t h = (as_lists t h).0

  pub calls_have : (t : Tree) → EachHas V C t → AllByRecursion C (calls t)
  calls_have t h = (as_lists t h).1

-- the terms' lists one behind the other
pub calls_flat : (ts : List Tree) → calls_of_each (trees_of ts) ≡ flat_map calls ts
calls_flat [] = refl
calls_flat (t ∷ ts) = ap (λ ns. calls t ++ ns) (calls_flat ts)

pub variables_flat : (ts : List Tree) → variables_of_each (trees_of ts) ≡ flat_map variables ts
variables_flat [] = refl
variables_flat (t ∷ ts) = ap (λ ns. variables t ++ ns) (variables_flat ts)

-- the variables of terms that stand one behind the other
pub numbered_flat : (bodies axioms : List Tree) (goal : Tree) → flat_map variables (bodies ++ axioms ++ goal ∷ []) ≡ (flat_map variables bodies ++ variables_of_each (trees_of axioms)) ++ variables goal
numbered_flat bodies axioms goal =
    flat_map-append variables (bodies ++ axioms) (goal ∷ [])
    ∙ ap (λ ns. flat_map variables (bodies ++ axioms) ++ ns) (append-nil (variables goal))
    ∙ ap (λ ns. ns ++ variables goal) (flat_map-append variables bodies axioms ∙ ap (λ ns. flat_map variables bodies ++ ns) (sym (variables_flat axioms)))
