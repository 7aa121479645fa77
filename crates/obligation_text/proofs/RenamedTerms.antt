-- Terms by new numbers: what they mention, and renaming twice.
use Rattle.std.specs.Prelude.{◌≡◌, refl, ℕ, List, [], ◌∷◌, ◌++◌, map, flat_map}
use Rattle.std.proofs.Common.{ap, sym, ◌∙◌}
use Rattle.std.proofs.lemmas.List.{map-append}
use Rattle.logic_core.specs.Tree.{Tree, num, truth, free, bound, linear, mul, read, write, choose, call, negation, all, some, equal, at_most, for_all, exists, Trees, no_trees, tree, Parts, no_parts, part, Patterns, no_patterns, pattern}
use Rattle.logic_core.specs.Renamed.{both_renamed, each_both_renamed, parts_both_renamed, patterns_both_renamed, EachHas, EachInTrees, EachInParts, EachInPatterns}
use Rattle.logic_core.proofs.Mentioned.{as_it_stands}
use Rattle.obligation_text.proofs.Lists.{variables_have, calls_have}
use Rattle.logic_core.specs.Variables.{mentions, each_mentions, parts_mention, patterns_mention, itself, none_of, variables, calls}
use Rattle.logic_core.proofs.EachOf.{every_map}

pub two_mapped : (h : ℕ → ℕ) (xs ys ns ms : List ℕ) → xs ≡ map h ns → ys ≡ map h ms → xs ++ ys ≡ map h (ns ++ ms)
two_mapped h xs ys ns ms p q = (λ j. p j ++ q j) ∙ sym (map-append h ns ms)

module _ (new_def new_var : ℕ → ℕ) where
  module _ (f g f' g' : ℕ → List ℕ) (h : ℕ → ℕ) (at_def : (n : ℕ) → f (new_def n) ≡ map h (f' n)) (at_var : (n : ℕ) → g (new_var n) ≡ map h (g' n)) where
    mutual
      pub renamed_mentions : (t : Tree) → mentions f g (both_renamed new_def new_var t) ≡ map h (mentions f' g' t)
      renamed_mentions (num n) = refl
      renamed_mentions (truth x) = refl
      renamed_mentions (free v) = at_var v
      renamed_mentions (bound v) = refl
      renamed_mentions (linear ps c) = parts_mentions ps
      renamed_mentions (mul x y) = two_mapped h (mentions f g (both_renamed new_def new_var x)) (mentions f g (both_renamed new_def new_var y)) (mentions f' g' x) (mentions f' g' y) (renamed_mentions x) (renamed_mentions y)
      renamed_mentions (read x y) = two_mapped h (mentions f g (both_renamed new_def new_var x)) (mentions f g (both_renamed new_def new_var y)) (mentions f' g' x) (mentions f' g' y) (renamed_mentions x) (renamed_mentions y)
      renamed_mentions (write x y z) = two_mapped h (mentions f g (both_renamed new_def new_var x)) ((mentions f g (both_renamed new_def new_var y)) ++ (mentions f g (both_renamed new_def new_var z))) (mentions f' g' x) ((mentions f' g' y) ++ (mentions f' g' z)) (renamed_mentions x) (two_mapped h (mentions f g (both_renamed new_def new_var y)) (mentions f g (both_renamed new_def new_var z)) (mentions f' g' y) (mentions f' g' z) (renamed_mentions y) (renamed_mentions z))
      renamed_mentions (choose x y z) = two_mapped h (mentions f g (both_renamed new_def new_var x)) ((mentions f g (both_renamed new_def new_var y)) ++ (mentions f g (both_renamed new_def new_var z))) (mentions f' g' x) ((mentions f' g' y) ++ (mentions f' g' z)) (renamed_mentions x) (two_mapped h (mentions f g (both_renamed new_def new_var y)) (mentions f g (both_renamed new_def new_var z)) (mentions f' g' y) (mentions f' g' z) (renamed_mentions y) (renamed_mentions z))
      renamed_mentions (call d ts) = two_mapped h (f (new_def d)) (each_mentions f g (each_both_renamed new_def new_var ts)) (f' d) (each_mentions f' g' ts) (at_def d) (trees_mentions ts)
      renamed_mentions (negation x) = renamed_mentions x
      renamed_mentions (all ts) = trees_mentions ts
      renamed_mentions (some ts) = trees_mentions ts
      renamed_mentions (equal x y) = two_mapped h (mentions f g (both_renamed new_def new_var x)) (mentions f g (both_renamed new_def new_var y)) (mentions f' g' x) (mentions f' g' y) (renamed_mentions x) (renamed_mentions y)
      renamed_mentions (at_most x y) = two_mapped h (mentions f g (both_renamed new_def new_var x)) (mentions f g (both_renamed new_def new_var y)) (mentions f' g' x) (mentions f' g' y) (renamed_mentions x) (renamed_mentions y)
      renamed_mentions (for_all ss ps x) = two_mapped h (patterns_mention f g (patterns_both_renamed new_def new_var ps)) (mentions f g (both_renamed new_def new_var x)) (patterns_mention f' g' ps) (mentions f' g' x) (patterns_mentions ps) (renamed_mentions x)
      renamed_mentions (exists ss ps x) = two_mapped h (patterns_mention f g (patterns_both_renamed new_def new_var ps)) (mentions f g (both_renamed new_def new_var x)) (patterns_mention f' g' ps) (mentions f' g' x) (patterns_mentions ps) (renamed_mentions x)

      trees_mentions : (ts : Trees) → each_mentions f g (each_both_renamed new_def new_var ts) ≡ map h (each_mentions f' g' ts)
      trees_mentions no_trees = refl
      trees_mentions (tree x ts) = two_mapped h (mentions f g (both_renamed new_def new_var x)) (each_mentions f g (each_both_renamed new_def new_var ts)) (mentions f' g' x) (each_mentions f' g' ts) (renamed_mentions x) (trees_mentions ts)

      parts_mentions : (ps : Parts) → parts_mention f g (parts_both_renamed new_def new_var ps) ≡ map h (parts_mention f' g' ps)
      parts_mentions no_parts = refl
      parts_mentions (part k x ps) = two_mapped h (mentions f g (both_renamed new_def new_var x)) (parts_mention f g (parts_both_renamed new_def new_var ps)) (mentions f' g' x) (parts_mention f' g' ps) (renamed_mentions x) (parts_mentions ps)

      patterns_mentions : (ps : Patterns) → patterns_mention f g (patterns_both_renamed new_def new_var ps) ≡ map h (patterns_mention f' g' ps)
      patterns_mentions no_patterns = refl
      patterns_mentions (pattern ts ps) = two_mapped h (each_mentions f g (each_both_renamed new_def new_var ts)) (patterns_mention f g (patterns_both_renamed new_def new_var ps)) (each_mentions f' g' ts) (patterns_mention f' g' ps) (trees_mentions ts) (patterns_mentions ps)

  pub renamed_calls : (t : Tree) → calls (both_renamed new_def new_var t) ≡ map new_def (calls t)
  renamed_calls t = renamed_mentions itself none_of itself none_of new_def (λ n. refl) (λ n. refl) t

  pub renamed_variables : (t : Tree) → variables (both_renamed new_def new_var t) ≡ map new_var (variables t)
  renamed_variables t = renamed_mentions none_of itself none_of itself new_var (λ n. refl) (λ n. refl) t

  pub each_renamed_calls : (ts : List Tree) → flat_map calls (map (both_renamed new_def new_var) ts) ≡ map new_def (flat_map calls ts)
  each_renamed_calls [] = refl
  each_renamed_calls (t ∷ ts) = two_mapped new_def (calls (both_renamed new_def new_var t)) (flat_map calls (map (both_renamed new_def new_var) ts)) (calls t) (flat_map calls ts) (renamed_calls t) (each_renamed_calls ts)

  pub each_renamed_variables : (ts : List Tree) → flat_map variables (map (both_renamed new_def new_var) ts) ≡ map new_var (flat_map variables ts)
  each_renamed_variables [] = refl
  each_renamed_variables (t ∷ ts) = two_mapped new_var (variables (both_renamed new_def new_var t)) (flat_map variables (map (both_renamed new_def new_var) ts)) (variables t) (flat_map variables ts) (renamed_variables t) (each_renamed_variables ts)

  -- renamed twice, where the second numbers of what is renamed are these
  module _ (then_def then_var last_def last_var : ℕ → ℕ) (V C : ℕ → Type 0) (at_var : (v : ℕ) → V v → then_var (new_var v) ≡ last_var v) (at_def : (f : ℕ) → C f → then_def (new_def f) ≡ last_def f) where
    mutual
      pub renamed_twice : (t : Tree) → EachHas V C t → both_renamed then_def then_var (both_renamed new_def new_var t) ≡ both_renamed last_def last_var t
      renamed_twice (num n) h = refl
      renamed_twice (truth x) h = refl
      renamed_twice (free v) h = ap free (at_var v h)
      renamed_twice (bound v) h = refl
      renamed_twice (linear ps c) h = λ j. linear (parts_twice ps h j) c
      renamed_twice (mul x y) h = λ j. mul (renamed_twice x h.0 j) (renamed_twice y h.1 j)
      renamed_twice (read x y) h = λ j. read (renamed_twice x h.0 j) (renamed_twice y h.1 j)
      renamed_twice (write x y z) h = λ j. write (renamed_twice x h.0 j) (renamed_twice y h.1 j) (renamed_twice z h.2 j)
      renamed_twice (choose x y z) h = λ j. choose (renamed_twice x h.0 j) (renamed_twice y h.1 j) (renamed_twice z h.2 j)
      renamed_twice (call f ts) h = λ j. call (at_def f h.0 j) (trees_twice ts h.1 j)
      renamed_twice (negation x) h = λ j. negation (renamed_twice x h j)
      renamed_twice (all ts) h = λ j. all (trees_twice ts h j)
      renamed_twice (some ts) h = λ j. some (trees_twice ts h j)
      renamed_twice (equal x y) h = λ j. equal (renamed_twice x h.0 j) (renamed_twice y h.1 j)
      renamed_twice (at_most x y) h = λ j. at_most (renamed_twice x h.0 j) (renamed_twice y h.1 j)
      renamed_twice (for_all ss ps t) h = λ j. for_all ss (patterns_twice ps h.0 j) (renamed_twice t h.1 j)
      renamed_twice (exists ss ps t) h = λ j. exists ss (patterns_twice ps h.0 j) (renamed_twice t h.1 j)

      trees_twice : (ts : Trees) → EachInTrees V C ts → each_both_renamed then_def then_var (each_both_renamed new_def new_var ts) ≡ each_both_renamed last_def last_var ts
      trees_twice no_trees h = refl
      trees_twice (tree t ts) h = λ j. tree (renamed_twice t h.0 j) (trees_twice ts h.1 j)

      parts_twice : (ps : Parts) → EachInParts V C ps → parts_both_renamed then_def then_var (parts_both_renamed new_def new_var ps) ≡ parts_both_renamed last_def last_var ps
      parts_twice no_parts h = refl
      parts_twice (part k t ps) h = λ j. part k (renamed_twice t h.0 j) (parts_twice ps h.1 j)

      patterns_twice : (ps : Patterns) → EachInPatterns V C ps → patterns_both_renamed then_def then_var (patterns_both_renamed new_def new_var ps) ≡ patterns_both_renamed last_def last_var ps
      patterns_twice no_patterns h = refl
      patterns_twice (pattern ts ps) h = λ j. pattern (trees_twice ts h.0 j) (patterns_twice ps h.1 j)

-- what each variable and definition of a term has, each has by less
pub each_more : (V C W E : ℕ → Type 0) (in_var : (v : ℕ) → V v → W v) (in_def : (f : ℕ) → C f → E f) (t : Tree) → EachHas V C t → EachHas W E t
each_more V C W E in_var in_def t h = as_it_stands W E t (every_map V W in_var (variables t) (variables_have V C t h), every_map C E in_def (calls t) (calls_have V C t h))

-- what the new numbers of a term's variables and definitions have
module _ (new_def new_var : ℕ → ℕ) (V C W E : ℕ → Type 0) (at_var : (v : ℕ) → V v → W (new_var v)) (at_def : (f : ℕ) → C f → E (new_def f)) where
  mutual
    pub renamed_has : (t : Tree) → EachHas V C t → EachHas W E (both_renamed new_def new_var t)
    renamed_has (num n) h = tt
    renamed_has (truth b) h = tt
    renamed_has (free v) h = at_var v h
    renamed_has (bound v) h = tt
    renamed_has (linear ps c) h = parts_renamed_have ps h
    renamed_has (mul x y) h = (renamed_has x h.0, renamed_has y h.1)
    renamed_has (read x y) h = (renamed_has x h.0, renamed_has y h.1)
    renamed_has (write x y z) h = (renamed_has x h.0, renamed_has y h.1, renamed_has z h.2)
    renamed_has (choose x y z) h = (renamed_has x h.0, renamed_has y h.1, renamed_has z h.2)
    renamed_has (call f ts) h = (at_def f h.0, trees_renamed_have ts h.1)
    renamed_has (negation x) h = renamed_has x h
    renamed_has (all ts) h = trees_renamed_have ts h
    renamed_has (some ts) h = trees_renamed_have ts h
    renamed_has (equal x y) h = (renamed_has x h.0, renamed_has y h.1)
    renamed_has (at_most x y) h = (renamed_has x h.0, renamed_has y h.1)
    renamed_has (for_all ss ps x) h = (patterns_renamed_have ps h.0, renamed_has x h.1)
    renamed_has (exists ss ps x) h = (patterns_renamed_have ps h.0, renamed_has x h.1)

    trees_renamed_have : (ts : Trees) → EachInTrees V C ts → EachInTrees W E (each_both_renamed new_def new_var ts)
    trees_renamed_have no_trees h = tt
    trees_renamed_have (tree t ts) h = (renamed_has t h.0, trees_renamed_have ts h.1)

    parts_renamed_have : (ps : Parts) → EachInParts V C ps → EachInParts W E (parts_both_renamed new_def new_var ps)
    parts_renamed_have no_parts h = tt
    parts_renamed_have (part k t ps) h = (renamed_has t h.0, parts_renamed_have ps h.1)

    patterns_renamed_have : (ps : Patterns) → EachInPatterns V C ps → EachInPatterns W E (patterns_both_renamed new_def new_var ps)
    patterns_renamed_have no_patterns h = tt
    patterns_renamed_have (pattern ts ps) h = (trees_renamed_have ts h.0, patterns_renamed_have ps h.1)
