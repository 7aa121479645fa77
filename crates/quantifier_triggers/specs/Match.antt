-- Matching a trigger's patterns against ground terms: the tuples of terms for a quantifier's variables, in order.
use Rattle.std.specs.Prelude.{ℕ, nat_eq, Bool, true, false, Option, Some, None, option_map, option_to_list, List, [], ◌∷◌, reverse, map, flat_map, slice_get, slice_set}
use Rattle.logic_core.specs.Tree.{Kind, Tree, bound, read, write, call, Trees, no_trees, tree}
use Rattle.logic_core.specs.Def.{Def}
use Rattle.logic_core.specs.Wide.{◌>>=◌, when}
use Rattle.logic_core.specs.Same.{same_term}
use Rattle.logic_core.specs.Sorts.{is, sort_of}

-- the terms found so far for Bound(0), Bound(1) ..
abbrev pub Found : Type 0
Found = List (Option Tree)

-- the root of a Write is the root of its map; any other map is its own root
abbrev pub root : Tree → Tree
root (write m i x) = root m
root m = m

abbrev pub as_read : Tree → Option (Tree × Tree)
as_read (read m i) = Some (m, i)
as_read t = None

abbrev pub as_call : Tree → Option (ℕ × Trees)
as_call (call f ts) = Some (f, ts)
as_call t = None

-- a term was found for each variable
abbrev pub each_found : Found → Option (List Tree)
each_found [] = Some []
each_found (o ∷ b) = o >>= λ t. option_map (λ ts. t ∷ ts) (each_found b)

-- in the order of the variables: Bound(0) is the last
abbrev pub tuple_of : Found → Option (List Tree)
tuple_of b = option_map reverse (each_found b)

-- `kinds` are the sorts of Bound(0), Bound(1) ..
module _ (vars : List Kind) (defs : List Def) (kinds : List Kind) where
  -- Bound(v) is t: a term of its sort, the same at each of its occurrences
  abbrev pub taken : ℕ → Tree → Found → Option Tree → Option Found
  taken v t b (Some u) = when (same_term u t) (Some b)
  taken v t b None = slice_get kinds v >>= λ k. when (is k (sort_of vars defs [] t)) (Some (slice_set b v (Some t)))

  abbrev pub variable : ℕ → Tree → Found → Option Found
  variable v t b = slice_get b v >>= λ o. taken v t b o

  abbrev mutual
    -- a pattern matches a term; at_root: the pattern's root does
    pub matched : Bool → Tree → Tree → Found → Option Found
    matched at_root (bound v) t b = variable v t b
    matched at_root (read p q) t b = as_read t >>= λ r. matched true p (root r.0) b >>= λ c. matched false q r.1 c
    matched at_root (call f ps) t b = as_call t >>= λ r. when (nat_eq f r.0) (matched_each ps r.1 b)
    matched true (write p q x) t b = matched true p t b
    matched at_root p t b = when (same_term p t) (Some b)

    -- part by part
    pub matched_each : Trees → Trees → Found → Option Found
    matched_each no_trees no_trees b = Some b
    matched_each (tree p ps) (tree t ts) b = matched false p t b >>= λ c. matched_each ps ts c
    matched_each no_trees (tree t ts) b = None
    matched_each (tree p ps) no_trees b = None

  -- the patterns left to right, each against the ground terms in order
  abbrev pub tuples_from : List Tree → Trees → Found → List (List Tree)
  tuples_from terms no_trees b = option_to_list (tuple_of b)
  tuples_from terms (tree p ps) b = flat_map (λ t. flat_map (λ c. tuples_from terms ps c) (option_to_list (matched false p t b))) terms

-- the tuples of a trigger of a quantifier whose variables have these sorts
abbrev pub tuples : List Kind → List Def → Trees → List Kind → List Tree → List (List Tree)
tuples vars defs trigger sorts terms = tuples_from vars defs (reverse sorts) terms trigger (map (λ k. None) sorts)
