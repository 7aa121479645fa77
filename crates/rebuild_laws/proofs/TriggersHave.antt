-- What each variable and definition of a term has, those of the triggers that are chosen for it have.
use Rattle.std.specs.Prelude.{ℕ, nat_lt, Bool, true, false, cond, if◌then◌else◌, List, [], ◌∷◌, ◌++◌, length, fold, filter, Option, Some, None, option_map}
use Rattle.std.specs.List.{AllByRecursion, list_any}
use Rattle.logic_core.specs.Tree.{Tree, num, truth, free, bound, linear, mul, read, write, choose, call, negation, all, some, equal, at_most, for_all, exists, Trees, no_trees, tree, Parts, no_parts, part, Patterns, no_patterns, pattern, nodes}
use Rattle.logic_core.specs.Def.{Def}
use Rattle.logic_core.specs.Size.{capped}
use Rattle.logic_core.specs.View.{trees_of}
use Rattle.logic_core.specs.Same.{same_term}
use Rattle.logic_core.specs.Subterm.{outside, outside_each, outside_parts}
use Rattle.logic_core.specs.Renamed.{EachHas, EachInTrees, EachInParts, EachInPatterns}
use Rattle.quantifier_triggers.specs.Candidates.{bound_numbers, covers, joined, is_candidate, candidates}
use Rattle.quantifier_triggers.specs.Choice.{smaller, least, adds, cover, pick, as_trigger, triggers, with_triggers, each_with_triggers, parts_with_triggers}

every_both : (P : Tree → Type 0) (xs ys : List Tree) → AllByRecursion P xs → AllByRecursion P ys → AllByRecursion P (xs ++ ys)
every_both P [] ys h k = k
every_both P (x ∷ xs) ys h k = (h.0, every_both P xs ys h.1 k)

-- what each variable and definition of a term has, those of the terms in it have
module _ (V C : ℕ → Type 0) where
  mutual
    pub outside_has : (t : Tree) → EachHas V C t → AllByRecursion (EachHas V C) (outside t)
    outside_has (num n) h = (h, tt)
    outside_has (truth b) h = (h, tt)
    outside_has (free v) h = (h, tt)
    outside_has (bound v) h = (h, tt)
    outside_has (linear ps c) h = (h, outside_parts_have ps h)
    outside_has (mul x y) h = (h, every_both (EachHas V C) (outside x) (outside y) (outside_has x h.0) (outside_has y h.1))
    outside_has (read x y) h = (h, every_both (EachHas V C) (outside x) (outside y) (outside_has x h.0) (outside_has y h.1))
    outside_has (write x y z) h = (h, every_both (EachHas V C) (outside x ++ outside y) (outside z) (every_both (EachHas V C) (outside x) (outside y) (outside_has x h.0) (outside_has y h.1)) (outside_has z h.2))
    outside_has (choose x y z) h = (h, every_both (EachHas V C) (outside x ++ outside y) (outside z) (every_both (EachHas V C) (outside x) (outside y) (outside_has x h.0) (outside_has y h.1)) (outside_has z h.2))
    outside_has (call f ts) h = (h, outside_each_have ts h.1)
    outside_has (negation x) h = (h, outside_has x h)
    outside_has (all ts) h = (h, outside_each_have ts h)
    outside_has (some ts) h = (h, outside_each_have ts h)
    outside_has (equal x y) h = (h, every_both (EachHas V C) (outside x) (outside y) (outside_has x h.0) (outside_has y h.1))
    outside_has (at_most x y) h = (h, every_both (EachHas V C) (outside x) (outside y) (outside_has x h.0) (outside_has y h.1))
    outside_has (for_all ss ps t) h = (h, tt)
    outside_has (exists ss ps t) h = (h, tt)

    outside_each_have : (ts : Trees) → EachInTrees V C ts → AllByRecursion (EachHas V C) (outside_each ts)
    outside_each_have no_trees h = tt
    outside_each_have (tree t ts) h = every_both (EachHas V C) (outside t) (outside_each ts) (outside_has t h.0) (outside_each_have ts h.1)

    outside_parts_have : (ps : Parts) → EachInParts V C ps → AllByRecursion (EachHas V C) (outside_parts ps)
    outside_parts_have no_parts h = tt
    outside_parts_have (part k t ps) h = every_both (EachHas V C) (outside t) (outside_parts ps) (outside_has t h.0) (outside_parts_have ps h.1)

  pub filtered_has : (p : Tree → Bool) (ts : List Tree) → AllByRecursion (EachHas V C) ts → AllByRecursion (EachHas V C) (filter p ts)
  filtered_has p [] h = tt
  filtered_has p (t ∷ ts) h = by (p t) (filtered_has p ts h.1)
    where
      by : (b : Bool) → AllByRecursion (EachHas V C) (filter p ts) → AllByRecursion (EachHas V C) (cond b (t ∷ filter p ts) (filter p ts))
      by true k = (h.0, k)
      by false k = k

  pub joined_has : (ts : List Tree) (t : Tree) → AllByRecursion (EachHas V C) ts → EachHas V C t → AllByRecursion (EachHas V C) (joined ts t)
  joined_has ts t h k = by (list_any (same_term t) ts)
    where
      by : (b : Bool) → AllByRecursion (EachHas V C) (if b then ts else ts ++ t ∷ [])
      by true = h
      by false = every_both (EachHas V C) ts (t ∷ []) h (k, tt)

  folded_has : (ts us : List Tree) → AllByRecursion (EachHas V C) ts → AllByRecursion (EachHas V C) us → AllByRecursion (EachHas V C) (fold joined ts us)
  folded_has ts [] h k = h
  folded_has ts (u ∷ us) h k = folded_has (joined ts u) us (joined_has ts u h k.0) k.1

  candidates_have : (defs : List Def) (n : ℕ) (t : Tree) → EachHas V C t → AllByRecursion (EachHas V C) (candidates defs n t)
  candidates_have defs n t h = folded_has [] (filter (is_candidate defs n) (outside t)) tt (filtered_has (is_candidate defs n) (outside t) (outside_has t h))

  smaller_has : (t u : Tree) → EachHas V C t → EachHas V C u → EachHas V C (smaller t u)
  smaller_has t u h k = by (nat_lt (capped (nodes u)) (capped (nodes t)))
    where
      by : (b : Bool) → EachHas V C (cond b u t)
      by true = k
      by false = h

  smallest_has : (t : Tree) (ts : List Tree) → EachHas V C t → AllByRecursion (EachHas V C) ts → EachHas V C (fold smaller t ts)
  smallest_has t [] h k = h
  smallest_has t (u ∷ us) h k = smallest_has (smaller t u) us (smaller_has t u h k.0) k.1

  abbrev HasSome : Option Tree → Type 0
  HasSome None = Unit {0}
  HasSome (Some t) = EachHas V C t

  least_has : (ts : List Tree) → AllByRecursion (EachHas V C) ts → HasSome (least ts)
  least_has [] h = tt
  least_has (t ∷ ts) h = smallest_has t ts h.0 h.1

  abbrev HasAll : Option (List Tree) → Type 0
  HasAll None = Unit {0}
  HasAll (Some ts) = AllByRecursion (EachHas V C) ts

  has_more : (t : Tree) (o : Option (List Tree)) → EachHas V C t → HasAll o → HasAll (option_map (λ us. t ∷ us) o)
  has_more t None h k = tt
  has_more t (Some us) h k = (h, k)

  cover_has : (n : ℕ) (there : List ℕ) (ts : List Tree) → AllByRecursion (EachHas V C) ts → HasAll (cover n there ts)
  cover_has n there [] h = by (covers n there)
    where
      by : (b : Bool) → HasAll (cond b (Some []) None)
      by true = tt
      by false = tt
  cover_has n there (t ∷ ts) h = by (covers n there) (adds n there t) (cover_has n (there ++ bound_numbers t) ts h.1) (cover_has n there ts h.1)
    where
      by : (a b : Bool) → HasAll (cover n (there ++ bound_numbers t) ts) → HasAll (cover n there ts) → HasAll (elim a [ true ↦ Some [] | false ↦ elim b [ true ↦ option_map (λ us. t ∷ us) (cover n (there ++ bound_numbers t) ts) | false ↦ cover n there ts ] ])
      by true b k l = tt
      by false true k l = has_more t (cover n (there ++ bound_numbers t) ts) h.0 k
      by false false k l = l

  pick_has : (n : ℕ) (ts : List Tree) → AllByRecursion (EachHas V C) ts → HasAll (pick n ts)
  pick_has n ts h = by (least (filter (λ t. covers n (bound_numbers t)) ts)) (least_has (filter (λ t. covers n (bound_numbers t)) ts) (filtered_has (λ t. covers n (bound_numbers t)) ts h))
    where
      by : (o : Option Tree) → HasSome o → HasAll (elim o [ Some t ↦ Some (t ∷ []) | None ↦ cover n [] ts ])
      by None k = cover_has n [] ts h
      by (Some t) k = (k, tt)

  trees_have : (ts : List Tree) → AllByRecursion (EachHas V C) ts → EachInTrees V C (trees_of ts)
  trees_have [] h = tt
  trees_have (t ∷ ts) h = (h.0, trees_have ts h.1)

  trigger_has : (o : Option (List Tree)) → HasAll o → EachInPatterns V C (as_trigger o)
  trigger_has None h = tt
  trigger_has (Some ts) h = (trees_have ts h, tt)

  triggers_have : (defs : List Def) (n : ℕ) (ps : Patterns) (t : Tree) → EachInPatterns V C ps → EachHas V C t → EachInPatterns V C (triggers defs n ps t)
  triggers_have defs n no_patterns t h k = trigger_has (pick n (candidates defs n t)) (pick_has n (candidates defs n t) (candidates_have defs n t k))
  triggers_have defs n (pattern ts ps) t h k = h

  module _ (defs : List Def) where
    mutual
      pub with_triggers_has : (t : Tree) → EachHas V C t → EachHas V C (with_triggers defs t)
      with_triggers_has (num n) h = tt
      with_triggers_has (truth b) h = tt
      with_triggers_has (free v) h = h
      with_triggers_has (bound v) h = tt
      with_triggers_has (linear ps c) h = parts_with_have ps h
      with_triggers_has (mul x y) h = (with_triggers_has x h.0, with_triggers_has y h.1)
      with_triggers_has (read x y) h = (with_triggers_has x h.0, with_triggers_has y h.1)
      with_triggers_has (write x y z) h = (with_triggers_has x h.0, with_triggers_has y h.1, with_triggers_has z h.2)
      with_triggers_has (choose x y z) h = (with_triggers_has x h.0, with_triggers_has y h.1, with_triggers_has z h.2)
      with_triggers_has (call f ts) h = (h.0, each_with_have ts h.1)
      with_triggers_has (negation x) h = with_triggers_has x h
      with_triggers_has (all ts) h = each_with_have ts h
      with_triggers_has (some ts) h = each_with_have ts h
      with_triggers_has (equal x y) h = (with_triggers_has x h.0, with_triggers_has y h.1)
      with_triggers_has (at_most x y) h = (with_triggers_has x h.0, with_triggers_has y h.1)
      with_triggers_has (for_all ss ps t) h = (triggers_have defs (length ss) ps t h.0 h.1, with_triggers_has t h.1)
      with_triggers_has (exists ss ps t) h = (triggers_have defs (length ss) ps t h.0 h.1, with_triggers_has t h.1)

      each_with_have : (ts : Trees) → EachInTrees V C ts → EachInTrees V C (each_with_triggers defs ts)
      each_with_have no_trees h = tt
      each_with_have (tree t ts) h = (with_triggers_has t h.0, each_with_have ts h.1)

      parts_with_have : (ps : Parts) → EachInParts V C ps → EachInParts V C (parts_with_triggers defs ps)
      parts_with_have no_parts h = tt
      parts_with_have (part k t ps) h = (with_triggers_has t h.0, parts_with_have ps h.1)
