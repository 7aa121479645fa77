-- Terms with other numbers for their free variables and for the definitions that they call.
use Rattle.std.specs.Prelude.{ℕ, Option, Some, None, List, slice_index_or}
use Rattle.logic_terms.specs.Tree.{Tree, num, truth, free, bound, linear, mul, read, write, choose, call, negation, all, some, equal, at_most, for_all, exists, Trees, no_trees, tree, Parts, no_parts, part, Patterns, no_patterns, pattern}
use Rattle.logic_terms.specs.Def.{Def}
use Rattle.logic_core.specs.Traversed.{traversed, traversed_each, traversed_parts, traversed_patterns, as_deep}

abbrev pub for_free : (ℕ → ℕ) → ℕ → Tree → Option Tree
for_free new_var depth (free v) = Some (free (new_var v))
for_free new_var depth t = None

-- each definition that is called, and each free variable, by its new number
module _ (new_def new_var : ℕ → ℕ) where
  abbrev pub both_renamed : Tree → Tree
  both_renamed t = traversed (for_free new_var) as_deep new_def 0 t

  abbrev pub each_both_renamed : Trees → Trees
  each_both_renamed ts = traversed_each (for_free new_var) as_deep new_def 0 ts

  abbrev pub parts_both_renamed : Parts → Parts
  parts_both_renamed ps = traversed_parts (for_free new_var) as_deep new_def 0 ps

  abbrev pub patterns_both_renamed : Patterns → Patterns
  patterns_both_renamed ps = traversed_patterns (for_free new_var) as_deep new_def 0 ps

  abbrev pub def_renamed : Def → Def
  def_renamed d = record d { body = both_renamed d.body }

-- new numbers in a table, each at its old number's place; a number beyond it stays
abbrev pub new_number : List ℕ → ℕ → ℕ
new_number table n = slice_index_or table n n

-- every variable in a term has V, and every definition that it calls has C, in triggers too
module _ (V C : ℕ → Type 0) where
  abbrev mutual
    pub EachHas : Tree → Type 0
    EachHas (num n) = Unit {0}
    EachHas (truth x) = Unit {0}
    EachHas (free v) = V v
    EachHas (bound v) = Unit {0}
    EachHas (linear ps c) = EachInParts ps
    EachHas (mul x y) = EachHas x × EachHas y
    EachHas (read x y) = EachHas x × EachHas y
    EachHas (write x y z) = EachHas x × EachHas y × EachHas z
    EachHas (choose x y z) = EachHas x × EachHas y × EachHas z
    EachHas (call f ts) = C f × EachInTrees ts
    EachHas (negation x) = EachHas x
    EachHas (all ts) = EachInTrees ts
    EachHas (some ts) = EachInTrees ts
    EachHas (equal x y) = EachHas x × EachHas y
    EachHas (at_most x y) = EachHas x × EachHas y
    EachHas (for_all ss ps t) = EachInPatterns ps × EachHas t
    EachHas (exists ss ps t) = EachInPatterns ps × EachHas t

    pub EachInTrees : Trees → Type 0
    EachInTrees no_trees = Unit {0}
    EachInTrees (tree t ts) = EachHas t × EachInTrees ts

    pub EachInParts : Parts → Type 0
    EachInParts no_parts = Unit {0}
    EachInParts (part k t ps) = EachHas t × EachInParts ps

    pub EachInPatterns : Patterns → Type 0
    EachInPatterns no_patterns = Unit {0}
    EachInPatterns (pattern ts ps) = EachInTrees ts × EachInPatterns ps
