-- The rule split: of an And, which has no children; into the cases of an Or or of an Eq of Bool; and by the condition of an If.
use Rattle.std.specs.Prelude.{Bool, Option, Some, None, is_some, List, [], ◌∷◌}
use Rattle.std.specs.List.{list_any}
use Rattle.logic_core.specs.Tree.{boolean, Tree, choose, negation, all, some, equal, Trees, no_trees, tree}
use Rattle.logic_core.specs.Def.{Def}
use Rattle.logic_core.specs.Wide.{◌>>=◌, when}
use Rattle.logic_core.specs.Same.{same_term}
use Rattle.logic_core.specs.Sorts.{is}
use Rattle.logic_core.specs.Subterm.{replaced, outside, listed}
use Rattle.proof_core.specs.Context.{Context, named, appended, appended_each, children}

-- t stands in the fact outside quantifiers
abbrev pub stands_in : Tree → Tree → Bool
stands_in t u = list_any (same_term t) (outside u)

abbrev pub both : Tree → Tree → Tree
both s t = all (tree s (tree t no_trees))

-- the parts of an Or: the first, and the others
abbrev pub disjuncts : Trees → Option (Tree × List Tree)
disjuncts no_trees = None
disjuncts (tree t ts) = Some (t, listed ts)

-- t is If(u, x, y) in the fact f: u holds and t is x, or it doesn't and t is y
abbrev pub conditions : Tree → Tree → Option (List Tree × List Tree)
conditions f (choose u x y) = when (stands_in (choose u x y) f) (Some (u ∷ replaced (choose u x y) x f ∷ [], negation u ∷ replaced (choose u x y) y f ∷ []))
conditions f t = None

module _ (defs : List Def) where
  -- split of an And: its parts
  abbrev pub split : Context → Tree → Option Context
  split c (all ts) = appended_each defs c (listed ts)
  split c t = None

  -- an Eq of Bool holds where both sides do or neither does, and its Not where one side does
  abbrev pub equal_cases : Context → Tree → Tree → Option (Tree × List Tree)
  equal_cases c p q = when (is boolean (named defs c p)) (Some (both p q, both (negation p) (negation q) ∷ []))

  abbrev pub unequal_cases : Context → Tree → Option (Tree × List Tree)
  unequal_cases c (equal p q) = when (is boolean (named defs c p)) (Some (both p (negation q), both (negation p) q ∷ []))
  unequal_cases c t = None

  -- split into cases: the fact of the first child, and those of the others
  abbrev pub cases : Context → Tree → Option (Tree × List Tree)
  cases c (some ts) = disjuncts ts
  cases c (equal p q) = equal_cases c p q
  cases c (negation t) = unequal_cases c t
  cases c t = None

  abbrev pub split_cases : Context → Tree → Option (Context × List Context)
  split_cases c t = cases c t >>= λ p. appended defs c p.0 >>= λ d. children defs c p.1 >>= λ ds. Some (d, ds)

  -- split by a condition
  abbrev pub split_condition : Context → Tree → Tree → Option (Context × Context)
  split_condition c f t = when (is_some (named defs c t)) (conditions f t >>= λ p. appended_each defs c p.0 >>= λ d. appended_each defs c p.1 >>= λ e. Some (d, e))
