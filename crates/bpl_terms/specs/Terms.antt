-- The term of an expression, in which each name stands for what it names.
use Rattle.std.specs.Prelude.{ℕ, ◌+◌, pos, negsuc, Bool, true, false, List, map, Option, unwrap_or}
use Rattle.logic_core.specs.Tree.{Kind, int, Tree, num, truth as truth_term, free, bound, linear, mul, read, write, choose as choose_term, call, negation as negation_term, all, some, equal, at_most, for_all as for_all_term, exists as exists_term, Trees, no_trees, tree, Parts, no_parts, part, Patterns, no_patterns, pattern}
use Rattle.bpl_ast.specs.Tree.{Relation, eq, ne, lt, le, gt, ge, Quantifier, for_all, exists, Expr, expr, Node, number, truth, variable, apply, old, choose, quantified, iffs, implies, ands, ors, related, sums, products, negation, minus, indexed, Exprs, no_exprs, item, Terms, no_terms, plus, less, Indices, no_indices, at_index, update, Triggers, no_triggers, trigger, Groups}
use Rattle.bpl_scopes.specs.Scopes.{Entity, a_constant, a_global, a_function, a_synonym, a_procedure, Counts, Scope, Meaning, bound_to, stands_for, declared_as, nothing, meaning, hidden_in, names_of}
use Rattle.bpl_scopes.specs.Sorts.{sorts_of_names, within}
use Rattle.bpl_scopes.specs.Functions.{function_number}

-- constants, globals and the globals' entry values have the first numbers
abbrev pub global_number : Counts → ℕ → ℕ
global_number c k = c.constants + k

abbrev pub entry_number : Counts → ℕ → ℕ
entry_number c k = c.constants + (c.globals + k)

-- inside `old` a global stands for its entry value
abbrev pub global_at : Bool → Counts → ℕ → ℕ
global_at true c k = entry_number c k
global_at false c k = global_number c k

-- what stands where a fault leaves no term
abbrev pub no_term : Tree
no_term = num (pos 0)

abbrev pub entity_term : Bool → Counts → Entity → Tree
entity_term in_old c (a_constant k t) = free k
entity_term in_old c (a_global k t) = free (global_at in_old c k)
entity_term in_old c (a_function h) = no_term
entity_term in_old c (a_synonym t) = no_term
entity_term in_old c (a_procedure k d) = no_term

abbrev pub meaning_term : Bool → Counts → Meaning → Tree
meaning_term in_old c (bound_to i k) = bound i
meaning_term in_old c (stands_for v) = free v.number
meaning_term in_old c (declared_as e) = entity_term in_old c e
meaning_term in_old c nothing = no_term

-- it nests to the left
abbrev pub nested_left : (Tree → Tree → Tree) → Tree → Trees → Tree
nested_left f a no_trees = a
nested_left f a (tree b ts) = nested_left f (f a b) ts

abbrev pub left_of : (Tree → Tree → Tree) → Tree → Trees → Tree
left_of f none no_trees = none
left_of f none (tree a ts) = nested_left f a ts

-- p ==> q is Or(Not p, q), nested to the right
abbrev pub implied : Trees → Tree
implied no_trees = truth_term true
implied (tree p no_trees) = p
implied (tree p (tree q ts)) = some (tree (negation_term p) (tree (implied (tree q ts)) no_trees))

-- a + 1
abbrev pub one_more : Tree → Tree
one_more a = linear (part (pos 1) a no_parts) (pos 1)

abbrev pub comparison : Relation → Tree → Tree → Tree
comparison eq a b = equal a b
comparison ne a b = negation_term (equal a b)
comparison lt a b = at_most (one_more a) b
comparison le a b = at_most a b
comparison gt a b = at_most (one_more b) a
comparison ge a b = at_most b a

abbrev pub binder : Quantifier → List Kind → Patterns → Tree → Tree
binder for_all ks ps a = for_all_term ks ps a
binder exists ks ps a = exists_term ks ps a

abbrev pub sort_or_int : Option Kind → Kind
sort_or_int k = unwrap_or k int

abbrev pub bound_sorts : Scope → Groups → List Kind
bound_sorts s gs = map sort_or_int (sorts_of_names s.table (hidden_in s) (names_of gs))

abbrev mutual
  -- the test says whether the expression stands inside `old`
  pub term_in : Scope → Bool → Expr → Tree
  term_in s in_old (expr p n) = node_term s in_old n

  pub node_term : Scope → Bool → Node → Tree
  node_term s in_old (number n) = num (pos n)
  node_term s in_old (truth b) = truth_term b
  node_term s in_old (variable n) = meaning_term in_old s.counts (meaning s n.text)
  node_term s in_old (apply n xs) = call (function_number s.table n.text) (terms_in s in_old xs)
  node_term s in_old (old p x) = term_in s true x
  node_term s in_old (choose c x y) = choose_term (term_in s in_old c) (term_in s in_old x) (term_in s in_old y)
  node_term s in_old (quantified q p ps gs rs x) = binder q (bound_sorts s gs) (patterns_in (within s gs) in_old rs) (term_in (within s gs) in_old x)
  node_term s in_old (iffs xs) = left_of equal (truth_term true) (terms_in s in_old xs)
  node_term s in_old (implies xs) = implied (terms_in s in_old xs)
  node_term s in_old (ands xs) = all (terms_in s in_old xs)
  node_term s in_old (ors xs) = some (terms_in s in_old xs)
  node_term s in_old (related o x y) = comparison o (term_in s in_old x) (term_in s in_old y)
  node_term s in_old (sums x ts) = linear (part (pos 1) (term_in s in_old x) (parts_in s in_old ts)) (pos 0)
  node_term s in_old (products xs) = left_of mul (num (pos 1)) (terms_in s in_old xs)
  node_term s in_old (negation x) = negation_term (term_in s in_old x)
  node_term s in_old (minus x) = linear (part (negsuc 0) (term_in s in_old x) no_parts) (pos 0)
  node_term s in_old (indexed x is) = indexed_term s in_old (term_in s in_old x) is

  pub terms_in : Scope → Bool → Exprs → Trees
  terms_in s in_old no_exprs = no_trees
  terms_in s in_old (item x xs) = tree (term_in s in_old x) (terms_in s in_old xs)

  -- with coefficients 1 and -1
  pub parts_in : Scope → Bool → Terms → Parts
  parts_in s in_old no_terms = no_parts
  parts_in s in_old (plus x ts) = part (pos 1) (term_in s in_old x) (parts_in s in_old ts)
  parts_in s in_old (less x ts) = part (negsuc 0) (term_in s in_old x) (parts_in s in_old ts)

  pub indexed_term : Scope → Bool → Tree → Indices → Tree
  indexed_term s in_old m no_indices = m
  indexed_term s in_old m (at_index x is) = indexed_term s in_old (read m (term_in s in_old x)) is
  indexed_term s in_old m (update x y is) = indexed_term s in_old (write m (term_in s in_old x) (term_in s in_old y)) is

  pub patterns_in : Scope → Bool → Triggers → Patterns
  patterns_in s in_old no_triggers = no_patterns
  patterns_in s in_old (trigger p xs rs) = pattern (terms_in s in_old xs) (patterns_in s in_old rs)

-- an expression outside `old`
abbrev pub term_of : Scope → Expr → Tree
term_of s x = term_in s false x

-- the map after a store at these indices, or the value where there is none: m[i][j] := e is m := m[i := m[i][j := e]]
abbrev pub stored : Tree → Trees → Tree → Tree
stored m no_trees v = v
stored m (tree i is) v = write m i (stored (read m i) is v)
