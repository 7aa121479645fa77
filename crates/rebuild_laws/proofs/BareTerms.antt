-- An expression and the same without its places have one term, and use the same names.
use Rattle.std.specs.Prelude.{◌≡◌, refl, Bool, true, List, [], ◌∷◌, ◌++◌, map, reverse, pos, negsuc, Option, Some, None}
use Rattle.std.proofs.Common.{ap, sym, ◌∙◌}
use Rattle.std.proofs.lemmas.List.{map-append}
use Rattle.logic_core.specs.Tree.{Kind, Tree, num, truth as truth_term, linear, mul, read, write, choose as choose_term, call, negation as negation_term, all, some, equal, tree, Parts, no_parts, pattern}
use Rattle.bpl_ast.specs.Place.{Name, Params, Ty, integer, boolean, named, map_type, Tys, no_tys, ty}
use Rattle.bpl_ast.specs.Tree.{Expr, expr, Node, number, truth, variable, apply, old, choose, quantified, iffs, implies, ands, ors, related, sums, products, negation, minus, indexed, Exprs, no_exprs, item, Terms, no_terms, plus, less, Indices, no_indices, at_index, update, Triggers, no_triggers, trigger, Groups, no_groups, group}
use Rattle.bpl_scopes.specs.Scopes.{Text, Table, names_of, typed_names, texts_of, BoundVar, Scope, hidden_in}
use Rattle.bpl_scopes.specs.Sorts.{map_sort_if, is_int_alone, map_sort, sort_by, sorts_by, sort_of_type, sorts_of_names, bounds_of, within}
use Rattle.bpl_scopes.specs.Functions.{names_in_type, names_in_types, function_number}
use Rattle.bpl_terms.specs.Terms.{left_of, implied, comparison, binder, sort_or_int, bound_sorts, term_in, node_term, terms_in, parts_in, indexed_term, patterns_in}
use Rattle.canonical_text.specs.Same.{bare_names, bare_params, bare_type, bare_types, bare, bare_node, bare_exprs, bare_terms, bare_indices, bare_triggers, bare_groups}

-- types
mutual
  type_names : (x : Ty) → names_in_type (bare_type x) ≡ names_in_type x
  type_names (integer p) = refl
  type_names (boolean p) = refl
  type_names (named p n) = refl
  type_names (map_type p ps ds r) = λ i. types_names ds i ++ type_names r i

  types_names : (xs : Tys) → names_in_types (bare_types xs) ≡ names_in_types xs
  types_names no_tys = refl
  types_names (ty x xs) = λ i. type_names x i ++ types_names xs i

params_same : (ps : Option Params) (b : Bool) (k : Option Kind) → map_sort_if b (bare_params ps) k ≡ map_sort_if b ps k
params_same None b k = refl
params_same (Some ps) b k = refl

mutual
  bare_sort : (f : Text → Option Kind) (x : Ty) → sort_by f (bare_type x) ≡ sort_by f x
  bare_sort f (integer p) = refl
  bare_sort f (boolean p) = refl
  bare_sort f (named p n) = refl
  bare_sort f (map_type p ps ds r) = (λ i. map_sort (bare_params ps) (bare_sorts f ds i) (bare_sort f r i)) ∙ params_same ps (is_int_alone (sorts_by f ds)) (sort_by f r)

  bare_sorts : (f : Text → Option Kind) (xs : Tys) → sorts_by f (bare_types xs) ≡ sorts_by f xs
  bare_sorts f no_tys = refl
  bare_sorts f (ty x xs) = λ i. bare_sort f x i ∷ bare_sorts f xs i

pub bare_type_sort : (t : Table) (hidden : List Text) (x : Ty) → sort_of_type t hidden (bare_type x) ≡ sort_of_type t hidden x
unfolding sort_of_type
bare_type_sort t hidden x = bare_sort _ x

-- the names of groups
pub bare_texts : (ns : List Name) → texts_of (bare_names ns) ≡ texts_of ns
bare_texts [] = refl
bare_texts (n ∷ ns) = ap (λ ms. n.text ∷ ms) (bare_texts ns)

-- what groups declare: each name with the sort of its type
abbrev declared : Table → List Text → List (Name × Ty) → List BoundVar
declared t hidden ps = map (λ (p : Name × Ty). record { name = Some ((p.0).text); sort = sort_of_type t hidden p.1 }) ps

typed_declared : (t : Table) (hidden : List Text) (ns : List Name) (x : Ty) → declared t hidden (typed_names (bare_names ns) (bare_type x)) ≡ declared t hidden (typed_names ns x)
typed_declared t hidden [] x = refl
typed_declared t hidden (n ∷ ns) x = λ i. record { name = Some n.text; sort = bare_type_sort t hidden x i } ∷ typed_declared t hidden ns x i

groups_declared : (t : Table) (hidden : List Text) (gs : Groups) → declared t hidden (names_of (bare_groups gs)) ≡ declared t hidden (names_of gs)
groups_declared t hidden no_groups = refl
groups_declared t hidden (group ns x c gs) =
    map-append _ (typed_names (bare_names ns) (bare_type x)) (names_of (bare_groups gs)) ∙ (λ i. typed_declared t hidden ns x i ++ groups_declared t hidden gs i) ∙ sym (map-append _ (typed_names ns x) (names_of gs))

pub bare_bounds : (t : Table) (hidden : List Text) (gs : Groups) → bounds_of t hidden (names_of (bare_groups gs)) ≡ bounds_of t hidden (names_of gs)
bare_bounds t hidden gs = ap reverse (groups_declared t hidden gs)

pub bare_within : (s : Scope) (gs : Groups) → within s (bare_groups gs) ≡ within s gs
bare_within s gs = λ i. record s { bounds = bare_bounds s.table (hidden_in s) gs i ++ s.bounds }

typed_sorts : (t : Table) (hidden : List Text) (ns : List Name) (x : Ty) → sorts_of_names t hidden (typed_names (bare_names ns) (bare_type x)) ≡ sorts_of_names t hidden (typed_names ns x)
typed_sorts t hidden [] x = refl
typed_sorts t hidden (n ∷ ns) x = λ i. bare_type_sort t hidden x i ∷ typed_sorts t hidden ns x i

pub groups_sorts : (t : Table) (hidden : List Text) (gs : Groups) → sorts_of_names t hidden (names_of (bare_groups gs)) ≡ sorts_of_names t hidden (names_of gs)
groups_sorts t hidden no_groups = refl
groups_sorts t hidden (group ns x c gs) =
    map-append _ (typed_names (bare_names ns) (bare_type x)) (names_of (bare_groups gs)) ∙ (λ i. typed_sorts t hidden ns x i ++ groups_sorts t hidden gs i) ∙ sym (map-append _ (typed_names ns x) (names_of gs))

bare_bound_sorts : (s : Scope) (gs : Groups) → bound_sorts s (bare_groups gs) ≡ bound_sorts s gs
bare_bound_sorts s gs = ap (map sort_or_int) (groups_sorts s.table (hidden_in s) gs)

-- terms
mutual
  pub bare_term : (s : Scope) (o : Bool) (x : Expr) → term_in s o (bare x) ≡ term_in s o x
  bare_term s o (expr p n) = bare_node_term s o n

  bare_node_term : (s : Scope) (o : Bool) (n : Node) → node_term s o (bare_node n) ≡ node_term s o n
  bare_node_term s o (number n) = refl
  bare_node_term s o (truth b) = refl
  bare_node_term s o (variable n) = refl
  bare_node_term s o (apply n xs) = ap (call (function_number s.table n.text)) (bare_terms_in s o xs)
  bare_node_term s o (old p x) = bare_term s true x
  bare_node_term s o (choose c x y) = λ i. choose_term (bare_term s o c i) (bare_term s o x i) (bare_term s o y i)
  bare_node_term s o (quantified q p ps gs rs x) =
      (λ i. binder q (bare_bound_sorts s gs i) (patterns_in (bare_within s gs i) o (bare_triggers rs)) (term_in (bare_within s gs i) o (bare x)))
      ∙ (λ i. binder q (bound_sorts s gs) (bare_patterns (within s gs) o rs i) (bare_term (within s gs) o x i))
  bare_node_term s o (iffs xs) = ap (left_of equal (truth_term true)) (bare_terms_in s o xs)
  bare_node_term s o (implies xs) = ap implied (bare_terms_in s o xs)
  bare_node_term s o (ands xs) = ap all (bare_terms_in s o xs)
  bare_node_term s o (ors xs) = ap some (bare_terms_in s o xs)
  bare_node_term s o (related r x y) = λ i. comparison r (bare_term s o x i) (bare_term s o y i)
  bare_node_term s o (sums x ts) = λ i. linear (Parts.part (pos 1) (bare_term s o x i) (bare_parts s o ts i)) (pos 0)
  bare_node_term s o (products xs) = ap (left_of mul (num (pos 1))) (bare_terms_in s o xs)
  bare_node_term s o (negation x) = ap negation_term (bare_term s o x)
  bare_node_term s o (minus x) = λ i. linear (Parts.part (negsuc 0) (bare_term s o x i) no_parts) (pos 0)
  bare_node_term s o (indexed x js) = (λ i. indexed_term s o (bare_term s o x i) (bare_indices js)) ∙ bare_indexed s o (term_in s o x) js

  pub bare_terms_in : (s : Scope) (o : Bool) (xs : Exprs) → terms_in s o (bare_exprs xs) ≡ terms_in s o xs
  bare_terms_in s o no_exprs = refl
  bare_terms_in s o (item x xs) = λ i. tree (bare_term s o x i) (bare_terms_in s o xs i)

  bare_parts : (s : Scope) (o : Bool) (ts : Terms) → parts_in s o (bare_terms ts) ≡ parts_in s o ts
  bare_parts s o no_terms = refl
  bare_parts s o (plus x ts) = λ i. Parts.part (pos 1) (bare_term s o x i) (bare_parts s o ts i)
  bare_parts s o (less x ts) = λ i. Parts.part (negsuc 0) (bare_term s o x i) (bare_parts s o ts i)

  bare_indexed : (s : Scope) (o : Bool) (m : Tree) (js : Indices) → indexed_term s o m (bare_indices js) ≡ indexed_term s o m js
  bare_indexed s o m no_indices = refl
  bare_indexed s o m (at_index x js) = (λ i. indexed_term s o (read m (bare_term s o x i)) (bare_indices js)) ∙ bare_indexed s o (read m (term_in s o x)) js
  bare_indexed s o m (update x y js) = (λ i. indexed_term s o (write m (bare_term s o x i) (bare_term s o y i)) (bare_indices js)) ∙ bare_indexed s o (write m (term_in s o x) (term_in s o y)) js

  bare_patterns : (s : Scope) (o : Bool) (rs : Triggers) → patterns_in s o (bare_triggers rs) ≡ patterns_in s o rs
  bare_patterns s o no_triggers = refl
  bare_patterns s o (trigger p xs rs) = λ i. pattern (bare_terms_in s o xs i) (bare_patterns s o rs i)
