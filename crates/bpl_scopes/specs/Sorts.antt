-- What a type stands for, and the sort of an expression, where it has one.
use Rattle.std.specs.Prelude.{ℕ, zero, suc, Bool, true, false, ◌&&◌, List, [], ◌∷◌, ◌++◌, map, length, reverse, Option, Some, None, option_map}
use Rattle.logic_terms.specs.Tree.{Kind, int, boolean, map as map_of}
use Rattle.logic_terms.specs.Wide.{◌>>=◌, when}
use Rattle.logic_terms.specs.Sorts.{is, read_sort, write_sort, choice_sort, equation_sort}
use Rattle.bpl_ast.specs.Place.{Name, Params, Ty, integer, boolean as truth_type, named, map_type, Tys, no_tys, ty}
use Rattle.bpl_ast.specs.Tree.{Relation, eq, ne, lt, le, gt, ge, Expr, expr, Node, number, truth, variable, apply, old, choose, quantified, iffs, implies, ands, ors, related, sums, products, negation, minus, indexed, Exprs, no_exprs, item, Terms, no_terms, plus, less, Indices, no_indices, at_index, update, Triggers, no_triggers, trigger, Groups}
use Rattle.bpl_ast.specs.Statement.{Argument}
use Rattle.bv_base.specs.Text.{is_among}
use Rattle.bpl_scopes.specs.declared.part.Part.{Part}
use Rattle.bpl_scopes.specs.declared.part.Part.TheVariants.{Axiom as in_axiom, Function as in_function, Requires as in_requires, Ensures as in_ensures, Body as in_body, ClauseOfGlobal as in_clause_of_global, ClauseOfIn as in_clause_of_in, ClauseOfOut as in_clause_of_out, ClauseOfLocal as in_clause_of_local}
use Rattle.bpl_scopes.specs.Scopes.{Text, Heading, Entity, a_constant, a_global, a_function, a_synonym, a_procedure, Table, names_of, entity_of, BoundVar, Scope, Meaning, bound_to, stands_for, declared_as, nothing, meaning, hidden_in}

-- the type that a synonym is declared with
abbrev pub synonym_in : Option Entity → Option Ty
synonym_in (Some (a_synonym t)) = t
synonym_in e = None

-- the one index type of a map is `int`
abbrev pub is_int_alone : List (Option Kind) → Bool
is_int_alone [] = false
is_int_alone (k ∷ []) = is int k
is_int_alone (j ∷ k ∷ ks) = false

-- a map has no sort where it has type parameters, or another domain than the one type `int`
abbrev pub map_sort_if : Bool → Option Params → Option Kind → Option Kind
map_sort_if b (Some ps) r = None
map_sort_if b None r = when b (option_map map_of r)

abbrev pub map_sort : Option Params → List (Option Kind) → Option Kind → Option Kind
map_sort ps ds r = map_sort_if (is_int_alone ds) ps r

-- the sort of a type, by the sorts of the names in it
abbrev mutual
  pub sort_by : (Text → Option Kind) → Ty → Option Kind
  sort_by f (integer p) = Some int
  sort_by f (truth_type p) = Some boolean
  sort_by f (named p n) = f n.text
  sort_by f (map_type p ps ds r) = map_sort ps (sorts_by f ds) (sort_by f r)

  pub sorts_by : (Text → Option Kind) → Tys → List (Option Kind)
  sorts_by f no_tys = []
  sorts_by f (ty t ts) = sort_by f t ∷ sorts_by f ts

-- the sort for which a name stands, by the sorts of the names in its type
abbrev pub sort_after : Table → (Text → Option Kind) → Text → Option Kind
sort_after t f n = synonym_in (entity_of t n) >>= λ s. sort_by f s

-- the sort for which a name stands, where at most k synonyms lead to it; a synonym that leads to itself has none
abbrev pub synonym_sort : Table → ℕ → Text → Option Kind
synonym_sort t zero n = None
synonym_sort t (suc k) n = sort_after t (synonym_sort t k) n

abbrev pub unless_hidden : {A : Type 0} → Bool → Option A → Option A
unless_hidden true a = None
unless_hidden false a = a

-- the sort of a type where variables hide these names
unfoldable pub sort_of_type : Table → List Text → Ty → Option Kind
sort_of_type t hidden s = sort_by (λ n. unless_hidden (is_among hidden n) (synonym_sort t (length t) n)) s

abbrev pub sorts_of_types : Table → List Text → Tys → List (Option Kind)
sorts_of_types t hidden ss = sorts_by (λ n. unless_hidden (is_among hidden n) (synonym_sort t (length t) n)) ss

-- a function's parameters, in order
abbrev pub argument_sorts : Table → List Argument → List (Option Kind)
argument_sorts t ins = map (λ (a : Argument). sort_of_type t [] a.type) ins

-- the sorts of names of groups
abbrev pub sorts_of_names : Table → List Text → List (Name × Ty) → List (Option Kind)
sorts_of_names t hidden ps = map (λ p. sort_of_type t hidden p.1) ps

-- bound variables: the innermost stands first
abbrev pub bounds_of : Table → List Text → List (Name × Ty) → List BoundVar
bounds_of t hidden ps = reverse (map (λ p. record { name = Some ((p.0).text); sort = sort_of_type t hidden p.1 }) ps)

-- the scope from `::` on
abbrev pub within : Scope → Groups → Scope
within s gs = record s { bounds = bounds_of s.table (hidden_in s) (names_of gs) ++ s.bounds }

-- a global variable stands in no axiom and no function
abbrev pub reads_globals : Part → Bool
reads_globals in_axiom = false
reads_globals in_function = false
reads_globals in_requires = true
reads_globals in_ensures = true
reads_globals in_body = true
reads_globals in_clause_of_global = true
reads_globals in_clause_of_in = true
reads_globals in_clause_of_out = true
reads_globals in_clause_of_local = true

abbrev pub sort_of_entity : Scope → Entity → Option Kind
sort_of_entity s (a_constant k t) = sort_of_type s.table [] t
sort_of_entity s (a_global k t) = when (reads_globals s.part) (sort_of_type s.table [] t)
sort_of_entity s (a_function h) = None
sort_of_entity s (a_synonym t) = None
sort_of_entity s (a_procedure k c) = None

-- a name that stands as a variable
abbrev pub sort_of_meaning : Scope → Meaning → Option Kind
sort_of_meaning s (bound_to i k) = k
sort_of_meaning s (stands_for v) = v.sort
sort_of_meaning s (declared_as e) = sort_of_entity s e
sort_of_meaning s nothing = None

-- a name that is applied
abbrev pub applied_heading : Meaning → Option Heading
applied_heading (declared_as (a_function h)) = Some h
applied_heading m = None

abbrev pub is_same : Option Kind → Option Kind → Bool
is_same None s = false
is_same (Some k) s = is k s

-- as many, and each has a sort, which is the other's
abbrev pub are_same : List (Option Kind) → List (Option Kind) → Bool
are_same [] [] = true
are_same [] (k ∷ ks) = false
are_same (j ∷ js) [] = false
are_same (j ∷ js) (k ∷ ks) = is_same j k && are_same js ks

abbrev pub application_sort : Table → Option Heading → List (Option Kind) → Option Kind
application_sort t None ks = None
application_sort t (Some h) ks = when (are_same (argument_sorts t h.ins) ks) (sort_of_type t [] h.result)

abbrev pub all_are : Kind → List (Option Kind) → Bool
all_are k [] = true
all_are k (j ∷ js) = is k j && all_are k js

abbrev pub all_known : List (Option Kind) → Bool
all_known [] = true
all_known (None ∷ ks) = false
all_known (Some k ∷ ks) = all_known ks

abbrev pub relation_sort : Relation → Option Kind → Option Kind → Option Kind
relation_sort eq x y = equation_sort x y
relation_sort ne x y = equation_sort x y
relation_sort lt x y = when (is int x && is int y) (Some boolean)
relation_sort le x y = when (is int x && is int y) (Some boolean)
relation_sort gt x y = when (is int x && is int y) (Some boolean)
relation_sort ge x y = when (is int x && is int y) (Some boolean)

-- an operand of a wrong sort, or with no sort for a fault in it, leaves the whole without a sort
abbrev mutual
  pub sort_in : Scope → Expr → Option Kind
  sort_in s (expr p n) = node_sort s n

  pub node_sort : Scope → Node → Option Kind
  node_sort s (number n) = Some int
  node_sort s (truth b) = Some boolean
  node_sort s (variable n) = sort_of_meaning s (meaning s n.text)
  node_sort s (apply n xs) = application_sort s.table (applied_heading (meaning s n.text)) (sorts_in s xs)
  node_sort s (old p x) = sort_in s x
  node_sort s (choose c x y) = choice_sort (sort_in s c) (sort_in s x) (sort_in s y)
  node_sort s (quantified q p ps gs rs x) = when (all_known (sorts_of_names s.table (hidden_in s) (names_of gs)) && (are_patterns (within s gs) rs && is boolean (sort_in (within s gs) x))) (Some boolean)
  node_sort s (iffs xs) = when (all_are boolean (sorts_in s xs)) (Some boolean)
  node_sort s (implies xs) = when (all_are boolean (sorts_in s xs)) (Some boolean)
  node_sort s (ands xs) = when (all_are boolean (sorts_in s xs)) (Some boolean)
  node_sort s (ors xs) = when (all_are boolean (sorts_in s xs)) (Some boolean)
  node_sort s (related o x y) = relation_sort o (sort_in s x) (sort_in s y)
  node_sort s (sums x ts) = when (is int (sort_in s x) && are_ints s ts) (Some int)
  node_sort s (products xs) = when (all_are int (sorts_in s xs)) (Some int)
  node_sort s (negation x) = when (is boolean (sort_in s x)) (Some boolean)
  node_sort s (minus x) = when (is int (sort_in s x)) (Some int)
  node_sort s (indexed x is) = indices_sort s (sort_in s x) is

  pub sorts_in : Scope → Exprs → List (Option Kind)
  sorts_in s no_exprs = []
  sorts_in s (item x xs) = sort_in s x ∷ sorts_in s xs

  pub are_ints : Scope → Terms → Bool
  are_ints s no_terms = true
  are_ints s (plus x ts) = is int (sort_in s x) && are_ints s ts
  are_ints s (less x ts) = is int (sort_in s x) && are_ints s ts

  -- what is left of the map's sort after each index
  pub indices_sort : Scope → Option Kind → Indices → Option Kind
  indices_sort s m no_indices = m
  indices_sort s m (at_index x is) = indices_sort s (read_sort m (sort_in s x)) is
  indices_sort s m (update x y is) = indices_sort s (write_sort m (sort_in s x) (sort_in s y)) is

  -- each pattern has a sort
  pub are_patterns : Scope → Triggers → Bool
  are_patterns s no_triggers = true
  are_patterns s (trigger p xs rs) = all_known (sorts_in s xs) && are_patterns s rs
