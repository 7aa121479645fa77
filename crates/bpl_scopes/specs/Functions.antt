-- What leads on to what: functions by the functions that they apply, synonyms by the synonyms in them; logical functions, and the numbers of functions.
use Rattle.std.specs.Prelude.{ℕ, zero, suc, ◌+◌, Bool, true, false, ◌||◌, List, [], ◌∷◌, ◌++◌, map, length, flat_map, fold, filter, Option, Some, None, bytes_eq}
use Rattle.std.specs.List.{list_any}
use Rattle.bpl_ast.specs.Place.{Name, Ty, integer, boolean, named, map_type, Tys, no_tys, ty}
use Rattle.bpl_ast.specs.Tree.{Relation, eq, ne, lt, le, gt, ge, Expr, expr, Node, number, truth, variable, apply, old, choose, quantified, iffs, implies, ands, ors, related, sums, products, negation, minus, indexed, Exprs, no_exprs, item, Terms, no_terms, plus, less, Indices, no_indices, at_index, update, Triggers, no_triggers, trigger, Groups, no_groups, group, Clause, no_clause, clause}
use Rattle.bpl_ast.specs.Statement.{Argument}
use Rattle.bv_base.specs.Text.{is_among}
use Rattle.bpl_scopes.specs.Scopes.{Text, Heading, Entity, a_function, a_synonym, Entry, Table, names_of, only_names, texts_of, entity_of}

-- the function that a name stands for
abbrev pub function_in : Option Entity → Option Heading
function_in (Some (a_function h)) = Some h
function_in e = None

-- the sides of a comparison in the order of its term
abbrev pub in_order : {A : Type 0} → Relation → List A → List A → List A
in_order eq xs ys = xs ++ ys
in_order ne xs ys = xs ++ ys
in_order lt xs ys = xs ++ ys
in_order le xs ys = xs ++ ys
in_order gt xs ys = ys ++ xs
in_order ge xs ys = ys ++ xs

-- a name that is applied, where no variable hides it
abbrev pub name_applies : List Text → Text → List Text
name_applies h n = elim (is_among h n) [ true ↦ [] | false ↦ n ∷ [] ]

-- the names applied in an expression where variables hide some, in the order of its term
abbrev mutual
  pub applied_in : List Text → Expr → List Text
  applied_in h (expr p n) = node_applies h n

  pub node_applies : List Text → Node → List Text
  node_applies h (number n) = []
  node_applies h (truth b) = []
  node_applies h (variable n) = []
  node_applies h (apply n xs) = name_applies h n.text ++ all_applied h xs
  node_applies h (old p x) = applied_in h x
  node_applies h (choose c x y) = applied_in h c ++ (applied_in h x ++ applied_in h y)
  node_applies h (quantified q p ps gs rs x) = groups_apply h gs ++ (triggers_apply (texts_of (only_names (names_of gs)) ++ h) rs ++ applied_in (texts_of (only_names (names_of gs)) ++ h) x)
  node_applies h (iffs xs) = all_applied h xs
  node_applies h (implies xs) = all_applied h xs
  node_applies h (ands xs) = all_applied h xs
  node_applies h (ors xs) = all_applied h xs
  node_applies h (related o x y) = in_order o (applied_in h x) (applied_in h y)
  node_applies h (sums x ts) = applied_in h x ++ terms_apply h ts
  node_applies h (products xs) = all_applied h xs
  node_applies h (negation x) = applied_in h x
  node_applies h (minus x) = applied_in h x
  node_applies h (indexed x is) = applied_in h x ++ indices_apply h is

  pub all_applied : List Text → Exprs → List Text
  all_applied h no_exprs = []
  all_applied h (item x xs) = applied_in h x ++ all_applied h xs

  pub terms_apply : List Text → Terms → List Text
  terms_apply h no_terms = []
  terms_apply h (plus x ts) = applied_in h x ++ terms_apply h ts
  terms_apply h (less x ts) = applied_in h x ++ terms_apply h ts

  pub indices_apply : List Text → Indices → List Text
  indices_apply h no_indices = []
  indices_apply h (at_index x is) = applied_in h x ++ indices_apply h is
  indices_apply h (update x y is) = applied_in h x ++ (applied_in h y ++ indices_apply h is)

  pub triggers_apply : List Text → Triggers → List Text
  triggers_apply h no_triggers = []
  triggers_apply h (trigger p xs rs) = all_applied h xs ++ triggers_apply h rs

  -- where clauses count as any formula, before the variables of their quantifier
  pub groups_apply : List Text → Groups → List Text
  groups_apply h no_groups = []
  groups_apply h (group ns t c gs) = clause_applies h c ++ groups_apply h gs

  pub clause_applies : List Text → Clause → List Text
  clause_applies h no_clause = []
  clause_applies h (clause p x) = applied_in h x

-- whether a quantifier stands in an expression
abbrev mutual
  pub is_quantified : Expr → Bool
  is_quantified (expr p n) = node_quantified n

  pub node_quantified : Node → Bool
  node_quantified (number n) = false
  node_quantified (truth b) = false
  node_quantified (variable n) = false
  node_quantified (apply n xs) = any_quantified xs
  node_quantified (old p x) = is_quantified x
  node_quantified (choose c x y) = is_quantified c || (is_quantified x || is_quantified y)
  node_quantified (quantified q p ps gs rs x) = true
  node_quantified (iffs xs) = any_quantified xs
  node_quantified (implies xs) = any_quantified xs
  node_quantified (ands xs) = any_quantified xs
  node_quantified (ors xs) = any_quantified xs
  node_quantified (related o x y) = is_quantified x || is_quantified y
  node_quantified (sums x ts) = is_quantified x || terms_quantified ts
  node_quantified (products xs) = any_quantified xs
  node_quantified (negation x) = is_quantified x
  node_quantified (minus x) = is_quantified x
  node_quantified (indexed x is) = is_quantified x || indices_quantified is

  pub any_quantified : Exprs → Bool
  any_quantified no_exprs = false
  any_quantified (item x xs) = is_quantified x || any_quantified xs

  pub terms_quantified : Terms → Bool
  terms_quantified no_terms = false
  terms_quantified (plus x ts) = is_quantified x || terms_quantified ts
  terms_quantified (less x ts) = is_quantified x || terms_quantified ts

  pub indices_quantified : Indices → Bool
  indices_quantified no_indices = false
  indices_quantified (at_index x is) = is_quantified x || indices_quantified is
  indices_quantified (update x y is) = is_quantified x || (is_quantified y || indices_quantified is)

abbrev pub named_argument : Argument → List Name
named_argument a = elim a.name [ None ↦ [] | Some n ↦ n ∷ [] ]

-- the names of a function's parameters
abbrev pub argument_names : List Argument → List Name
argument_names ins = flat_map named_argument ins

-- what a function's body applies
abbrev pub applied_by : Option Heading → List Text
applied_by None = []
applied_by (Some h) = elim h.value [ None ↦ [] | Some x ↦ applied_in (texts_of (argument_names h.ins)) x ]

abbrev pub has_quantifier : Option Heading → Bool
has_quantifier None = false
has_quantifier (Some h) = elim h.value [ None ↦ false | Some x ↦ is_quantified x ]

-- the names in a type
abbrev mutual
  pub names_in_type : Ty → List Text
  names_in_type (integer p) = []
  names_in_type (boolean p) = []
  names_in_type (named p n) = n.text ∷ []
  names_in_type (map_type p ps ds r) = names_in_types ds ++ names_in_type r

  pub names_in_types : Tys → List Text
  names_in_types no_tys = []
  names_in_types (ty t ts) = names_in_type t ++ names_in_types ts

abbrev pub is_function : Option Entity → Bool
is_function (Some (a_function h)) = true
is_function e = false

abbrev pub is_synonym : Option Entity → Bool
is_synonym (Some (a_synonym s)) = true
is_synonym e = false

module _ (t : Table) where
  -- a function leads to the functions that it applies, a synonym to the synonyms in its type
  abbrev pub next_names : Option Entity → List Text
  next_names (Some (a_function h)) = filter (λ n. is_function (entity_of t n)) (applied_by (Some h))
  next_names (Some (a_synonym (Some s))) = filter (λ n. is_synonym (entity_of t n)) (names_in_type s)
  next_names e = []

  -- one name leads to another in at least one step and at most k
  abbrev pub leads : ℕ → Text → Text → Bool
  leads zero n m = false
  leads (suc k) n m = list_any (λ c. elim (bytes_eq c m) [ true ↦ true | false ↦ leads k c m ]) (next_names (entity_of t n))

  -- a way to itself that meets no name twice is no longer than the table
  unfoldable pub leads_to_itself : Text → Bool
  leads_to_itself n = leads (length t) n n

  -- a function is logical where its body has a quantifier or applies a logical function; here in at most k steps
  abbrev pub is_logical_within : ℕ → Text → Bool
  is_logical_within zero n = false
  is_logical_within (suc k) n = elim (has_quantifier (function_in (entity_of t n)))
      [ true ↦ true | false ↦ list_any (is_logical_within k) (next_names (entity_of t n)) ]

  unfoldable pub is_logical : Text → Bool
  is_logical n = is_logical_within (length t) n

  -- a walk: a function that is not yet numbered has its body walked first, and then takes the next number
  abbrev pub numbered : ℕ → List Text → Text → List Text
  numbered zero done n = done
  numbered (suc k) done n = elim (is_among done n)
      [ true ↦ done | false ↦ fold (numbered k) done (next_names (entity_of t n)) ++ n ∷ [] ]

  abbrev pub function_names : List Text
  function_names = filter (λ n. is_function (entity_of t n)) (map (λ (e : Entry). e.name) t)

  -- the functions in the order of their numbers
  abbrev pub in_number_order : List Text
  in_number_order = fold (numbered (length t)) [] function_names

-- how many names stand before that one
abbrev pub position_of : List Text → Text → ℕ
position_of [] n = 0
position_of (m ∷ ms) n = elim (bytes_eq m n) [ true ↦ 0 | false ↦ position_of ms n + 1 ]

unfoldable pub function_number : Table → Text → ℕ
function_number t n = position_of (in_number_order t) n
