-- What is read of names, types and expressions over two tables that differ in the values of functions alone is the same: meanings but for these values, sorts, faults and terms.
use Rattle.std.proofs.Common.{◌≡◌, ◌⊎◌, refl, sym, ap, ◌∙◌, inl, inr, ℕ, ◌+◌, nat_eq, Bool, true, false, ◌&&◌, not, List, [], ◌∷◌, ◌++◌, map, length, Option, Some, None, pos, negsuc}
use Rattle.bv_base.specs.Text.{is_among}
use Rattle.bv_base.specs.declared.place.Place.{Place}
use Rattle.logic_terms.specs.Tree.{Kind, int, boolean, Tree, num, call, negation as negation_term, all, some, equal, mul, read, write, linear, truth as truth_term, choose as choose_term, tree, no_parts, part, pattern}
use Rattle.logic_terms.specs.Wide.{when}
use Rattle.logic_terms.specs.Sorts.{is, read_sort, write_sort, choice_sort}
use Rattle.bpl_ast.specs.Place.{Name, Ty, integer, boolean as truth_type, named, map_type, Tys, no_tys, ty}
use Rattle.bpl_ast.specs.Tree.{Expr, expr, first_place, Node, number, truth, variable, apply, old, choose, quantified, iffs, implies, ands, ors, related, sums, products, negation, minus, indexed, Exprs, no_exprs, item, Terms, no_terms, plus, less, Indices, no_indices, at_index, update, Triggers, no_triggers, trigger, Groups, no_groups, group, Clause, no_clause, clause}
use Rattle.bpl_scopes.specs.declared.fault.TypeKind.TheVariants.{Twice as twice, Kind as wrong_kind, Trigger as bad_trigger, QuantifierHere as quantifier_here, Arity as arity}
use Rattle.bpl_scopes.specs.declared.part.Part.{Part}
use Rattle.bpl_scopes.specs.declared.part.Part.TheVariants.{Axiom as in_axiom, Function as in_function, Requires as in_requires, Ensures as in_ensures, Body as in_body, ClauseOfGlobal as in_clause_of_global, ClauseOfIn as in_clause_of_in, ClauseOfOut as in_clause_of_out, ClauseOfLocal as in_clause_of_local}
use Rattle.bpl_scopes.specs.Fault.{fault, unless, if_so, again}
use Rattle.bpl_scopes.specs.Scopes.{Text, Heading, Entity, a_constant, a_global, a_function, a_synonym, a_procedure, Table, Counts, names_of, only_names, texts_of, entity_of, Var, BoundVar, Scope, Meaning, bound_to, stands_for, declared_as, nothing, has_name, var_of, entity_in, declared_meaning, free_meaning, bound_meaning, bound_names, meaning}
use Rattle.bpl_scopes.specs.Sorts.{is_int_alone, sort_of_type, argument_sorts, sorts_of_names, bounds_of, reads_globals, sort_of_meaning, applied_heading, are_same, application_sort, all_are, all_known, relation_sort, sort_in, node_sort, sorts_in, are_ints, indices_sort, are_patterns}
use Rattle.bpl_scopes.specs.Functions.{is_logical, function_number, position_of}
use Rattle.bpl_scopes.specs.TypeFaults.{type_name_faults, params_faults, domain_faults, name_faults, type_faults, types_faults, group_type_faults, group_where_faults}
use Rattle.bpl_faults.specs.NameFaults.{variable_faults, application_faults, old_faults, sort_faults, same_sort_faults, map_faults, entry_sort}
use Rattle.bpl_faults.specs.ExprFaults.{is_trigger, comparison_faults, parameter_sorts, count, expr_faults, node_faults, operand_faults, argument_faults, term_faults, index_faults, trigger_faults, pattern_faults, faults_as, formula_faults, clause_faults, group_clause_faults}
use Rattle.bpl_terms.specs.Terms.{meaning_term, left_of, implied, comparison, binder, sort_or_int, term_in, node_term, terms_in, parts_in, indexed_term, patterns_in}
use Rattle.body_revision.proofs.TablesAlike.{LikeHeading, LikeFound, LikeTables, of_found, like_found, logical_like, order_like, type_like, types_like, arguments_like, groups_like, bounds_like}

-- ---- meanings

pub record LikeApplied (m n : Meaning) : Type 0 where
  pub before : Heading
  pub after : Heading
  pub like : LikeHeading before after
  pub old : m ≡ declared_as (a_function before)
  pub new : n ≡ declared_as (a_function after)

abbrev LikeMeaning : Meaning → Meaning → Type 0
LikeMeaning m n = (m ≡ n) ⊎ LikeApplied m n

of_meanings : {A : Type 0} (f : Meaning → A) → ((g h : Heading) → LikeHeading g h → f (declared_as (a_function g)) ≡ f (declared_as (a_function h))) → (m n : Meaning) → LikeMeaning m n → f m ≡ f n
of_meanings f k m n (inl s) = ap f s
of_meanings f k m n (inr r) = ap f r.old ∙ k r.before r.after r.like ∙ sym (ap f r.new)

function_means : (p : Part) (h : Heading) → entity_in p (a_function h) ≡ declared_as (a_function h)
function_means in_axiom h = refl
function_means in_function h = refl
function_means in_requires h = refl
function_means in_ensures h = refl
function_means in_body h = refl
function_means in_clause_of_global h = refl
function_means in_clause_of_in h = refl
function_means in_clause_of_out h = refl
function_means in_clause_of_local h = refl

declared_like : (p : Part) (o q : Option Entity) → LikeFound o q → LikeMeaning (declared_meaning p o) (declared_meaning p q)
declared_like p o q (inl s) = inl (ap (declared_meaning p) s)
declared_like p o q (inr r) = inr (record {
  before = r.before;
  after = r.after;
  like = r.like;
  old = ap (declared_meaning p) r.old ∙ function_means p r.before;
  new = ap (declared_meaning p) r.new ∙ function_means p r.after;
})

bound_like : (k : ℕ) (bs : List BoundVar) (n : Text) (m l : Meaning) → LikeMeaning m l → LikeMeaning (bound_meaning k bs n m) (bound_meaning k bs n l)
bound_like k [] n m l h = h
bound_like k (b ∷ bs) n m l h = by (has_name n b.name) (bound_like (k + 1) bs n m l h)
  where
    by : (c : Bool) → LikeMeaning (bound_meaning (k + 1) bs n m) (bound_meaning (k + 1) bs n l) → LikeMeaning (elim c [ true ↦ bound_to k b.sort | false ↦ bound_meaning (k + 1) bs n m ]) (elim c [ true ↦ bound_to k b.sort | false ↦ bound_meaning (k + 1) bs n l ])
    by true later = inl refl
    by false later = later

abbrev pub scope : Table → Counts → Part → List Var → List BoundVar → Scope
scope t c p vs bs = record { table = t; counts = c; part = p; vars = vs; bounds = bs }

-- ---- types

type_name_like : (p : Place) (o q : Option Entity) → LikeFound o q → type_name_faults o p ≡ type_name_faults q p
type_name_like p = of_found (λ o. type_name_faults o p) (λ g h l. refl)

module _ (t u : Table) (like : LikeTables t u) where
  module _ (hidden : List Text) where
    name_like : (n : Name) → name_faults t hidden n ≡ name_faults u hidden n
    name_like n = λ i. elim (is_among hidden n.text) [ true ↦ fault wrong_kind n.at | false ↦ type_name_like n.at (entity_of t n.text) (entity_of u n.text) (like_found t u like n.text) i ]

    mutual
      pub type_faults_like : (s : Ty) → type_faults t hidden s ≡ type_faults u hidden s
      type_faults_like (integer p) = refl
      type_faults_like (truth_type p) = refl
      type_faults_like (named p n) = name_like n
      type_faults_like (map_type p ps ds r) = λ i. params_faults ps ++ (domain_faults (is_int_alone (types_like t u like hidden ds i)) p ds ++ (types_faults_like ds i ++ type_faults_like r i))

      types_faults_like : (ss : Tys) → types_faults t hidden ss ≡ types_faults u hidden ss
      types_faults_like no_tys = refl
      types_faults_like (ty s ss) = λ i. type_faults_like s i ++ types_faults_like ss i

    pub group_types_like : (gs : Groups) → group_type_faults t hidden gs ≡ group_type_faults u hidden gs
    group_types_like no_groups = refl
    group_types_like (group ns s c gs) = λ i. type_faults_like s i ++ group_types_like gs i

  pub number_like : (n : Text) → function_number t n ≡ function_number u n
  unfolding function_number
  number_like n = ap (λ ns. position_of ns n) (order_like t u like)

  application_like : (o : Option Heading) (ks : List (Option Kind)) → application_sort t o ks ≡ application_sort u o ks
  application_like None ks = refl
  application_like (Some h) ks = λ i. when (are_same (arguments_like t u like h.ins i) ks) (type_like t u like [] h.result i)

  -- ---- expressions

  module _ (c : Counts) (p : Part) (vs : List Var) where
    abbrev here : List BoundVar → Scope
    here bs = scope t c p vs bs

    abbrev there : List BoundVar → Scope
    there bs = scope u c p vs bs

    abbrev hides : List BoundVar → List Text
    hides bs = bound_names bs ++ map (λ (v : Var). v.name) vs

    abbrev more : Groups → List BoundVar → List BoundVar
    more gs bs = bounds_of t (hides bs) (names_of gs) ++ bs

    free_like : (n : Text) (o : Option Var) → LikeMeaning (free_meaning (here []) n o) (free_meaning (there []) n o)
    free_like n (Some v) = inl refl
    free_like n None = declared_like p (entity_of t n) (entity_of u n) (like_found t u like n)

    meanings_like : (bs : List BoundVar) (n : Text) → LikeMeaning (meaning (here bs) n) (meaning (there bs) n)
    unfolding meaning
    meanings_like bs n = bound_like 0 bs n _ _ (free_like n (var_of vs n))

    pub of_meaning : {A : Type 0} (bs : List BoundVar) (n : Text) (f : Meaning → A) → ((g h : Heading) → LikeHeading g h → f (declared_as (a_function g)) ≡ f (declared_as (a_function h))) → f (meaning (here bs) n) ≡ f (meaning (there bs) n)
    of_meaning bs n f k = of_meanings f k (meaning (here bs) n) (meaning (there bs) n) (meanings_like bs n)

    -- ---- sorts

    sort_of_like : (bs : List BoundVar) (m : Meaning) → sort_of_meaning (here bs) m ≡ sort_of_meaning (there bs) m
    sort_of_like bs (bound_to i k) = refl
    sort_of_like bs (stands_for v) = refl
    sort_of_like bs (declared_as (a_constant k s)) = type_like t u like [] s
    sort_of_like bs (declared_as (a_global k s)) = λ i. when (reads_globals p) (type_like t u like [] s i)
    sort_of_like bs (declared_as (a_function h)) = refl
    sort_of_like bs (declared_as (a_synonym s)) = refl
    sort_of_like bs (declared_as (a_procedure k d)) = refl
    sort_of_like bs nothing = refl

    pub variable_like : (bs : List BoundVar) (n : Text) → sort_of_meaning (here bs) (meaning (here bs) n) ≡ sort_of_meaning (there bs) (meaning (there bs) n)
    variable_like bs n = of_meaning bs n (sort_of_meaning (here bs)) (λ g h l. refl) ∙ sort_of_like bs (meaning (there bs) n)

    applied_like : (bs : List BoundVar) (n : Text) (ks : List (Option Kind)) → application_sort t (applied_heading (meaning (here bs) n)) ks ≡ application_sort u (applied_heading (meaning (there bs) n)) ks
    applied_like bs n ks =
        of_meaning bs n (λ m. application_sort t (applied_heading m) ks) (λ g h l. λ i. when (are_same (argument_sorts t (l.ins i)) ks) (sort_of_type t [] (l.result i)))
        ∙ application_like (applied_heading (meaning (there bs) n)) ks

    mutual
      pub sort_like : (bs : List BoundVar) (x : Expr) → sort_in (here bs) x ≡ sort_in (there bs) x
      sort_like bs (expr q n) = node_sort_like bs n

      node_sort_like : (bs : List BoundVar) (n : Node) → node_sort (here bs) n ≡ node_sort (there bs) n
      node_sort_like bs (number n) = refl
      node_sort_like bs (truth b) = refl
      node_sort_like bs (variable n) = variable_like bs n.text
      node_sort_like bs (apply n xs) = ap (application_sort t (applied_heading (meaning (here bs) n.text))) (sorts_like bs xs) ∙ applied_like bs n.text (sorts_in (there bs) xs)
      node_sort_like bs (old q x) = sort_like bs x
      node_sort_like bs (choose d x y) = λ i. choice_sort (sort_like bs d i) (sort_like bs x i) (sort_like bs y i)
      node_sort_like bs (quantified q r ps gs rs x) =
          (λ i. when (all_known (groups_like t u like (hides bs) (names_of gs) i) && (are_patterns_like (more gs bs) rs i && is boolean (sort_like (more gs bs) x i))) (Some boolean))
          ∙ (λ i. when (all_known (sorts_of_names u (hides bs) (names_of gs)) && (are_patterns (there (bounds_like t u like (hides bs) (names_of gs) i ++ bs)) rs && is boolean (sort_in (there (bounds_like t u like (hides bs) (names_of gs) i ++ bs)) x))) (Some boolean))
      node_sort_like bs (iffs xs) = λ i. when (all_are boolean (sorts_like bs xs i)) (Some boolean)
      node_sort_like bs (implies xs) = λ i. when (all_are boolean (sorts_like bs xs i)) (Some boolean)
      node_sort_like bs (ands xs) = λ i. when (all_are boolean (sorts_like bs xs i)) (Some boolean)
      node_sort_like bs (ors xs) = λ i. when (all_are boolean (sorts_like bs xs i)) (Some boolean)
      node_sort_like bs (related o x y) = λ i. relation_sort o (sort_like bs x i) (sort_like bs y i)
      node_sort_like bs (sums x ts) = λ i. when (is int (sort_like bs x i) && are_ints_like bs ts i) (Some int)
      node_sort_like bs (products xs) = λ i. when (all_are int (sorts_like bs xs i)) (Some int)
      node_sort_like bs (negation x) = λ i. when (is boolean (sort_like bs x i)) (Some boolean)
      node_sort_like bs (minus x) = λ i. when (is int (sort_like bs x i)) (Some int)
      node_sort_like bs (indexed x is) = ap (λ m. indices_sort (here bs) m is) (sort_like bs x) ∙ indices_sort_like bs (sort_in (there bs) x) is

      sorts_like : (bs : List BoundVar) (xs : Exprs) → sorts_in (here bs) xs ≡ sorts_in (there bs) xs
      sorts_like bs no_exprs = refl
      sorts_like bs (item x xs) = λ i. sort_like bs x i ∷ sorts_like bs xs i

      are_ints_like : (bs : List BoundVar) (ts : Terms) → are_ints (here bs) ts ≡ are_ints (there bs) ts
      are_ints_like bs no_terms = refl
      are_ints_like bs (plus x ts) = λ i. is int (sort_like bs x i) && are_ints_like bs ts i
      are_ints_like bs (less x ts) = λ i. is int (sort_like bs x i) && are_ints_like bs ts i

      indices_sort_like : (bs : List BoundVar) (m : Option Kind) (is : Indices) → indices_sort (here bs) m is ≡ indices_sort (there bs) m is
      indices_sort_like bs m no_indices = refl
      indices_sort_like bs m (at_index x is) = ap (λ k. indices_sort (here bs) (read_sort m k) is) (sort_like bs x) ∙ indices_sort_like bs (read_sort m (sort_in (there bs) x)) is
      indices_sort_like bs m (update x y is) = (λ i. indices_sort (here bs) (write_sort m (sort_like bs x i) (sort_like bs y i)) is) ∙ indices_sort_like bs (write_sort m (sort_in (there bs) x) (sort_in (there bs) y)) is

      are_patterns_like : (bs : List BoundVar) (rs : Triggers) → are_patterns (here bs) rs ≡ are_patterns (there bs) rs
      are_patterns_like bs no_triggers = refl
      are_patterns_like bs (trigger q xs rs) = λ i. all_known (sorts_like bs xs i) && are_patterns_like bs rs i

    -- ---- faults

    application_faults_over : (bs : List BoundVar) (f : Bool) (n : Text) (m : Meaning) (k : ℕ) (q : Place) → application_faults (here bs) f n m k q ≡ application_faults (there bs) f n m k q
    application_faults_over bs f n (bound_to i s) k q = refl
    application_faults_over bs f n (stands_for v) k q = refl
    application_faults_over bs f n (declared_as (a_constant j s)) k q = refl
    application_faults_over bs f n (declared_as (a_global j s)) k q = refl
    application_faults_over bs f n (declared_as (a_function h)) k q = λ i. unless (nat_eq (length h.ins) k) arity q ++ if_so (not f && logical_like t u like n i) quantifier_here q
    application_faults_over bs f n (declared_as (a_synonym s)) k q = refl
    application_faults_over bs f n (declared_as (a_procedure j d)) k q = refl
    application_faults_over bs f n nothing k q = refl

    application_faults_like : (bs : List BoundVar) (f : Bool) (n : Text) (k : ℕ) (q : Place) → application_faults (here bs) f n (meaning (here bs) n) k q ≡ application_faults (there bs) f n (meaning (there bs) n) k q
    application_faults_like bs f n k q =
        of_meaning bs n (λ m. application_faults (here bs) f n m k q) (λ g h l. λ i. unless (nat_eq (length (l.ins i)) k) arity q ++ if_so (not f && is_logical t n) quantifier_here q)
        ∙ application_faults_over bs f n (meaning (there bs) n) k q

    parameters_over : (bs : List BoundVar) (o : Option Heading) → parameter_sorts (here bs) o ≡ parameter_sorts (there bs) o
    parameters_over bs None = refl
    parameters_over bs (Some h) = arguments_like t u like h.ins

    parameters_like : (bs : List BoundVar) (n : Text) → parameter_sorts (here bs) (applied_heading (meaning (here bs) n)) ≡ parameter_sorts (there bs) (applied_heading (meaning (there bs) n))
    parameters_like bs n =
        of_meaning bs n (λ m. parameter_sorts (here bs) (applied_heading m)) (λ g h l. ap (argument_sorts t) l.ins)
        ∙ parameters_over bs (applied_heading (meaning (there bs) n))

    mutual
      pub faults_like : (bs : List BoundVar) (f : Bool) (x : Expr) → expr_faults (here bs) f x ≡ expr_faults (there bs) f x
      faults_like bs f (expr q n) = node_faults_like bs f n

      node_faults_like : (bs : List BoundVar) (f : Bool) (n : Node) → node_faults (here bs) f n ≡ node_faults (there bs) f n
      node_faults_like bs f (number n) = refl
      node_faults_like bs f (truth b) = refl
      node_faults_like bs f (variable n) = of_meaning bs n.text (λ m. variable_faults p m n.at) (λ g h l. refl)
      node_faults_like bs f (apply n xs) =
          (λ i. application_faults_like bs f n.text (count xs) n.at i ++ argument_faults (here bs) (parameters_like bs n.text i) xs)
          ∙ ap (λ fs. application_faults (there bs) f n.text (meaning (there bs) n.text) (count xs) n.at ++ fs) (argument_faults_like bs (parameter_sorts (there bs) (applied_heading (meaning (there bs) n.text))) xs)
      node_faults_like bs f (old q x) = λ i. old_faults p q ++ faults_like bs false x i
      node_faults_like bs f (choose d x y) = λ i. faults_like bs false d i ++ (sort_faults boolean (sort_like bs d i) (first_place d)
          ++ (faults_like bs false x i ++ (faults_like bs false y i ++ same_sort_faults (sort_like bs x i) (sort_like bs y i) (first_place y))))
      node_faults_like bs f (quantified q r ps gs rs x) =
          (λ i. unless f quantifier_here r ++ (params_faults ps ++ (group_types_like (hides bs) gs i ++ (group_where_faults gs
          ++ (again twice [] (only_names (names_of gs)) ++ (trigger_faults_like (more gs bs) (texts_of (only_names (names_of gs))) rs i
          ++ (faults_like (more gs bs) true x i ++ sort_faults boolean (sort_like (more gs bs) x i) (first_place x))))))))
          ∙ (λ i. unless f quantifier_here r ++ (params_faults ps ++ (group_type_faults u (hides bs) gs ++ (group_where_faults gs
          ++ (again twice [] (only_names (names_of gs)) ++ (trigger_faults (there (bounds_like t u like (hides bs) (names_of gs) i ++ bs)) (texts_of (only_names (names_of gs))) rs
          ++ (expr_faults (there (bounds_like t u like (hides bs) (names_of gs) i ++ bs)) true x ++ sort_faults boolean (sort_in (there (bounds_like t u like (hides bs) (names_of gs) i ++ bs)) x) (first_place x))))))))
      node_faults_like bs f (iffs xs) = operand_faults_like bs f boolean xs
      node_faults_like bs f (implies xs) = operand_faults_like bs f boolean xs
      node_faults_like bs f (ands xs) = operand_faults_like bs f boolean xs
      node_faults_like bs f (ors xs) = operand_faults_like bs f boolean xs
      node_faults_like bs f (related o x y) = λ i. faults_like bs false x i ++ (faults_like bs false y i ++ comparison_faults o (sort_like bs x i) (sort_like bs y i) (first_place x) (first_place y))
      node_faults_like bs f (sums x ts) = λ i. faults_like bs false x i ++ (sort_faults int (sort_like bs x i) (first_place x) ++ term_faults_like bs ts i)
      node_faults_like bs f (products xs) = operand_faults_like bs false int xs
      node_faults_like bs f (negation x) = λ i. faults_like bs f x i ++ sort_faults boolean (sort_like bs x i) (first_place x)
      node_faults_like bs f (minus x) = λ i. faults_like bs false x i ++ sort_faults int (sort_like bs x i) (first_place x)
      node_faults_like bs f (indexed x is) =
          (λ i. faults_like bs false x i ++ index_faults (here bs) (first_place x) (sort_like bs x i) is)
          ∙ ap (λ fs. expr_faults (there bs) false x ++ fs) (index_faults_like bs (first_place x) (sort_in (there bs) x) is)

      operand_faults_like : (bs : List BoundVar) (f : Bool) (k : Kind) (xs : Exprs) → operand_faults (here bs) f k xs ≡ operand_faults (there bs) f k xs
      operand_faults_like bs f k no_exprs = refl
      operand_faults_like bs f k (item x xs) = λ i. faults_like bs f x i ++ (sort_faults k (sort_like bs x i) (first_place x) ++ operand_faults_like bs f k xs i)

      pub argument_faults_like : (bs : List BoundVar) (ks : List (Option Kind)) (xs : Exprs) → argument_faults (here bs) ks xs ≡ argument_faults (there bs) ks xs
      argument_faults_like bs ks no_exprs = refl
      argument_faults_like bs [] (item x xs) = λ i. faults_like bs false x i ++ argument_faults_like bs [] xs i
      argument_faults_like bs (k ∷ ks) (item x xs) = λ i. faults_like bs false x i ++ (same_sort_faults k (sort_like bs x i) (first_place x) ++ argument_faults_like bs ks xs i)

      term_faults_like : (bs : List BoundVar) (ts : Terms) → term_faults (here bs) ts ≡ term_faults (there bs) ts
      term_faults_like bs no_terms = refl
      term_faults_like bs (plus x ts) = λ i. faults_like bs false x i ++ (sort_faults int (sort_like bs x i) (first_place x) ++ term_faults_like bs ts i)
      term_faults_like bs (less x ts) = λ i. faults_like bs false x i ++ (sort_faults int (sort_like bs x i) (first_place x) ++ term_faults_like bs ts i)

      index_faults_like : (bs : List BoundVar) (q : Place) (m : Option Kind) (is : Indices) → index_faults (here bs) q m is ≡ index_faults (there bs) q m is
      index_faults_like bs q m no_indices = refl
      index_faults_like bs q m (at_index x is) =
          (λ i. map_faults m q ++ (faults_like bs false x i ++ (sort_faults int (sort_like bs x i) (first_place x) ++ index_faults (here bs) q (read_sort m (sort_like bs x i)) is)))
          ∙ ap (λ fs. map_faults m q ++ (expr_faults (there bs) false x ++ (sort_faults int (sort_in (there bs) x) (first_place x) ++ fs))) (index_faults_like bs q (read_sort m (sort_in (there bs) x)) is)
      index_faults_like bs q m (update x y is) =
          (λ i. map_faults m q ++ (faults_like bs false x i ++ (sort_faults int (sort_like bs x i) (first_place x)
          ++ (faults_like bs false y i ++ (same_sort_faults (entry_sort m) (sort_like bs y i) (first_place y) ++ index_faults (here bs) q (write_sort m (sort_like bs x i) (sort_like bs y i)) is)))))
          ∙ ap (λ fs. map_faults m q ++ (expr_faults (there bs) false x ++ (sort_faults int (sort_in (there bs) x) (first_place x)
          ++ (expr_faults (there bs) false y ++ (same_sort_faults (entry_sort m) (sort_in (there bs) y) (first_place y) ++ fs))))) (index_faults_like bs q (write_sort m (sort_in (there bs) x) (sort_in (there bs) y)) is)

      trigger_faults_like : (bs : List BoundVar) (ns : List Text) (rs : Triggers) → trigger_faults (here bs) ns rs ≡ trigger_faults (there bs) ns rs
      trigger_faults_like bs ns no_triggers = refl
      trigger_faults_like bs ns (trigger q xs rs) = λ i. unless (is_trigger ns xs) bad_trigger q ++ (pattern_faults_like bs xs i ++ trigger_faults_like bs ns rs i)

      pattern_faults_like : (bs : List BoundVar) (xs : Exprs) → pattern_faults (here bs) xs ≡ pattern_faults (there bs) xs
      pattern_faults_like bs no_exprs = refl
      pattern_faults_like bs (item x xs) = λ i. faults_like bs false x i ++ pattern_faults_like bs xs i

    pub faults_as_like : (bs : List BoundVar) (f : Bool) (k : Kind) (x : Expr) → faults_as (here bs) f k x ≡ faults_as (there bs) f k x
    faults_as_like bs f k x = λ i. faults_like bs f x i ++ sort_faults k (sort_like bs x i) (first_place x)

    pub formula_like : (bs : List BoundVar) (x : Expr) → formula_faults (here bs) x ≡ formula_faults (there bs) x
    formula_like bs x = faults_as_like bs true boolean x

    clause_like : (bs : List BoundVar) (x : Clause) → clause_faults (here bs) x ≡ clause_faults (there bs) x
    clause_like bs no_clause = refl
    clause_like bs (clause q x) = formula_like bs x

    pub group_clauses_like : (bs : List BoundVar) (gs : Groups) → group_clause_faults (here bs) gs ≡ group_clause_faults (there bs) gs
    group_clauses_like bs no_groups = refl
    group_clauses_like bs (group ns s x gs) = λ i. clause_like bs x i ++ group_clauses_like bs gs i

    -- ---- terms

    pub meaning_term_like : (o : Bool) (bs : List BoundVar) (n : Text) → meaning_term o c (meaning (here bs) n) ≡ meaning_term o c (meaning (there bs) n)
    meaning_term_like o bs n = of_meaning bs n (meaning_term o c) (λ g h l. refl)

    mutual
      pub term_like : (o : Bool) (bs : List BoundVar) (x : Expr) → term_in (here bs) o x ≡ term_in (there bs) o x
      term_like o bs (expr q n) = node_like o bs n

      node_like : (o : Bool) (bs : List BoundVar) (n : Node) → node_term (here bs) o n ≡ node_term (there bs) o n
      node_like o bs (number n) = refl
      node_like o bs (truth b) = refl
      node_like o bs (variable n) = meaning_term_like o bs n.text
      node_like o bs (apply n xs) = λ i. call (number_like n.text i) (terms_like o bs xs i)
      node_like o bs (old q x) = term_like true bs x
      node_like o bs (choose d x y) = λ i. choose_term (term_like o bs d i) (term_like o bs x i) (term_like o bs y i)
      node_like o bs (quantified q r ps gs rs x) =
          (λ i. binder q (map sort_or_int (groups_like t u like (hides bs) (names_of gs) i)) (patterns_like o (more gs bs) rs i) (term_like o (more gs bs) x i))
          ∙ (λ i. binder q (map sort_or_int (sorts_of_names u (hides bs) (names_of gs))) (patterns_in (there (bounds_like t u like (hides bs) (names_of gs) i ++ bs)) o rs) (term_in (there (bounds_like t u like (hides bs) (names_of gs) i ++ bs)) o x))
      node_like o bs (iffs xs) = λ i. left_of equal (truth_term true) (terms_like o bs xs i)
      node_like o bs (implies xs) = λ i. implied (terms_like o bs xs i)
      node_like o bs (ands xs) = λ i. all (terms_like o bs xs i)
      node_like o bs (ors xs) = λ i. some (terms_like o bs xs i)
      node_like o bs (related r x y) = λ i. comparison r (term_like o bs x i) (term_like o bs y i)
      node_like o bs (sums x ts) = λ i. linear (part (pos 1) (term_like o bs x i) (parts_like o bs ts i)) (pos 0)
      node_like o bs (products xs) = λ i. left_of mul (num (pos 1)) (terms_like o bs xs i)
      node_like o bs (negation x) = λ i. negation_term (term_like o bs x i)
      node_like o bs (minus x) = λ i. linear (part (negsuc 0) (term_like o bs x i) no_parts) (pos 0)
      node_like o bs (indexed x is) = ap (λ m. indexed_term (here bs) o m is) (term_like o bs x) ∙ indexed_like o bs (term_in (there bs) o x) is

      pub terms_like : (o : Bool) (bs : List BoundVar) (xs : Exprs) → terms_in (here bs) o xs ≡ terms_in (there bs) o xs
      terms_like o bs no_exprs = refl
      terms_like o bs (item x xs) = λ i. tree (term_like o bs x i) (terms_like o bs xs i)

      parts_like : (o : Bool) (bs : List BoundVar) (ts : Terms) → parts_in (here bs) o ts ≡ parts_in (there bs) o ts
      parts_like o bs no_terms = refl
      parts_like o bs (plus x ts) = λ i. part (pos 1) (term_like o bs x i) (parts_like o bs ts i)
      parts_like o bs (less x ts) = λ i. part (negsuc 0) (term_like o bs x i) (parts_like o bs ts i)

      indexed_like : (o : Bool) (bs : List BoundVar) (m : Tree) (is : Indices) → indexed_term (here bs) o m is ≡ indexed_term (there bs) o m is
      indexed_like o bs m no_indices = refl
      indexed_like o bs m (at_index x is) = ap (λ a. indexed_term (here bs) o (read m a) is) (term_like o bs x) ∙ indexed_like o bs (read m (term_in (there bs) o x)) is
      indexed_like o bs m (update x y is) = (λ i. indexed_term (here bs) o (write m (term_like o bs x i) (term_like o bs y i)) is) ∙ indexed_like o bs (write m (term_in (there bs) o x) (term_in (there bs) o y)) is

      patterns_like : (o : Bool) (bs : List BoundVar) (rs : Triggers) → patterns_in (here bs) o rs ≡ patterns_in (there bs) o rs
      patterns_like o bs no_triggers = refl
      patterns_like o bs (trigger q xs rs) = λ i. pattern (terms_like o bs xs i) (patterns_like o bs rs i)
