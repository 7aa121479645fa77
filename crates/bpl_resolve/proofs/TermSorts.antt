-- Where an expression has a sort, its term has that sort, over a scope whose variables and functions have theirs.
use Rattle.std.proofs.Common.{◌≡◌, refl, ap, sym, ◌∙◌, inl, inr, ℕ, ◌+◌, suc, arith, subst, Bool, true, false, ◌&&◌, List, [], ◌∷◌, ◌++◌, map, reverse, pos, Option, Some, None, slice_get}
use Rattle.logic_core.proofs.Booleans.{both_true, and_true}
use Rattle.logic_core.specs.Same.{is_some_and}
use Rattle.logic_core.specs.Tree.{Kind, int, boolean, Tree, num, truth as truth_term, mul, read, write, call as call_term, equal, Trees, no_trees, tree}
use Rattle.logic_core.specs.Def.{Def}
use Rattle.logic_core.specs.Wide.{when, ◌>>=◌}
use Rattle.logic_core.specs.Sorts.{is, read_sort, write_sort, equation_sort, sort_of, are, are_formulas, are_ints as parts_are_ints, have_sorts, have_sorts_in}
use Rattle.bpl_ast.specs.Place.{Name, Ty}
use Rattle.bpl_ast.specs.Tree.{Relation, eq, ne, lt, le, gt, ge, for_all, exists, Expr, expr, Node, number, truth, variable, apply, old, choose, quantified, iffs, implies, ands, ors, related, sums, products, negation, minus, indexed, Exprs, no_exprs, item, Terms, no_terms, plus, less, Indices, no_indices, at_index, update, Triggers, no_triggers, trigger, Groups}
use Rattle.bpl_scopes.specs.Scopes.{Text, Heading, Table, names_of, BoundVar, Scope, Meaning, meaning, bound_meaning, free_meaning, var_of, has_name, bound_to, hidden_in}
use Rattle.bpl_scopes.specs.Sorts.{sort_of_type, argument_sorts, sorts_of_names, bounds_of, within, sort_of_meaning, applied_heading, is_same, are_same, application_sort, all_are, all_known, relation_sort, sort_in, node_sort, sorts_in, are_ints, indices_sort, are_patterns}
use Rattle.bpl_scopes.specs.Functions.{function_number}
use Rattle.bpl_terms.specs.Terms.{meaning_term, nested_left, left_of, implied, comparison, sort_or_int, bound_sorts, term_in, node_term, terms_in, parts_in, indexed_term, patterns_in}
use Rattle.bpl_resolve.proofs.Below.{back_onto, Below, Implies, both, is_below, when_below, when_so, is_then, equation_below, read_below, write_below, choice_below}

-- the sorts of bound variables, the innermost first
abbrev pub BoundsFit : List BoundVar → List Kind → Type 0
BoundsFit [] ks = Unit {0}
BoundsFit (v ∷ vs) [] = ⊥
BoundsFit (v ∷ vs) (k ∷ ks) = Below v.sort (Some k) × BoundsFit vs ks

module _ (vars : List Kind) (defs : List Def) where
  -- a function's number stands for a definition with its sorts
  pub record Fits (s : Scope) : Type 0 where
    pub free_names : (b : List Kind) (in_old : Bool) (n : Text) → Below (sort_of_meaning s (free_meaning s n (var_of s.vars n))) (sort_of vars defs b (meaning_term in_old s.counts (free_meaning s n (var_of s.vars n))))
    pub functions : (bs : List BoundVar) (n : Text) (h : Heading) → applied_heading (meaning (record s { bounds = bs }) n) ≡ Some h
        → (d : Def) × (slice_get defs (function_number s.table n) ≡ Some d) × (d.params ≡ map sort_or_int (argument_sorts s.table h.ins)) × Below (sort_of_type s.table [] h.result) (Some d.sort)

  -- the first of the bound variables, or one behind it
  one_of : (s : Scope) (b : List Kind) (in_old : Bool) (j : ℕ) (o : Option Kind) (k : Kind) (m : Meaning) (r : Bool) → slice_get b j ≡ Some k → Below o (Some k)
      → Below (sort_of_meaning s m) (sort_of vars defs b (meaning_term in_old s.counts m))
      → Below (sort_of_meaning s (elim r [ true ↦ bound_to j o | false ↦ m ])) (sort_of vars defs b (meaning_term in_old s.counts (elim r [ true ↦ bound_to j o | false ↦ m ])))
  one_of s b in_old j o k m true here f h = subst (Below o) (sym here) f
  one_of s b in_old j o k m false here f h = h

  bound_below : (s : Scope) (b : List Kind) (in_old : Bool) (n : Text) (m : Meaning) (vs : List BoundVar) (ks : List Kind) (j : ℕ)
      → BoundsFit vs ks → ((i : ℕ) → slice_get b (j + i) ≡ slice_get ks i)
      → Below (sort_of_meaning s m) (sort_of vars defs b (meaning_term in_old s.counts m))
      → Below (sort_of_meaning s (bound_meaning j vs n m)) (sort_of vars defs b (meaning_term in_old s.counts (bound_meaning j vs n m)))
  bound_below s b in_old n m [] ks j f g h = h
  bound_below s b in_old n m (v ∷ vs) [] j f g h = absurd f
  bound_below s b in_old n m (v ∷ vs) (k ∷ ks) j f g h = one_of s b in_old j v.sort k (bound_meaning (j + 1) vs n m) (has_name n v.name)
      (let e : j ≡ j + 0 = omega arith in ap (slice_get b) e ∙ g 0) f.0
      (bound_below s b in_old n m vs ks (j + 1) f.1 (λ i. let e : j + 1 + i ≡ j + suc i = omega arith in ap (slice_get b) e ∙ g (suc i)) h)

  name_below : (s : Scope) → Fits s → (b : List Kind) → BoundsFit s.bounds b → (in_old : Bool) (n : Text)
      → Below (sort_of_meaning s (meaning s n)) (sort_of vars defs b (meaning_term in_old s.counts (meaning s n)))
  unfolding meaning
  name_below s f b g in_old n = bound_below s b in_old n (free_meaning s n (var_of s.vars n)) s.bounds b 0 g (λ i. let e : 0 + i ≡ i = omega arith in ap (slice_get b) e) (f.free_names b in_old n)

  -- bound variables of groups in front
  abbrev bound_of : Table → List Text → (Name × Ty) → BoundVar
  bound_of t hidden p = record { name = Some ((p.0).text); sort = sort_of_type t hidden p.1 }

  or_int_below : (o : Option Kind) → Below o (Some (sort_or_int o))
  or_int_below None = inl refl
  or_int_below (Some k) = inr refl

  groups_fit : (t : Table) (hidden : List Text) (ps : List (Name × Ty)) (vs : List BoundVar) (ks : List Kind) → BoundsFit vs ks
      → BoundsFit (bounds_of t hidden ps ++ vs) (reverse (map sort_or_int (sorts_of_names t hidden ps)) ++ ks)
  groups_fit t hidden [] vs ks f = f
  groups_fit t hidden (p ∷ ps) vs ks f =
      let g : BoundsFit (bound_of t hidden p ∷ vs) (sort_or_int (sort_of_type t hidden p.1) ∷ ks) = (or_int_below (sort_of_type t hidden p.1), f) in
      let e = groups_fit t hidden ps (bound_of t hidden p ∷ vs) (sort_or_int (sort_of_type t hidden p.1) ∷ ks) g in
      subst (λ w. BoundsFit w (reverse (map sort_or_int (sorts_of_names t hidden (p ∷ ps))) ++ ks)) (sym (back_onto (bound_of t hidden p) (map (bound_of t hidden) ps) vs))
      (subst (BoundsFit (bounds_of t hidden ps ++ (bound_of t hidden p ∷ vs))) (sym (back_onto (sort_or_int (sort_of_type t hidden p.1)) (map sort_or_int (sorts_of_names t hidden ps)) ks)) e)

  within_fits : (s : Scope) (gs : Groups) → Fits s → Fits (within s gs)
  within_fits s gs f = record { free_names = f.free_names; functions = f.functions }

  -- comparisons
  twice_boolean : (c : Bool) → when (is boolean (when c (Some boolean))) (Some boolean) ≡ when c (Some boolean)
  twice_boolean true = refl
  twice_boolean false = refl

  negated_equation : (o p : Option Kind) → when (is boolean (equation_sort o p)) (Some boolean) ≡ equation_sort o p
  negated_equation None p = refl
  negated_equation (Some k) p = twice_boolean (is k p)

  int_sum : (c : Bool) → is int (when (c && true) (Some int)) ≡ c
  int_sum true = refl
  int_sum false = refl

  swapped : (a c : Bool) → (a && c) ≡ (c && a)
  swapped true true = refl
  swapped true false = refl
  swapped false true = refl
  swapped false false = refl

  relation_below : (b : List Kind) (r : Relation) (o q : Option Kind) (x y : Tree) → Below o (sort_of vars defs b x) → Below q (sort_of vars defs b y)
      → Below (relation_sort r o q) (sort_of vars defs b (comparison r x y))
  relation_below b eq o q x y h k = equation_below o _ q _ h k
  relation_below b ne o q x y h k = subst (Below (equation_sort o q)) (sym (negated_equation (sort_of vars defs b x) (sort_of vars defs b y))) (equation_below o _ q _ h k)
  relation_below b lt o q x y h k = subst (λ w. Below (when (is int o && is int q) (Some boolean)) (when (w && is int (sort_of vars defs b y)) (Some boolean))) (sym (int_sum (is int (sort_of vars defs b x))))
      (when_below _ _ boolean (both _ _ _ _ (is_below int o _ h) (is_below int q _ k)))
  relation_below b le o q x y h k = when_below _ _ boolean (both _ _ _ _ (is_below int o _ h) (is_below int q _ k))
  relation_below b gt o q x y h k = subst (λ w. Below (when w (Some boolean)) (when (is int (when (is int (sort_of vars defs b y) && true) (Some int)) && is int (sort_of vars defs b x)) (Some boolean))) (swapped (is int q) (is int o))
      (subst (λ w. Below (when (is int q && is int o) (Some boolean)) (when (w && is int (sort_of vars defs b x)) (Some boolean))) (sym (int_sum (is int (sort_of vars defs b y))))
      (when_below _ _ boolean (both _ _ _ _ (is_below int q _ k) (is_below int o _ h))))
  relation_below b ge o q x y h k = subst (λ w. Below (when w (Some boolean)) (when (is int (sort_of vars defs b y) && is int (sort_of vars defs b x)) (Some boolean))) (swapped (is int q) (is int o))
      (when_below _ _ boolean (both _ _ _ _ (is_below int q _ k) (is_below int o _ h)))

  -- chains
  abbrev all_ints : List Kind → Trees → Bool
  all_ints b no_trees = true
  all_ints b (tree t ts) = is int (sort_of vars defs b t) && all_ints b ts

  nested_equal : (b : List Kind) (a : Tree) (ts : Trees) → sort_of vars defs b a ≡ Some boolean → are_formulas vars defs b ts ≡ true → sort_of vars defs b (nested_left equal a ts) ≡ Some boolean
  nested_equal b a no_trees h k = h
  nested_equal b a (tree t ts) h k = let e = is_then boolean (sort_of vars defs b t) (both_true _ _ k).0 in
      nested_equal b (equal a t) ts (λ i. equation_sort (h i) (e i)) (both_true (is boolean (sort_of vars defs b t)) _ k).1

  left_equal : (b : List Kind) (ts : Trees) → are_formulas vars defs b ts ≡ true → sort_of vars defs b (left_of equal (truth_term true) ts) ≡ Some boolean
  left_equal b no_trees k = refl
  left_equal b (tree t ts) k = nested_equal b t ts (is_then boolean _ (both_true _ _ k).0) (both_true (is boolean (sort_of vars defs b t)) _ k).1

  nested_mul : (b : List Kind) (a : Tree) (ts : Trees) → sort_of vars defs b a ≡ Some int → all_ints b ts ≡ true → sort_of vars defs b (nested_left mul a ts) ≡ Some int
  nested_mul b a no_trees h k = h
  nested_mul b a (tree t ts) h k = let e = is_then int (sort_of vars defs b t) (both_true _ _ k).0 in
      nested_mul b (mul a t) ts (λ i. when (is int (h i) && is int (e i)) (Some int)) (both_true (is int (sort_of vars defs b t)) _ k).1

  left_mul : (b : List Kind) (ts : Trees) → all_ints b ts ≡ true → sort_of vars defs b (left_of mul (num (pos 1)) ts) ≡ Some int
  left_mul b no_trees k = refl
  left_mul b (tree t ts) k = nested_mul b t ts (is_then int _ (both_true _ _ k).0) (both_true (is int (sort_of vars defs b t)) _ k).1

  implied_sorted : (b : List Kind) (ts : Trees) → are_formulas vars defs b ts ≡ true → sort_of vars defs b (implied ts) ≡ Some boolean
  implied_sorted b no_trees k = refl
  implied_sorted b (tree p no_trees) k = is_then boolean _ (both_true _ _ k).0
  implied_sorted b (tree p (tree q ts)) k =
      let e = is_then boolean (sort_of vars defs b p) (both_true _ _ k).0 in
      let h = implied_sorted b (tree q ts) (both_true (is boolean (sort_of vars defs b p)) _ k).1 in
      λ i. when (is boolean (when (is boolean (e i)) (Some boolean)) && (is boolean (h i) && true)) (Some boolean)

  -- calls
  same_below : (j o p : Option Kind) → Below o p → Implies (is_same j o) (is (sort_or_int j) p)
  same_below None o p h = inl refl
  same_below (Some k) o p h = is_below k o p h

  when_none : (c : Bool) → when {A = Kind} c None ≡ None
  when_none true = refl
  when_none false = refl

  when_result : (a c : Bool) (r : Option Kind) (k : Kind) → Implies a c → Below r (Some k) → Below (when a r) (when c (Some k))
  when_result a c r k (inl h) g = inl (ap (λ w. when w r) h)
  when_result a c r k (inr h) (inl g) = inl (ap (when a) g ∙ when_none a)
  when_result a c r k (inr h) (inr g) = inr (λ i. when (h i) (g i))

  call_below : (s : Scope) → Fits s → (n : Text) (b : List Kind) (ts : Trees) (ks : List (Option Kind)) (oh : Option Heading) → applied_heading (meaning s n) ≡ oh
      → ((js : List (Option Kind)) → Implies (are_same js ks) (are vars defs b (map sort_or_int js) ts))
      → Below (application_sort s.table oh ks) (sort_of vars defs b (call_term (function_number s.table n) ts))
  call_below s f n b ts ks None e args = inl refl
  call_below s f n b ts ks (Some h) e args = let d = f.functions s.bounds n h e in
      subst (Below (application_sort s.table (Some h) ks)) (sym (ap (λ w. w >>= λ (x : Def). when (are vars defs b x.params ts) (Some x.sort)) d.1))
      (when_result _ _ _ d.0.sort (subst (λ w. Implies (are_same (argument_sorts s.table h.ins) ks) (are vars defs b w ts)) (sym d.2) (args (argument_sorts s.table h.ins))) d.3)

  -- triggers
  known_step : (o p : Option Kind) (ks : List (Option Kind)) (d : Bool) → Below o p → Implies (all_known ks) d → Implies (all_known (o ∷ ks)) (is_some_and p (λ s. d))
  known_step o p ks d (inl h) i = inl (ap (λ w. all_known (w ∷ ks)) h)
  known_step None p ks d (inr h) i = inl refl
  known_step (Some k) p ks d (inr h) i = subst (λ w. Implies (all_known ks) (is_some_and w (λ s. d))) h i

  with_known : (k a c : Bool) → Implies a c → Implies (k && a) c
  with_known true a c h = h
  with_known false a c h = inl refl

  mutual
    pub sorted : (s : Scope) → Fits s → (b : List Kind) → BoundsFit s.bounds b → (in_old : Bool) (x : Expr) → Below (sort_in s x) (sort_of vars defs b (term_in s in_old x))
    sorted s f b g in_old (expr p n) = node_sorted s f b g in_old n

    node_sorted : (s : Scope) → Fits s → (b : List Kind) → BoundsFit s.bounds b → (in_old : Bool) (n : Node) → Below (node_sort s n) (sort_of vars defs b (node_term s in_old n))
    node_sorted s f b g o (number n) = inr refl
    node_sorted s f b g o (truth t) = inr refl
    node_sorted s f b g o (variable n) = name_below s f b g o n.text
    node_sorted s f b g o (apply n xs) = call_below s f n.text b (terms_in s o xs) (sorts_in s xs) (applied_heading (meaning s n.text)) refl (λ js. arguments_sorted s f b g o xs js)
    node_sorted s f b g o (old p x) = sorted s f b g true x
    node_sorted s f b g o (choose c x y) = choice_below (sort_in s c) _ (sort_in s x) _ (sort_in s y) _ (sorted s f b g o c) (sorted s f b g o x) (sorted s f b g o y)
    node_sorted s f b g o (quantified for_all p ps gs rs x) = when_below _ _ boolean (with_known (all_known (sorts_of_names s.table (hidden_in s) (names_of gs))) _ _ (both _ _ _ _
        (patterns_sorted (within s gs) (within_fits s gs f) (reverse (bound_sorts s gs) ++ b) (groups_fit s.table (hidden_in s) (names_of gs) s.bounds b g) o rs)
        (is_below boolean _ _ (sorted (within s gs) (within_fits s gs f) (reverse (bound_sorts s gs) ++ b) (groups_fit s.table (hidden_in s) (names_of gs) s.bounds b g) o x))))
    node_sorted s f b g o (quantified exists p ps gs rs x) = when_below _ _ boolean (with_known (all_known (sorts_of_names s.table (hidden_in s) (names_of gs))) _ _ (both _ _ _ _
        (patterns_sorted (within s gs) (within_fits s gs f) (reverse (bound_sorts s gs) ++ b) (groups_fit s.table (hidden_in s) (names_of gs) s.bounds b g) o rs)
        (is_below boolean _ _ (sorted (within s gs) (within_fits s gs f) (reverse (bound_sorts s gs) ++ b) (groups_fit s.table (hidden_in s) (names_of gs) s.bounds b g) o x))))
    node_sorted s f b g o (iffs xs) = when_so _ _ boolean _ (formulas_sorted s f b g o xs) (left_equal b (terms_in s o xs))
    node_sorted s f b g o (implies xs) = when_so _ _ boolean _ (formulas_sorted s f b g o xs) (implied_sorted b (terms_in s o xs))
    node_sorted s f b g o (ands xs) = when_below _ _ boolean (formulas_sorted s f b g o xs)
    node_sorted s f b g o (ors xs) = when_below _ _ boolean (formulas_sorted s f b g o xs)
    node_sorted s f b g o (related r x y) = relation_below b r (sort_in s x) (sort_in s y) (term_in s o x) (term_in s o y) (sorted s f b g o x) (sorted s f b g o y)
    node_sorted s f b g o (sums x ts) = when_below _ _ int (both _ _ _ _ (is_below int _ _ (sorted s f b g o x)) (parts_sorted s f b g o ts))
    node_sorted s f b g o (products xs) = when_so _ _ int _ (ints_sorted s f b g o xs) (left_mul b (terms_in s o xs))
    node_sorted s f b g o (negation x) = when_below _ _ boolean (is_below boolean _ _ (sorted s f b g o x))
    node_sorted s f b g o (minus x) = subst (λ w. Below (when (is int (sort_in s x)) (Some int)) (when w (Some int))) (sym (and_true (is int (sort_of vars defs b (term_in s o x))))) (when_below _ _ int (is_below int _ _ (sorted s f b g o x)))
    node_sorted s f b g o (indexed x is) = indices_sorted s f b g o is (sort_in s x) (term_in s o x) (sorted s f b g o x)

    formulas_sorted : (s : Scope) → Fits s → (b : List Kind) → BoundsFit s.bounds b → (in_old : Bool) (xs : Exprs) → Implies (all_are boolean (sorts_in s xs)) (are_formulas vars defs b (terms_in s in_old xs))
    formulas_sorted s f b g o no_exprs = inr refl
    formulas_sorted s f b g o (item x xs) = both _ _ _ _ (is_below boolean _ _ (sorted s f b g o x)) (formulas_sorted s f b g o xs)

    ints_sorted : (s : Scope) → Fits s → (b : List Kind) → BoundsFit s.bounds b → (in_old : Bool) (xs : Exprs) → Implies (all_are int (sorts_in s xs)) (all_ints b (terms_in s in_old xs))
    ints_sorted s f b g o no_exprs = inr refl
    ints_sorted s f b g o (item x xs) = both _ _ _ _ (is_below int _ _ (sorted s f b g o x)) (ints_sorted s f b g o xs)

    arguments_sorted : (s : Scope) → Fits s → (b : List Kind) → BoundsFit s.bounds b → (in_old : Bool) (xs : Exprs) (js : List (Option Kind)) → Implies (are_same js (sorts_in s xs)) (are vars defs b (map sort_or_int js) (terms_in s in_old xs))
    arguments_sorted s f b g o no_exprs [] = inr refl
    arguments_sorted s f b g o no_exprs (j ∷ js) = inr refl
    arguments_sorted s f b g o (item x xs) [] = inr refl
    arguments_sorted s f b g o (item x xs) (j ∷ js) = both _ _ _ _ (same_below j _ _ (sorted s f b g o x)) (arguments_sorted s f b g o xs js)

    parts_sorted : (s : Scope) → Fits s → (b : List Kind) → BoundsFit s.bounds b → (in_old : Bool) (ts : Terms) → Implies (are_ints s ts) (parts_are_ints vars defs b (parts_in s in_old ts))
    parts_sorted s f b g o no_terms = inr refl
    parts_sorted s f b g o (plus x ts) = both _ _ _ _ (is_below int _ _ (sorted s f b g o x)) (parts_sorted s f b g o ts)
    parts_sorted s f b g o (less x ts) = both _ _ _ _ (is_below int _ _ (sorted s f b g o x)) (parts_sorted s f b g o ts)

    indices_sorted : (s : Scope) → Fits s → (b : List Kind) → BoundsFit s.bounds b → (in_old : Bool) (is : Indices) (m : Option Kind) (t : Tree) → Below m (sort_of vars defs b t) → Below (indices_sort s m is) (sort_of vars defs b (indexed_term s in_old t is))
    indices_sorted s f b g o no_indices m t h = h
    indices_sorted s f b g o (at_index x is) m t h = indices_sorted s f b g o is (read_sort m (sort_in s x)) (read t (term_in s o x)) (read_below m _ (sort_in s x) _ h (sorted s f b g o x))
    indices_sorted s f b g o (update x y is) m t h = indices_sorted s f b g o is (write_sort m (sort_in s x) (sort_in s y)) (write t (term_in s o x) (term_in s o y)) (write_below m _ (sort_in s x) _ (sort_in s y) _ h (sorted s f b g o x) (sorted s f b g o y))

    patterns_sorted : (s : Scope) → Fits s → (b : List Kind) → BoundsFit s.bounds b → (in_old : Bool) (rs : Triggers) → Implies (are_patterns s rs) (have_sorts_in vars defs b (patterns_in s in_old rs))
    patterns_sorted s f b g o no_triggers = inr refl
    patterns_sorted s f b g o (trigger p xs rs) = both _ _ _ _ (known_sorted s f b g o xs) (patterns_sorted s f b g o rs)

    known_sorted : (s : Scope) → Fits s → (b : List Kind) → BoundsFit s.bounds b → (in_old : Bool) (xs : Exprs) → Implies (all_known (sorts_in s xs)) (have_sorts vars defs b (terms_in s in_old xs))
    known_sorted s f b g o no_exprs = inr refl
    known_sorted s f b g o (item x xs) = known_step (sort_in s x) _ (sorts_in s xs) _ (sorted s f b g o x) (known_sorted s f b g o xs)
