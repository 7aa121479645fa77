-- Which variables and functions the term of an expression without faults mentions, where `old` may not stand: variables that names stand for, and functions that the expression applies.
use Rattle.std.proofs.Common.{◌≡◌, sym, ◌∙◌, ℕ, Bool, true, false, List, [], ◌∷◌, ◌++◌, pos, Option, Some}
use Rattle.bv_base.specs.declared.place.Place.{Place}
use Rattle.logic_core.specs.Tree.{Kind, int, boolean, Tree, num, truth as truth_term, mul, read, write, equal, Trees, no_trees, tree}
use Rattle.logic_core.specs.Renamed.{EachHas, EachInTrees, EachInParts, EachInPatterns}
use Rattle.logic_core.specs.Sorts.{read_sort, write_sort}
use Rattle.bpl_ast.specs.Tree.{Relation, eq, ne, lt, le, gt, ge, for_all, exists, Expr, expr, first_place, Node, number, truth, variable, apply, old, choose, quantified, iffs, implies, ands, ors, related, sums, products, negation, minus, indexed, Exprs, no_exprs, item, Terms, no_terms, plus, less, Indices, no_indices, at_index, update, Triggers, no_triggers, trigger, Groups}
use Rattle.bpl_scopes.specs.declared.fault.TypeKind.TheVariants.{Twice as twice, QuantifierHere as quantifier_here, Trigger as bad_trigger, OldHere as old_here}
use Rattle.bpl_scopes.specs.Fault.{again, unless}
use Rattle.bpl_scopes.specs.Scopes.{Text, Heading, BoundVar, Scope, meaning, hidden_in, names_of, only_names, texts_of}
use Rattle.bpl_scopes.specs.Sorts.{within, sort_in, applied_heading}
use Rattle.bpl_scopes.specs.Functions.{in_order, name_applies, applied_in, node_applies, all_applied, terms_apply, indices_apply, triggers_apply, groups_apply, function_number}
use Rattle.bpl_scopes.specs.TypeFaults.{group_type_faults, group_where_faults, params_faults}
use Rattle.bpl_faults.specs.NameFaults.{application_faults, reads_entry, sort_faults, same_sort_faults, map_faults, entry_sort}
use Rattle.bpl_faults.specs.ExprFaults.{is_trigger, parameter_sorts, count, expr_faults, node_faults, operand_faults, argument_faults, term_faults, index_faults, trigger_faults, pattern_faults}
use Rattle.bpl_terms.specs.Terms.{meaning_term, nested_left, left_of, implied, comparison, term_in, node_term, terms_in, parts_in, indexed_term, patterns_in}
use Rattle.bpl_resolve.proofs.HasSort.{first_empty, second_empty, unless_empty}
use Rattle.bpl_resolve.proofs.Faultless.{heading_of}
use Rattle.bpl_resolve.proofs.HiddenNames.{Each, first_each, second_each, Hides, hides_groups, applied_is}

-- variables have V, functions that are called C, and names that are applied P
module _ (V C : ℕ → Type 0) (P : Text → Type 0) where
  pub record Named (s : Scope) : Type 0 where
    pub names : (bs : List BoundVar) (n : Text) → EachHas V C (meaning_term false s.counts (meaning (record s { bounds = bs }) n))
    pub functions : (bs : List BoundVar) (n : Text) (k : Heading) → applied_heading (meaning (record s { bounds = bs }) n) ≡ Some k → P n → C (function_number s.table n)

  within_named : (s : Scope) (gs : Groups) → Named s → Named (within s gs)
  within_named s gs a = record { names = a.names; functions = a.functions }

  nested_mul : (a : Tree) (ts : Trees) → EachHas V C a → EachInTrees V C ts → EachHas V C (nested_left mul a ts)
  nested_mul a no_trees h g = h
  nested_mul a (tree b ts) h g = nested_mul (mul a b) ts (h, g.0) g.1

  nested_equal : (a : Tree) (ts : Trees) → EachHas V C a → EachInTrees V C ts → EachHas V C (nested_left equal a ts)
  nested_equal a no_trees h g = h
  nested_equal a (tree b ts) h g = nested_equal (equal a b) ts (h, g.0) g.1

  left_mul : (ts : Trees) → EachInTrees V C ts → EachHas V C (left_of mul (num (pos 1)) ts)
  left_mul no_trees g = tt
  left_mul (tree a ts) g = nested_mul a ts g.0 g.1

  left_equal : (ts : Trees) → EachInTrees V C ts → EachHas V C (left_of equal (truth_term true) ts)
  left_equal no_trees g = tt
  left_equal (tree a ts) g = nested_equal a ts g.0 g.1

  implied_has : (ts : Trees) → EachInTrees V C ts → EachHas V C (implied ts)
  implied_has no_trees g = tt
  implied_has (tree a no_trees) g = g.0
  implied_has (tree a (tree b ts)) g = (g.0, (implied_has (tree b ts) g.1, tt))

  compared : (r : Relation) (a b : Tree) → EachHas V C a → EachHas V C b → EachHas V C (comparison r a b)
  compared eq a b h k = (h, k)
  compared ne a b h k = (h, k)
  compared lt a b h k = ((h, tt), k)
  compared le a b h k = (h, k)
  compared gt a b h k = ((k, tt), h)
  compared ge a b h k = (k, h)

  -- the sides of a comparison
  side_first : (r : Relation) (xs ys : List Text) → Each P (in_order r xs ys) → Each P xs
  side_first eq xs ys a = first_each P xs ys a
  side_first ne xs ys a = first_each P xs ys a
  side_first lt xs ys a = first_each P xs ys a
  side_first le xs ys a = first_each P xs ys a
  side_first gt xs ys a = second_each P ys xs a
  side_first ge xs ys a = second_each P ys xs a

  side_second : (r : Relation) (xs ys : List Text) → Each P (in_order r xs ys) → Each P ys
  side_second eq xs ys a = second_each P xs ys a
  side_second ne xs ys a = second_each P xs ys a
  side_second lt xs ys a = second_each P xs ys a
  side_second le xs ys a = second_each P xs ys a
  side_second gt xs ys a = first_each P ys xs a
  side_second ge xs ys a = first_each P ys xs a

  -- h are names that the scope's bound variables hide
  mutual
    pub reached : (s : Scope) → Named s → reads_entry s.part ≡ false → (h : List Text) → Hides s.bounds h → (f : Bool) (x : Expr) → expr_faults s f x ≡ [] → Each P (applied_in h x) → EachHas V C (term_in s false x)
    reached s a o h i f (expr p n) e d = node_reached s a o h i f n e d

    node_reached : (s : Scope) → Named s → reads_entry s.part ≡ false → (h : List Text) → Hides s.bounds h → (f : Bool) (n : Node) → node_faults s f n ≡ [] → Each P (node_applies h n) → EachHas V C (node_term s false n)
    node_reached s a o h i f (number n) e d = tt
    node_reached s a o h i f (truth t) e d = tt
    node_reached s a o h i f (variable n) e d = a.names s.bounds n.text
    node_reached s a o h i f (apply n xs) e d =
        let g = heading_of s f n.text (meaning s n.text) (count xs) n.at (first_empty _ _ e) in (
          a.functions s.bounds n.text g.0 g.1 (applied_is P s h i n.text g.0 g.1 (first_each P (name_applies h n.text) (all_applied h xs) d)),
          arguments_reached s a o h i (parameter_sorts s (applied_heading (meaning s n.text))) xs (second_empty (application_faults s f n.text (meaning s n.text) (count xs) n.at) _ e) (second_each P (name_applies h n.text) (all_applied h xs) d),
        )
    node_reached s a o h i f (old p x) e d = let b : true ≡ false = sym (unless_empty _ old_here p (first_empty _ _ e)) ∙ o in cc
    node_reached s a o h i f (choose c x y) e d =
        let r = second_empty (expr_faults s false c) _ e in
        let t = second_empty (sort_faults boolean (sort_in s c) (first_place c)) _ r in
        let u = second_empty (expr_faults s false x) _ t in
        let v = second_each P (applied_in h c) (applied_in h x ++ applied_in h y) d in (
          reached s a o h i false c (first_empty _ _ e) (first_each P (applied_in h c) (applied_in h x ++ applied_in h y) d),
          reached s a o h i false x (first_empty _ _ t) (first_each P (applied_in h x) (applied_in h y) v),
          reached s a o h i false y (first_empty _ _ u) (second_each P (applied_in h x) (applied_in h y) v),
        )
    node_reached s a o h i f (quantified for_all p ps gs rs x) e d =
        let r1 = second_empty (unless f quantifier_here p) _ e in
        let r2 = second_empty (params_faults ps) _ r1 in
        let r3 = second_empty (group_type_faults s.table (hidden_in s) gs) _ r2 in
        let r4 = second_empty (group_where_faults gs) _ r3 in
        let r5 = second_empty (again twice [] (only_names (names_of gs))) _ r4 in
        let r6 = second_empty (trigger_faults (within s gs) (texts_of (only_names (names_of gs))) rs) _ r5 in
        let k = texts_of (only_names (names_of gs)) ++ h in
        let d2 = second_each P (groups_apply h gs) (triggers_apply k rs ++ applied_in k x) d in (
          triggers_reached (within s gs) (within_named s gs a) o k (hides_groups s.table (hidden_in s) (names_of gs) s.bounds h i) (texts_of (only_names (names_of gs))) rs (first_empty _ _ r5) (first_each P (triggers_apply k rs) (applied_in k x) d2),
          reached (within s gs) (within_named s gs a) o k (hides_groups s.table (hidden_in s) (names_of gs) s.bounds h i) true x (first_empty _ _ r6) (second_each P (triggers_apply k rs) (applied_in k x) d2),
        )
    node_reached s a o h i f (quantified exists p ps gs rs x) e d =
        let r1 = second_empty (unless f quantifier_here p) _ e in
        let r2 = second_empty (params_faults ps) _ r1 in
        let r3 = second_empty (group_type_faults s.table (hidden_in s) gs) _ r2 in
        let r4 = second_empty (group_where_faults gs) _ r3 in
        let r5 = second_empty (again twice [] (only_names (names_of gs))) _ r4 in
        let r6 = second_empty (trigger_faults (within s gs) (texts_of (only_names (names_of gs))) rs) _ r5 in
        let k = texts_of (only_names (names_of gs)) ++ h in
        let d2 = second_each P (groups_apply h gs) (triggers_apply k rs ++ applied_in k x) d in (
          triggers_reached (within s gs) (within_named s gs a) o k (hides_groups s.table (hidden_in s) (names_of gs) s.bounds h i) (texts_of (only_names (names_of gs))) rs (first_empty _ _ r5) (first_each P (triggers_apply k rs) (applied_in k x) d2),
          reached (within s gs) (within_named s gs a) o k (hides_groups s.table (hidden_in s) (names_of gs) s.bounds h i) true x (first_empty _ _ r6) (second_each P (triggers_apply k rs) (applied_in k x) d2),
        )
    node_reached s a o h i f (iffs xs) e d = left_equal (terms_in s false xs) (operands_reached s a o h i f boolean xs e d)
    node_reached s a o h i f (implies xs) e d = implied_has (terms_in s false xs) (operands_reached s a o h i f boolean xs e d)
    node_reached s a o h i f (ands xs) e d = operands_reached s a o h i f boolean xs e d
    node_reached s a o h i f (ors xs) e d = operands_reached s a o h i f boolean xs e d
    node_reached s a o h i f (related r x y) e d = compared r _ _ (reached s a o h i false x (first_empty _ _ e) (side_first r (applied_in h x) (applied_in h y) d))
        (reached s a o h i false y (first_empty _ _ (second_empty (expr_faults s false x) _ e)) (side_second r (applied_in h x) (applied_in h y) d))
    node_reached s a o h i f (sums x ts) e d =
        let u = second_empty (expr_faults s false x) _ e in
        (reached s a o h i false x (first_empty _ _ e) (first_each P (applied_in h x) (terms_apply h ts) d), terms_reached s a o h i ts (second_empty (sort_faults int (sort_in s x) (first_place x)) _ u) (second_each P (applied_in h x) (terms_apply h ts) d))
    node_reached s a o h i f (products xs) e d = left_mul (terms_in s false xs) (operands_reached s a o h i false int xs e d)
    node_reached s a o h i f (negation x) e d = reached s a o h i f x (first_empty _ _ e) d
    node_reached s a o h i f (minus x) e d = (reached s a o h i false x (first_empty _ _ e) d, tt)
    node_reached s a o h i f (indexed x js) e d = indices_reached s a o h i (first_place x) js (sort_in s x) (term_in s false x)
        (reached s a o h i false x (first_empty _ _ e) (first_each P (applied_in h x) (indices_apply h js) d)) (second_empty (expr_faults s false x) _ e) (second_each P (applied_in h x) (indices_apply h js) d)

    operands_reached : (s : Scope) → Named s → reads_entry s.part ≡ false → (h : List Text) → Hides s.bounds h → (f : Bool) (k : Kind) (xs : Exprs) → operand_faults s f k xs ≡ [] → Each P (all_applied h xs) → EachInTrees V C (terms_in s false xs)
    operands_reached s a o h i f k no_exprs e d = tt
    operands_reached s a o h i f k (item x xs) e d =
        let r = second_empty (expr_faults s f x) _ e in
        (reached s a o h i f x (first_empty _ _ e) (first_each P (applied_in h x) (all_applied h xs) d), operands_reached s a o h i f k xs (second_empty (sort_faults k (sort_in s x) (first_place x)) _ r) (second_each P (applied_in h x) (all_applied h xs) d))

    arguments_reached : (s : Scope) → Named s → reads_entry s.part ≡ false → (h : List Text) → Hides s.bounds h → (ks : List (Option Kind)) (xs : Exprs) → argument_faults s ks xs ≡ [] → Each P (all_applied h xs) → EachInTrees V C (terms_in s false xs)
    arguments_reached s a o h i ks no_exprs e d = tt
    arguments_reached s a o h i [] (item x xs) e d = (
      reached s a o h i false x (first_empty _ _ e) (first_each P (applied_in h x) (all_applied h xs) d),
      arguments_reached s a o h i [] xs (second_empty (expr_faults s false x) _ e) (second_each P (applied_in h x) (all_applied h xs) d),
    )
    arguments_reached s a o h i (k ∷ ks) (item x xs) e d =
        let r = second_empty (expr_faults s false x) _ e in (
          reached s a o h i false x (first_empty _ _ e) (first_each P (applied_in h x) (all_applied h xs) d),
          arguments_reached s a o h i ks xs (second_empty (same_sort_faults k (sort_in s x) (first_place x)) _ r) (second_each P (applied_in h x) (all_applied h xs) d),
        )

    terms_reached : (s : Scope) → Named s → reads_entry s.part ≡ false → (h : List Text) → Hides s.bounds h → (ts : Terms) → term_faults s ts ≡ [] → Each P (terms_apply h ts) → EachInParts V C (parts_in s false ts)
    terms_reached s a o h i no_terms e d = tt
    terms_reached s a o h i (plus x ts) e d =
        let u = second_empty (expr_faults s false x) _ e in
        (reached s a o h i false x (first_empty _ _ e) (first_each P (applied_in h x) (terms_apply h ts) d), terms_reached s a o h i ts (second_empty (sort_faults int (sort_in s x) (first_place x)) _ u) (second_each P (applied_in h x) (terms_apply h ts) d))
    terms_reached s a o h i (less x ts) e d =
        let u = second_empty (expr_faults s false x) _ e in
        (reached s a o h i false x (first_empty _ _ e) (first_each P (applied_in h x) (terms_apply h ts) d), terms_reached s a o h i ts (second_empty (sort_faults int (sort_in s x) (first_place x)) _ u) (second_each P (applied_in h x) (terms_apply h ts) d))

    indices_reached : (s : Scope) → Named s → reads_entry s.part ≡ false → (h : List Text) → Hides s.bounds h → (p : Place) (js : Indices) (m : Option Kind) (t : Tree) → EachHas V C t → index_faults s p m js ≡ [] → Each P (indices_apply h js) → EachHas V C (indexed_term s false t js)
    indices_reached s a o h i p no_indices m t g e d = g
    indices_reached s a o h i p (at_index x js) m t g e d =
        let r1 = second_empty (map_faults m p) _ e in
        let r2 = second_empty (expr_faults s false x) _ r1 in
        indices_reached s a o h i p js (read_sort m (sort_in s x)) (read t (term_in s false x)) (g, reached s a o h i false x (first_empty _ _ r1) (first_each P (applied_in h x) (indices_apply h js) d))
        (second_empty (sort_faults int (sort_in s x) (first_place x)) _ r2) (second_each P (applied_in h x) (indices_apply h js) d)
    indices_reached s a o h i p (update x y js) m t g e d =
        let r1 = second_empty (map_faults m p) _ e in
        let r2 = second_empty (expr_faults s false x) _ r1 in
        let r3 = second_empty (sort_faults int (sort_in s x) (first_place x)) _ r2 in
        let r4 = second_empty (expr_faults s false y) _ r3 in
        let v = second_each P (applied_in h x) (applied_in h y ++ indices_apply h js) d in
        indices_reached s a o h i p js (write_sort m (sort_in s x) (sort_in s y)) (write t (term_in s false x) (term_in s false y))
        (g, reached s a o h i false x (first_empty _ _ r1) (first_each P (applied_in h x) (applied_in h y ++ indices_apply h js) d), reached s a o h i false y (first_empty _ _ r3) (first_each P (applied_in h y) (indices_apply h js) v))
        (second_empty (same_sort_faults (entry_sort m) (sort_in s y) (first_place y)) _ r4) (second_each P (applied_in h y) (indices_apply h js) v)

    triggers_reached : (s : Scope) → Named s → reads_entry s.part ≡ false → (h : List Text) → Hides s.bounds h → (vs : List Text) (rs : Triggers) → trigger_faults s vs rs ≡ [] → Each P (triggers_apply h rs) → EachInPatterns V C (patterns_in s false rs)
    triggers_reached s a o h i vs no_triggers e d = tt
    triggers_reached s a o h i vs (trigger p xs rs) e d =
        let u = second_empty (unless (is_trigger vs xs) bad_trigger p) _ e in
        (patterns_reached s a o h i xs (first_empty _ _ u) (first_each P (all_applied h xs) (triggers_apply h rs) d), triggers_reached s a o h i vs rs (second_empty (pattern_faults s xs) _ u) (second_each P (all_applied h xs) (triggers_apply h rs) d))

    patterns_reached : (s : Scope) → Named s → reads_entry s.part ≡ false → (h : List Text) → Hides s.bounds h → (xs : Exprs) → pattern_faults s xs ≡ [] → Each P (all_applied h xs) → EachInTrees V C (terms_in s false xs)
    patterns_reached s a o h i no_exprs e d = tt
    patterns_reached s a o h i (item x xs) e d = (reached s a o h i false x (first_empty _ _ e) (first_each P (applied_in h x) (all_applied h xs) d), patterns_reached s a o h i xs (second_empty (expr_faults s false x) _ e) (second_each P (applied_in h x) (all_applied h xs) d))
