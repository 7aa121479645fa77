-- The terms of an expression without faults in two scopes in which the names that it uses stand for things that go alike.
use Rattle.std.specs.Prelude.{◌≡◌, refl, ℕ, Bool, true, false, ◌||◌, List, [], ◌∷◌, ◌++◌, map, flat_map, reverse, pos, negsuc, bytes_eq, Option, Some, None}
use Rattle.std.specs.List.{AllByRecursion, list_any}
use Rattle.std.proofs.Common.{ap, sym, subst, ◌∙◌}
use Rattle.std.proofs.lemmas.List.{map-append}
use Rattle.logic_core.specs.Tree.{Kind, int, boolean, Tree, num, truth as truth_term, free, bound, linear, mul, read, write, choose as choose_term, call, negation as negation_term, all, some, equal, at_most, Trees, no_trees, tree, Parts, no_parts, Patterns, no_patterns, pattern}
use Rattle.logic_core.specs.Renamed.{both_renamed, each_both_renamed, parts_both_renamed, patterns_both_renamed, EachHas, EachInTrees, EachInParts, EachInPatterns}
use Rattle.logic_core.specs.Sorts.{read_sort, write_sort}
use Rattle.bpl_ast.specs.Place.{Name, Ty}
use Rattle.bpl_ast.specs.Tree.{Relation, eq, ne, lt, le, gt, ge, Quantifier, for_all, exists, Expr, expr, first_place, Node, number, truth, variable, apply, old, choose, quantified, iffs, implies, ands, ors, related, sums, products, negation, minus, indexed, Exprs, no_exprs, item, Terms, no_terms, plus, less, Indices, no_indices, at_index, update, Triggers, no_triggers, trigger, Groups, no_groups, group}
use Rattle.bpl_scopes.specs.declared.part.Part.{Part}
use Rattle.bpl_scopes.specs.declared.fault.TypeKind.TheVariants.{Twice as twice, QuantifierHere as quantifier_here, Trigger as bad_trigger, OldHere as old_here}
use Rattle.bv_base.specs.Text.{is_among}
use Rattle.bpl_scopes.specs.Fault.{again, unless}
use Rattle.bpl_scopes.specs.Scopes.{Text, Table, Counts, names_of, only_names, texts_of, typed_names, entity_of, Var, BoundVar, Scope, meaning, bound_names, hidden_in}
use Rattle.bpl_scopes.specs.Sorts.{sort_in, sorts_of_names, bounds_of, within, applied_heading, sort_of_type}
use Rattle.bpl_scopes.specs.Functions.{names_in_type, function_number}
use Rattle.bpl_scopes.specs.TypeFaults.{group_type_faults, group_where_faults, params_faults}
use Rattle.bv_base.specs.declared.place.Place.{Place}
use Rattle.bpl_faults.specs.NameFaults.{old_faults, application_faults, reads_entry, sort_faults, same_sort_faults, map_faults, entry_sort}
use Rattle.bpl_faults.specs.ExprFaults.{is_trigger, parameter_sorts, count, expr_faults, node_faults, operand_faults, argument_faults, term_faults, index_faults, trigger_faults, pattern_faults}
use Rattle.bpl_texts.specs.Uses.{use_of, type_uses, hiding, expr_uses, node_uses, exprs_uses, terms_uses, indices_uses, triggers_uses, groups_uses, clause_uses}
use Rattle.bpl_terms.specs.Terms.{no_term, meaning_term, nested_left, left_of, implied, one_more, comparison, binder, sort_or_int, bound_sorts, term_in, node_term, terms_in, parts_in, indexed_term, patterns_in}
use Rattle.bpl_resolve.proofs.HasSort.{first_empty, second_empty, unless_empty}
use Rattle.bpl_resolve.proofs.Below.{back_onto}
use Rattle.bpl_resolve.proofs.Faultless.{heading_of}
use Rattle.rebuild_laws.proofs.ScopesAlike.{SameBounds, AlikeTerm, AlikeEntity, AlikeName, AlikeVars, scope_here, scope_there, hidden_same, name_alike, function_alike, UsedIn, sort_alike}

module _ (new_def new_var : ℕ → ℕ) (D V : ℕ → Type 0) (Used : Text → Type 0) (t u : Table) (c d : Counts) (names : (n : Text) → Used n → AlikeName new_def new_var D V Used t u c d n) where
  abbrev Alike : Tree → Tree → Type 0
  Alike = AlikeTerm new_def new_var D V Used t u c d

  pub record AlikeTrees (a b : Trees) : Type 0 where
    pub same : b ≡ each_both_renamed new_def new_var a
    pub covered : EachInTrees V D a

  pub record AlikeParts (a b : Parts) : Type 0 where
    pub same : b ≡ parts_both_renamed new_def new_var a
    pub covered : EachInParts V D a

  pub record AlikePatterns (a b : Patterns) : Type 0 where
    pub same : b ≡ patterns_both_renamed new_def new_var a
    pub covered : EachInPatterns V D a

  one_with : (f : Tree → Tree) → ((x : Tree) → both_renamed new_def new_var (f x) ≡ f (both_renamed new_def new_var x)) → ((x : Tree) → EachHas V D x → EachHas V D (f x)) → (x y : Tree) → Alike x y → Alike (f x) (f y)
  one_with f e h x y a = record { same = ap f a.same ∙ sym (e x); covered = h x a.covered }

  two_with : (f : Tree → Tree → Tree) → ((x y : Tree) → both_renamed new_def new_var (f x y) ≡ f (both_renamed new_def new_var x) (both_renamed new_def new_var y)) → ((x y : Tree) → EachHas V D x → EachHas V D y → EachHas V D (f x y))
      → (x y z w : Tree) → Alike x y → Alike z w → Alike (f x z) (f y w)
  two_with f e h x y z w a b = record { same = (λ i. f (a.same i) (b.same i)) ∙ sym (e x z); covered = h x z a.covered b.covered }

  nested : (f : Tree → Tree → Tree) → ((x y : Tree) → both_renamed new_def new_var (f x y) ≡ f (both_renamed new_def new_var x) (both_renamed new_def new_var y)) → ((x y : Tree) → EachHas V D x → EachHas V D y → EachHas V D (f x y))
      → (x y : Tree) (ts us : Trees) → Alike x y → AlikeTrees ts us → Alike (nested_left f x ts) (nested_left f y us)
  nested f e h x y ts us a b = subst (λ ws. Alike (nested_left f x ts) (nested_left f y ws)) (sym b.same) (by x y ts a b.covered)
    where
      by : (x y : Tree) (ts : Trees) → Alike x y → EachInTrees V D ts → Alike (nested_left f x ts) (nested_left f y (each_both_renamed new_def new_var ts))
      by x y no_trees a k = a
      by x y (tree z ts) a k = by (f x z) (f y (both_renamed new_def new_var z)) ts (two_with f e h x y z (both_renamed new_def new_var z) a (record { same = refl; covered = k.0 })) k.1

  left_with : (f : Tree → Tree → Tree) (none : Tree) → Alike none none → ((x y : Tree) → both_renamed new_def new_var (f x y) ≡ f (both_renamed new_def new_var x) (both_renamed new_def new_var y)) → ((x y : Tree) → EachHas V D x → EachHas V D y → EachHas V D (f x y))
      → (ts us : Trees) → AlikeTrees ts us → Alike (left_of f none ts) (left_of f none us)
  left_with f none a e h ts us b = subst (λ ws. Alike (left_of f none ts) (left_of f none ws)) (sym b.same) (by ts b.covered)
    where
      by : (ts : Trees) → EachInTrees V D ts → Alike (left_of f none ts) (left_of f none (each_both_renamed new_def new_var ts))
      by no_trees k = a
      by (tree z ts) k = nested f e h z (both_renamed new_def new_var z) ts (each_both_renamed new_def new_var ts) (record { same = refl; covered = k.0 }) (record { same = refl; covered = k.1 })

  implied_with : (ts : Trees) → EachInTrees V D ts → Alike (implied ts) (implied (each_both_renamed new_def new_var ts))
  implied_with no_trees k = record { same = refl; covered = tt }
  implied_with (tree a no_trees) k = record { same = refl; covered = k.0 }
  implied_with (tree a (tree b ts)) k =
      let rest = implied_with (tree b ts) k.1 in
      record { same = (λ i. some (tree (negation_term (both_renamed new_def new_var a)) (tree (rest.same i) no_trees))); covered = (k.0, (rest.covered, tt)) }

  compared : (r : Relation) (x y z w : Tree) → Alike x y → Alike z w → Alike (comparison r x z) (comparison r y w)
  compared eq x y z w a b = record { same = (λ i. equal (a.same i) (b.same i)); covered = (a.covered, b.covered) }
  compared ne x y z w a b = record { same = (λ i. negation_term (equal (a.same i) (b.same i))); covered = (a.covered, b.covered) }
  compared lt x y z w a b = record { same = (λ i. at_most (one_more (a.same i)) (b.same i)); covered = ((a.covered, tt), b.covered) }
  compared le x y z w a b = record { same = (λ i. at_most (a.same i) (b.same i)); covered = (a.covered, b.covered) }
  compared gt x y z w a b = record { same = (λ i. at_most (one_more (b.same i)) (a.same i)); covered = ((b.covered, tt), a.covered) }
  compared ge x y z w a b = record { same = (λ i. at_most (b.same i) (a.same i)); covered = (b.covered, a.covered) }

  -- names that are used
  abbrev pub Each : List Text → Type 0
  Each ns = AllByRecursion Used ns

  pub each_first : (xs ys : List Text) → Each (xs ++ ys) → Each xs
  each_first [] ys h = tt
  each_first (x ∷ xs) ys h = (h.0, each_first xs ys h.1)

  pub each_second : (xs ys : List Text) → Each (xs ++ ys) → Each ys
  each_second [] ys h = h
  each_second (x ∷ xs) ys h = each_second xs ys h.1

  pub used_unless : (h : List Text) (n : Text) → Each (use_of h n) → is_among h n ≡ false → Used n
  used_unless h n e f = by (is_among h n) f e
    where
      by : (b : Bool) → b ≡ false → Each (elim b [ true ↦ [] | false ↦ n ∷ [] ]) → Used n
      by true g k = absurd (cc)
      by false g k = k.0

  types_used : (h : List Text) (ns : List Text) → Each (flat_map (use_of h) ns) → UsedIn new_def new_var D V Used t u c d h ns
  types_used h [] e = tt
  types_used h (n ∷ ns) e = (used_unless h n (each_first (use_of h n) _ e), types_used h ns (each_second (use_of h n) _ e))

  -- h are the names that the scope hides
  abbrev pub Hidden : Part → List Var → List BoundVar → List Text → Type 0
  Hidden part vs bs h = (n : Text) → is_among h n ≡ is_among (hidden_in (scope_here new_def new_var D V Used t u c d part vs bs)) n

  among_append : (n : Text) (xs ys : List Text) → is_among (xs ++ ys) n ≡ (is_among xs n || is_among ys n)
  among_append n [] ys = refl
  among_append n (x ∷ xs) ys = (λ i. bytes_eq n x || among_append n xs ys i) ∙ by (bytes_eq n x)
    where
      by : (a : Bool) → (a || (is_among xs n || is_among ys n)) ≡ ((a || is_among xs n) || is_among ys n)
      by true = refl
      by false = refl

  -- the bound variables of groups hide their names
  pushed : (tab : Table) (hid : List Text) (n : Text) (ps : List (Name × Ty)) (bs : List BoundVar)
      → is_among (bound_names (bounds_of tab hid ps ++ bs)) n ≡ (is_among (texts_of (only_names ps)) n || is_among (bound_names bs) n)
  pushed tab hid n [] bs = refl
  pushed tab hid n (p ∷ ps) bs =
      let b : BoundVar = record { name = Some ((p.0).text); sort = sort_of_type tab hid p.1 } in
      ap (λ ws. is_among (bound_names ws) n) (back_onto b (map (λ (q : Name × Ty). record { name = Some ((q.0).text); sort = sort_of_type tab hid q.1 }) ps) bs)
      ∙ pushed tab hid n ps (b ∷ bs)
      ∙ by (is_among (texts_of (only_names ps)) n) (bytes_eq n (p.0).text)
    where
      by : (a e : Bool) → (a || (e || is_among (bound_names bs) n)) ≡ ((e || a) || is_among (bound_names bs) n)
      by true true = refl
      by true false = refl
      by false true = refl
      by false false = refl

  within_hidden : (part : Part) (vs : List Var) (bs : List BoundVar) (h : List Text) (gs : Groups) → Hidden part vs bs h
      → Hidden part vs (bounds_of t (hidden_in (scope_here new_def new_var D V Used t u c d part vs bs)) (names_of gs) ++ bs) (hiding gs h)
  within_hidden part vs bs h gs i n =
      let hid = hidden_in (scope_here new_def new_var D V Used t u c d part vs bs) in
      let mine = texts_of (only_names (names_of gs)) in
      let vars = map (λ (v : Var). v.name) vs in
      among_append n mine h ∙ ap (λ b. is_among mine n || b) (i n ∙ among_append n (bound_names bs) vars)
      ∙ by (is_among mine n) (is_among (bound_names bs) n) (is_among vars n)
      ∙ sym (among_append n (bound_names (bounds_of t hid (names_of gs) ++ bs)) vars ∙ ap (λ b. b || is_among vars n) (pushed t hid n (names_of gs) bs))
    where
      by : (x y z : Bool) → (x || (y || z)) ≡ ((x || y) || z)
      by true y z = refl
      by false true z = refl
      by false false z = refl

  -- the bound variables of groups have the same names in both
  bounds_names : (tab : Table) (hid : List Text) (ps : List (Name × Ty)) (bs : List BoundVar)
      → map (λ (b : BoundVar). b.name) (bounds_of tab hid ps ++ bs) ≡ reverse (map (λ (p : Name × Ty). Some ((p.0).text)) ps) ++ map (λ (b : BoundVar). b.name) bs
  bounds_names tab hid [] bs = refl
  bounds_names tab hid (p ∷ ps) bs =
      let b : BoundVar = record { name = Some ((p.0).text); sort = sort_of_type tab hid p.1 } in
      ap (map (λ (x : BoundVar). x.name)) (back_onto b (map (λ (q : Name × Ty). record { name = Some ((q.0).text); sort = sort_of_type tab hid q.1 }) ps) bs)
      ∙ bounds_names tab hid ps (b ∷ bs)
      ∙ sym (back_onto (Some ((p.0).text)) (map (λ (q : Name × Ty). Some ((q.0).text)) ps) (map (λ (x : BoundVar). x.name) bs))

  within_bounds : (hid hid' : List Text) (gs : Groups) (bs cs : List BoundVar) → SameBounds bs cs → SameBounds (bounds_of t hid (names_of gs) ++ bs) (bounds_of u hid' (names_of gs) ++ cs)
  within_bounds hid hid' gs bs cs e = bounds_names u hid' (names_of gs) cs ∙ ap (λ os. reverse (map (λ (p : Name × Ty). Some ((p.0).text)) (names_of gs)) ++ os) e ∙ sym (bounds_names t hid (names_of gs) bs)

  -- two scopes whose variables and bound variables go alike
  module _ (part : Part) (vs ws : List Var) (vars : AlikeVars new_def new_var D V Used t u c d vs ws) where
    abbrev here : List BoundVar → Scope
    here = scope_here new_def new_var D V Used t u c d part vs

    abbrev there : List BoundVar → Scope
    there = scope_there new_def new_var D V Used t u c d part ws

    -- each name of groups has its sort
    named_sorts : (hid : List Text) (ns : List Name) (x : Ty) → sort_of_type u hid x ≡ sort_of_type t hid x → sorts_of_names u hid (typed_names ns x) ≡ sorts_of_names t hid (typed_names ns x)
    named_sorts hid [] x e = refl
    named_sorts hid (n ∷ ns) x e = λ i. e i ∷ named_sorts hid ns x e i

    groups_sorts : (hid h : List Text) → ((n : Text) → is_among h n ≡ is_among hid n) → (gs : Groups) → Each (groups_uses h gs) → sorts_of_names u hid (names_of gs) ≡ sorts_of_names t hid (names_of gs)
    groups_sorts hid h i no_groups e = refl
    groups_sorts hid h i (group ns x k gs) e =
        let rest = each_second (type_uses h x) (clause_uses h k ++ groups_uses h gs) e in
        map-append (λ (p : Name × Ty). sort_of_type u hid p.1) (typed_names ns x) (names_of gs)
        ∙ (λ j. named_sorts hid ns x (sort_alike new_def new_var D V Used t u c d hid names x (moved (names_in_type x) (types_used h (names_in_type x) (each_first (type_uses h x) _ e)))) j ++ groups_sorts hid h i gs (each_second (clause_uses h k) (groups_uses h gs) rest) j)
        ∙ sym (map-append (λ (p : Name × Ty). sort_of_type t hid p.1) (typed_names ns x) (names_of gs))
      where
        moved : (ns : List Text) → UsedIn new_def new_var D V Used t u c d h ns → UsedIn new_def new_var D V Used t u c d hid ns
        moved [] g = tt
        moved (n ∷ ns) g = ((λ f. g.0 (i n ∙ f)), moved ns g.1)

    bound_same : (bs cs : List BoundVar) → SameBounds bs cs → (h : List Text) → Hidden part vs bs h → (gs : Groups) → Each (groups_uses h gs) → bound_sorts (there cs) gs ≡ bound_sorts (here bs) gs
    bound_same bs cs e h i gs k =
        (λ j. map sort_or_int (sorts_of_names u (hidden_same new_def new_var D V Used t u c d vs ws vars bs cs e j) (names_of gs)))
        ∙ ap (map sort_or_int) (groups_sorts (hidden_in (here bs)) h i gs k)

    pub variable_alike : (o : Bool) (bs cs : List BoundVar) → SameBounds bs cs → (h : List Text) → Hidden part vs bs h → (n : Text) → Each (use_of h n) → Alike (meaning_term o c (meaning (here bs) n)) (meaning_term o d (meaning (there cs) n))
    variable_alike o bs cs e h i n k = name_alike new_def new_var D V Used t u c d o part vs ws vars bs cs e n (λ f. (names n (used_unless h n k (i n ∙ f))).entity)

    function_of : (bs : List BoundVar) (h : List Text) → Hidden part vs bs h → (f : Bool) (n : Name) (xs : Exprs) → application_faults (here bs) f n.text (meaning (here bs) n.text) (count xs) n.at ≡ [] → Each (use_of h n.text)
        → (new_def (function_number t n.text) ≡ function_number u n.text) × D (function_number t n.text)
    function_of bs h i f n xs e k =
        let g = heading_of (here bs) f n.text (meaning (here bs) n.text) (count xs) n.at e in
        function_alike new_def new_var D V Used t u c d part vs bs n.text g.0 (λ q. (names n.text (used_unless h n.text k (i n.text ∙ q))).entity) g.1

    call_alike : (n : Text) → (new_def (function_number t n) ≡ function_number u n) × D (function_number t n) → (x y : Trees) → AlikeTrees x y → Alike (call (function_number t n) x) (call (function_number u n) y)
    call_alike n f x y a = record { same = λ j. call (sym f.0 j) (a.same j); covered = (f.1, a.covered) }

    all_alike : (x y : Trees) → AlikeTrees x y → Alike (all x) (all y)
    all_alike x y a = record { same = ap all a.same; covered = a.covered }

    some_alike : (x y : Trees) → AlikeTrees x y → Alike (some x) (some y)
    some_alike x y a = record { same = ap some a.same; covered = a.covered }

    implied_alike : (x y : Trees) → AlikeTrees x y → Alike (implied x) (implied y)
    implied_alike x y a = subst (λ z. Alike (implied x) (implied z)) (sym a.same) (implied_with x a.covered)

    binder_alike : (q : Quantifier) (ks : List Kind) (ps qs : Patterns) (x y : Tree) → AlikePatterns ps qs → Alike x y → Alike (binder q ks ps x) (binder q ks qs y)
    binder_alike for_all ks ps qs x y a b = record { same = λ j. Tree.for_all ks (a.same j) (b.same j); covered = (a.covered, b.covered) }
    binder_alike exists ks ps qs x y a b = record { same = λ j. Tree.exists ks (a.same j) (b.same j); covered = (a.covered, b.covered) }

    tree_more : (x y : Tree) (xs ys : Trees) → Alike x y → AlikeTrees xs ys → AlikeTrees (tree x xs) (tree y ys)
    tree_more x y xs ys a b = record { same = λ j. tree (a.same j) (b.same j); covered = (a.covered, b.covered) }

    mutual
      pub term_alike : (o : Bool) (bs cs : List BoundVar) → SameBounds bs cs → (h : List Text) → Hidden part vs bs h → (f : Bool) (x : Expr) → expr_faults (here bs) f x ≡ [] → Each (expr_uses h x) → Alike (term_in (here bs) o x) (term_in (there cs) o x)
      term_alike o bs cs e h i f (expr p n) none k = node_alike o bs cs e h i f n none k

      node_alike : (o : Bool) (bs cs : List BoundVar) → SameBounds bs cs → (h : List Text) → Hidden part vs bs h → (f : Bool) (n : Node) → node_faults (here bs) f n ≡ [] → Each (node_uses h n) → Alike (node_term (here bs) o n) (node_term (there cs) o n)
      node_alike o bs cs e h i f (number n) none k = record { same = refl; covered = tt }
      node_alike o bs cs e h i f (truth b) none k = record { same = refl; covered = tt }
      node_alike o bs cs e h i f (variable n) none k = variable_alike o bs cs e h i n.text k
      node_alike o bs cs e h i f (apply n xs) none k =
          call_alike n.text (function_of bs h i f n xs (first_empty _ _ none) (each_first (use_of h n.text) (exprs_uses h xs) k)) (terms_in (here bs) o xs) (terms_in (there cs) o xs)
          (arguments_alike o bs cs e h i (parameter_sorts (here bs) (applied_heading (meaning (here bs) n.text))) xs (second_empty (application_faults (here bs) f n.text (meaning (here bs) n.text) (count xs) n.at) _ none) (each_second (use_of h n.text) (exprs_uses h xs) k))
      node_alike o bs cs e h i f (old p x) none k = term_alike true bs cs e h i false x (second_empty (old_faults part p) _ none) k
      node_alike o bs cs e h i f (choose a x y) none k =
          let r = second_empty (expr_faults (here bs) false a) _ none in
          let q = second_empty (sort_faults boolean (sort_in (here bs) a) (first_place a)) _ r in
          let w = second_empty (expr_faults (here bs) false x) _ q in
          let m = each_second (expr_uses h a) (expr_uses h x ++ expr_uses h y) k in
          let one = term_alike o bs cs e h i false a (first_empty _ _ none) (each_first (expr_uses h a) (expr_uses h x ++ expr_uses h y) k) in
          let two = term_alike o bs cs e h i false x (first_empty _ _ q) (each_first (expr_uses h x) (expr_uses h y) m) in
          let three = term_alike o bs cs e h i false y (first_empty _ _ w) (each_second (expr_uses h x) (expr_uses h y) m) in
          record { same = λ j. choose_term (one.same j) (two.same j) (three.same j); covered = (one.covered, two.covered, three.covered) }
      node_alike o bs cs e h i f (quantified q p ps gs rs x) none k =
          let r1 = second_empty (unless f quantifier_here p) _ none in
          let r2 = second_empty (params_faults ps) _ r1 in
          let r3 = second_empty (group_type_faults t (hidden_in (here bs)) gs) _ r2 in
          let r4 = second_empty (group_where_faults gs) _ r3 in
          let r5 = second_empty (again twice [] (only_names (names_of gs))) _ r4 in
          let r6 = second_empty (trigger_faults (within (here bs) gs) (texts_of (only_names (names_of gs))) rs) _ r5 in
          let m = each_second (groups_uses h gs) (triggers_uses (hiding gs h) rs ++ expr_uses (hiding gs h) x) k in
          let bs' = bounds_of t (hidden_in (here bs)) (names_of gs) ++ bs in
          let cs' = bounds_of u (hidden_in (there cs)) (names_of gs) ++ cs in
          let e' = within_bounds (hidden_in (here bs)) (hidden_in (there cs)) gs bs cs e in
          let i' = within_hidden part vs bs h gs i in
          let patterns = triggers_alike o bs' cs' e' (hiding gs h) i' (texts_of (only_names (names_of gs))) rs (first_empty _ _ r5) (each_first (triggers_uses (hiding gs h) rs) (expr_uses (hiding gs h) x) m) in
          let inside = term_alike o bs' cs' e' (hiding gs h) i' true x (first_empty _ _ r6) (each_second (triggers_uses (hiding gs h) rs) (expr_uses (hiding gs h) x) m) in
          subst (λ ks. Alike (node_term (here bs) o (quantified q p ps gs rs x)) (binder q ks (patterns_in (there cs') o rs) (term_in (there cs') o x))) (sym (bound_same bs cs e h i gs (each_first (groups_uses h gs) (triggers_uses (hiding gs h) rs ++ expr_uses (hiding gs h) x) k)))
          (binder_alike q (bound_sorts (here bs) gs) (patterns_in (here bs') o rs) (patterns_in (there cs') o rs) (term_in (here bs') o x) (term_in (there cs') o x) patterns inside)
      node_alike o bs cs e h i f (iffs xs) none k = left_with equal (truth_term true) (record { same = refl; covered = tt }) (λ x y. refl) (λ x y a b. (a, b)) (terms_in (here bs) o xs) (terms_in (there cs) o xs) (operands_alike o bs cs e h i f boolean xs none k)
      node_alike o bs cs e h i f (implies xs) none k = implied_alike (terms_in (here bs) o xs) (terms_in (there cs) o xs) (operands_alike o bs cs e h i f boolean xs none k)
      node_alike o bs cs e h i f (ands xs) none k = all_alike (terms_in (here bs) o xs) (terms_in (there cs) o xs) (operands_alike o bs cs e h i f boolean xs none k)
      node_alike o bs cs e h i f (ors xs) none k = some_alike (terms_in (here bs) o xs) (terms_in (there cs) o xs) (operands_alike o bs cs e h i f boolean xs none k)
      node_alike o bs cs e h i f (related r x y) none k =
          compared r (term_in (here bs) o x) (term_in (there cs) o x) (term_in (here bs) o y) (term_in (there cs) o y)
          (term_alike o bs cs e h i false x (first_empty _ _ none) (each_first (expr_uses h x) (expr_uses h y) k))
          (term_alike o bs cs e h i false y (first_empty _ _ (second_empty (expr_faults (here bs) false x) _ none)) (each_second (expr_uses h x) (expr_uses h y) k))
      node_alike o bs cs e h i f (sums x ts) none k =
          let w = second_empty (expr_faults (here bs) false x) _ none in
          let one = term_alike o bs cs e h i false x (first_empty _ _ none) (each_first (expr_uses h x) (terms_uses h ts) k) in
          let rest = terms_alike o bs cs e h i ts (second_empty (sort_faults int (sort_in (here bs) x) (first_place x)) _ w) (each_second (expr_uses h x) (terms_uses h ts) k) in
          record { same = λ j. linear (Parts.part (pos 1) (one.same j) (rest.same j)) (pos 0); covered = (one.covered, rest.covered) }
      node_alike o bs cs e h i f (products xs) none k = left_with mul (num (pos 1)) (record { same = refl; covered = tt }) (λ x y. refl) (λ x y a b. (a, b)) (terms_in (here bs) o xs) (terms_in (there cs) o xs) (operands_alike o bs cs e h i false int xs none k)
      node_alike o bs cs e h i f (negation x) none k = one_with negation_term (λ y. refl) (λ y a. a) (term_in (here bs) o x) (term_in (there cs) o x) (term_alike o bs cs e h i f x (first_empty _ _ none) k)
      node_alike o bs cs e h i f (minus x) none k =
          one_with (λ y. linear (Parts.part (negsuc 0) y no_parts) (pos 0)) (λ y. refl) (λ y a. (a, tt)) (term_in (here bs) o x) (term_in (there cs) o x) (term_alike o bs cs e h i false x (first_empty _ _ none) k)
      node_alike o bs cs e h i f (indexed x js) none k =
          indices_alike o bs cs e h i (first_place x) js (sort_in (here bs) x) (term_in (here bs) o x) (term_in (there cs) o x) (term_alike o bs cs e h i false x (first_empty _ _ none) (each_first (expr_uses h x) (indices_uses h js) k))
          (second_empty (expr_faults (here bs) false x) _ none) (each_second (expr_uses h x) (indices_uses h js) k)

      operands_alike : (o : Bool) (bs cs : List BoundVar) → SameBounds bs cs → (h : List Text) → Hidden part vs bs h → (f : Bool) (a : Kind) (xs : Exprs) → operand_faults (here bs) f a xs ≡ [] → Each (exprs_uses h xs) → AlikeTrees (terms_in (here bs) o xs) (terms_in (there cs) o xs)
      operands_alike o bs cs e h i f a no_exprs none k = record { same = refl; covered = tt }
      operands_alike o bs cs e h i f a (item x xs) none k =
          let r = second_empty (expr_faults (here bs) f x) _ none in
          tree_more (term_in (here bs) o x) (term_in (there cs) o x) (terms_in (here bs) o xs) (terms_in (there cs) o xs)
          (term_alike o bs cs e h i f x (first_empty _ _ none) (each_first (expr_uses h x) (exprs_uses h xs) k))
          (operands_alike o bs cs e h i f a xs (second_empty (sort_faults a (sort_in (here bs) x) (first_place x)) _ r) (each_second (expr_uses h x) (exprs_uses h xs) k))

      pub arguments_alike : (o : Bool) (bs cs : List BoundVar) → SameBounds bs cs → (h : List Text) → Hidden part vs bs h → (ks : List (Option Kind)) (xs : Exprs) → argument_faults (here bs) ks xs ≡ [] → Each (exprs_uses h xs) → AlikeTrees (terms_in (here bs) o xs) (terms_in (there cs) o xs)
      arguments_alike o bs cs e h i ks no_exprs none k = record { same = refl; covered = tt }
      arguments_alike o bs cs e h i [] (item x xs) none k =
          tree_more (term_in (here bs) o x) (term_in (there cs) o x) (terms_in (here bs) o xs) (terms_in (there cs) o xs)
          (term_alike o bs cs e h i false x (first_empty _ _ none) (each_first (expr_uses h x) (exprs_uses h xs) k))
          (arguments_alike o bs cs e h i [] xs (second_empty (expr_faults (here bs) false x) _ none) (each_second (expr_uses h x) (exprs_uses h xs) k))
      arguments_alike o bs cs e h i (a ∷ ks) (item x xs) none k =
          let r = second_empty (expr_faults (here bs) false x) _ none in
          tree_more (term_in (here bs) o x) (term_in (there cs) o x) (terms_in (here bs) o xs) (terms_in (there cs) o xs)
          (term_alike o bs cs e h i false x (first_empty _ _ none) (each_first (expr_uses h x) (exprs_uses h xs) k))
          (arguments_alike o bs cs e h i ks xs (second_empty (same_sort_faults a (sort_in (here bs) x) (first_place x)) _ r) (each_second (expr_uses h x) (exprs_uses h xs) k))

      terms_alike : (o : Bool) (bs cs : List BoundVar) → SameBounds bs cs → (h : List Text) → Hidden part vs bs h → (ts : Terms) → term_faults (here bs) ts ≡ [] → Each (terms_uses h ts) → AlikeParts (parts_in (here bs) o ts) (parts_in (there cs) o ts)
      terms_alike o bs cs e h i no_terms none k = record { same = refl; covered = tt }
      terms_alike o bs cs e h i (plus x ts) none k =
          let w = second_empty (expr_faults (here bs) false x) _ none in
          let one = term_alike o bs cs e h i false x (first_empty _ _ none) (each_first (expr_uses h x) (terms_uses h ts) k) in
          let rest = terms_alike o bs cs e h i ts (second_empty (sort_faults int (sort_in (here bs) x) (first_place x)) _ w) (each_second (expr_uses h x) (terms_uses h ts) k) in
          record { same = λ j. Parts.part (pos 1) (one.same j) (rest.same j); covered = (one.covered, rest.covered) }
      terms_alike o bs cs e h i (less x ts) none k =
          let w = second_empty (expr_faults (here bs) false x) _ none in
          let one = term_alike o bs cs e h i false x (first_empty _ _ none) (each_first (expr_uses h x) (terms_uses h ts) k) in
          let rest = terms_alike o bs cs e h i ts (second_empty (sort_faults int (sort_in (here bs) x) (first_place x)) _ w) (each_second (expr_uses h x) (terms_uses h ts) k) in
          record { same = λ j. Parts.part (negsuc 0) (one.same j) (rest.same j); covered = (one.covered, rest.covered) }

      indices_alike : (o : Bool) (bs cs : List BoundVar) → SameBounds bs cs → (h : List Text) → Hidden part vs bs h → (p : Place) (js : Indices) (m : Option Kind) (a b : Tree) → Alike a b → index_faults (here bs) p m js ≡ [] → Each (indices_uses h js)
          → Alike (indexed_term (here bs) o a js) (indexed_term (there cs) o b js)
      indices_alike o bs cs e h i p no_indices m a b r none k = r
      indices_alike o bs cs e h i p (at_index x js) m a b r none k =
          let r1 = second_empty (map_faults m p) _ none in
          let r2 = second_empty (expr_faults (here bs) false x) _ r1 in
          indices_alike o bs cs e h i p js (read_sort m (sort_in (here bs) x)) (read a (term_in (here bs) o x)) (read b (term_in (there cs) o x))
          (two_with read (λ x y. refl) (λ x y v w. (v, w)) a b (term_in (here bs) o x) (term_in (there cs) o x) r (term_alike o bs cs e h i false x (first_empty _ _ r1) (each_first (expr_uses h x) (indices_uses h js) k)))
          (second_empty (sort_faults int (sort_in (here bs) x) (first_place x)) _ r2) (each_second (expr_uses h x) (indices_uses h js) k)
      indices_alike o bs cs e h i p (update x y js) m a b r none k =
          let r1 = second_empty (map_faults m p) _ none in
          let r2 = second_empty (expr_faults (here bs) false x) _ r1 in
          let r3 = second_empty (sort_faults int (sort_in (here bs) x) (first_place x)) _ r2 in
          let r4 = second_empty (expr_faults (here bs) false y) _ r3 in
          let v = each_second (expr_uses h x) (expr_uses h y ++ indices_uses h js) k in
          let one = term_alike o bs cs e h i false x (first_empty _ _ r1) (each_first (expr_uses h x) (expr_uses h y ++ indices_uses h js) k) in
          let two = term_alike o bs cs e h i false y (first_empty _ _ r3) (each_first (expr_uses h y) (indices_uses h js) v) in
          indices_alike o bs cs e h i p js (write_sort m (sort_in (here bs) x) (sort_in (here bs) y)) (write a (term_in (here bs) o x) (term_in (here bs) o y)) (write b (term_in (there cs) o x) (term_in (there cs) o y))
          (record { same = λ j. write (r.same j) (one.same j) (two.same j); covered = (r.covered, one.covered, two.covered) })
          (second_empty (same_sort_faults (entry_sort m) (sort_in (here bs) y) (first_place y)) _ r4) (each_second (expr_uses h y) (indices_uses h js) v)

      triggers_alike : (o : Bool) (bs cs : List BoundVar) → SameBounds bs cs → (h : List Text) → Hidden part vs bs h → (ns : List Text) (rs : Triggers) → trigger_faults (here bs) ns rs ≡ [] → Each (triggers_uses h rs) → AlikePatterns (patterns_in (here bs) o rs) (patterns_in (there cs) o rs)
      triggers_alike o bs cs e h i ns no_triggers none k = record { same = refl; covered = tt }
      triggers_alike o bs cs e h i ns (trigger p xs rs) none k =
          let w = second_empty (unless (is_trigger ns xs) bad_trigger p) _ none in
          let one = patterns_alike o bs cs e h i xs (first_empty _ _ w) (each_first (exprs_uses h xs) (triggers_uses h rs) k) in
          let rest = triggers_alike o bs cs e h i ns rs (second_empty (pattern_faults (here bs) xs) _ w) (each_second (exprs_uses h xs) (triggers_uses h rs) k) in
          record { same = λ j. pattern (one.same j) (rest.same j); covered = (one.covered, rest.covered) }

      patterns_alike : (o : Bool) (bs cs : List BoundVar) → SameBounds bs cs → (h : List Text) → Hidden part vs bs h → (xs : Exprs) → pattern_faults (here bs) xs ≡ [] → Each (exprs_uses h xs) → AlikeTrees (terms_in (here bs) o xs) (terms_in (there cs) o xs)
      patterns_alike o bs cs e h i no_exprs none k = record { same = refl; covered = tt }
      patterns_alike o bs cs e h i (item x xs) none k =
          tree_more (term_in (here bs) o x) (term_in (there cs) o x) (terms_in (here bs) o xs) (terms_in (there cs) o xs)
          (term_alike o bs cs e h i false x (first_empty _ _ none) (each_first (expr_uses h x) (exprs_uses h xs) k))
          (patterns_alike o bs cs e h i xs (second_empty (expr_faults (here bs) false x) _ none) (each_second (expr_uses h x) (exprs_uses h xs) k))
