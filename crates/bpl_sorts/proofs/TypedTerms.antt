-- Where an expression has a sort in both readings of user types, its term has a type.
-- Here h is what is known of the two scopes, g of their bound variables.
use Rattle.std.proofs.Common.{◌≡◌, ◌∙◌, refl, sym, ap, subst, ℕ, suc, ◌+◌, arith, Bool, true, false, ◌&&◌, pos, Option, Some, None, List, [], ◌∷◌, ◌++◌, reverse, map, slice_get, append_assoc}
use Rattle.std.proofs.lemmas.Grind.{reverse_onto}
use Rattle.logic_core.proofs.Booleans.{both_true}
use Rattle.logic_core.specs.Tree.{Kind, int, boolean, map as map_of, Tree, num, truth as truth_term, mul, read, write, call as call_term, equal, negation as negation_term, Trees, no_trees, tree}
use Rattle.logic_core.specs.Wide.{when}
use Rattle.logic_core.specs.Sorts.{is, read_sort, write_sort, choice_sort, equation_sort}
use Rattle.logic_laws.proofs.SortTests.{is_sort}
use Rattle.bpl_ast.specs.Place.{Name, Ty as Written}
use Rattle.bpl_ast.specs.Tree.{Relation, eq, ne, lt, le, gt, ge, for_all, exists, Expr, expr, Node, number, truth, variable, apply, old, choose, quantified, iffs, implies, ands, ors, related, sums, products, negation, minus, indexed, Exprs, no_exprs, item, Terms, no_terms, plus, less, Indices, no_indices, at_index, update, Triggers, no_triggers, trigger, Groups}
use Rattle.bpl_scopes.specs.Scopes.{Text, Heading, Table, names_of, BoundVar, Scope, Meaning, meaning, bound_meaning, has_name, bound_to, hidden_in}
use Rattle.bpl_scopes.specs.Sorts.{sort_of_type, argument_sorts, sorts_of_names, bounds_of, within, sort_of_meaning, applied_heading, is_same, are_same, application_sort, all_are, all_known, relation_sort, sort_in, node_sort, sorts_in, are_ints, indices_sort, are_patterns}
use Rattle.bpl_scopes.specs.Functions.{function_number}
use Rattle.bpl_terms.specs.Terms.{meaning_term, nested_left, left_of, implied, comparison, sort_or_int, term_in, node_term, terms_in, parts_in, indexed_term, patterns_in}
use Rattle.bpl_sorts.specs.Types.{Ty, integers, truths, carriers, maps, kind_of, kinds_of, Head}
use Rattle.bpl_sorts.specs.Typed.{HasType, HaveTypes, AreTruths, AreIntegers, AreTyped, ArePatterns}
use Rattle.bpl_sorts.specs.Apart.{apart}
use Rattle.bpl_sorts.specs.Readings.{Fits, Has, EachFits, BoundsAlike, Alike}
use Rattle.bpl_sorts.specs.ReadingLaws.{SortedExpressionsHaveTypes}
use Rattle.bpl_sorts.proofs.SortReadings.{has_known, has_integer, has_truth, has_when, read_parts, write_parts, choice_parts, equation_parts}

back_onto : {A : Type 0} (a : A) (xs ys : List A) → reverse (a ∷ xs) ++ ys ≡ reverse xs ++ (a ∷ ys)
back_onto a xs ys = ap (λ w. w ++ ys) (reverse_onto xs a []) ∙ append_assoc (reverse xs) (a ∷ []) ys

module _ (vars : List Ty) (heads : List Head) (type_of : Written → Ty) where
  one_of : (s t : Scope) (b : List Ty) (in_old : Bool) (i : ℕ) (o p : Option Kind) (k : Ty) (m n : Meaning) (q r : Bool) → q ≡ r → slice_get b i ≡ Some k → Fits o p k
      → Has (sort_of_meaning s m) (sort_of_meaning t n) (HasType vars heads b (meaning_term in_old s.counts m))
      → Has (sort_of_meaning s (elim q [ true ↦ bound_to i o | false ↦ m ])) (sort_of_meaning t (elim r [ true ↦ bound_to i p | false ↦ n ])) (HasType vars heads b (meaning_term in_old s.counts (elim q [ true ↦ bound_to i o | false ↦ m ])))
  one_of s t b in_old i o p k m n true true e here f h = λ x y a c. (k, (f x y a c).0, (f x y a c).1, here)
  one_of s t b in_old i o p k m n false false e here f h = h
  one_of s t b in_old i o p k m n true false e here f h = absurd (cc)
  one_of s t b in_old i o p k m n false true e here f h = absurd (cc)

  bound_has : (s t : Scope) (b : List Ty) (in_old : Bool) (name : Text) (m n : Meaning) (us vs : List BoundVar) (ks : List Ty) (i : ℕ)
      → BoundsAlike us vs ks → ((j : ℕ) → slice_get b (i + j) ≡ slice_get ks j)
      → Has (sort_of_meaning s m) (sort_of_meaning t n) (HasType vars heads b (meaning_term in_old s.counts m))
      → Has (sort_of_meaning s (bound_meaning i us name m)) (sort_of_meaning t (bound_meaning i vs name n)) (HasType vars heads b (meaning_term in_old s.counts (bound_meaning i us name m)))
  bound_has s t b in_old name m n [] [] [] i g at h = h
  bound_has s t b in_old name m n [] [] (k ∷ ks) i g at h = absurd g
  bound_has s t b in_old name m n [] (v ∷ vs) ks i g at h = absurd g
  bound_has s t b in_old name m n (u ∷ us) [] ks i g at h = absurd g
  bound_has s t b in_old name m n (u ∷ us) (v ∷ vs) [] i g at h = absurd g
  bound_has s t b in_old name m n (u ∷ us) (v ∷ vs) (k ∷ ks) i g at h =
      one_of s t b in_old i u.sort v.sort k (bound_meaning (i + 1) us name m) (bound_meaning (i + 1) vs name n) (has_name name u.name) (has_name name v.name) (g.0 name)
      (let e : i ≡ i + 0 = omega arith in ap (slice_get b) e ∙ at 0) g.1
      (bound_has s t b in_old name m n us vs ks (i + 1) g.2 (λ j. let e : i + 1 + j ≡ i + suc j = omega arith in ap (slice_get b) e ∙ at (suc j)) h)

  name_has : (s t : Scope) → Alike vars heads type_of s t → (b : List Ty) → BoundsAlike s.bounds t.bounds b → (in_old : Bool) (n : Text)
      → Has (sort_of_meaning s (meaning s n)) (sort_of_meaning t (meaning t n)) (HasType vars heads b (meaning_term in_old s.counts (meaning s n)))
  unfolding meaning
  name_has s t h b g in_old n = bound_has s t b in_old n _ _ s.bounds t.bounds b 0 g (λ j. let e : 0 + j ≡ j = omega arith in ap (slice_get b) e) (h.free_names b in_old n)

  -- ---- binders

  within_alike : (s t : Scope) (gs : Groups) → Alike vars heads type_of s t → Alike vars heads type_of (within s gs) (within t gs)
  within_alike s t gs h = record { free_names = h.free_names; functions = h.functions; types = h.types }

  abbrev group_types : List (Name × Written) → List Ty
  group_types ps = map (λ (p : Name × Written). type_of p.1) ps

  abbrev bound_of : Table → List Text → (Name × Written) → BoundVar
  bound_of t hidden p = record { name = Some ((p.0).text); sort = sort_of_type t hidden p.1 }

  groups_alike : (s t : Scope) → Alike vars heads type_of s t → (hidden others : List Text) (ps : List (Name × Written)) (us vs : List BoundVar) (b : List Ty) → BoundsAlike us vs b
      → BoundsAlike (bounds_of s.table hidden ps ++ us) (bounds_of t.table others ps ++ vs) (reverse (group_types ps) ++ b)
  groups_alike s t h hidden others [] us vs b g = g
  groups_alike s t h hidden others (p ∷ ps) us vs b g =
      let f : BoundsAlike (bound_of s.table hidden p ∷ us) (bound_of t.table others p ∷ vs) (type_of p.1 ∷ b) = ((λ n. refl), h.types hidden others p.1, g) in
      let e = groups_alike s t h hidden others ps (bound_of s.table hidden p ∷ us) (bound_of t.table others p ∷ vs) (type_of p.1 ∷ b) f in
      subst (λ w. BoundsAlike w (bounds_of t.table others (p ∷ ps) ++ vs) (reverse (group_types (p ∷ ps)) ++ b)) (sym (back_onto (bound_of s.table hidden p) (map (bound_of s.table hidden) ps) us))
      (subst (λ w. BoundsAlike (bounds_of s.table hidden ps ++ (bound_of s.table hidden p ∷ us)) w (reverse (group_types (p ∷ ps)) ++ b)) (sym (back_onto (bound_of t.table others p) (map (bound_of t.table others) ps) vs))
      (subst (BoundsAlike (bounds_of s.table hidden ps ++ (bound_of s.table hidden p ∷ us)) (bounds_of t.table others ps ++ (bound_of t.table others p ∷ vs))) (sym (back_onto (type_of p.1) (group_types ps) b)) e))

  known_here : (o : Option Kind) (os : List (Option Kind)) → all_known (o ∷ os) ≡ true → ((k : Kind) × (o ≡ Some k)) × (all_known os ≡ true)
  known_here None os e = absurd (cc)
  known_here (Some k) os e = ((k, refl), e)

  kinds_known : (s t : Scope) → Alike vars heads type_of s t → (hidden others : List Text) (ps : List (Name × Written)) → all_known (sorts_of_names s.table hidden ps) ≡ true → all_known (sorts_of_names t.table others ps) ≡ true
      → kinds_of (group_types ps) ≡ map sort_or_int (sorts_of_names s.table hidden ps)
  kinds_known s t h hidden others [] e f = refl
  kinds_known s t h hidden others (p ∷ ps) e f =
      let a = known_here (sort_of_type s.table hidden p.1) (sorts_of_names s.table hidden ps) e in
      let c = known_here (sort_of_type t.table others p.1) (sorts_of_names t.table others ps) f in
      λ i. ((h.types hidden others p.1 (a.0).0 (c.0).0 (a.0).1 (c.0).1).0 ∙ sym (ap sort_or_int (a.0).1)) i ∷ kinds_known s t h hidden others ps a.1 c.1 i

  -- ---- chains

  nested_equal : (b : List Ty) (a : Tree) (ts : Trees) → HasType vars heads b a truths → AreTruths vars heads b ts → HasType vars heads b (nested_left equal a ts) truths
  nested_equal b a no_trees h k = h
  nested_equal b a (tree t ts) h k = nested_equal b (equal a t) ts (truths, h, k.0, refl) k.1

  left_equal : (b : List Ty) (ts : Trees) → AreTruths vars heads b ts → HasType vars heads b (left_of equal (truth_term true) ts) truths
  left_equal b no_trees k = refl
  left_equal b (tree t ts) k = nested_equal b t ts k.0 k.1

  abbrev all_integers : List Ty → Trees → Type 0
  all_integers b no_trees = Unit {0}
  all_integers b (tree t ts) = HasType vars heads b t integers × all_integers b ts

  nested_mul : (b : List Ty) (a : Tree) (ts : Trees) → HasType vars heads b a integers → all_integers b ts → HasType vars heads b (nested_left mul a ts) integers
  nested_mul b a no_trees h k = h
  nested_mul b a (tree t ts) h k = nested_mul b (mul a t) ts (h, k.0, refl) k.1

  left_mul : (b : List Ty) (ts : Trees) → all_integers b ts → HasType vars heads b (left_of mul (num (pos 1)) ts) integers
  left_mul b no_trees k = refl
  left_mul b (tree t ts) k = nested_mul b t ts k.0 k.1

  implied_typed : (b : List Ty) (ts : Trees) → AreTruths vars heads b ts → HasType vars heads b (implied ts) truths
  implied_typed b no_trees k = refl
  implied_typed b (tree p no_trees) k = k.0
  implied_typed b (tree p (tree q ts)) k = (((k.0, refl), (implied_typed b (tree q ts) k.1, tt)), refl)

  -- ---- comparisons

  ordered : (b : List Ty) (x y : Tree) (o p q r : Option Kind) → Has o p (HasType vars heads b x) → Has q r (HasType vars heads b y) → (is int o && is int q) ≡ true → (is int p && is int r) ≡ true
      → HasType vars heads b x integers × HasType vars heads b y integers
  ordered b x y o p q r h k e f = let a = both_true (is int o) (is int q) e in let c = both_true (is int p) (is int r) f in (has_integer o p _ h a.0 c.0, has_integer q r _ k a.1 c.1)

  equated : (b : List Ty) (x y : Tree) (o p q r : Option Kind) → Has o p (HasType vars heads b x) → Has q r (HasType vars heads b y) → Has (equation_sort o q) (equation_sort p r) (HasType vars heads b (equal x y))
  equated b x y o p q r h k i j e f =
      let a = equation_parts o q i e in let c = equation_parts p r j f in
      let t = h a.0 c.0 a.1 c.1 in
      (truths, a.3, c.3, (t.0, t.3, has_known q r _ a.0 c.0 t.0 k a.2 c.2 t.1 t.2, refl))

  negated : (b : List Ty) (x : Tree) (o p : Option Kind) → Has o p (HasType vars heads b x) → ((k : Kind) → o ≡ Some k → boolean ≡ k) → ((k : Kind) → p ≡ Some k → boolean ≡ k) → Has o p (HasType vars heads b (negation_term x))
  negated b x o p h f g i j e c = (truths, f i e, g j c, (has_known o p _ i j truths h e c (f i e) (g j c), refl))

  related_has : (b : List Ty) (c : Relation) (x y : Tree) (o p q r : Option Kind) → Has o p (HasType vars heads b x) → Has q r (HasType vars heads b y) → Has (relation_sort c o q) (relation_sort c p r) (HasType vars heads b (comparison c x y))
  related_has b eq x y o p q r h k = equated b x y o p q r h k
  related_has b ne x y o p q r h k = negated b (equal x y) (equation_sort o q) (equation_sort p r) (equated b x y o p q r h k) (λ i e. (equation_parts o q i e).3) (λ i e. (equation_parts p r i e).3)
  related_has b lt x y o p q r h k = has_when _ _ truths _ (λ e f. let a = ordered b x y o p q r h k e f in (((a.0, tt), refl), a.1, refl))
  related_has b le x y o p q r h k = has_when _ _ truths _ (λ e f. let a = ordered b x y o p q r h k e f in (a.0, a.1, refl))
  related_has b gt x y o p q r h k = has_when _ _ truths _ (λ e f. let a = ordered b x y o p q r h k e f in (((a.1, tt), refl), a.0, refl))
  related_has b ge x y o p q r h k = has_when _ _ truths _ (λ e f. let a = ordered b x y o p q r h k e f in (a.1, a.0, refl))

  chosen : (b : List Ty) (c x y : Tree) (o o' p p' q q' : Option Kind) → Has o o' (HasType vars heads b c) → Has p p' (HasType vars heads b x) → Has q q' (HasType vars heads b y)
      → (i j : Kind) → choice_sort o p q ≡ Some i → choice_sort o' p' q' ≡ Some j → (t : Ty) × (kind_of t ≡ i) × (apart t ≡ j) × (HasType vars heads b c truths × HasType vars heads b x t × HasType vars heads b y t)
  chosen b c x y o o' p p' q q' h k l i j e f =
      let a = choice_parts o p q i e in let d = choice_parts o' p' q' j f in
      let t = k i j a.1 d.1 in
      (t.0, t.1, t.2, (has_truth o o' _ h a.0 d.0, t.3, has_known q q' _ i j t.0 l a.2 d.2 t.1 t.2))

  map_type : (b : List Ty) (m : Tree) (o p : Option Kind) (i j : Kind) → Has o p (HasType vars heads b m) → o ≡ Some (map_of i) → p ≡ Some (map_of j) → (t : Ty) × (kind_of t ≡ i) × (apart t ≡ j) × HasType vars heads b m (maps t)
  map_type b m o p i j h e f = let r = h (map_of i) (map_of j) e f in by_type r.0 r.1 r.2 r.3
    where
      by_type : (t : Ty) → kind_of t ≡ map_of i → apart t ≡ map_of j → HasType vars heads b m t → (u : Ty) × (kind_of u ≡ i) × (apart u ≡ j) × HasType vars heads b m (maps u)
      by_type integers a c d = absurd (cc)
      by_type truths a c d = absurd (cc)
      by_type (carriers k) a c d = absurd (cc)
      by_type (maps u) a c d = (u, cc, cc, d)

  read_has : (b : List Ty) (m x : Tree) (o p q r : Option Kind) → Has o p (HasType vars heads b m) → Has q r (HasType vars heads b x) → Has (read_sort o q) (read_sort p r) (HasType vars heads b (read m x))
  read_has b m x o p q r h k i j e f =
      let a = read_parts o q i e in let c = read_parts p r j f in
      let t = map_type b m o p i j h a.0 c.0 in
      (t.0, t.1, t.2, (t.3, has_integer q r _ k a.1 c.1))

  write_has : (b : List Ty) (m x y : Tree) (o p q r u v : Option Kind) → Has o p (HasType vars heads b m) → Has q r (HasType vars heads b x) → Has u v (HasType vars heads b y) → Has (write_sort o q u) (write_sort p r v) (HasType vars heads b (write m x y))
  write_has b m x y o p q r u v h k l i j e f =
      let a = write_parts o q u i e in let c = write_parts p r v j f in
      let t = map_type b m o p a.0 c.0 h a.1 c.1 in
      (maps t.0, ap map_of t.1 ∙ a.4, ap map_of t.2 ∙ c.4, (t.0, t.3, has_integer q r _ k a.2 c.2, has_known u v _ a.0 c.0 t.0 l a.3 c.3 t.1 t.2, refl))

  -- ---- calls

  call_has : (s t : Scope) → Alike vars heads type_of s t → (b : List Ty) (n : Text) (ts : Trees) (os ps : List (Option Kind)) (g j : Option Heading) → applied_heading (meaning s n) ≡ g → applied_heading (meaning t n) ≡ j
      → ((us vs : List (Option Kind)) (ks : List Ty) → EachFits us vs ks → are_same us os ≡ true → are_same vs ps ≡ true → HaveTypes vars heads b ks ts)
      → Has (application_sort s.table g os) (application_sort t.table j ps) (HasType vars heads b (call_term (function_number s.table n) ts))
  call_has s t h b n ts os ps None j e f args x y c d = absurd (cc)
  call_has s t h b n ts os ps (Some g) None e f args x y c d = absurd (cc)
  call_has s t h b n ts os ps (Some g) (Some j) e f args x y c d =
      let head = h.functions s.bounds t.bounds n g j e f in
      let u = when_result (are_same (argument_sorts s.table g.ins) os) (sort_of_type s.table [] g.result) x c in
      let v = when_result (are_same (argument_sorts t.table j.ins) ps) (sort_of_type t.table [] j.result) y d in
      let r = head.result x y u.1 v.1 in
      (head.head.1, r.0, r.1, (head.head, head.there, args (argument_sorts s.table g.ins) (argument_sorts t.table j.ins) head.head.0 head.arguments u.0 v.0, refl))
    where
      when_result : (a : Bool) (o : Option Kind) (k : Kind) → when a o ≡ Some k → (a ≡ true) × (o ≡ Some k)
      when_result true o k e = (refl, e)
      when_result false o k e = absurd (cc)

  -- an argument of its parameter's type
  argument_has : (b : List Ty) (x : Tree) (o p q r : Option Kind) (k : Ty) → Fits o p k → is_same o q ≡ true → is_same p r ≡ true → Has q r (HasType vars heads b x) → HasType vars heads b x k
  argument_has b x None p q r k f e g h = absurd (cc)
  argument_has b x (Some i) None q r k f e g h = absurd (cc)
  argument_has b x (Some i) (Some j) q r k f e g h = let a = f i j refl refl in has_known q r _ i j k h (is_sort i q e) (is_sort j r g) a.0 a.1

  formula_of : (b : List Ty) (x : Tree) (o p : Option Kind) (c d : Bool) → Has o p (HasType vars heads b x) → (is boolean o && c) ≡ true → (is boolean p && d) ≡ true → HasType vars heads b x truths × (c ≡ true) × (d ≡ true)
  formula_of b x o p c d h e f = let a = both_true (is boolean o) c e in let g = both_true (is boolean p) d f in (has_truth o p _ h a.0 g.0, a.1, g.1)

  integer_of : (b : List Ty) (x : Tree) (o p : Option Kind) (c d : Bool) → Has o p (HasType vars heads b x) → (is int o && c) ≡ true → (is int p && d) ≡ true → HasType vars heads b x integers × (c ≡ true) × (d ≡ true)
  integer_of b x o p c d h e f = let a = both_true (is int o) c e in let g = both_true (is int p) d f in (has_integer o p _ h a.0 g.0, a.1, g.1)

  known_first : (b : List Ty) (x : Tree) (o p : Option Kind) (os ps : List (Option Kind)) → Has o p (HasType vars heads b x) → all_known (o ∷ os) ≡ true → all_known (p ∷ ps) ≡ true → ((k : Ty) × HasType vars heads b x k) × (all_known os ≡ true) × (all_known ps ≡ true)
  known_first b x o p os ps h e f =
      let a = known_here o os e in let c = known_here p ps f in let r = h (a.0).0 (c.0).0 (a.0).1 (c.0).1 in ((r.0, r.3), a.1, c.1)

  three_true : (a c d : Bool) → (a && (c && d)) ≡ true → (a ≡ true) × (c ≡ true) × (d ≡ true)
  three_true a c d e = let p = both_true a (c && d) e in let q = both_true c d p.1 in (p.0, q.0, q.1)

  mutual
    pub typed : (s t : Scope) → Alike vars heads type_of s t → (b : List Ty) → BoundsAlike s.bounds t.bounds b → (o : Bool) (x : Expr) → Has (sort_in s x) (sort_in t x) (HasType vars heads b (term_in s o x))
    typed s t h b g o (expr p n) = node_typed s t h b g o n

    node_typed : (s t : Scope) → Alike vars heads type_of s t → (b : List Ty) → BoundsAlike s.bounds t.bounds b → (o : Bool) (n : Node) → Has (node_sort s n) (node_sort t n) (HasType vars heads b (node_term s o n))
    node_typed s t h b g o (number n) = has_when true true integers _ (λ e f. refl)
    node_typed s t h b g o (truth c) = has_when true true truths _ (λ e f. refl)
    node_typed s t h b g o (variable n) = name_has s t h b g o n.text
    node_typed s t h b g o (apply n xs) = call_has s t h b n.text (terms_in s o xs) (sorts_in s xs) (sorts_in t xs) (applied_heading (meaning s n.text)) (applied_heading (meaning t n.text)) refl refl (λ us vs ks. arguments_typed s t h b g o xs us vs ks)
    node_typed s t h b g o (old p x) = typed s t h b g true x
    node_typed s t h b g o (choose c x y) = chosen b (term_in s o c) (term_in s o x) (term_in s o y) (sort_in s c) (sort_in t c) (sort_in s x) (sort_in t x) (sort_in s y) (sort_in t y) (typed s t h b g o c) (typed s t h b g o x) (typed s t h b g o y)
    node_typed s t h b g o (quantified for_all p ps gs rs x) = has_when _ _ truths _ (λ e f. let a = three_true _ _ _ e in let c = three_true _ _ _ f in
        let i = groups_alike s t h (hidden_in s) (hidden_in t) (names_of gs) s.bounds t.bounds b g in let l = within_alike s t gs h in (
          group_types (names_of gs),
          kinds_known s t h (hidden_in s) (hidden_in t) (names_of gs) a.0 c.0,
          patterns_typed (within s gs) (within t gs) l (reverse (group_types (names_of gs)) ++ b) i o rs a.1 c.1,
          has_truth _ _ _ (typed (within s gs) (within t gs) l (reverse (group_types (names_of gs)) ++ b) i o x) a.2 c.2,
          refl,
        ))
    node_typed s t h b g o (quantified exists p ps gs rs x) = has_when _ _ truths _ (λ e f. let a = three_true _ _ _ e in let c = three_true _ _ _ f in
        let i = groups_alike s t h (hidden_in s) (hidden_in t) (names_of gs) s.bounds t.bounds b g in let l = within_alike s t gs h in (
          group_types (names_of gs),
          kinds_known s t h (hidden_in s) (hidden_in t) (names_of gs) a.0 c.0,
          patterns_typed (within s gs) (within t gs) l (reverse (group_types (names_of gs)) ++ b) i o rs a.1 c.1,
          has_truth _ _ _ (typed (within s gs) (within t gs) l (reverse (group_types (names_of gs)) ++ b) i o x) a.2 c.2,
          refl,
        ))
    node_typed s t h b g o (iffs xs) = has_when _ _ truths _ (λ e f. left_equal b (terms_in s o xs) (formulas_typed s t h b g o xs e f))
    node_typed s t h b g o (implies xs) = has_when _ _ truths _ (λ e f. implied_typed b (terms_in s o xs) (formulas_typed s t h b g o xs e f))
    node_typed s t h b g o (ands xs) = has_when _ _ truths _ (λ e f. (formulas_typed s t h b g o xs e f, refl))
    node_typed s t h b g o (ors xs) = has_when _ _ truths _ (λ e f. (formulas_typed s t h b g o xs e f, refl))
    node_typed s t h b g o (related r x y) = related_has b r (term_in s o x) (term_in s o y) (sort_in s x) (sort_in t x) (sort_in s y) (sort_in t y) (typed s t h b g o x) (typed s t h b g o y)
    node_typed s t h b g o (sums x ts) = has_when _ _ integers _ (λ e f. let a = integer_of b (term_in s o x) (sort_in s x) (sort_in t x) (are_ints s ts) (are_ints t ts) (typed s t h b g o x) e f in ((a.0, parts_typed s t h b g o ts a.1 a.2), refl))
    node_typed s t h b g o (products xs) = has_when _ _ integers _ (λ e f. left_mul b (terms_in s o xs) (integers_typed s t h b g o xs e f))
    node_typed s t h b g o (negation x) = has_when _ _ truths _ (λ e f. (has_truth _ _ _ (typed s t h b g o x) e f, refl))
    node_typed s t h b g o (minus x) = has_when _ _ integers _ (λ e f. ((has_integer _ _ _ (typed s t h b g o x) e f, tt), refl))
    node_typed s t h b g o (indexed x is) = indices_typed s t h b g o is (sort_in s x) (sort_in t x) (term_in s o x) (typed s t h b g o x)

    formulas_typed : (s t : Scope) → Alike vars heads type_of s t → (b : List Ty) → BoundsAlike s.bounds t.bounds b → (o : Bool) (xs : Exprs) → all_are boolean (sorts_in s xs) ≡ true → all_are boolean (sorts_in t xs) ≡ true → AreTruths vars heads b (terms_in s o xs)
    formulas_typed s t h b g o no_exprs e f = tt
    formulas_typed s t h b g o (item x xs) e f = let a = formula_of b (term_in s o x) (sort_in s x) (sort_in t x) _ _ (typed s t h b g o x) e f in (a.0, formulas_typed s t h b g o xs a.1 a.2)

    integers_typed : (s t : Scope) → Alike vars heads type_of s t → (b : List Ty) → BoundsAlike s.bounds t.bounds b → (o : Bool) (xs : Exprs) → all_are int (sorts_in s xs) ≡ true → all_are int (sorts_in t xs) ≡ true → all_integers b (terms_in s o xs)
    integers_typed s t h b g o no_exprs e f = tt
    integers_typed s t h b g o (item x xs) e f = let a = integer_of b (term_in s o x) (sort_in s x) (sort_in t x) _ _ (typed s t h b g o x) e f in (a.0, integers_typed s t h b g o xs a.1 a.2)

    arguments_typed : (s t : Scope) → Alike vars heads type_of s t → (b : List Ty) → BoundsAlike s.bounds t.bounds b → (o : Bool) (xs : Exprs) (us vs : List (Option Kind)) (ks : List Ty) → EachFits us vs ks → are_same us (sorts_in s xs) ≡ true → are_same vs (sorts_in t xs) ≡ true → HaveTypes vars heads b ks (terms_in s o xs)
    arguments_typed s t h b g o no_exprs [] [] [] i e f = tt
    arguments_typed s t h b g o no_exprs [] [] (k ∷ ks) i e f = absurd i
    arguments_typed s t h b g o no_exprs [] (v ∷ vs) ks i e f = absurd (cc)
    arguments_typed s t h b g o no_exprs (u ∷ us) vs ks i e f = absurd (cc)
    arguments_typed s t h b g o (item x xs) [] vs ks i e f = absurd (cc)
    arguments_typed s t h b g o (item x xs) (u ∷ us) [] ks i e f = absurd (cc)
    arguments_typed s t h b g o (item x xs) (u ∷ us) (v ∷ vs) [] i e f = absurd i
    arguments_typed s t h b g o (item x xs) (u ∷ us) (v ∷ vs) (k ∷ ks) i e f =
        let a = both_true (is_same u (sort_in s x)) (are_same us (sorts_in s xs)) e in let c = both_true (is_same v (sort_in t x)) (are_same vs (sorts_in t xs)) f in
        (argument_has b (term_in s o x) u v (sort_in s x) (sort_in t x) k i.0 a.0 c.0 (typed s t h b g o x), arguments_typed s t h b g o xs us vs ks i.1 a.1 c.1)

    parts_typed : (s t : Scope) → Alike vars heads type_of s t → (b : List Ty) → BoundsAlike s.bounds t.bounds b → (o : Bool) (ts : Terms) → are_ints s ts ≡ true → are_ints t ts ≡ true → AreIntegers vars heads b (parts_in s o ts)
    parts_typed s t h b g o no_terms e f = tt
    parts_typed s t h b g o (plus x ts) e f = let a = integer_of b (term_in s o x) (sort_in s x) (sort_in t x) _ _ (typed s t h b g o x) e f in (a.0, parts_typed s t h b g o ts a.1 a.2)
    parts_typed s t h b g o (less x ts) e f = let a = integer_of b (term_in s o x) (sort_in s x) (sort_in t x) _ _ (typed s t h b g o x) e f in (a.0, parts_typed s t h b g o ts a.1 a.2)

    indices_typed : (s t : Scope) → Alike vars heads type_of s t → (b : List Ty) → BoundsAlike s.bounds t.bounds b → (o : Bool) (is : Indices) (m n : Option Kind) (a : Tree) → Has m n (HasType vars heads b a) → Has (indices_sort s m is) (indices_sort t n is) (HasType vars heads b (indexed_term s o a is))
    indices_typed s t h b g o no_indices m n a k = k
    indices_typed s t h b g o (at_index x is) m n a k = indices_typed s t h b g o is (read_sort m (sort_in s x)) (read_sort n (sort_in t x)) (read a (term_in s o x)) (read_has b a (term_in s o x) m n (sort_in s x) (sort_in t x) k (typed s t h b g o x))
    indices_typed s t h b g o (update x y is) m n a k = indices_typed s t h b g o is (write_sort m (sort_in s x) (sort_in s y)) (write_sort n (sort_in t x) (sort_in t y)) (write a (term_in s o x) (term_in s o y)) (write_has b a (term_in s o x) (term_in s o y) m n (sort_in s x) (sort_in t x) (sort_in s y) (sort_in t y) k (typed s t h b g o x) (typed s t h b g o y))

    patterns_typed : (s t : Scope) → Alike vars heads type_of s t → (b : List Ty) → BoundsAlike s.bounds t.bounds b → (o : Bool) (rs : Triggers) → are_patterns s rs ≡ true → are_patterns t rs ≡ true → ArePatterns vars heads b (patterns_in s o rs)
    patterns_typed s t h b g o no_triggers e f = tt
    patterns_typed s t h b g o (trigger p xs rs) e f = let a = both_true (all_known (sorts_in s xs)) (are_patterns s rs) e in let c = both_true (all_known (sorts_in t xs)) (are_patterns t rs) f in (each_typed s t h b g o xs a.0 c.0, patterns_typed s t h b g o rs a.1 c.1)

    each_typed : (s t : Scope) → Alike vars heads type_of s t → (b : List Ty) → BoundsAlike s.bounds t.bounds b → (o : Bool) (xs : Exprs) → all_known (sorts_in s xs) ≡ true → all_known (sorts_in t xs) ≡ true → AreTyped vars heads b (terms_in s o xs)
    each_typed s t h b g o no_exprs e f = tt
    each_typed s t h b g o (item x xs) e f = let a = known_first b (term_in s o x) (sort_in s x) (sort_in t x) (sorts_in s xs) (sorts_in t xs) (typed s t h b g o x) e f in ((a.0).0, (a.0).1, each_typed s t h b g o xs a.1 a.2)

pub expressions_have_types : SortedExpressionsHaveTypes
expressions_have_types vars heads types s t h b g o x = typed vars heads types s t h b g o x
