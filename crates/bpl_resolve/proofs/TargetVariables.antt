-- Targets without faults are variables that may be set, each once; and a right side, an argument or a guard without faults has the sort that its place needs.
use Rattle.std.proofs.Common.{◌≡◌, refl, ap, sym, ◌∙◌, inl, inr, subst, ℕ, pred, arith, Bool, true, false, not, List, [], ◌∷◌, map, length, Option, Some, None}
use Rattle.std.specs.Prelude.{◌≢◌, bytes_eq, flat_map, slice_get, AllPairs, All}
use Rattle.std.specs.List.{AllByRecursion, AllZip}
use Rattle.std.proofs.lemmas.Option.{get_or_from_slice_get}
use Rattle.std.proofs.lemmas.List.Kept.{AllPairs-cons}
use Rattle.std.proofs.lemmas.List.Elements.{All-cons}
use Rattle.std.proofs.lemmas.Slice.Eq.{bytes_eq-Decides}
use Rattle.logic_core.proofs.Booleans.{neither as either_false, both_true}
use Rattle.bv_base.specs.declared.place.Place.{Place}
use Rattle.logic_core.specs.Tree.{Kind, int, map as map_of, Tree, read, free}
use Rattle.logic_core.specs.Wide.{when}
use Rattle.logic_core.specs.Sorts.{read_sort, write_sort, sort_of}
use Rattle.bpl_ast.specs.Place.{Name}
use Rattle.bpl_ast.specs.Tree.{Expr, first_place, Exprs, no_exprs, item}
use Rattle.bpl_ast.specs.Statement.{Target}
use Rattle.bpl_model.specs.Module.{Proc, Module}
use Rattle.bpl_model.specs.Numbering.{defs_of, sorts_of}
use Rattle.bpl_model.specs.Typed.{HasSort, MayBeSet, AreTargets, Fits as FitsTarget}
use Rattle.bpl_goto.specs.Labels.{are_distinct}
use Rattle.bpl_scopes.specs.declared.fault.TypeKind.TheVariants.{TargetTwice as target_twice}
use Rattle.bv_base.specs.Text.{is_among}
use Rattle.bpl_scopes.specs.Fault.{again}
use Rattle.bpl_scopes.specs.Scopes.{Text, texts_of, Scope}
use Rattle.bpl_scopes.specs.Sorts.{sort_in}
use Rattle.bpl_faults.specs.NameFaults.{same_sort_faults, map_faults}
use Rattle.bpl_faults.specs.ExprFaults.{expr_faults, faults_as, argument_faults, count}
use Rattle.bpl_statement_faults.specs.StmtFaults.{BodyScope, target_faults, target_sort, entry_at, entry_faults, indices_faults, sides_sorts}
use Rattle.bpl_terms.specs.Terms.{sort_or_int, term_of, terms_in, stored}
use Rattle.bpl_resolve.specs.Elaborate.{target_number, target_numbers, assignments, arguments}
use Rattle.bpl_resolve.proofs.Below.{Below, is_itself}
use Rattle.bpl_resolve.proofs.TermSorts.{BoundsFit, Fits, sorted}
use Rattle.bpl_resolve.proofs.HasSort.{Known, first_empty, second_empty, has_sort, is_map}
use Rattle.bpl_resolve.proofs.Faultless.{KnownBounds, NamesKnown, EachKnown, has_known}
use Rattle.bpl_resolve.proofs.GoesForward.{distinct}

is_sorted : (k : Kind) (o q : Option Kind) → o ≡ Some k → Below o q → q ≡ Some k
is_sorted k o q h (inl e) = let bad : None ≡ Some k = sym e ∙ h in cc
is_sorted k o q h (inr e) = sym e ∙ h

same_some : {A : Type 0} (a b : A) → Some a ≡ Some b → a ≡ b
same_some a b e = cc

not_true : (r : Bool) → not r ≡ true → r ≡ false
not_true false e = refl
not_true true e = cc

-- the scope of a body fits a procedure of a module; N are the names of all variables
module _ (m : Module) (p : Proc) (s : Scope) (N : List Text) where
  pub record Ready : Type 0 where
    pub known : NamesKnown s
    pub bounds_known : KnownBounds s.bounds
    pub fits : Fits (sorts_of m p) (defs_of m) s
    pub bounds_fit : BoundsFit s.bounds []

  -- a variable that is set
  pub record IsSet (n : Name) : Type 0 where
    pub may : MayBeSet m p (target_number s n)
    pub named : slice_get N (target_number s n) ≡ Some n.text
    pub kind : Kind
    pub target_is : target_sort s n ≡ Some kind
    pub variable_is : slice_get (sorts_of m p) (target_number s n) ≡ Some kind

  abbrev pub AllSet : List Name → Type 0
  AllSet ns = AllByRecursion IsSet ns

  pub each_set : (b : BodyScope) → ((n : Name) → target_faults b n ≡ [] → IsSet n) → (ns : List Name) → flat_map (target_faults b) ns ≡ [] → AllSet ns
  each_set b set [] e = tt
  each_set b set (n ∷ ns) e = (set n (first_empty _ _ e), each_set b set ns (second_empty (target_faults b n) _ e))

  differ : (t : Text) (v : ℕ) → slice_get N v ≡ Some t → (ns : List Name) → AllSet ns → is_among (texts_of ns) t ≡ false → All (λ y. v ≢ y) (target_numbers s ns)
  differ t v h [] g e = λ i d l. absurd (omega (arith, l))
  differ t v h (n ∷ ns) g e =
      let r = either_false (bytes_eq t n.text) (is_among (texts_of ns) t) e in
      All-cons (λ y. v ≢ y) (target_number s n) (target_numbers s ns)
      (λ q. let w = same_some _ _ (sym h ∙ (ap (slice_get N) q ∙ g.0.named)) in let bad : true ≡ false = sym ((bytes_eq-Decides t n.text).1 w) ∙ r.0 in cc)
      (differ t v h ns g.1 r.1)

  pairs : (ns : List Name) → AllSet ns → are_distinct (texts_of ns) ≡ true → AllPairs (λ x y. x ≢ y) (target_numbers s ns)
  pairs [] g e = λ i j d k l. absurd (omega (arith, l))
  pairs (n ∷ ns) g e = AllPairs-cons (λ x y. x ≢ y) (target_number s n) (target_numbers s ns)
      (differ n.text (target_number s n) g.0.named ns g.1 (not_true _ (both_true _ _ e).0)) (pairs ns g.1 (both_true (not (is_among (texts_of ns) n.text)) _ e).1)

  may_all : (ns : List Name) → AllSet ns → AllByRecursion (MayBeSet m p) (target_numbers s ns)
  may_all [] g = tt
  may_all (n ∷ ns) g = (g.0.may, may_all ns g.1)

  pub are_targets : (ns : List Name) → AllSet ns → again target_twice [] ns ≡ [] → AreTargets m p (target_numbers s ns)
  are_targets ns g e = (pairs ns g (distinct target_twice [] ns e).1, may_all ns g)

  module _ (ready : Ready) where
    x_known : (f : Bool) (x : Expr) → expr_faults s f x ≡ [] → Known (sort_in s x)
    x_known f x e = has_known s ready.known ready.bounds_known f x e

    below : (x : Expr) → Below (sort_in s x) (sort_of (sorts_of m p) (defs_of m) [] (term_of s x))
    below x = sorted (sorts_of m p) (defs_of m) s ready.fits [] ready.bounds_fit false x

    in_sort : (f : Bool) (k : Kind) (x : Expr) → faults_as s f k x ≡ [] → sort_in s x ≡ Some k
    in_sort f k x e = has_sort k _ (first_place x) (x_known f x (first_empty _ _ e)) (second_empty (expr_faults s f x) _ e)

    pub expr_has : (f : Bool) (k : Kind) (x : Expr) → faults_as s f k x ≡ [] → HasSort (sorts_of m p) (defs_of m) k (term_of s x)
    expr_has f k x e = is_sorted k _ _ (in_sort f k x e) (below x)

    side_has : (k : Option Kind) (x : Expr) → Known k → expr_faults s false x ≡ [] → same_sort_faults k (sort_in s x) (first_place x) ≡ [] → HasSort (sorts_of m p) (defs_of m) (sort_or_int k) (term_of s x)
    side_has None x (j, q) e f = cc
    side_has (Some k) x h e f = is_sorted k _ _ (has_sort k _ (first_place x) (x_known false x e) f) (below x)

    pub arguments_have : (ks : List (Option Kind)) (xs : Exprs) → EachKnown ks → length ks ≡ count xs → argument_faults s ks xs ≡ [] → AllZip (HasSort (sorts_of m p) (defs_of m)) (map sort_or_int ks) (arguments s xs)
    arguments_have [] no_exprs g l e = tt
    arguments_have [] (item x xs) g l e = absurd (omega (arith, l))
    arguments_have (k ∷ ks) no_exprs g l e = absurd (omega (arith, l))
    arguments_have (k ∷ ks) (item x xs) g l e =
        let r = second_empty (expr_faults s false x) _ e in
        (side_has k x g.0 (first_empty _ _ e) (first_empty _ _ r), arguments_have ks xs g.1 (ap pred l) (second_empty (same_sort_faults k (sort_in s x) (first_place x)) _ r))

    entry_known : (q : Place) (o : Option Kind) (xs : Exprs) → Known o → entry_faults s q o xs ≡ [] → Known (entry_at s o xs)
    entry_known q o no_exprs k e = k
    entry_known q o (item x xs) k e =
        let g = is_map o q k (first_empty _ _ e) in
        let r = second_empty (map_faults o q) _ e in
        let i = in_sort false int x (first_empty _ _ r) in
        entry_known q (read_sort o (sort_in s x)) xs (g.0, λ j. read_sort (g.1 j) (i j)) (second_empty (faults_as s false int x) _ r)

    -- the map after a store
    stored_has : (q : Place) (o : Option Kind) (k : Kind) (t : Tree) (xs : Exprs) (v : Tree) → o ≡ Some k → HasSort (sorts_of m p) (defs_of m) k t → entry_faults s q o xs ≡ []
        → HasSort (sorts_of m p) (defs_of m) (sort_or_int (entry_at s o xs)) v → HasSort (sorts_of m p) (defs_of m) k (stored t (terms_in s false xs) v)
    stored_has q o k t no_exprs v h a e g = g ∙ ap (λ w. Some (sort_or_int w)) h
    stored_has q o k t (item x xs) v h a e g =
        let c = is_map o q (k, h) (first_empty _ _ e) in
        let r = second_empty (map_faults o q) _ e in
        let i = in_sort false int x (first_empty _ _ r) in
        let y = expr_has false int x (first_empty _ _ r) in
        let z = a ∙ (sym h ∙ c.1) in
        let w = stored_has q (read_sort o (sort_in s x)) c.0 (read t (term_of s x)) xs v (λ j. read_sort (c.1 j) (i j)) (λ j. read_sort (z j) (y j)) (second_empty (faults_as s false int x) _ r) g in
        (λ j. write_sort (z j) (y j) (w j)) ∙ (ap (λ u. when u (Some (map_of c.0))) (is_itself c.0) ∙ (sym c.1 ∙ h))

    pub assignments_fit : (ts : List Target) (xs : Exprs) → AllSet (map (λ (t : Target). t.name) ts) → length ts ≡ count xs → flat_map (indices_faults s) ts ≡ []
        → argument_faults s (sides_sorts s ts) xs ≡ [] → AllByRecursion (FitsTarget m p) (assignments s ts xs) × (map (λ a. a.0) (assignments s ts xs) ≡ target_numbers s (map (λ (t : Target). t.name) ts))
    assignments_fit [] no_exprs g l e f = (tt, refl)
    assignments_fit [] (item x xs) g l e f = absurd (omega (arith, l))
    assignments_fit (t ∷ ts) no_exprs g l e f = absurd (omega (arith, l))
    assignments_fit (t ∷ ts) (item x xs) g l e f =
        let r = second_empty (expr_faults s false x) _ f in
        let k = g.0.kind in
        let a = entry_known t.name.at (target_sort s t.name) t.indices (k, g.0.target_is) (first_empty _ _ e) in
        let v = side_has _ x a (first_empty _ _ f) (first_empty _ _ r) in
        let w = stored_has t.name.at (target_sort s t.name) k (free (target_number s t.name)) t.indices (term_of s x) g.0.target_is g.0.variable_is (first_empty _ _ e) v in
        let rest = assignments_fit ts xs g.1 (ap pred l) (second_empty (indices_faults s t) _ e)
        (second_empty (same_sort_faults (entry_at s (target_sort s t.name) t.indices) (sort_in s x) (first_place x)) _ r) in
        let u = get_or_from_slice_get (sorts_of m p) (target_number s t.name) k int g.0.variable_is in
        ((subst (λ z. HasSort (sorts_of m p) (defs_of m) z (stored (free (target_number s t.name)) (terms_in s false t.indices) (term_of s x))) (sym u) w, rest.0), ap (λ z. target_number s t.name ∷ z) rest.1)
