-- An expression without faults in both readings has its type; so do the sides of assignments and the arguments of calls.
use Rattle.std.proofs.Common.{◌≡◌, ◌∙◌, refl, sym, ap, subst, pred, arith, Bool, false, Option, Some, None, List, [], ◌∷◌, length}
use Rattle.std.specs.List.{AllZip}
use Rattle.bv_base.specs.declared.place.Place.{Place}
use Rattle.logic_core.specs.Tree.{Kind, int, boolean, map as map_of, Tree, read}
use Rattle.logic_core.specs.Sorts.{read_sort}
use Rattle.bpl_ast.specs.Place.{Name, Ty as Written}
use Rattle.bpl_ast.specs.Tree.{Expr, first_place, Exprs, no_exprs, item}
use Rattle.bpl_ast.specs.Statement.{Decl}
use Rattle.bpl_scopes.specs.declared.part.Part.{Part}
use Rattle.bpl_scopes.specs.Scopes.{table_of, Text, Counts, no_counts, counts_after, Var, BoundVar, Scope}
use Rattle.bpl_scopes.specs.Sorts.{sort_of_type, sorts_of_names, sort_in}
use Rattle.bpl_faults.specs.NameFaults.{same_sort_faults, map_faults}
use Rattle.bpl_faults.specs.ExprFaults.{expr_faults, faults_as, argument_faults, count}
use Rattle.bpl_statement_faults.specs.StmtFaults.{entry_at, entry_faults}
use Rattle.bpl_declaration_faults.specs.DeclFaults.{fault_of}
use Rattle.bpl_terms.specs.Terms.{term_of, terms_in, stored}
use Rattle.bpl_resolve.specs.Elaborate.{arguments}
use Rattle.bpl_resolve.proofs.HasSort.{first_empty, second_empty, has_sort, has_same, is_map}
use Rattle.bpl_resolve.proofs.Faultless.{KnownBounds, NamesKnown, TypesKnown, has_known}
use Rattle.bpl_resolve.proofs.ScopesKnown.{VarsKnown, scope_known}
use Rattle.bpl_resolve.proofs.ModuleSorts.{fine}
use Rattle.bpl_sorts.specs.Types.{Ty, integers, truths, carriers, maps, kind_of}
use Rattle.bpl_sorts.specs.Typed.{HasType}
use Rattle.bpl_sorts.specs.Apart.{apart}
use Rattle.bpl_sorts.specs.TypeNames.{type_of}
use Rattle.bpl_sorts.specs.DeclaredTypes.{types_named}
use Rattle.bpl_sorts.specs.Readings.{BoundsAlike, Alike}
use Rattle.bpl_sorts.proofs.ReadTypes.{types_fit}
use Rattle.bpl_sorts.proofs.SortReadings.{one_type}
use Rattle.bpl_sorts.proofs.TypedTerms.{typed}
use Rattle.bpl_sorts.proofs.AlikeScopes.{E, A, TE, TA, CE, hs, TypesAt, VarsAlike, S, U, alike}

pub same_some : {X : Type 0} (a b : X) → Some a ≡ Some b → a ≡ b
same_some a b e = cc

range_same : (j k : Kind) → map_of j ≡ map_of k → j ≡ k
range_same j k e = cc

-- a map, in both readings
as_map : (t : Ty) (i j : Kind) → kind_of t ≡ map_of i → apart t ≡ map_of j → (r : Ty) × (t ≡ maps r)
as_map integers i j e f = absurd (cc)
as_map truths i j e f = absurd (cc)
as_map (carriers k) i j e f = absurd (cc)
as_map (maps r) i j e f = (r, refl)

module _ (ds : List Decl) (none : fault_of (E ds) ≡ None) (nope : fault_of (A ds) ≡ None) (types : List Ty) (w : Part) (at : TypesAt ds types w) where
  abbrev pub CA : Counts
  CA = counts_after no_counts (A ds)

  module _ (vs us : List Var) (bs cs : List BoundVar) (b : List Ty) (vars : VarsAlike types vs us) (knv : VarsKnown vs) (knu : VarsKnown us)
      (kb : KnownBounds bs) (kc : KnownBounds cs) (bounds : BoundsAlike bs cs b) where
    abbrev pub s : Scope
    s = S ds types w at CA vs us bs cs

    abbrev pub u : Scope
    u = U ds types w at CA vs us bs cs

    both : Alike types (hs ds) (type_of ds) s u
    both = alike ds types w at CA vs us bs cs none vars

    knows : NamesKnown s
    knows = scope_known (TE ds) (CE ds) (fine (E ds) none) (CE ds) w vs bs knv

    knows_too : NamesKnown u
    knows_too = scope_known (TA ds) CA (fine (A ds) nope) CA w us cs knu

    abbrev pub HasIt : Tree → Ty → Type 0
    HasIt t r = HasType types (hs ds) b t r

    -- an expression without faults
    pub expression_typed : (f : Bool) (x : Expr) → expr_faults s f x ≡ [] → expr_faults u f x ≡ [] → (t : Ty) × (sort_in s x ≡ Some (kind_of t)) × (sort_in u x ≡ Some (apart t)) × HasIt (term_of s x) t
    expression_typed f x e g =
        let i = has_known s knows kb f x e in
        let j = has_known u knows_too kc f x g in
        let r = typed types (hs ds) (type_of ds) s u both b bounds false x i.0 j.0 i.1 j.1 in
        (r.0, i.1 ∙ ap Some (sym r.1), j.1 ∙ ap Some (sym r.2), r.3)

    -- one that has to have this sort in both readings, that of a type
    pub wanted_typed : (f : Bool) (x : Expr) (k : Kind) (t : Ty) → kind_of t ≡ k → apart t ≡ k → faults_as s f k x ≡ [] → faults_as u f k x ≡ [] → (sort_in s x ≡ Some k) × (sort_in u x ≡ Some k) × HasIt (term_of s x) t
    wanted_typed f x k t p q e g =
        let r = expression_typed f x (first_empty _ _ e) (first_empty _ _ g) in
        let i = has_sort k (sort_in s x) (first_place x) (kind_of r.0, r.1) (second_empty (expr_faults s f x) _ e) in
        let j = has_sort k (sort_in u x) (first_place x) (apart r.0, r.2) (second_empty (expr_faults u f x) _ g) in
        (i, j, subst (HasIt (term_of s x)) (one_type r.0 t (same_some _ _ (sym r.1 ∙ i) ∙ sym p) (same_some _ _ (sym r.2 ∙ j) ∙ sym q)) r.3)

    pub truth_typed : (f : Bool) (x : Expr) → faults_as s f boolean x ≡ [] → faults_as u f boolean x ≡ [] → HasIt (term_of s x) truths
    truth_typed f x e g = (wanted_typed f x boolean truths refl refl e g).2

    -- one that has to have the sorts of this type
    pub side_typed : (f : Bool) (x : Expr) (o p : Option Kind) (t : Ty) → o ≡ Some (kind_of t) → p ≡ Some (apart t) → expr_faults s f x ≡ [] → expr_faults u f x ≡ []
        → same_sort_faults o (sort_in s x) (first_place x) ≡ [] → same_sort_faults p (sort_in u x) (first_place x) ≡ [] → HasIt (term_of s x) t
    side_typed f x o p t h k e g i j =
        let r = expression_typed f x e g in
        let c = has_same o (sort_in s x) (first_place x) (kind_of t, h) (kind_of r.0, r.1) i in
        let d = has_same p (sort_in u x) (first_place x) (apart t, k) (apart r.0, r.2) j in
        subst (HasIt (term_of s x)) (one_type r.0 t (same_some _ _ (sym r.1 ∙ (sym c ∙ h))) (same_some _ _ (sym r.2 ∙ (sym d ∙ k)))) r.3

    -- ---- targets

    -- each entry of the map of a target, at indices without faults
    pub record Entry (o p : Option Kind) (m : Tree) (t : Ty) (xs : Exprs) : Type 0 where
      pub type : Ty
      pub sort_is : entry_at s o xs ≡ Some (kind_of type)
      pub other_is : entry_at u p xs ≡ Some (apart type)
      pub after : (v : Tree) → HasIt v type → HasIt (stored m (terms_in s false xs) v) t

    pub entry_typed : (q : Place) (o p : Option Kind) (m : Tree) (t : Ty) (xs : Exprs) → o ≡ Some (kind_of t) → p ≡ Some (apart t) → HasIt m t
        → entry_faults s q o xs ≡ [] → entry_faults u q p xs ≡ [] → Entry o p m t xs
    entry_typed q o p m t no_exprs h k a e g = record { type = t; sort_is = h; other_is = k; after = λ v z. z }
    entry_typed q o p m t (item x xs) h k a e g =
        let i = is_map o q (kind_of t, h) (first_empty _ _ e) in
        let j = is_map p q (apart t, k) (first_empty _ _ g) in
        let r = as_map t i.0 j.0 (same_some _ _ (sym h ∙ i.1)) (same_some _ _ (sym k ∙ j.1)) in
        let e1 = second_empty (map_faults o q) _ e in
        let g1 = second_empty (map_faults p q) _ g in
        let y = wanted_typed false x int integers refl refl (first_empty _ _ e1) (first_empty _ _ g1) in
        let ho = h ∙ ap (λ c. Some (kind_of c)) r.1 in
        let hp = k ∙ ap (λ c. Some (apart c)) r.1 in
        let am = subst (HasIt m) r.1 a in
        let later = entry_typed q (read_sort o (sort_in s x)) (read_sort p (sort_in u x)) (read m (term_of s x)) r.0 xs
        (λ l. read_sort (ho l) (y.0 l)) (λ l. read_sort (hp l) (y.1 l)) (am, y.2)
        (second_empty (faults_as s false int x) _ e1) (second_empty (faults_as u false int x) _ g1) in
        record {
          type = later.type;
          sort_is = later.sort_is;
          other_is = later.other_is;
          after = λ v z. (r.0, am, y.2, later.after v z, r.1);
        }

    -- ---- arguments

    pub arguments_typed : (hidden others : List Text) (ps : List (Name × Written)) (xs : Exprs) → TypesKnown (TE ds) hidden ps → TypesKnown (TA ds) others ps → length ps ≡ count xs
        → argument_faults s (sorts_of_names (TE ds) hidden ps) xs ≡ [] → argument_faults u (sorts_of_names (TA ds) others ps) xs ≡ [] → AllZip (λ t e. HasIt e t) (types_named (table_of ds) ps) (arguments s xs)
    arguments_typed hidden others [] no_exprs h k l e g = tt
    arguments_typed hidden others [] (item x xs) h k l e g = absurd (omega (arith, l))
    arguments_typed hidden others (p ∷ ps) no_exprs h k l e g = absurd (omega (arith, l))
    arguments_typed hidden others (p ∷ ps) (item x xs) h k l e g =
        let e1 = second_empty (expr_faults s false x) _ e in
        let g1 = second_empty (expr_faults u false x) _ g in
        let f = types_fit ds hidden others p.1 (h.0).0 (k.0).0 (h.0).1 (k.0).1 in (
          side_typed false x _ _ (type_of ds p.1) ((h.0).1 ∙ ap Some (sym f.0)) ((k.0).1 ∙ ap Some (sym f.1)) (first_empty _ _ e) (first_empty _ _ g) (first_empty _ _ e1) (first_empty _ _ g1),
          arguments_typed hidden others ps xs h.1 k.1 (ap pred l) (second_empty (same_sort_faults (sort_of_type (TE ds) hidden p.1) (sort_in s x) (first_place x)) _ e1)
              (second_empty (same_sort_faults (sort_of_type (TA ds) others p.1) (sort_in u x) (first_place x)) _ g1),
        )
