-- The sort of a type by two ways of reading names, of which one knows less; and that a type without faults has a sort where each synonym in it has one.
use Rattle.std.proofs.Common.{◌≡◌, refl, ap, sym, ◌∙◌, inl, inr, subst, Bool, true, false, length, List, [], ◌∷◌, ◌++◌, Option, Some, None, option_map}
use Rattle.bv_base.specs.declared.place.Place.{Place}
use Rattle.logic_core.specs.Tree.{Kind, int, map as map_of}
use Rattle.logic_core.specs.Wide.{when}
use Rattle.logic_core.specs.Sorts.{is}
use Rattle.bpl_ast.specs.Place.{Params, Ty, integer, boolean, named, map_type, Tys, no_tys, ty}
use Rattle.bpl_scopes.specs.declared.fault.TypeKind.TheVariants.{Kind as wrong_kind, Unbuilt as unbuilt}
use Rattle.bpl_scopes.specs.declared.fault.Construct.TheVariants.{Domain as domain}
use Rattle.bpl_scopes.specs.declared.fault.Fault.{Fault}
use Rattle.bv_base.specs.Text.{is_among}
use Rattle.bpl_scopes.specs.Fault.{fault}
use Rattle.bpl_scopes.specs.Scopes.{Text, Table, Entity, a_constant, a_global, a_function, a_synonym, a_procedure, entity_of}
use Rattle.bpl_scopes.specs.Sorts.{is_int_alone, map_sort, sort_by, sorts_by, synonym_sort, unless_hidden, sorts_of_types}
use Rattle.bpl_scopes.specs.Functions.{names_in_type, names_in_types}
use Rattle.bpl_scopes.specs.TypeFaults.{params_faults, domain_faults, type_name_faults, type_faults, types_faults, place_of_type}
use Rattle.bpl_resolve.proofs.Below.{Below, Implies, is_below}
use Rattle.bpl_resolve.proofs.HasSort.{Known, first_empty, second_empty, unless_empty}
use Rattle.bpl_resolve.proofs.Ways.{Member}

pub below_then : (o p q : Option Kind) → Below o p → Below p q → Below o q
below_then o p q (inl e) h = inl e
below_then o p q (inr e) (inl h) = inl (e ∙ h)
below_then o p q (inr e) (inr h) = inr (e ∙ h)

when_none : (c : Bool) → when {A = Kind} c None ≡ None
when_none true = refl
when_none false = refl

when_both : (a c : Bool) (r q : Option Kind) → Implies a c → Below r q → Below (when a (option_map map_of r)) (when c (option_map map_of q))
when_both a c r q (inl h) g = inl (ap (λ w. when w (option_map map_of r)) h)
when_both a c r q (inr h) (inl g) = inl (ap (λ w. when a (option_map map_of w)) g ∙ when_none a)
when_both a c r q (inr h) (inr g) = inr (λ i. when (h i) (option_map map_of (g i)))

module _ (f g : Text → Option Kind) (less : (n : Text) → Below (f n) (g n)) where
  mutual
    pub sort_below : (s : Ty) → Below (sort_by f s) (sort_by g s)
    sort_below (integer p) = inr refl
    sort_below (boolean p) = inr refl
    sort_below (named p n) = less n.text
    sort_below (map_type p (Some ps) ds r) = inr refl
    sort_below (map_type p None ds r) = when_both _ _ _ _ (domain_below ds) (sort_below r)

    domain_below : (ds : Tys) → Implies (is_int_alone (sorts_by f ds)) (is_int_alone (sorts_by g ds))
    domain_below no_tys = inr refl
    domain_below (ty d no_tys) = is_below int _ _ (sort_below d)
    domain_below (ty d (ty e es)) = inr refl

abbrev pub KnowsNames : Table → List Text → (Text → Option Kind) → List Text → Type 0
KnowsNames t hidden f ns = (n : Text) → Member n ns → is_among hidden n ≡ false → (s : Option Ty) → entity_of t n ≡ Some (a_synonym s) → Known (f n)

abbrev pub full_sort : Table → List Text → Text → Option Kind
full_sort t hidden n = unless_hidden (is_among hidden n) (synonym_sort t (length t) n)

synonym_of : (o : Option Entity) (p : Place) → type_name_faults o p ≡ [] → (s : Option Ty) × (o ≡ Some (a_synonym s))
synonym_of None p e = cc
synonym_of (Some (a_synonym s)) p e = (s, refl)
synonym_of (Some (a_constant k s)) p e = cc
synonym_of (Some (a_global k s)) p e = cc
synonym_of (Some (a_function h)) p e = cc
synonym_of (Some (a_procedure k c)) p e = cc

unhidden : (r : Bool) (fs : List Fault) (p : Place) → ◌≡◌ {A = List Fault} (elim r [ true ↦ fault wrong_kind p | false ↦ fs ]) [] → (r ≡ false) × (fs ≡ [])
unhidden true fs p e = cc
unhidden false fs p e = (refl, e)

member_left : (n : Text) (ms ns : List Text) → Member n ms → Member n (ms ++ ns)
member_left n [] ns h = absurd h
member_left n (m ∷ ms) ns (inl e) = inl e
member_left n (m ∷ ms) ns (inr h) = inr (member_left n ms ns h)

pub member_right : (n : Text) (ms ns : List Text) → Member n ns → Member n (ms ++ ns)
member_right n [] ns h = h
member_right n (m ∷ ms) ns h = inr (member_right n ms ns h)

known_map : (a : Bool) (r : Option Kind) → a ≡ true → Known r → Known (when a (option_map map_of r))
known_map a r h (k, e) = (map_of k, λ i. when (h i) (option_map map_of (e i)))

no_params : (ps : Option Params) → params_faults ps ≡ [] → ps ≡ None
no_params None e = refl
no_params (Some ps) e = cc

from_int : (o q : Option Kind) → Known o → Below o q → is int q ≡ true → is int o ≡ true
from_int o q (k, e) (inl h) g = cc
from_int o q k (inr h) g = ap (is int) h ∙ g

module _ (t : Table) (hidden : List Text) (f : Text → Option Kind) (less : (n : Text) → Below (f n) (full_sort t hidden n)) where
  pub sort_known : (s : Ty) → KnowsNames t hidden f (names_in_type s) → type_faults t hidden s ≡ [] → Known (sort_by f s)
  sort_known (integer p) known e = (_, refl)
  sort_known (boolean p) known e = (_, refl)
  sort_known (named p n) known e =
      let h = unhidden (is_among hidden n.text) (type_name_faults (entity_of t n.text) n.at) n.at e in
      let g = synonym_of (entity_of t n.text) n.at h.1 in
      known n.text (inl refl) h.0 g.0 g.1
  sort_known (map_type p ps no_tys r) known e = let q = second_empty (params_faults ps) _ e in cc
  sort_known (map_type p ps (ty d (ty c cs)) r) known e = let q = second_empty (params_faults ps) _ e in cc
  sort_known (map_type p ps (ty d no_tys) r) known e =
      let q = second_empty (params_faults ps) _ e in
      let w = unless_empty _ (unbuilt domain) (place_of_type d) (first_empty (domain_faults (is_int_alone (sorts_of_types t hidden (ty d no_tys))) p (ty d no_tys)) _ q) in
      let v = second_empty (domain_faults (is_int_alone (sorts_of_types t hidden (ty d no_tys))) p (ty d no_tys)) _ q in
      let u = first_empty (types_faults t hidden (ty d no_tys)) _ v in
      let x = sort_known d (λ n m. known n (member_left n (names_in_types (ty d no_tys)) (names_in_type r) (member_left n (names_in_type d) [] m))) (first_empty (type_faults t hidden d) [] u) in
      subst (λ o. Known (map_sort o (sorts_by f (ty d no_tys)) (sort_by f r))) (sym (no_params ps (first_empty _ _ e)))
      (known_map _ _ (from_int _ _ x (sort_below f (full_sort t hidden) less d) w)
      (sort_known r (λ n m. known n (member_right n (names_in_types (ty d no_tys)) (names_in_type r) m)) (second_empty (types_faults t hidden (ty d no_tys)) _ v)))
