-- A type over names that are met stands for the same sort in both programs.
use Rattle.std.specs.Prelude.{◌≡◌, ℕ, zero, suc, ◌+◌, List, [], ◌∷◌, length, Option, Some, None, option_map}
use Rattle.std.proofs.Common.{refl, ap, sym, ◌∙◌, subst, arith, inl, inr}
use Rattle.logic_core.specs.Tree.{Kind}
use Rattle.logic_core.specs.Wide.{◌>>=◌}
use Rattle.bpl_ast.specs.Place.{Ty, integer, boolean, named, map_type, Tys, no_tys, ty}
use Rattle.bpl_ast.specs.Statement.{Decl}
use Rattle.bpl_model.specs.Module.{Proc}
use Rattle.bpl_scopes.specs.Scopes.{Text, Entity, a_constant, a_global, a_function, a_synonym, a_procedure, Table, table_of, counts_after, no_counts, entity_of}
use Rattle.bpl_scopes.specs.Sorts.{map_sort, sort_by, sorts_by, synonym_in, synonym_sort, sort_of_type}
use Rattle.bpl_scopes.specs.Functions.{names_in_type, names_in_types}
use Rattle.bpl_scopes.specs.TypeFaults.{type_name_faults}
use Rattle.bpl_declaration_faults.specs.DeclFaults.{fault_of}
use Rattle.canonical_text.specs.Same.{start, bare_type, bare_types}
use Rattle.bpl_resolve.proofs.Below.{Below}
use Rattle.bpl_resolve.proofs.HasSort.{Known}
use Rattle.bpl_resolve.proofs.Ways.{Member}
use Rattle.bpl_resolve.proofs.FunctionOrder.{stays}
use Rattle.bpl_resolve.proofs.TypeSorts.{sort_below, member_right}
use Rattle.bpl_resolve.proofs.TypesKnown.{SynonymsFine, type_known, up_to}
use Rattle.bpl_resolve.proofs.EntriesFine.{synonyms_fine, table_fine}
use Rattle.rebuild_laws.specs.Twins.{Twins}
use Rattle.rebuild_laws.proofs.NamesInUse.{Used, Met, used}
use Rattle.rebuild_laws.proofs.UsedNames.{bare_meaning, same_entity, entity_entry}
use Rattle.rebuild_laws.proofs.EntityUses.{entity_uses, used_in_entity}

-- a type but for places has the same sort
module _ (f : Text → Option Kind) where
  mutual
    sort_bare : (s : Ty) → sort_by f (bare_type s) ≡ sort_by f s
    sort_bare (integer p) = refl
    sort_bare (boolean p) = refl
    sort_bare (named p n) = refl
    sort_bare (map_type p None ds r) = λ i. map_sort None (sorts_bare ds i) (sort_bare r i)
    sort_bare (map_type p (Some ps) ds r) = refl

    sorts_bare : (ss : Tys) → sorts_by f (bare_types ss) ≡ sorts_by f ss
    sorts_bare no_tys = refl
    sorts_bare (ty s ss) = λ i. sort_bare s i ∷ sorts_bare ss i

-- by two ways of reading names that agree on those in the type
module _ (f g : Text → Option Kind) where
  mutual
    sort_over : (s : Ty) → ((m : Text) → Member m (names_in_type s) → f m ≡ g m) → sort_by f s ≡ sort_by g s
    sort_over (integer p) h = refl
    sort_over (boolean p) h = refl
    sort_over (named p n) h = h n.text (inl refl)
    sort_over (map_type p ps ds r) h = λ i. map_sort ps (sorts_over ds (λ m k. h m (stays m (names_in_types ds) (names_in_type r) k)) i) (sort_over r (λ m k. h m (member_right m (names_in_types ds) (names_in_type r) k)) i)

    sorts_over : (ss : Tys) → ((m : Text) → Member m (names_in_types ss) → f m ≡ g m) → sorts_by f ss ≡ sorts_by g ss
    sorts_over no_tys h = refl
    sorts_over (ty s ss) h = λ i. sort_over s (λ m k. h m (stays m (names_in_type s) (names_in_types ss) k)) i ∷ sorts_over ss (λ m k. h m (member_right m (names_in_type s) (names_in_types ss) k)) i

same_sort_of : (f g : Text → Option Kind) (s r : Ty) → bare_type s ≡ bare_type r → ((m : Text) → Member m (names_in_type s) → f m ≡ g m) → sort_by f s ≡ sort_by g r
same_sort_of f g s r e h = sort_over f g s h ∙ (sym (sort_bare g s) ∙ (ap (sort_by g) e ∙ sort_bare g r))

synonym_is : (o : Option Entity) (s : Ty) → synonym_in o ≡ Some s → o ≡ Some (a_synonym (Some s))
synonym_is None s e = absurd (cc)
synonym_is (Some (a_synonym None)) s e = absurd (cc)
synonym_is (Some (a_synonym (Some r))) s e = ap (λ w. Some (a_synonym w)) e
synonym_is (Some (a_constant k r)) s e = absurd (cc)
synonym_is (Some (a_global k r)) s e = absurd (cc)
synonym_is (Some (a_function h)) s e = absurd (cc)
synonym_is (Some (a_procedure k d)) s e = absurd (cc)

bare_synonym : (o : Option Entity) → synonym_in (bare_meaning o) ≡ option_map bare_type (synonym_in o)
bare_synonym None = refl
bare_synonym (Some (a_synonym s)) = refl
bare_synonym (Some (a_constant k r)) = refl
bare_synonym (Some (a_global k r)) = refl
bare_synonym (Some (a_function h)) = refl
bare_synonym (Some (a_procedure k d)) = refl

-- a sort that is found in fewer steps is found in more
bind_below : (o : Option Ty) (f g : Ty → Option Kind) → ((s : Ty) → Below (f s) (g s)) → Below (o >>= f) (o >>= g)
bind_below None f g h = inl refl
bind_below (Some s) f g h = h s

one_more : (t : Table) (k : ℕ) (n : Text) → Below (synonym_sort t k n) (synonym_sort t (suc k) n)
one_more t zero n = inl refl
one_more t (suc k) n = bind_below (synonym_in (entity_of t n)) _ _ (sort_below (synonym_sort t k) (synonym_sort t (suc k)) (one_more t k))

known_below : (o q : Option Kind) → Known o → Below o q → o ≡ q
known_below o q (k, e) (inl h) = let z = sym h ∙ e in absurd (cc)
known_below o q k (inr h) = h

-- a synonym has a sort in as many steps as the table has entries
synonym_has : (t : Table) → SynonymsFine t → (n : Text) (s : Option Ty) → entity_of t n ≡ Some (a_synonym s) → Known (synonym_sort t (length t) n)
unfolding sort_of_type
synonym_has t fine n s h = type_known t fine [] (named start (record { text = n; at = start })) (ap (λ o. type_name_faults o start) h)

no_synonym : (t : Table) (k : ℕ) (n : Text) → synonym_in (entity_of t n) ≡ None → synonym_sort t k n ≡ None
no_synonym t zero n e = refl
no_synonym t (suc k) n e = ap (λ o. o >>= λ s. sort_by (synonym_sort t k) s) e

module _ (ds : List Decl) (p : Proc) (es : List Decl) (q : Proc) (twins : Twins ds p es q) (back : Twins es q ds p) (fine : fault_of ds ≡ None) (fine_there : fault_of es ≡ None) where
  abbrev T : Table
  T = table_of ds

  abbrev U : Table
  U = table_of es

  same_synonym : (n : Text) → Met ds p n → option_map bare_type (synonym_in (entity_of T n)) ≡ option_map bare_type (synonym_in (entity_of U n))
  same_synonym n u = sym (bare_synonym (entity_of T n)) ∙ (ap synonym_in (same_entity ds p es q twins back fine fine_there n u) ∙ bare_synonym (entity_of U n))

  used_in_synonym : (n : Text) → Met ds p n → (s : Ty) → synonym_in (entity_of T n) ≡ Some s → (m : Text) → Member m (names_in_type s) → Used ds p m
  used_in_synonym n u s e m i =
      let r = entity_entry T n (a_synonym (Some s)) (synonym_is (entity_of T n) s e) in
      used_in_entity ds p n m r.0 u r.1 (subst (λ w. Member m (entity_uses w)) (sym r.2) i)

  same_within : (k : ℕ) (n : Text) → Met ds p n → synonym_sort T k n ≡ synonym_sort U k n
  same_within zero n u = refl
  same_within (suc k) n u = step (synonym_in (entity_of T n)) (synonym_in (entity_of U n)) (same_synonym n u) (used_in_synonym n u) (λ m w. same_within k m (used w))
    where
      same_some : (a b : Ty) → Some a ≡ Some b → a ≡ b
      same_some a b z = cc

      step : (a b : Option Ty) → option_map bare_type a ≡ option_map bare_type b → ((s : Ty) → a ≡ Some s → (m : Text) → Member m (names_in_type s) → Used ds p m)
          → ((m : Text) → Used ds p m → synonym_sort T k m ≡ synonym_sort U k m) → (a >>= λ s. sort_by (synonym_sort T k) s) ≡ (b >>= λ s. sort_by (synonym_sort U k) s)
      step None None e h later = refl
      step None (Some r) e h later = absurd (cc)
      step (Some s) None e h later = absurd (cc)
      step (Some s) (Some r) e h later = same_sort_of (synonym_sort T k) (synonym_sort U k) s r (same_some (bare_type s) (bare_type r) e) (λ m i. later m (h s refl m i))

  -- a name that is met stands for one sort in both
  pub same_sort : (n : Text) → Met ds p n → synonym_sort T (length T) n ≡ synonym_sort U (length U) n
  same_sort n u = by (synonym_in (entity_of T n)) (synonym_in (entity_of U n)) refl refl (same_synonym n u)
    where
      by : (a b : Option Ty) → synonym_in (entity_of T n) ≡ a → synonym_in (entity_of U n) ≡ b → option_map bare_type a ≡ option_map bare_type b → synonym_sort T (length T) n ≡ synonym_sort U (length U) n
      by None None f g e = no_synonym T (length T) n f ∙ sym (no_synonym U (length U) n g)
      by None (Some r) f g e = absurd (cc)
      by (Some s) None f g e = absurd (cc)
      by (Some s) (Some r) f g e =
          let a = synonym_has T (synonyms_fine T (counts_after no_counts ds) (table_fine ds fine)) n (Some s) (synonym_is (entity_of T n) s f) in
          let b = synonym_has U (synonyms_fine U (counts_after no_counts es) (table_fine es fine_there)) n (Some r) (synonym_is (entity_of U n) r g) in
          let z : length U + length T ≡ length T + length U = omega arith in
          known_below _ _ a (up_to T (length U) (length T) n) ∙ (same_within (length U + length T) n u ∙ (ap (λ w. synonym_sort U w n) z ∙ sym (known_below _ _ b (up_to U (length T) (length U) n))))

  -- so do types that are the same but for places
  pub same_type_sort : (s r : Ty) → bare_type s ≡ bare_type r → ((m : Text) → Member m (names_in_type s) → Met ds p m) → sort_of_type T [] s ≡ sort_of_type U [] r
  unfolding sort_of_type
  same_type_sort s r e h = same_sort_of _ _ s r e (λ m i. same_sort m (h m i))
