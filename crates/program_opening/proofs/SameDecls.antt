-- Declarations without user types are the same in each reading of user types.
use Rattle.std.proofs.Common.{◌≡◌, ◌∙◌, refl, sym, ap, ℕ, zero, suc, ◌+◌, Bool, true, false, cond, bytes_eq, Option, Some, None, option_map, List, [], ◌∷◌, ◌++◌, length, flat_map}
use Rattle.std.proofs.lemmas.List.{append-nil}
use Rattle.bv_base.specs.declared.place.Place.{Place}
use Rattle.logic_core.proofs.Booleans.{neither}
use Rattle.bpl_ast.specs.Place.{Name, Ty, integer, boolean, named, map_type}
use Rattle.bpl_ast.specs.Statement.{DeclBody, constant, function, axiom_of, variables, synonym, procedure, implementation, Decl}
use Rattle.bpl_scopes.specs.declared.fault.Fault.{Fault}
use Rattle.bpl_scopes.specs.KnownSorts.{names_in}
use Rattle.bpl_scopes.specs.Positions.{first_at}
use Rattle.bpl_scopes.specs.Scopes.{Text, Entity, a_constant, a_global, a_function, a_synonym, a_procedure, Entry, Table, table_of, entry_of, entity_of, Counts, no_counts, counts_with, entries_of, entries_from, entries_after}
use Rattle.bpl_declaration_faults.specs.DeclFaults.{fault_of}
use Rattle.user_types.specs.UserTypes.{user_in, user_by, user_after, user_of}
use Rattle.user_types.specs.Erased.{users_with, kept_unique, replaced_body, replaced_from, replaced, Unique, uniques_of, uniques_in, uniques, axioms_from, axioms_after, as_integers, erased, maps_over, told_apart}
use Rattle.user_types.specs.CarrierFaults.{carrier_fault}
use Rattle.bpl_model.specs.Module.{Module}
use Rattle.bpl_resolve.specs.Elaborate.{module_of}
use Rattle.fault_text.specs.Written.{Written}
use Rattle.fault_text.specs.WrittenFault.{decl_fault}
use Rattle.program_opening.specs.Opening.{typed, ill_typed, typing}
use Rattle.program_opening.specs.NoUsers.{is_user_type, has_user_types}
use Rattle.program_opening.proofs.Openings.{faulty_is, faultless_is, carriers_right}

-- ---- no name stands for a user type

abbrev IsOther : Entity → Type 0
IsOther (a_synonym None) = ⊥
IsOther (a_synonym (Some s)) = Unit {0}
IsOther (a_constant j t) = Unit {0}
IsOther (a_global j t) = Unit {0}
IsOther (a_function g) = Unit {0}
IsOther (a_procedure j c) = Unit {0}

abbrev AreOther : Table → Type 0
AreOther [] = Unit {0}
AreOther (e ∷ t) = IsOther e.entity × AreOther t

abbrev IsFound : Option Entity → Type 0
IsFound None = Unit {0}
IsFound (Some e) = IsOther e

found_other : (t : Table) (n : Text) → AreOther t → IsFound (entity_of t n)
unfolding entity_of
found_other [] n h = tt
found_other (e ∷ t) n h = by (bytes_eq e.name n) (found_other t n h.1)
  where
    by : (b : Bool) → IsFound (option_map (λ (y : Entry). y.entity) (entry_of t n)) → IsFound (option_map (λ (y : Entry). y.entity) (cond b (Some e) (entry_of t n)))
    by true r = h.0
    by false r = r

joined : (t u : Table) → AreOther t → AreOther u → AreOther (t ++ u)
joined [] u h k = k
joined (e ∷ t) u h k = (h.0, joined t u h.1 k)

entries_other : (what : ℕ → Ty → Entity) → ((j : ℕ) (s : Ty) → IsOther (what j s)) → (d k : ℕ) (ps : List (Name × Ty)) → AreOther (entries_from what d k ps)
entries_other what other d k [] = tt
entries_other what other d k (p ∷ ps) = (other k p.1, entries_other what other d (k + 1) ps)

one_other : (c : Counts) (d : ℕ) (b : DeclBody) → is_user_type b ≡ false → AreOther (entries_of c d b)
one_other c d (constant u ns s) h = entries_other a_constant (λ j s'. tt) d c.constants _
one_other c d (function n ps ins r x) h = (tt, tt)
one_other c d (axiom_of x) h = tt
one_other c d (variables gs) h = entries_other a_global (λ j s'. tt) d c.globals _
one_other c d (synonym n None) h = absurd (cc)
one_other c d (synonym n (Some s)) h = (tt, tt)
one_other c d (procedure n ps s ss b) h = (tt, tt)
one_other c d (implementation n ps s b) h = tt

decls_other : (c : Counts) (d : ℕ) (ds : List Decl) → has_user_types ds ≡ false → AreOther (entries_after c d ds)
decls_other c d [] h = tt
decls_other c d (x ∷ ds) h =
    let p = neither (is_user_type x.body) (has_user_types ds) h in
    joined (entries_of c d x.body) (entries_after (counts_with c x.body) (d + 1) ds) (one_other c d x.body p.0) (decls_other (counts_with c x.body) (d + 1) ds p.1)

none_in : (f : Text → Option ℕ) → ((n : Text) → f n ≡ None) → (s : Ty) → user_in f s ≡ None
none_in f none (integer p) = refl
none_in f none (boolean p) = refl
none_in f none (named p n) = none n.text
none_in f none (map_type p ps ds r) = refl

none_after : (t : Table) → AreOther t → (k : ℕ) (n : Text) → user_after t k n ≡ None
none_after t h zero n = refl
none_after t h (suc k) n = by (entity_of t n) (found_other t n h) (none_after t h k)
  where
    by : (o : Option Entity) → IsFound o → ((m : Text) → user_after t k m ≡ None) → user_by (user_after t k) (first_at n (names_in t)) o ≡ None
    by None f none = refl
    by (Some (a_constant j s)) f none = refl
    by (Some (a_global j s)) f none = refl
    by (Some (a_function g)) f none = refl
    by (Some (a_procedure j c)) f none = refl
    by (Some (a_synonym None)) f none = absurd f
    by (Some (a_synonym (Some s))) f none = none_in (user_after t k) none s

none_of : (ds : List Decl) → has_user_types ds ≡ false → (s : Ty) → user_of (table_of ds) s ≡ None
none_of ds h s = none_in (user_after (table_of ds) (length (table_of ds))) (none_after (table_of ds) (decls_other no_counts 0 ds h) (length (table_of ds))) s

-- ---- the declarations stay

module _ (t : Table) (none : (s : Ty) → user_of t s ≡ None) where
  body_stays : (f : ℕ → Place → Ty) (k : ℕ) (b : DeclBody) → is_user_type b ≡ false → replaced_body f t k b ≡ b
  body_stays f k (constant u ns s) h = ap (λ o. constant (kept_unique o u) ns s) (none s)
  body_stays f k (function n ps ins r x) h = refl
  body_stays f k (axiom_of x) h = refl
  body_stays f k (variables gs) h = refl
  body_stays f k (synonym n None) h = absurd (cc)
  body_stays f k (synonym n (Some s)) h = refl
  body_stays f k (procedure n ps s ss b) h = refl
  body_stays f k (implementation n ps s b) h = refl

  decls_stay : (f : ℕ → Place → Ty) (k : ℕ) (ds : List Decl) → has_user_types ds ≡ false → replaced_from f t k ds ≡ ds
  decls_stay f k [] h = refl
  decls_stay f k (d ∷ ds) h =
      let p = neither (is_user_type d.body) (has_user_types ds) h in
      ap (λ (b : DeclBody). record d { body = b } ∷ replaced_from f t (users_with k d.body) ds) (body_stays f (users_with k d.body) d.body p.0)
      ∙ ap (λ (es : List Decl). d ∷ es) (decls_stay f (users_with k d.body) ds p.1)

  none_unique_in : (b : DeclBody) → uniques_in t b ≡ []
  none_unique_in (constant None ns s) = refl
  none_unique_in (constant (Some p) ns s) = ap (λ o. uniques_of (Some p) o ns) (none s)
  none_unique_in (function n ps ins r x) = refl
  none_unique_in (axiom_of x) = refl
  none_unique_in (variables gs) = refl
  none_unique_in (synonym n s) = refl
  none_unique_in (procedure n ps s ss b) = refl
  none_unique_in (implementation n ps s b) = refl

  none_unique : (ds : List Decl) → uniques t ds ≡ []
  none_unique [] = refl
  none_unique (d ∷ ds) = ap (λ (us : List Unique). us ++ uniques t ds) (none_unique_in d.body) ∙ none_unique ds

apart_same : (ds : List Decl) → has_user_types ds ≡ false → told_apart ds ≡ ds
apart_same ds h = decls_stay (table_of ds) (none_of ds h) maps_over 0 ds h

erased_same : (ds : List Decl) → has_user_types ds ≡ false → erased ds ≡ ds
erased_same ds h =
    ap (λ (us : List Unique). replaced as_integers ds ++ axioms_from (λ i. 0) (axioms_after 0 ds) us) (none_unique (table_of ds) (none_of ds h) ds)
    ∙ (append-nil (replaced as_integers ds) ∙ decls_stay (table_of ds) (none_of ds h) as_integers 0 ds h)

-- ---- what they are by names and types

pub same_typed : (ds : List Decl) (m : Module) → has_user_types ds ≡ false → fault_of ds ≡ None → m ≡ module_of ds → typing ds ≡ typed m
same_typed ds m h f is =
    let e = erased_same ds h in
    faultless_is ds (ap fault_of e ∙ f)
    ∙ carriers_right ds m (ap (λ (es : List Decl). option_map (λ (p : ℕ × Fault). (p.0, p.1.at)) (fault_of es)) (apart_same ds h) ∙ ap (λ o. option_map (λ (p : ℕ × Fault). (p.0, p.1.at)) o) f) (is ∙ ap module_of (sym e))

pub same_faulty : (ds : List Decl) (p : ℕ × Fault) (w : Written) → has_user_types ds ≡ false → fault_of ds ≡ Some p → w ≡ decl_fault ds p → typing ds ≡ ill_typed w
same_faulty ds p w h f is =
    let e = erased_same ds h in
    faulty_is ds p w (ap fault_of e ∙ f) (is ∙ ap (λ (es : List Decl). decl_fault es p) (sym e))
