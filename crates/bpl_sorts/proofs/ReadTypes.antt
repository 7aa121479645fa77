-- In each reading of user types the sort of a written type, where it has one, is that by which its type is read.
use Rattle.std.proofs.Common.{◌≡◌, ◌∙◌, refl, sym, ap, subst, ℕ, zero, suc, ◌+◌, arith, Bool, true, false, cond, bytes_eq, Option, Some, None, option_map, List, [], ◌∷◌, ◌++◌, length}
use Rattle.bv_base.specs.declared.place.Place.{Place}
use Rattle.logic_core.specs.Tree.{Kind, int, boolean, map as map_of}
use Rattle.logic_core.specs.Wide.{◌>>=◌}
use Rattle.bpl_ast.specs.Place.{Name, Params, Ty as Written, integer, boolean as truth_type, named, map_type}
use Rattle.bpl_ast.specs.Statement.{DeclBody, constant, function, axiom_of, variables, synonym, procedure, implementation, Decl}
use Rattle.bv_base.specs.Text.{is_among}
use Rattle.bpl_scopes.specs.Scopes.{Text, Entity, a_constant, a_global, a_function, a_synonym, a_procedure, Entry, Table, table_of, entry_of, entity_of, Counts, no_counts, counts_with, entries_of, entries_from, entries_after}
use Rattle.bpl_scopes.specs.Sorts.{is_int_alone, map_sort_if, sort_by, sorts_by, synonym_in, synonym_sort, unless_hidden, sort_of_type}
use Rattle.logic_laws.proofs.Options.{map_some}
use Rattle.bpl_sorts.specs.Types.{Ty, integers, truths, carriers, maps, kind_of}
use Rattle.bpl_sorts.specs.Apart.{deep, apart}
use Rattle.bpl_sorts.specs.TypeNames.{users_in, number_of, type_in, type_by, type_after, type_of}
use Rattle.user_types.specs.Erased.{users_with, replaced_body, replaced_from, Unique, one_more, axioms_from, axioms_after, uniques, carrier_axioms, as_integers, erased, maps_over, told_apart}
use Rattle.bpl_sorts.specs.Readings.{Fits}

-- ---- tables of declarations without user types

-- it is a synonym of what stands for the user type behind k others
pub record StandsFor (stands : ℕ → Place → Written) (k : ℕ) (x : Entity) : Type 0 where
  pub at : Place
  pub is : x ≡ a_synonym (Some (stands (suc k) at))

module _ (stands : ℕ → Place → Written) where
  -- k user types stand before
  abbrev pub EntityReads : ℕ → Entity → Entity → Type 0
  EntityReads k (a_synonym None) x = StandsFor stands k x
  EntityReads k (a_synonym (Some s)) x = x ≡ a_synonym (Some s)
  EntityReads k (a_constant j t) x = x ≡ a_constant j t
  EntityReads k (a_global j t) x = x ≡ a_global j t
  EntityReads k (a_function h) x = x ≡ a_function h
  EntityReads k (a_procedure j c) x = x ≡ a_procedure j c

  abbrev pub Reads : ℕ → Table → Table → Type 0
  Reads k [] [] = Unit {0}
  Reads k (e ∷ t) (x ∷ u) = (x.name ≡ e.name) × EntityReads k e.entity x.entity × Reads (k + users_in e.entity) t u
  Reads k t u = ⊥

  abbrev pub Found : ℕ → Option Entity → Option Entity → Type 0
  Found k None o = o ≡ None
  Found k (Some e) o = (x : Entity) × (o ≡ Some x) × EntityReads k e x

  same_found : (k j : ℕ) (e o : Option Entity) → k ≡ j → Found k e o → Found j e o
  same_found k j e o s h = subst (λ i. Found i e o) s h

  pub found : (k : ℕ) (t u : Table) (n : Text) → Reads k t u → Found (k + number_of t n) (entity_of t n) (entity_of u n)
  unfolding entity_of
  found k [] [] n h = refl
  found k [] (x ∷ u) n h = absurd h
  found k (e ∷ t) [] n h = absurd h
  found k (e ∷ t) (x ∷ u) n h = by (bytes_eq e.name n) (bytes_eq x.name n) (ap (λ m. bytes_eq m n) h.0) (found (k + users_in e.entity) t u n h.2)
    where
      by : (b c : Bool) → c ≡ b → Found (k + users_in e.entity + number_of t n) (option_map (λ (y : Entry). y.entity) (entry_of t n)) (option_map (λ (y : Entry). y.entity) (entry_of u n))
          → Found (k + cond b 0 (users_in e.entity + number_of t n)) (option_map (λ (y : Entry). y.entity) (cond b (Some e) (entry_of t n))) (option_map (λ (y : Entry). y.entity) (cond c (Some x) (entry_of u n)))
      by true true s r = (x.entity, refl, subst (λ i. EntityReads i e.entity x.entity) (let p : k ≡ k + 0 = omega arith in p) h.1)
      by false false s r = same_found (k + users_in e.entity + number_of t n) (k + (users_in e.entity + number_of t n)) _ _ (omega arith) r
      by true false s r = absurd (cc)
      by false true s r = absurd (cc)

  pub as_long : (k : ℕ) (t u : Table) → Reads k t u → length u ≡ length t
  as_long k [] [] h = refl
  as_long k [] (x ∷ u) h = absurd h
  as_long k (e ∷ t) [] h = absurd h
  as_long k (e ∷ t) (x ∷ u) h = ap suc (as_long (k + users_in e.entity) t u h.2)

  -- entries in front that stay
  stay_constants : (k : ℕ) (what : ℕ → Written → Entity) → ((j : ℕ) (w : Written) → (users_in (what j w) ≡ 0) × ((i : ℕ) → EntityReads i (what j w) (what j w)))
      → (d c : ℕ) (ps : List (Name × Written)) (t u : Table) → Reads k t u → Reads k (entries_from what d c ps ++ t) (entries_from what d c ps ++ u)
  stay_constants k what plain d c [] t u h = h
  stay_constants k what plain d c (p ∷ ps) t u h =
      (refl, (plain c p.1).1 k, subst (λ i. Reads i (entries_from what d (c + 1) ps ++ t) (entries_from what d (c + 1) ps ++ u)) (let z = (plain c p.1).0 in let e : k ≡ k + users_in (what c p.1) = omega (arith, z) in e) (stay_constants k what plain d (c + 1) ps t u h))

  module _ (raw : Table) where
    one_declared : (c : Counts) (d k : ℕ) (b : DeclBody) (t u : Table) → Reads (users_with k b) t u
        → Reads k (entries_of c d b ++ t) (entries_of c d (replaced_body stands raw (users_with k b) b) ++ u)
    one_declared c d k (constant q ns s) t u h = stay_constants k a_constant (λ j w. (refl, λ i. refl)) d c.constants _ t u h
    one_declared c d k (function n ps ins r x) t u h = (refl, refl, subst (λ i. Reads i t u) (let e : k ≡ k + 0 = omega arith in e) h)
    one_declared c d k (axiom_of x) t u h = h
    one_declared c d k (variables gs) t u h = stay_constants k a_global (λ j w. (refl, λ i. refl)) d c.globals _ t u h
    one_declared c d k (synonym n None) t u h = (refl, record { at = n.at; is = refl }, subst (λ i. Reads i t u) (let e : suc k ≡ k + 1 = omega arith in e) h)
    one_declared c d k (synonym n (Some s)) t u h = (refl, refl, subst (λ i. Reads i t u) (let e : k ≡ k + 0 = omega arith in e) h)
    one_declared c d k (procedure n ps s ss b) t u h = (refl, refl, subst (λ i. Reads i t u) (let e : k ≡ k + 0 = omega arith in e) h)
    one_declared c d k (implementation n ps s b) t u h = h

    counts_stay : (c : Counts) (k : ℕ) (b : DeclBody) → counts_with c (replaced_body stands raw k b) ≡ counts_with c b
    counts_stay c k (constant q ns s) = refl
    counts_stay c k (function n ps ins r x) = refl
    counts_stay c k (axiom_of x) = refl
    counts_stay c k (variables gs) = refl
    counts_stay c k (synonym n None) = refl
    counts_stay c k (synonym n (Some s)) = refl
    counts_stay c k (procedure n ps s ss b) = refl
    counts_stay c k (implementation n ps s b) = refl

    -- what stands behind declares nothing
    declared : (c : Counts) (d k : ℕ) (ds more : List Decl) → ((e : Counts) (i : ℕ) → entries_after e i more ≡ []) → Reads k (entries_after c d ds) (entries_after c d (replaced_from stands raw k ds ++ more))
    declared c d k [] more none = subst (Reads k []) (sym (none c d)) tt
    declared c d k (x ∷ ds) more none =
        one_declared c d k x.body (entries_after (counts_with c x.body) (d + 1) ds) _
        (subst (λ e. Reads (users_with k x.body) (entries_after (counts_with c x.body) (d + 1) ds) (entries_after e (d + 1) (replaced_from stands raw (users_with k x.body) ds ++ more)))
        (sym (counts_stay c (users_with k x.body) x.body)) (declared (counts_with c x.body) (d + 1) (users_with k x.body) ds more none))

nothing_declared : (count : ℕ → ℕ) (k : ℕ) (us : List Unique) (c : Counts) (d : ℕ) → entries_after c d (axioms_from count k us) ≡ []
nothing_declared count k [] c d = refl
nothing_declared count k (u ∷ us) c d = nothing_declared (one_more count u.0) (suc k) us c (d + 1)

pub erased_reads : (ds : List Decl) → Reads as_integers 0 (table_of ds) (table_of (erased ds))
erased_reads ds = declared as_integers (table_of ds) no_counts 0 0 ds (carrier_axioms ds) (λ c d. nothing_declared (λ i. 0) (axioms_after 0 ds) (uniques (table_of ds) ds) c d)

none_behind : (ds : List Decl) → ds ++ [] ≡ ds
none_behind [] = refl
none_behind (d ∷ ds) = ap (λ es. d ∷ es) (none_behind ds)

pub apart_reads : (ds : List Decl) → Reads maps_over 0 (table_of ds) (table_of (told_apart ds))
apart_reads ds = subst (λ es. Reads maps_over 0 (table_of ds) (table_of es)) (none_behind (told_apart ds)) (declared maps_over (table_of ds) no_counts 0 0 ds [] (λ c d. refl))

-- ---- sorts of types

-- where there is a sort, it is that by which the type is read
abbrev pub FitsOne : (Ty → Kind) → Option Kind → Ty → Type 0
FitsOne read o t = (k : Kind) → o ≡ Some k → read t ≡ k

-- a way to read types, and what stands for user types by it
pub record IsReading (read : Ty → Kind) (stands : ℕ → Place → Written) : Type 0 where
  pub integer_is : read integers ≡ int
  pub truth_is : read truths ≡ boolean
  pub map_is : (t : Ty) → read (maps t) ≡ map_of (read t)
  pub user_is : (f : Text → Option Kind) (k : ℕ) (p : Place) → sort_by f (stands (suc k) p) ≡ Some (read (carriers k))

some_same : (j k : Kind) → Some j ≡ Some k → j ≡ k
some_same j k e = cc

map_known : (b : Bool) (ps : Option Params) (o : Option Kind) (k : Kind) → map_sort_if b ps o ≡ Some k → (j : Kind) × (o ≡ Some j) × (map_of j ≡ k)
map_known b (Some ps) o k e = absurd (cc)
map_known false None o k e = absurd (cc)
map_known true None o k e = map_some map_of o k e

module _ (read : Ty → Kind) (stands : ℕ → Place → Written) (r : IsReading read stands) where
  type_read : (f : Text → Option Kind) (g : Text → Ty) → ((n : Text) → FitsOne read (f n) (g n)) → (w : Written) → FitsOne read (sort_by f w) (type_in g w)
  type_read f g h (integer p) k e = r.integer_is ∙ some_same int k e
  type_read f g h (truth_type p) k e = r.truth_is ∙ some_same boolean k e
  type_read f g h (named p n) k e = h n.text k e
  type_read f g h (map_type p ps ds w) k e =
      let q = map_known (is_int_alone (sorts_by f ds)) ps (sort_by f w) k e in
      r.map_is (type_in g w) ∙ (ap map_of (type_read f g h w q.0 q.1) ∙ q.2)

  module _ (t u : Table) (reads : Reads stands 0 t u) where
    named_read : (m : ℕ) (n : Text) → FitsOne read (synonym_sort u m n) (type_after t m n)
    named_read zero n k e = absurd (cc)
    named_read (suc m) n k e = by (entity_of t n) (entity_of u n) (found stands 0 t u n reads) (named_read m) e
      where
        by : (o p : Option Entity) → Found stands (0 + number_of t n) o p → ((n' : Text) → FitsOne read (synonym_sort u m n') (type_after t m n')) → (synonym_in p >>= λ s. sort_by (synonym_sort u m) s) ≡ Some k → read (type_by (type_after t m) (number_of t n) o) ≡ k
        by None p h z q = absurd (let y' : (synonym_in None >>= λ s. sort_by (synonym_sort u m) s) ≡ Some k = ap (λ y. synonym_in y >>= λ s. sort_by (synonym_sort u m) s) (sym h) ∙ q in cc)
        by (Some (a_constant j s)) p h z q = absurd (let y' = sym (ap (λ y. synonym_in y >>= λ s. sort_by (synonym_sort u m) s) (h.1 ∙ ap Some h.2)) ∙ q in cc)
        by (Some (a_global j s)) p h z q = absurd (let y' = sym (ap (λ y. synonym_in y >>= λ s. sort_by (synonym_sort u m) s) (h.1 ∙ ap Some h.2)) ∙ q in cc)
        by (Some (a_function j)) p h z q = absurd (let y' = sym (ap (λ y. synonym_in y >>= λ s. sort_by (synonym_sort u m) s) (h.1 ∙ ap Some h.2)) ∙ q in cc)
        by (Some (a_procedure j s)) p h z q = absurd (let y' = sym (ap (λ y. synonym_in y >>= λ s. sort_by (synonym_sort u m) s) (h.1 ∙ ap Some h.2)) ∙ q in cc)
        by (Some (a_synonym None)) p h z q =
            let y' = sym (ap (λ y. synonym_in y >>= λ s. sort_by (synonym_sort u m) s) (h.1 ∙ ap Some (h.2).is)) ∙ q in
            ap (λ i. read (carriers i)) (let z' : number_of t n ≡ 0 + number_of t n = omega arith in z') ∙ some_same (read (carriers (0 + number_of t n))) k (sym (r.user_is (synonym_sort u m) (0 + number_of t n) (h.2).at) ∙ y')
        by (Some (a_synonym (Some s))) p h z q =
            type_read (synonym_sort u m) (type_after t m) z s k (sym (ap (λ y. synonym_in y >>= λ s. sort_by (synonym_sort u m) s) (h.1 ∙ ap Some h.2)) ∙ q)

    unless_read : (b : Bool) (o : Option Kind) (s : Ty) → FitsOne read o s → FitsOne read (unless_hidden b o) s
    unless_read true o s h k e = absurd (cc)
    unless_read false o s h k e = h k e

    pub written_read : (hidden : List Text) (w : Written) → FitsOne read (sort_of_type u hidden w) (type_in (type_after t (length t)) w)
    unfolding sort_of_type
    written_read hidden w = type_read (λ n. unless_hidden (is_among hidden n) (synonym_sort u (length u) n)) (type_after t (length t))
        (λ n. unless_read (is_among hidden n) (synonym_sort u (length u) n) (type_after t (length t) n) (subst (λ m. FitsOne read (synonym_sort u m n) (type_after t (length t) n)) (sym (as_long stands 0 t u reads)) (named_read (length t) n))) w

by_integers : IsReading kind_of as_integers
by_integers = record { integer_is = refl; truth_is = refl; map_is = λ t. refl; user_is = λ f k p. refl }

deep_sort : (f : Text → Option Kind) (k : ℕ) (p : Place) → sort_by f (maps_over k p) ≡ Some (deep k)
deep_sort f zero p = refl
deep_sort f (suc k) p = ap (option_map map_of) (deep_sort f k p)

by_maps : IsReading apart maps_over
by_maps = record { integer_is = refl; truth_is = refl; map_is = λ t. refl; user_is = λ f k p. deep_sort f (suc k) p }

-- of a written type in both readings, whatever names are hidden
pub types_fit : (ds : List Decl) (hidden others : List Text) (w : Written) → Fits (sort_of_type (table_of (erased ds)) hidden w) (sort_of_type (table_of (told_apart ds)) others w) (type_of ds w)
types_fit ds hidden others w j k e f = (
  written_read kind_of as_integers by_integers (table_of ds) (table_of (erased ds)) (erased_reads ds) hidden w j e,
  written_read apart maps_over by_maps (table_of ds) (table_of (told_apart ds)) (apart_reads ds) others w k f,
)
