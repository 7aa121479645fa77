-- In a program without faults the name at a number of constants stands for the constant of that number, and so for globals.
use Rattle.std.specs.Prelude.{◌≡◌, ℕ, zero, suc, ◌+◌, true, false, ◌||◌, cond, is_some, List, [], ◌∷◌, ◌++◌, map, length, flat_map, slice_get, bytes_eq, Option, Some, None, option_map}
use Rattle.std.proofs.Common.{refl, ap, sym, ◌∙◌, subst, arith, inl, inr, ◌⊎◌}
use Rattle.bpl_ast.specs.Place.{Name, Ty}
use Rattle.bpl_ast.specs.Statement.{DeclBody, constant, function, axiom_of, variables, synonym, procedure, implementation, Decl}
use Rattle.bpl_scopes.specs.declared.fault.TypeKind.TheVariants.{Twice as twice}
use Rattle.bv_base.specs.Text.{is_among}
use Rattle.bpl_scopes.specs.Fault.{again, if_so}
use Rattle.bpl_scopes.specs.Scopes.{Text, Entity, a_constant, a_global, Entry, Table, table_of, Counts, no_counts, counts_with, counts_after, declared_names, typed_names, names_of, only_names, texts_of, entries_from, entries_of, entries_after, entry_of, entity_of}
use Rattle.bpl_declaration_faults.specs.DeclFaults.{decl_faults, Before, before_with, nothing_before, fault_of}
use Rattle.bpl_resolve.proofs.HasSort.{first_empty, second_empty}
use Rattle.logic_core.proofs.Booleans.{neither as either_false, or_second}
use Rattle.bpl_resolve.proofs.GoesForward.{not_equal}
use Rattle.bpl_resolve.proofs.Ways.{text_itself}
use Rattle.bpl_resolve.proofs.EntriesFine.{NoFaults, none_faulty}
use Rattle.rebuild_laws.proofs.OwnNames.{apart_by, among_more, among_some, decl_again, again_apart}
use Rattle.rebuild_laws.proofs.Located.{or_in, found_joined, declared_found, not_before, none_is}
use Rattle.rebuild_laws.proofs.NamedNumbers.{constants_in, globals_in, constant_names, global_names, constant_count, global_count}

slice_among : (ns : List Text) (j : ℕ) (n : Text) → slice_get ns j ≡ Some n → is_among ns n ≡ true
slice_among [] j n e = absurd (cc)
slice_among (m ∷ ms) zero n e = let z : m ≡ n = cc in ap (λ b. b || is_among ms n) (subst (λ w. bytes_eq n w ≡ true) (sym z) (text_itself n))
slice_among (m ∷ ms) (suc j) n e = or_second (bytes_eq n m) (is_among ms n) (slice_among ms j n e)

-- what a name stands for with that number
abbrev IsAt : (ℕ → Ty → Entity) → ℕ → Option Entry → Type 0
IsAt what k o = (e : Entry) × (o ≡ Some e) × (s : Ty) × (e.entity ≡ what k s)

module _ (t : Table) (c : Counts) where
  numbered_from : (what : ℕ → Ty → Entity) (d k : ℕ) (before : List Text) (ps : List (Name × Ty)) (j : ℕ) (n : Text) → again twice before (only_names ps) ≡ [] → slice_get (texts_of (only_names ps)) j ≡ Some n
      → IsAt what (k + j) (entry_of (entries_from what d k ps) n)
  numbered_from what d k before [] j n a e = absurd (cc)
  numbered_from what d k before (p ∷ ps) zero n a e =
      let z : (p.0).text ≡ n = cc in
      let w : k + 0 ≡ k = omega arith in
      let f : Entry = record { name = (p.0).text; decl = d; entity = what k p.1 } in
      (f, ap (λ b. cond b (Some f) (entry_of (entries_from what d (k + 1) ps) n)) (subst (λ m. bytes_eq m n ≡ true) (sym z) (text_itself n)), p.1, ap (λ m. what m p.1) (sym w))
  numbered_from what d k before (p ∷ ps) (suc j) n a e =
      let later = second_empty (if_so (is_among before (p.0).text) twice (p.0).at) _ a in
      let r = numbered_from what d (k + 1) ((p.0).text ∷ before) ps j n later e in
      let z = again_apart t c ((p.0).text ∷ before) (only_names ps) n later (slice_among (texts_of (only_names ps)) j n e) in
      let w : (k + 1) + j ≡ k + suc j = omega arith in
      let f : Entry = record { name = (p.0).text; decl = d; entity = what k p.1 } in
      (r.0, ap (λ b. cond b (Some f) (entry_of (entries_from what d (k + 1) ps) n)) (not_equal (p.0).text n (either_false (bytes_eq n (p.0).text) (is_among before n) z).0) ∙ r.1, r.2, r.3 ∙ ap (λ m. what m r.2) w)

  -- a kind of names with numbers, of which a declaration declares some
  module _ (what : ℕ → Ty → Entity) (names : DeclBody → List Text) (count : Counts → ℕ)
      (counted : (k : Counts) (x : DeclBody) → count k + length (names x) ≡ count (counts_with k x))
      (inside : (b : Before) (k : Counts) (d : ℕ) (x : DeclBody) (j : ℕ) (n : Text) → decl_faults t c b x ≡ [] → slice_get (names x) j ≡ Some n → IsAt what (count k + j) (entry_of (entries_of k d x) n))
      (declares : (x : DeclBody) (j : ℕ) (n : Text) → slice_get (names x) j ≡ Some n → is_among (texts_of (declared_names x)) n ≡ true) where
    abbrev all_names : List Decl → List Text
    all_names xs = flat_map (λ (x : Decl). names x.body) xs

    split_at : (ms ns : List Text) (j : ℕ) (n : Text) → slice_get (ms ++ ns) j ≡ Some n → (slice_get ms j ≡ Some n) ⊎ ((i : ℕ) × (j ≡ length ms + i) × (slice_get ns i ≡ Some n))
    split_at [] ns j n e = inr (j, omega arith, e)
    split_at (m ∷ ms) ns zero n e = inl e
    split_at (m ∷ ms) ns (suc j) n e = by (split_at ms ns j n e)
      where
        by : (slice_get ms j ≡ Some n) ⊎ ((i : ℕ) × (j ≡ length ms + i) × (slice_get ns i ≡ Some n)) → (slice_get ms j ≡ Some n) ⊎ ((i : ℕ) × (suc j ≡ suc (length ms) + i) × (slice_get ns i ≡ Some n))
        by (inl h) = inl h
        by (inr h) = let z = h.1 in inr (h.0, omega (arith, z), h.2)

    not_declared_before : (b : Before) (xs : List Decl) (j : ℕ) (n : Text) → NoFaults t c b xs → slice_get (all_names xs) j ≡ Some n → is_among b.names n ≡ false
    not_declared_before b [] j n f e = absurd (cc)
    not_declared_before b (x ∷ xs) j n f e = by (split_at (names x.body) (all_names xs) j n e) (λ i h. not_declared_before (before_with b x.body) xs i n f.1 h)
      where
        by : (slice_get (names x.body) j ≡ Some n) ⊎ ((i : ℕ) × (j ≡ length (names x.body) + i) × (slice_get (all_names xs) i ≡ Some n))
            → ((i : ℕ) → slice_get (all_names xs) i ≡ Some n → is_among (before_with b x.body).names n ≡ false) → is_among b.names n ≡ false
        by (inl h) later = again_apart t c b.names (declared_names x.body) n (decl_again t c b x.body f.0) (declares x.body j n h)
        by (inr h) later = let z = later h.0 h.2 in apart_by (is_among b.names n) (λ w. let q = sym (among_more (texts_of (declared_names x.body)) b.names n w) ∙ z in cc)

    pub number_is : (b : Before) (k : Counts) (d : ℕ) (xs : List Decl) (j : ℕ) (n : Text) → NoFaults t c b xs → slice_get (all_names xs) j ≡ Some n → IsAt what (count k + j) (entry_of (entries_after k d xs) n)
    number_is b k d [] j n f e = absurd (cc)
    number_is b k d (x ∷ xs) j n f e = by (split_at (names x.body) (all_names xs) j n e) (λ i h. number_is (before_with b x.body) (counts_with k x.body) (d + 1) xs i n f.1 h)
      where
        by : (slice_get (names x.body) j ≡ Some n) ⊎ ((i : ℕ) × (j ≡ length (names x.body) + i) × (slice_get (all_names xs) i ≡ Some n))
            → ((i : ℕ) → slice_get (all_names xs) i ≡ Some n → IsAt what (count (counts_with k x.body) + i) (entry_of (entries_after (counts_with k x.body) (d + 1) xs) n))
            → IsAt what (count k + j) (entry_of (entries_after k d (x ∷ xs)) n)
        by (inl h) later =
            let r = inside b k d x.body j n f.0 h in
            (r.0, found_joined n (entries_of k d x.body) (entries_after (counts_with k x.body) (d + 1) xs) ∙ ap (λ o. or_in o (entry_of (entries_after (counts_with k x.body) (d + 1) xs) n)) r.1, r.2, r.3)
        by (inr h) later =
            let r = later h.0 h.2 in
            let z = not_declared_before (before_with b x.body) xs h.0 n f.1 h.2 in
            let a = apart_by (is_among (texts_of (declared_names x.body)) n) (λ w. let q = sym (among_some (texts_of (declared_names x.body)) b.names n w) ∙ z in cc) in
            let u = counted k x.body in
            let v = h.1 in
            let w : count (counts_with k x.body) + h.0 ≡ count k + j = omega (arith, u, v) in (
              r.0,
              found_joined n (entries_of k d x.body) (entries_after (counts_with k x.body) (d + 1) xs)
                  ∙ (ap (λ o. or_in o (entry_of (entries_after (counts_with k x.body) (d + 1) xs) n)) (none_is t c (entry_of (entries_of k d x.body) n) (declared_found k d x.body n ∙ a)) ∙ r.1),
              r.2,
              r.3 ∙ ap (λ m. what m r.2) w,
            )

  names_again : (ns : List Name) (s : Ty) → only_names (typed_names ns s) ≡ ns
  names_again [] s = refl
  names_again (n ∷ ns) s = ap (λ w. n ∷ w) (names_again ns s)

  constants_inside : (b : Before) (k : Counts) (d : ℕ) (x : DeclBody) (j : ℕ) (n : Text) → decl_faults t c b x ≡ [] → slice_get (constants_in x) j ≡ Some n → IsAt a_constant (k.constants + j) (entry_of (entries_of k d x) n)
  constants_inside b k d (constant u ns s) j n e h =
      let z = names_again ns s in
      numbered_from a_constant d k.constants b.names (typed_names ns s) j n (ap (again twice b.names) z ∙ decl_again t c b (constant u ns s) e) (ap (λ ms. slice_get (texts_of ms) j) z ∙ h)
  constants_inside b k d (function m ps ins r x) j n e h = absurd (cc)
  constants_inside b k d (axiom_of x) j n e h = absurd (cc)
  constants_inside b k d (variables gs) j n e h = absurd (cc)
  constants_inside b k d (synonym m s) j n e h = absurd (cc)
  constants_inside b k d (procedure m ps g ss y) j n e h = absurd (cc)
  constants_inside b k d (implementation m ps g y) j n e h = absurd (cc)

  globals_inside : (b : Before) (k : Counts) (d : ℕ) (x : DeclBody) (j : ℕ) (n : Text) → decl_faults t c b x ≡ [] → slice_get (globals_in x) j ≡ Some n → IsAt a_global (k.globals + j) (entry_of (entries_of k d x) n)
  globals_inside b k d (variables gs) j n e h = numbered_from a_global d k.globals b.names (names_of gs) j n (decl_again t c b (variables gs) e) h
  globals_inside b k d (constant u ns s) j n e h = absurd (cc)
  globals_inside b k d (function m ps ins r x) j n e h = absurd (cc)
  globals_inside b k d (axiom_of x) j n e h = absurd (cc)
  globals_inside b k d (synonym m s) j n e h = absurd (cc)
  globals_inside b k d (procedure m ps g ss y) j n e h = absurd (cc)
  globals_inside b k d (implementation m ps g y) j n e h = absurd (cc)

constants_declared : (x : DeclBody) (j : ℕ) (n : Text) → slice_get (constants_in x) j ≡ Some n → is_among (texts_of (declared_names x)) n ≡ true
constants_declared (constant u ns s) j n h = slice_among (texts_of ns) j n h
constants_declared (function m ps ins r x) j n h = absurd (cc)
constants_declared (axiom_of x) j n h = absurd (cc)
constants_declared (variables gs) j n h = absurd (cc)
constants_declared (synonym m s) j n h = absurd (cc)
constants_declared (procedure m ps g ss y) j n h = absurd (cc)
constants_declared (implementation m ps g y) j n h = absurd (cc)

globals_declared : (x : DeclBody) (j : ℕ) (n : Text) → slice_get (globals_in x) j ≡ Some n → is_among (texts_of (declared_names x)) n ≡ true
globals_declared (variables gs) j n h = slice_among (texts_of (only_names (names_of gs))) j n h
globals_declared (constant u ns s) j n h = absurd (cc)
globals_declared (function m ps ins r x) j n h = absurd (cc)
globals_declared (axiom_of x) j n h = absurd (cc)
globals_declared (synonym m s) j n h = absurd (cc)
globals_declared (procedure m ps g ss y) j n h = absurd (cc)
globals_declared (implementation m ps g y) j n h = absurd (cc)

module _ (ds : List Decl) (none : fault_of ds ≡ None) where
  entity_at : (what : ℕ → Ty → Entity) (j : ℕ) (n : Text) → IsAt what (0 + j) (entry_of (table_of ds) n) → (s : Ty) × (entity_of (table_of ds) n ≡ Some (what j s))
  unfolding entity_of
  entity_at what j n r =
      let w : 0 + j ≡ j = omega arith in
      (r.2, ap (option_map (λ (e : Entry). e.entity)) r.1 ∙ ap Some (r.3 ∙ ap (λ m. what m r.2) w))

  -- the name of each number of constants stands for the constant of that number
  pub constant_at : (j : ℕ) (n : Text) → slice_get (constant_names ds) j ≡ Some n → (s : Ty) × (entity_of (table_of ds) n ≡ Some (a_constant j s))
  constant_at j n h =
      let t = table_of ds in
      let c = counts_after no_counts ds in
      entity_at a_constant j n
      (number_is t c a_constant constants_in (λ k. k.constants) constant_count (constants_inside t c) constants_declared nothing_before no_counts 0 ds j n (none_faulty ds none) h)

  -- and so for globals
  pub global_at : (j : ℕ) (n : Text) → slice_get (global_names ds) j ≡ Some n → (s : Ty) × (entity_of (table_of ds) n ≡ Some (a_global j s))
  global_at j n h =
      let t = table_of ds in
      let c = counts_after no_counts ds in
      entity_at a_global j n
      (number_is t c a_global globals_in (λ k. k.globals) global_count (globals_inside t c) globals_declared nothing_before no_counts 0 ds j n (none_faulty ds none) h)
