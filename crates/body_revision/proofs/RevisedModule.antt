-- The module with one revision.
use Rattle.std.proofs.Common.{◌≡◌, refl, sym, ap, ◌∙◌, subst, arith, inl, inr, ℕ, zero, suc, ◌<◌, true, false, bytes_eq, List, [], ◌∷◌, map, length, take, set, get_or, flat_map, slice_get, Option, Some, None, cond, sum_by, count_by}
use Rattle.std.proofs.lemmas.List.{length-set, length-map, map-set}
use Rattle.std.proofs.lemmas.Option.{none-some, slice_get-get_or, slice_get_within, get_or_from_slice_get}
use Rattle.std.proofs.lemmas.Bool.{false≢true}
use Rattle.std.proofs.lemmas.List.Concat.{length-flat_map}
use Rattle.std.proofs.lemmas.List.Folds.{length-flat_map-take}
use Rattle.bpl_ast.specs.Statement.{Body, DeclBody, constant, function, axiom_of, variables, synonym, procedure, implementation, Decl}
use Rattle.logic_core.specs.Tree.{Tree}
use Rattle.bpl_model.specs.Module.{Proc, with_procedure}
use Rattle.bpl_scopes.specs.Functions.{function_in, in_number_order}
use Rattle.bpl_scopes.specs.Scopes.{Text, Table, table_of, Counts, no_counts, counts_after, entity_of}
use Rattle.bpl_resolve.specs.Elaborate.{or_else, implements, proc_of, implementation_of, consts_in, globals_in, axioms_in, function_def, procs_in, decl_text, typed_module, module_of}
use Rattle.bpl_resolve.proofs.GoesForward.{not_equal}
use Rattle.bpl_resolve.proofs.Ways.{same_text, text_itself}
use Rattle.body_revision.specs.Revised.{IsOtherProcedure, IsOtherImplementation, IsOtherAxiom, IsOtherFunction, IsRevised}
use Rattle.body_revision.proofs.SameTable.{same_table, same_counts}
use Rattle.body_revision.specs.Procedures.{is_procedure, lacks_body, gives_body, procedure_place, procedure_by}
use Rattle.body_revision.proofs.SetParts.{same_parts, other_part, only_part}
use Rattle.body_revision.proofs.KeptBodies.{of_revised, same_implementation, gives_none, none_implements, same_procs}
use Rattle.body_revision.proofs.FoundPlaces.{IsOnlyAt, only_there, only_is, IsGiven, given, lacks_procedure, procedure_there, own_place, own_alone}

-- a declaration of a procedure gives the module one, and no other any
one_each : (ds : List Decl) (t : Table) (c : Counts) (b : DeclBody) → length (procs_in ds t c b) ≡ cond (is_procedure b) 1 0
one_each ds t c (procedure n ps g ss b) = refl
one_each ds t c (constant u ns s) = refl
one_each ds t c (function m ps ins r x) = refl
one_each ds t c (axiom_of x) = refl
one_each ds t c (variables gs) = refl
one_each ds t c (synonym m s) = refl
one_each ds t c (implementation m ps g b) = refl

how_many : (ds : List Decl) (t : Table) (c : Counts) (xs : List Decl) → length (flat_map (λ (d : Decl). procs_in ds t c d.body) xs) ≡ count_by (λ (d : Decl). is_procedure d.body) xs
how_many ds t c xs = length-flat_map (λ (d : Decl). procs_in ds t c d.body) xs ∙ (λ i. sum_by (λ (x : Decl). one_each ds t c x.body i) xs)

module _ (ds : List Decl) (at : ℕ) (d e : Decl) (g : slice_get ds at ≡ Some d) where
  -- what all but its procedure or axiom gives the module, over any table and counts
  pub parts_revised : IsRevised d.body e.body → (t : Table) (c : Counts) (fs : List Tree) (qs : List Proc) → flat_map (λ (x : Decl). axioms_in t c x.body) (set ds at e) ≡ fs → flat_map (λ (x : Decl). procs_in (set ds at e) t c x.body) (set ds at e) ≡ qs
      → typed_module (set ds at e) t c ≡ record (typed_module ds t c) { axioms = fs; procs = qs; texts = set (map (decl_text t (length ds)) ds) at (decl_text t (length ds) e) }
  parts_revised r t c fs qs axioms procs = λ i. record {
    consts = same_parts (λ (x : Decl). consts_in t c x.body) ds at d e g (of_revised (consts_in t c) (λ n ps s ss zs a b q h. refl) (λ n ps s a b. refl) (λ x y. refl) (λ n ps ins v x y h. refl) d.body e.body r) i;
    axioms = axioms i;
    functions = flat_map (λ n. function_def t c n (function_in (entity_of t n))) (in_number_order t);
    globals = same_parts (λ (x : Decl). globals_in t c x.body) ds at d e g (of_revised (globals_in t c) (λ n ps s ss zs a b q h. refl) (λ n ps s a b. refl) (λ x y. refl) (λ n ps ins v x y h. refl) d.body e.body r) i;
    procs = procs i;
    texts = texts i;
  }
    where
      texts : map (decl_text t (length (set ds at e))) (set ds at e) ≡ set (map (decl_text t (length ds)) ds) at (decl_text t (length ds) e)
      texts = (λ i. map (decl_text t (length-set ds at e i)) (set ds at e)) ∙ map-set (decl_text t (length ds)) ds at e

  -- what procedures give, where it implements what it did
  pub procs_stay : ((n : Text) → implements n e.body ≡ implements n d.body) → ((xs : List Decl) (t : Table) (c : Counts) → procs_in xs t c e.body ≡ procs_in xs t c d.body)
      → (t : Table) (c : Counts) → flat_map (λ (x : Decl). procs_in (set ds at e) t c x.body) (set ds at e) ≡ flat_map (λ (x : Decl). procs_in ds t c x.body) ds
  procs_stay given own t c =
      same_parts (λ (x : Decl). procs_in (set ds at e) t c x.body) ds at d e g (own (set ds at e) t c)
      ∙ (λ i. flat_map (λ (x : Decl). same_procs (set ds at e) ds (λ n. same_implementation n ds at d e g (given n)) t c x.body i) ds)

  -- ---- a procedure

  module _ (r : IsOtherProcedure d.body e.body) (t : Table) (c : Counts) (p : Proc) where
    bodies_stay : (n : Text) → implementation_of (set ds at e) n ≡ implementation_of ds n
    bodies_stay n = same_implementation n ds at d e g (ap (implements n) r.new ∙ sym (ap (implements n) r.old))

    -- its own body, or none at all
    alone_given : (a : Option Body) (place : ℕ) → procedure_place ds at (procedure r.name r.params r.signature r.new_specs a) ≡ Some place
        → procs_in (set ds at e) t c (procedure r.name r.params r.signature r.new_specs a) ≡ procs_in (e ∷ []) t c (procedure r.name r.params r.signature r.new_specs a)
    alone_given (Some a) place found = refl
    alone_given None place found = ap (λ w. proc_of t c r.name.text r.signature r.new_specs w ∷ [])
        (bodies_stay r.name.text ∙ none_implements r.name.text ds (own_alone ds at r.name r.params r.signature r.new_specs place found) ∙ sym (ap (λ x. or_else (implements r.name.text x) None) r.new))

    own_procs : (place : ℕ) → procedure_place ds at e.body ≡ Some place → procs_in (e ∷ []) t c e.body ≡ p ∷ []
        → flat_map (λ (x : Decl). procs_in (set ds at e) t c x.body) (set ds at e) ≡ set (flat_map (λ (x : Decl). procs_in ds t c x.body) ds) (count_by (λ (x : Decl). is_procedure x.body) (take at ds)) p
    own_procs place found made =
        other_part (λ (x : Decl). procs_in ds t c x.body) (λ (x : Decl). procs_in (set ds at e) t c x.body) ds at d e _ p g (λ x. same_procs (set ds at e) ds bodies_stay t c x.body) (ap (procs_in ds t c) r.old) new
        ∙ (λ i. set (flat_map (λ (x : Decl). procs_in ds t c x.body) ds) (how_many ds t c (take at ds) i) p)
      where
        new : procs_in (set ds at e) t c e.body ≡ p ∷ []
        new = ap (procs_in (set ds at e) t c) r.new ∙ alone_given r.after place (ap (procedure_place ds at) (sym r.new) ∙ found) ∙ sym (ap (procs_in (e ∷ []) t c) r.new) ∙ made

  -- ---- an implementation

  module _ (r : IsOtherImplementation d.body e.body) (t : Table) (c : Counts) (p : Proc) (place : ℕ) (is : IsGiven ds r.name.text at place) where
    -- of other procedures
    others_stay : (m : Text) → bytes_eq r.name.text m ≡ false → implementation_of (set ds at e) m ≡ implementation_of ds m
    others_stay m other = same_implementation m ds at d e g (
        gives_none m e.body (ap (gives_body m) r.new ∙ other) ∙ sym (gives_none m d.body (ap (gives_body m) r.old ∙ other)))

    changed : (x : Decl) → lacks_body r.name.text x.body ≡ false → procs_in (set ds at e) t c x.body ≡ procs_in ds t c x.body
    changed x lacks = by x.body lacks
      where
        by : (b : DeclBody) → lacks_body r.name.text b ≡ false → procs_in (set ds at e) t c b ≡ procs_in ds t c b
        by (procedure n ps s ss (Some b)) h = refl
        by (procedure n ps s ss None) h = ap (λ w. proc_of t c n.text s ss w ∷ []) (others_stay n.text (not_equal r.name.text n.text h))
        by (constant u ns s) h = refl
        by (function m ps ins s x) h = refl
        by (axiom_of x) h = refl
        by (variables gs) h = refl
        by (synonym m s) h = refl
        by (implementation m ps s b) h = refl

    -- the procedure's body is the new one
    given_there : (m : Text) → bytes_eq r.name.text m ≡ true → implementation_of (set ds at e) m ≡ implementation_of (e ∷ []) m
    given_there m same = from ds at (subst (λ k. IsOnlyAt (gives_body k) ds at) (same_text r.name.text m same) is.alone)
      where
        one : implements m e.body ≡ Some (r.signature, r.after)
        one = ap (implements m) r.new ∙ ap (λ b. elim b [ true ↦ Some (r.signature, r.after) | false ↦ None ]) same

        from : (xs : List Decl) (i : ℕ) → IsOnlyAt (gives_body m) xs i → implementation_of (set xs i e) m ≡ or_else (implements m e.body) None
        from [] i h = absurd h
        from (x ∷ xs) zero h = (λ k. or_else (one k) (implementation_of xs m)) ∙ sym (λ k. or_else (one k) None)
        from (x ∷ xs) (suc i) h = (λ k. or_else (gives_none m x.body h.0 k) (implementation_of (set xs i e) m)) ∙ from xs i h.1

    given_procs : (x : Decl) → slice_get ds place ≡ Some x → lacks_body r.name.text x.body ≡ true → procs_in (e ∷ []) t c x.body ≡ p ∷ []
        → flat_map (λ (y : Decl). procs_in (set ds at e) t c y.body) (set ds at e) ≡ set (flat_map (λ (y : Decl). procs_in ds t c y.body) ds) (count_by (λ (y : Decl). is_procedure y.body) (take place ds)) p
    given_procs x there lacks made =
        same_parts (λ (y : Decl). procs_in (set ds at e) t c y.body) ds at d e g (ap (procs_in (set ds at e) t c) r.new ∙ sym (ap (procs_in (set ds at e) t c) r.old))
        ∙ by x.body refl lacks made
      where
        by : (b : DeclBody) → x.body ≡ b → lacks_body r.name.text b ≡ true → procs_in (e ∷ []) t c b ≡ p ∷ []
            → flat_map (λ (y : Decl). procs_in (set ds at e) t c y.body) ds ≡ set (flat_map (λ (y : Decl). procs_in ds t c y.body) ds) (count_by (λ (y : Decl). is_procedure y.body) (take place ds)) p
        by (procedure n ps s ss (Some b)) q h made = absurd (false≢true h)
        by (procedure n ps s ss None) q h made =
            only_part (λ (y : Decl). procs_in ds t c y.body) (λ (y : Decl). procs_in (set ds at e) t c y.body) (lacks_body r.name.text) ds place x _ p is.lacks there changed (ap (procs_in ds t c) q)
            (ap (procs_in (set ds at e) t c) q ∙ ap (λ w. proc_of t c n.text s ss w ∷ []) (given_there n.text (ap (λ w. bytes_eq w n.text) (sym (same_text n.text r.name.text h)) ∙ text_itself n.text)) ∙ made)
            ∙ (λ i. set (flat_map (λ (y : Decl). procs_in ds t c y.body) ds) (how_many ds t c (take place ds) i) p)
        by (constant u ns s) q h made = absurd (false≢true h)
        by (function m ps ins s z) q h made = absurd (false≢true h)
        by (axiom_of z) q h made = absurd (false≢true h)
        by (variables gs) q h made = absurd (false≢true h)
        by (synonym m s) q h made = absurd (false≢true h)
        by (implementation m ps s b) q h made = absurd (false≢true h)

  pub texts_there : at < length (module_of ds).texts
  texts_there = subst (λ n. at < n) (sym (length-map ds (decl_text (table_of ds) (length ds)))) (slice_get_within ds at d g)

  -- ---- each

  module _ (r : IsRevised d.body e.body) (place : ℕ) (found : procedure_place ds at e.body ≡ Some place) where
    no_axiom : IsOtherAxiom d.body e.body → ⊥
    no_axiom q = none-some place (ap (procedure_place ds at) (sym q.new) ∙ found)

    no_function : IsOtherFunction d.body e.body → ⊥
    no_function q = none-some place (ap (procedure_place ds at) (sym q.new) ∙ found)

    axioms_stay : IsRevised d.body e.body → (t : Table) (c : Counts) → axioms_in t c e.body ≡ axioms_in t c d.body
    axioms_stay (inl q) t c = ap (axioms_in t c) q.new ∙ sym (ap (axioms_in t c) q.old)
    axioms_stay (inr (inl q)) t c = ap (axioms_in t c) q.new ∙ sym (ap (axioms_in t c) q.old)
    axioms_stay (inr (inr (inl q))) t c = absurd (no_axiom q)
    axioms_stay (inr (inr (inr q))) t c = absurd (no_function q)

    procs_revised : IsRevised d.body e.body → (t : Table) (c : Counts) (p : Proc) → procs_in (e ∷ []) t c (procedure_by ds place e) ≡ p ∷ []
        → flat_map (λ (x : Decl). procs_in (set ds at e) t c x.body) (set ds at e) ≡ set (flat_map (λ (x : Decl). procs_in ds t c x.body) ds) (count_by (λ (x : Decl). is_procedure x.body) (take place ds)) p
    procs_revised (inl q) t c p made =
        let here : at ≡ place = own_place ds at q.name q.params q.signature q.new_specs q.after place (ap (procedure_place ds at) (sym q.new) ∙ found) in
        own_procs q t c p place found (sym (ap (procs_in (e ∷ []) t c) (ap (λ b. cond b e.body (get_or ds place e).body) (ap is_procedure q.new))) ∙ made)
        ∙ (λ i. set (flat_map (λ (x : Decl). procs_in ds t c x.body) ds) (count_by (λ (x : Decl). is_procedure x.body) (take (here i) ds)) p)
    procs_revised (inr (inr (inl q))) t c p made = absurd (no_axiom q)
    procs_revised (inr (inr (inr q))) t c p made = absurd (no_function q)
    procs_revised (inr (inl q)) t c p made =
        let is = given ds at q.name q.params q.signature q.after place (ap (procedure_place ds at) (sym q.new) ∙ found) in
        given_procs q t c p place is (get_or ds place e) (slice_get-get_or ds place e (only_there (lacks_body q.name.text) ds place is.lacks)) (only_is (lacks_body q.name.text) ds place e is.lacks)
        (sym (ap (procs_in (e ∷ []) t c) (ap (λ b. cond b e.body (get_or ds place e).body) (ap is_procedure q.new))) ∙ made)

    pub module_revised : (p : Proc) → procs_in (e ∷ []) (table_of ds) (counts_after no_counts ds) (procedure_by ds place e) ≡ p ∷ []
        → module_of (set ds at e) ≡ with_procedure (count_by (λ (x : Decl). is_procedure x.body) (take place ds)) p at (decl_text (table_of ds) (length ds) e) (module_of ds)
    module_revised p made =
        let t : Table = table_of ds in
        let c : Counts = counts_after no_counts ds in
        (λ i. typed_module (set ds at e) (same_table ds at d e g r no_function i) (same_counts ds at d e g r i))
        ∙ parts_revised r t c (flat_map (λ (x : Decl). axioms_in t c x.body) ds) (set (flat_map (λ (x : Decl). procs_in ds t c x.body) ds) (count_by (λ (x : Decl). is_procedure x.body) (take place ds)) p)
        (same_parts (λ (x : Decl). axioms_in t c x.body) ds at d e g (axioms_stay r t c)) (procs_revised r t c p made)

    pub procs_there : count_by (λ (x : Decl). is_procedure x.body) (take place ds) < length (module_of ds).procs
    procs_there =
        let t : Table = table_of ds in
        let c : Counts = counts_after no_counts ds in
        let there = procedure_there ds at e place found (slice_get_within ds at d g) in
        let one : length (procs_in ds t c (get_or ds place e).body) ≡ 1 = one_each ds t c (get_or ds place e).body ∙ ap (λ b. cond b 1 0) (stands r) in
        omega (arith, one, how_many ds t c (take place ds), length-flat_map-take (λ (x : Decl). procs_in ds t c x.body) ds place e there.0)
      where
        stands : IsRevised d.body e.body → is_procedure (get_or ds place e).body ≡ true
        stands (inl q) =
            let here : at ≡ place = own_place ds at q.name q.params q.signature q.new_specs q.after place (ap (procedure_place ds at) (sym q.new) ∙ found) in
            ap (λ k. is_procedure (get_or ds k e).body) (sym here) ∙ ap (λ (x : Decl). is_procedure x.body) (get_or_from_slice_get ds at d e g) ∙ ap is_procedure q.old
        stands (inr (inr (inl q))) = absurd (no_axiom q)
        stands (inr (inr (inr q))) = absurd (no_function q)
        stands (inr (inl q)) =
            let is = given ds at q.name q.params q.signature q.after place (ap (procedure_place ds at) (sym q.new) ∙ found) in
            lacks_procedure q.name.text (get_or ds place e).body (only_is (lacks_body q.name.text) ds place e is.lacks)
