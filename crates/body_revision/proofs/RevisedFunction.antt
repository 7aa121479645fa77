-- The module with another value of a function.
use Rattle.std.proofs.Common.{◌≡◌, refl, sym, ap, ◌∙◌, arith, inl, inr, ℕ, suc, ◌+◌, ◌<◌, Bool, true, false, cond, bytes_eq, List, [], ◌∷◌, ◌++◌, map, length, get_or, set, flat_map, slice_get, Option, Some, None, option_map}
use Rattle.std.proofs.lemmas.List.{length-set, length-map, map-set}
use Rattle.std.proofs.lemmas.Option.{slice_get_within}
use Rattle.bv_base.specs.Text.{is_among}
use Rattle.logic_core.specs.Tree.{Tree}
use Rattle.logic_terms.proofs.Booleans.{neither}
use Rattle.bpl_ast.specs.Statement.{function, Decl}
use Rattle.bpl_model.specs.Module.{Function}
use Rattle.bpl_model.specs.Numbering.{defs_of}
use Rattle.bpl_scopes.specs.Positions.{first_at}
use Rattle.bpl_scopes.specs.Scopes.{Text, Heading, a_function, Table, table_of, Counts, no_counts, counts_after, entity_of}
use Rattle.bpl_scopes.specs.Functions.{function_in, in_number_order, position_of, function_number}
use Rattle.bpl_declaration_faults.specs.DeclFaults.{nothing_before, fault_of}
use Rattle.bpl_resolve.specs.Elaborate.{implements, consts_in, globals_in, axioms_in, value_term, function_def, procs_in, decl_text, typed_module, module_of}
use Rattle.bpl_resolve.proofs.DistinctOrder.{Distinct, order_distinct}
use Rattle.bpl_resolve.proofs.EntriesFine.{synonyms_fine, none_faulty}
use Rattle.bpl_resolve.proofs.GoesForward.{not_equal}
use Rattle.bpl_resolve.proofs.FunctionOrder.{order_only}
use Rattle.bpl_resolve.proofs.ModuleSorts.{fine, acyclic, functions_at}
use Rattle.bpl_resolve.proofs.ScopesFit.{some_heading}
use Rattle.bpl_resolve.proofs.Ways.{Member, any_member, same_text, text_itself}
use Rattle.body_revision.specs.Revised.{IsOtherFunction, IsRevised}
use Rattle.body_revision.specs.Revision.{values_in, with_value, value_at, with_function}
use Rattle.body_revision.proofs.DeclarationReadings.{consts_like, globals_like, axioms_like, procs_like, function_def_like, decl_text_like}
use Rattle.body_revision.proofs.FunctionEntries.{stands_first, others_stand}
use Rattle.body_revision.proofs.RevisedModule.{procs_stay}
use Rattle.body_revision.proofs.SameTable.{same_counts, tables_alike}
use Rattle.body_revision.proofs.SetParts.{same_parts}
use Rattle.body_revision.proofs.TablesAlike.{LikeTables, order_like}

-- ---- one of several that each give one

distinct_behind : (o : Text) (os : List Text) → Distinct (o ∷ os) → Distinct os
distinct_behind o os once k m g = by (bytes_eq m o) (first_at m os) (once (suc k) m g)
  where
    by : (b : Bool) (f : Option ℕ) → cond b (Some 0) (option_map suc f) ≡ Some (suc k) → f ≡ Some k
    by true f h = absurd (cc)
    by false None h = absurd (cc)
    by false (Some j) h = cc

member_at : (m : Text) (os : List Text) → Member m os → (k : ℕ) × (slice_get os k ≡ Some m)
member_at m [] h = absurd h
member_at m (o ∷ os) (inl s) = (0, ap Some (sym s))
member_at m (o ∷ os) (inr h) = let r = member_at m os h in (suc r.0, r.1)

not_again : (o : Text) (os : List Text) → Distinct (o ∷ os) → is_among os o ≡ false
not_again o os once = by (is_among os o) refl
  where
    twice : (k : ℕ) → slice_get os k ≡ Some o → ⊥
    twice k g =
        let first : Some 0 ≡ Some (suc k) = sym (ap (λ b. cond b (Some 0) (option_map suc (first_at o os))) (text_itself o)) ∙ once (suc k) o g in
        absurd (cc)

    by : (b : Bool) → is_among os o ≡ b → is_among os o ≡ false
    by false s = s
    by true s =
        let r = any_member (bytes_eq o) os s in
        let there = member_at r.0 os r.1 in
        absurd (twice there.0 (there.1 ∙ ap Some (sym (same_text o r.0 r.2))))

-- each gives one, and where the name stands the second gives the first's with the value
module _ (n : Text) (b : Tree) (F G : Text → List Function) (stays : (m : Text) → bytes_eq n m ≡ false → G m ≡ F m) where
  all_stay : (os : List Text) → is_among os n ≡ false → flat_map G os ≡ flat_map F os
  all_stay [] h = refl
  all_stay (o ∷ os) h =
      let r = neither (bytes_eq n o) (is_among os n) h in
      λ i. stays o r.0 i ++ all_stay os r.1 i

  module _ (f : Function) (old : F n ≡ f ∷ []) (new : G n ≡ with_value b f ∷ []) where
    pub value_set : (os : List Text) → Distinct os → ((m : Text) → Member m os → (g : Function) × (F m ≡ g ∷ [])) → flat_map G os ≡ value_at (position_of os n) b (flat_map F os)
    value_set [] once each = refl
    value_set (o ∷ os) once each = by (bytes_eq o n) refl (value_set os (distinct_behind o os once) (λ m i. each m (inr i)))
      where
        one : (g : Function) × (F o ≡ g ∷ [])
        one = each o (inl refl)

        by : (c : Bool) → bytes_eq o n ≡ c → flat_map G os ≡ value_at (position_of os n) b (flat_map F os)
            → G o ++ flat_map G os ≡ value_at (elim c [ true ↦ 0 | false ↦ position_of os n + 1 ]) b (F o ++ flat_map F os)
        by true s later =
            let same : n ≡ o = sym (same_text o n s) in
            let here : F o ≡ f ∷ [] = ap F (sym same) ∙ old in
            let there : G o ≡ with_value b f ∷ [] = ap G (sym same) ∙ new in
            (λ i. there i ++ all_stay os (ap (is_among os) same ∙ not_again o os once) i) ∙ sym (λ i. value_at 0 b (here i ++ flat_map F os))
        by false s later =
            let more : position_of os n + 1 ≡ suc (position_of os n) = omega arith in
            (λ i. stays o (not_equal n o s) i ++ later i)
            ∙ ((λ i. one.1 i ++ value_at (position_of os n) b (flat_map F os))
            ∙ ((λ i. value_at (sym more i) b (one.0 ∷ flat_map F os)) ∙ sym (λ i. value_at (position_of os n + 1) b (one.1 i ++ flat_map F os))))

one_pair : (a c : ℕ) (b d : Tree) → ◌≡◌ {A = List (ℕ × Tree)} ((a, b) ∷ []) ((c, d) ∷ []) → (a ≡ c) × (b ≡ d)
one_pair a c b d h = (ap (λ (ps : List (ℕ × Tree)). (get_or ps 0 (a, b)).0) h, ap (λ (ps : List (ℕ × Tree)). (get_or ps 0 (a, b)).1) h)

-- ---- the module

module _ (ds : List Decl) (at : ℕ) (d e : Decl) (g : slice_get ds at ≡ Some d) (r : IsOtherFunction d.body e.body) (none : fault_of ds ≡ None) where
  abbrev revised : IsRevised d.body e.body
  revised = inr (inr (inr r))

  abbrev T : Table
  T = table_of ds

  abbrev U : Table
  U = table_of (set ds at e)

  abbrev C : Counts
  C = counts_after no_counts ds

  abbrev before : Heading
  before = record { ins = r.ins; result = r.result; value = r.before }

  abbrev after : Heading
  after = record { ins = r.ins; result = r.result; value = r.after }

  like : LikeTables U T
  like = tables_alike ds at d e g revised

  stand : (is_among [] r.name.text ≡ false) × (entity_of T r.name.text ≡ Some (a_function before)) × (entity_of U r.name.text ≡ Some (a_function after))
  stand = stands_first r.name r.params r.ins r.result r.before r.after d e r.old r.new T C nothing_before no_counts 0 ds at (none_faulty ds none) g

  -- ---- functions

  abbrev F : Text → List Function
  F m = function_def T C m (function_in (entity_of T m))

  abbrev G : Text → List Function
  G m = function_def U C m (function_in (entity_of U m))

  others : (m : Text) → bytes_eq r.name.text m ≡ false → G m ≡ F m
  others m other =
      function_def_like U T like C m (function_in (entity_of U m))
      ∙ ap (λ o. function_def T C m (function_in o)) (others_stand r.name r.params r.ins r.result r.before r.after m other no_counts 0 ds at d e g r.old r.new)

  each_one : (m : Text) → Member m (in_number_order T) → (f : Function) × (F m ≡ f ∷ [])
  each_one m i =
      let h = some_heading (entity_of T m) (order_only T (synonyms_fine T C (fine ds none)) (acyclic ds none) m i) in
      (_, ap (λ o. function_def T C m (function_in o)) h.1)

  abbrev value : Tree
  value = value_term T C r.ins r.after

  functions_set : flat_map G (in_number_order U) ≡ value_at (function_number T r.name.text) value (flat_map F (in_number_order T))
  unfolding function_number
  functions_set =
      (λ i. flat_map G (order_like U T like i))
      ∙ value_set r.name.text value F G others _ (ap (λ o. function_def T C r.name.text (function_in o)) stand.1)
      (function_def_like U T like C r.name.text (function_in (entity_of U r.name.text)) ∙ ap (λ o. function_def T C r.name.text (function_in o)) stand.2)
      (in_number_order T) (order_distinct T (synonyms_fine T C (fine ds none)) (acyclic ds none)) each_one

  -- ---- all

  module _ (k : ℕ) (b : Tree) (made : values_in T C e.body ≡ (k, b) ∷ []) where
    met : (function_number T r.name.text ≡ k) × (value ≡ b)
    met = one_pair (function_number T r.name.text) k value b (sym (ap (values_in T C) r.new) ∙ made)

    pub function_revised : module_of (set ds at e) ≡ with_function k b at (decl_text T (length ds) e) (module_of ds)
    function_revised =
        (λ i. typed_module (set ds at e) U (same_counts ds at d e g revised i))
        ∙ (λ i. record {
          consts = consts i;
          axioms = axioms i;
          functions = (functions_set ∙ (λ j. value_at (met.0 j) (met.1 j) (flat_map F (in_number_order T)))) i;
          globals = globals i;
          procs = procs i;
          texts = texts i;
        })
      where
        consts : flat_map (λ (x : Decl). consts_in U C x.body) (set ds at e) ≡ flat_map (λ (x : Decl). consts_in T C x.body) ds
        consts = (λ i. flat_map (λ (x : Decl). consts_like U T like C x.body i) (set ds at e)) ∙ same_parts (λ (x : Decl). consts_in T C x.body) ds at d e g (ap (consts_in T C) r.new ∙ sym (ap (consts_in T C) r.old))

        axioms : flat_map (λ (x : Decl). axioms_in U C x.body) (set ds at e) ≡ flat_map (λ (x : Decl). axioms_in T C x.body) ds
        axioms = (λ i. flat_map (λ (x : Decl). axioms_like U T like C x.body i) (set ds at e)) ∙ same_parts (λ (x : Decl). axioms_in T C x.body) ds at d e g (ap (axioms_in T C) r.new ∙ sym (ap (axioms_in T C) r.old))

        globals : flat_map (λ (x : Decl). globals_in U C x.body) (set ds at e) ≡ flat_map (λ (x : Decl). globals_in T C x.body) ds
        globals = (λ i. flat_map (λ (x : Decl). globals_like U T like C x.body i) (set ds at e)) ∙ same_parts (λ (x : Decl). globals_in T C x.body) ds at d e g (ap (globals_in T C) r.new ∙ sym (ap (globals_in T C) r.old))

        procs : flat_map (λ (x : Decl). procs_in (set ds at e) U C x.body) (set ds at e) ≡ flat_map (λ (x : Decl). procs_in ds T C x.body) ds
        procs = (λ i. flat_map (λ (x : Decl). procs_like U T like (set ds at e) C x.body i) (set ds at e))
            ∙ procs_stay ds at d e g (λ n. ap (implements n) r.new ∙ sym (ap (implements n) r.old)) (λ xs t c. ap (procs_in xs t c) r.new ∙ sym (ap (procs_in xs t c) r.old)) T C

        texts : map (decl_text U (length (set ds at e))) (set ds at e) ≡ set (map (decl_text T (length ds)) ds) at (decl_text T (length ds) e)
        texts = (λ i. map (decl_text U (length-set ds at e i)) (set ds at e)) ∙ ((λ i. map (λ x. decl_text_like U T like (length ds) x i) (set ds at e)) ∙ map-set (decl_text T (length ds)) ds at e)

    pub functions_there : k < length (module_of ds).functions
    functions_there =
        let there = functions_at ds none r.name.text before stand.1 in
        let within = slice_get_within (defs_of (module_of ds)) (function_number T r.name.text) there.0 there.1 in
        let many : length (defs_of (module_of ds)) ≡ length (module_of ds).functions = length-map (module_of ds).functions (λ (f : Function). f.def) in
        omega (arith, met.0, within, many)
