-- The number of each constant, global variable and procedure is the place of its types.
use Rattle.std.proofs.Common.{◌≡◌, refl, ap, sym, ◌∙◌, subst, ℕ, ◌+◌, arith, List, [], ◌∷◌, ◌++◌, append_assoc, append-nil, map, length, length-append, Some}
use Rattle.std.specs.Prelude.{⊤, flat_map, slice_get}
use Rattle.std.specs.List.{AllByRecursion}
use Rattle.bpl_ast.specs.Place.{Name, Ty as Written}
use Rattle.bpl_ast.specs.Statement.{DeclBody, constant, function, axiom_of, variables, synonym, procedure, implementation, Decl}
use Rattle.bpl_scopes.specs.Scopes.{Text, Contract, Entity, a_constant, a_global, a_function, a_synonym, a_procedure, Entry, Table, table_of, Counts, no_counts, counts_with, counts_after, typed_names, names_of, entries_from, entries_of, entries_after, entity_of}
use Rattle.bpl_resolve.specs.Elaborate.{or_else, own_body, implementation_of}
use Rattle.bpl_resolve.proofs.Numbered.{slice_at}
use Rattle.bpl_resolve.proofs.ProcedureVariables.{map_length}
use Rattle.bpl_resolve.proofs.EntriesFine.{entity_has}
use Rattle.bpl_sorts.specs.Types.{Ty}
use Rattle.bpl_sorts.specs.TypeNames.{type_of}
use Rattle.user_types.specs.Erased.{erased}
use Rattle.bpl_sorts.specs.DeclaredTypes.{ProcTypes, types_named, const_types_in, global_types_in, proc_types, proc_types_in, declared_types}

one_longer : {A : Type 0} (xs ys : List A) (a b : ℕ) → length xs ≡ a → a + length ys ≡ b → length (xs ++ ys) ≡ b
one_longer xs ys a b e f = length-append xs ys ∙ (ap (λ w. w + length ys) e ∙ f)

module _ (ds : List Decl) where
  -- the parameters of a procedure with this contract have these types
  pub record HasParameters (d : Contract) (p : ProcTypes) : Type 0 where
    pub ins : p.ins ≡ types_named (table_of ds) (names_of d.signature.ins)
    pub outs : p.outs ≡ types_named (table_of ds) (names_of d.signature.outs)

  abbrev pub IsNumbered : List Ty → List Ty → List ProcTypes → Entity → Type 0
  IsNumbered cs gs ps (a_constant k s) = slice_get cs k ≡ Some (type_of ds s)
  IsNumbered cs gs ps (a_global k s) = slice_get gs k ≡ Some (type_of ds s)
  IsNumbered cs gs ps (a_function h) = ⊤
  IsNumbered cs gs ps (a_synonym s) = ⊤
  IsNumbered cs gs ps (a_procedure k d) = (p : ProcTypes) × (slice_get ps k ≡ Some p) × HasParameters d p

  abbrev pub AreNumbered : List Ty → List Ty → List ProcTypes → Table → Type 0
  AreNumbered cs gs ps es = AllByRecursion (λ (e : Entry). IsNumbered cs gs ps e.entity) es

  abbrev pub consts_from : List Decl → List Ty
  consts_from xs = flat_map (λ (d : Decl). const_types_in (table_of ds) d.body) xs

  abbrev pub globals_from : List Decl → List Ty
  globals_from xs = flat_map (λ (d : Decl). global_types_in (table_of ds) d.body) xs

  abbrev pub procs_from : List Decl → List ProcTypes
  procs_from xs = flat_map (λ (d : Decl). proc_types_in (table_of ds) (implementation_of (erased ds)) d.body) xs

  constants_numbered : (cs more gs : List Ty) (ps : List ProcTypes) (d k : ℕ) (ns : List Name) (s : Written) → length cs ≡ k → AreNumbered (cs ++ (map (λ (n : Name). type_of ds s) ns ++ more)) gs ps (entries_from a_constant d k (typed_names ns s))
  constants_numbered cs more gs ps d k [] s e = tt
  constants_numbered cs more gs ps d k (n ∷ ns) s e = (
    slice_at cs (type_of ds s) _ k e,
    subst (λ w. AreNumbered w gs ps (entries_from a_constant d (k + 1) (typed_names ns s))) (append_assoc cs (type_of ds s ∷ []) (map (λ (m : Name). type_of ds s) ns ++ more))
        (constants_numbered (cs ++ (type_of ds s ∷ [])) more gs ps d (k + 1) ns s (length-append cs (type_of ds s ∷ []) ∙ ap (λ w. w + 1) e)),
  )

  globals_numbered : (cs gs more : List Ty) (ps : List ProcTypes) (d k : ℕ) (ns : List (Name × Written)) → length gs ≡ k → AreNumbered cs (gs ++ (types_named (table_of ds) ns ++ more)) ps (entries_from a_global d k ns)
  globals_numbered cs gs more ps d k [] e = tt
  globals_numbered cs gs more ps d k (n ∷ ns) e = (
    slice_at gs (type_of ds n.1) _ k e,
    subst (λ w. AreNumbered cs w ps (entries_from a_global d (k + 1) ns)) (append_assoc gs (type_of ds n.1 ∷ []) (types_named (table_of ds) ns ++ more))
        (globals_numbered cs (gs ++ (type_of ds n.1 ∷ [])) more ps d (k + 1) ns (length-append gs (type_of ds n.1 ∷ []) ∙ ap (λ w. w + 1) e)),
  )

  decl_numbered : (cs gs : List Ty) (ps : List ProcTypes) (k : Counts) (d : ℕ) (x : DeclBody) (mc mg : List Ty) (mp : List ProcTypes) → length cs ≡ k.constants → length gs ≡ k.globals → length ps ≡ k.procedures
      → AreNumbered (cs ++ (const_types_in (table_of ds) x ++ mc)) (gs ++ (global_types_in (table_of ds) x ++ mg)) (ps ++ (proc_types_in (table_of ds) (implementation_of (erased ds)) x ++ mp)) (entries_of k d x)
  decl_numbered cs gs ps k d (constant u ns s) mc mg mp e f g = constants_numbered cs mc (gs ++ mg) (ps ++ mp) d k.constants ns s e
  decl_numbered cs gs ps k d (function n q ins r x) mc mg mp e f g = (tt, tt)
  decl_numbered cs gs ps k d (axiom_of x) mc mg mp e f g = tt
  decl_numbered cs gs ps k d (variables vs) mc mg mp e f g = globals_numbered (cs ++ mc) gs mg (ps ++ mp) d k.globals (names_of vs) f
  decl_numbered cs gs ps k d (synonym n s) mc mg mp e f g = (tt, tt)
  decl_numbered cs gs ps k d (procedure n q s ss b) mc mg mp e f g = let p = proc_types (table_of ds) s (or_else (own_body s b) (implementation_of (erased ds) n.text)) in ((p, slice_at ps p mp k.procedures g, record { ins = refl; outs = refl }), tt)
  decl_numbered cs gs ps k d (implementation n q s b) mc mg mp e f g = tt

  joined : (cs gs : List Ty) (ps : List ProcTypes) (es fs : Table) → AreNumbered cs gs ps es → AreNumbered cs gs ps fs → AreNumbered cs gs ps (es ++ fs)
  joined cs gs ps [] fs h g = g
  joined cs gs ps (e ∷ es) fs h g = (h.0, joined cs gs ps es fs h.1 g)

  const_count : (k : Counts) (x : DeclBody) → k.constants + length (const_types_in (table_of ds) x) ≡ (counts_with k x).constants
  const_count k (constant u ns s) = ap (λ w. k.constants + w) (map_length (λ (n : Name). type_of ds s) ns)
  const_count k (function n q ins r x) = omega arith
  const_count k (axiom_of x) = omega arith
  const_count k (variables vs) = omega arith
  const_count k (synonym n s) = omega arith
  const_count k (procedure n q s ss b) = omega arith
  const_count k (implementation n q s b) = omega arith

  global_count : (k : Counts) (x : DeclBody) → k.globals + length (global_types_in (table_of ds) x) ≡ (counts_with k x).globals
  global_count k (constant u ns s) = omega arith
  global_count k (function n q ins r x) = omega arith
  global_count k (axiom_of x) = omega arith
  global_count k (variables vs) = ap (λ w. k.globals + w) (map_length (λ (p : Name × Written). type_of ds p.1) (names_of vs))
  global_count k (synonym n s) = omega arith
  global_count k (procedure n q s ss b) = omega arith
  global_count k (implementation n q s b) = omega arith

  proc_count : (k : Counts) (x : DeclBody) → k.procedures + length (proc_types_in (table_of ds) (implementation_of (erased ds)) x) ≡ (counts_with k x).procedures
  proc_count k (constant u ns s) = omega arith
  proc_count k (function n q ins r x) = omega arith
  proc_count k (axiom_of x) = omega arith
  proc_count k (variables vs) = omega arith
  proc_count k (synonym n s) = omega arith
  proc_count k (procedure n q s ss b) = refl
  proc_count k (implementation n q s b) = omega arith

  numbered : (cs gs : List Ty) (ps : List ProcTypes) (k : Counts) (d : ℕ) (xs : List Decl) → length cs ≡ k.constants → length gs ≡ k.globals → length ps ≡ k.procedures
      → AreNumbered (cs ++ consts_from xs) (gs ++ globals_from xs) (ps ++ procs_from xs) (entries_after k d xs)
  numbered cs gs ps k d [] e f g = tt
  numbered cs gs ps k d (x ∷ xs) e f g =
      let now = decl_numbered cs gs ps k d x.body (consts_from xs) (globals_from xs) (procs_from xs) e f g in
      let later = numbered (cs ++ const_types_in (table_of ds) x.body) (gs ++ global_types_in (table_of ds) x.body) (ps ++ proc_types_in (table_of ds) (implementation_of (erased ds)) x.body) (counts_with k x.body) (d + 1) xs
      (one_longer cs _ _ _ e (const_count k x.body)) (one_longer gs _ _ _ f (global_count k x.body)) (one_longer ps _ _ _ g (proc_count k x.body)) in
      joined _ _ _ (entries_of k d x.body) (entries_after (counts_with k x.body) (d + 1) xs) now
      (subst (λ w. AreNumbered (cs ++ (const_types_in (table_of ds) x.body ++ consts_from xs)) (gs ++ (global_types_in (table_of ds) x.body ++ globals_from xs)) w (entries_after (counts_with k x.body) (d + 1) xs)) (append_assoc ps (proc_types_in (table_of ds) (implementation_of (erased ds)) x.body) (procs_from xs))
      (subst (λ w. AreNumbered (cs ++ (const_types_in (table_of ds) x.body ++ consts_from xs)) w ((ps ++ proc_types_in (table_of ds) (implementation_of (erased ds)) x.body) ++ procs_from xs) (entries_after (counts_with k x.body) (d + 1) xs)) (append_assoc gs (global_types_in (table_of ds) x.body) (globals_from xs))
      (subst (λ w. AreNumbered w ((gs ++ global_types_in (table_of ds) x.body) ++ globals_from xs) ((ps ++ proc_types_in (table_of ds) (implementation_of (erased ds)) x.body) ++ procs_from xs) (entries_after (counts_with k x.body) (d + 1) xs)) (append_assoc cs (const_types_in (table_of ds) x.body) (consts_from xs)) later)))

  count_constants : (cs : List Ty) (k : Counts) (xs : List Decl) → length cs ≡ k.constants → length (cs ++ consts_from xs) ≡ (counts_after k xs).constants
  count_constants cs k [] e = ap length (append-nil cs) ∙ e
  count_constants cs k (x ∷ xs) e = ap length (sym (append_assoc cs (const_types_in (table_of ds) x.body) (consts_from xs))) ∙ count_constants (cs ++ const_types_in (table_of ds) x.body) (counts_with k x.body) xs (one_longer cs _ _ _ e (const_count k x.body))

  count_globals : (gs : List Ty) (k : Counts) (xs : List Decl) → length gs ≡ k.globals → length (gs ++ globals_from xs) ≡ (counts_after k xs).globals
  count_globals gs k [] e = ap length (append-nil gs) ∙ e
  count_globals gs k (x ∷ xs) e = ap length (sym (append_assoc gs (global_types_in (table_of ds) x.body) (globals_from xs))) ∙ count_globals (gs ++ global_types_in (table_of ds) x.body) (counts_with k x.body) xs (one_longer gs _ _ _ e (global_count k x.body))

  pub types_numbered : (n : Text) (x : Entity) → entity_of (table_of (erased ds)) n ≡ Some x → IsNumbered (declared_types ds).consts (declared_types ds).globals (declared_types ds).procs x
  types_numbered n x e = entity_has (λ m y. IsNumbered (declared_types ds).consts (declared_types ds).globals (declared_types ds).procs y) (table_of (erased ds)) (numbered [] [] [] no_counts 0 (erased ds) refl refl refl) n x e

  pub constants_long : length (declared_types ds).consts ≡ (counts_after no_counts (erased ds)).constants
  constants_long = count_constants [] no_counts (erased ds) refl

  pub globals_long : length (declared_types ds).globals ≡ (counts_after no_counts (erased ds)).globals
  globals_long = count_globals [] no_counts (erased ds) refl
