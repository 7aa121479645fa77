-- Where the erased declarations and those told apart have no fault, each expression of the program's own declarations has its type.
use Rattle.std.proofs.Common.{◌≡◌, ◌∙◌, refl, sym, ap, subst, ℕ, suc, pred, arith, true, Option, Some, None, option_map, List, [], ◌∷◌, ◌++◌, map, length, take}
use Rattle.std.specs.Prelude.{flat_map}
use Rattle.std.specs.List.{AllByRecursion, AllZip}
use Rattle.bv_base.specs.declared.place.Place.{Place}
use Rattle.logic_core.specs.Tree.{Kind, Tree}
use Rattle.logic_core.proofs.EachOf.{every_append}
use Rattle.bpl_ast.specs.Place.{Name, Ty as Written}
use Rattle.bpl_ast.specs.Statement.{Signature, DeclBody, constant, function, axiom_of, variables, synonym, procedure, implementation, Decl, axioms_with}
use Rattle.bpl_model.specs.Module.{Const, Global, Proc}
use Rattle.bpl_scopes.specs.declared.fault.Fault.{Fault}
use Rattle.bpl_scopes.specs.declared.fault.TypeKind.TheVariants.{Twice as twice}
use Rattle.bpl_scopes.specs.declared.part.Part.TheVariants.{Axiom as in_axiom, ClauseOfGlobal as in_clause_of_global}
use Rattle.bpl_scopes.specs.Fault.{again}
use Rattle.bpl_scopes.specs.Scopes.{Text, Contract, contract_with, a_procedure, table_of, no_counts, names_of, only_names, entity_of}
use Rattle.bpl_scopes.specs.Sorts.{sort_of_type}
use Rattle.bpl_scopes.specs.TypeFaults.{type_faults, group_type_faults}
use Rattle.bpl_declaration_faults.specs.Variables.{scope_of}
use Rattle.bpl_declaration_faults.specs.DeclFaults.{fault_of, unique_faults, decl_faults, Before, before_with, nothing_before}
use Rattle.bpl_resolve.specs.Elaborate.{or_else, implements, own_body, implementation_of, clause_terms, consts_in, globals_with, globals_in, axioms_in, procs_in}
use Rattle.bpl_resolve.specs.ModuleLaws.{FaultlessIsTyped}
use Rattle.bpl_terms.specs.Terms.{sort_or_int}
use Rattle.bpl_resolve.proofs.HasSort.{first_empty, second_empty}
use Rattle.bpl_resolve.proofs.Faultless.{TypesKnown, groups_known}
use Rattle.bpl_resolve.proofs.ScopesKnown.{fine_type}
use Rattle.bpl_resolve.proofs.ModuleSorts.{fine}
use Rattle.bpl_resolve.proofs.Numbered.{length_clauses}
use Rattle.bpl_resolve.proofs.TypedModules.{module_typed}
use Rattle.bpl_resolve.proofs.EntriesFine.{NoFaults, none_faulty}
use Rattle.bpl_resolve.proofs.DeclaredOnce.{StandsForIt, each_stands}
use Rattle.bpl_sorts.specs.Types.{Ty, kind_of, kinds_of}
use Rattle.bpl_sorts.specs.TypeNames.{type_of}
use Rattle.user_types.specs.UserTypes.{user_of}
use Rattle.user_types.specs.Erased.{erased, users_with, kept_unique, replaced_body, replaced_from, Unique, one_more, axioms_from, axioms_after, uniques, carrier_axioms, as_integers, maps_over}
use Rattle.user_types.specs.CarrierFaults.{carrier_fault}
use Rattle.bpl_sorts.specs.DeclaredTypes.{ProcTypes, types_named, const_types_in, global_types_in, proc_types_in, Types, declared_types}
use Rattle.bpl_sorts.specs.TypedModule.{with_own, IsTruth, IsOptional, IsTypedProc}
use Rattle.bpl_sorts.specs.TypedModules.{HasDeclaredTypes, PassingProgramsHaveTypes}
use Rattle.user_types.proofs.NoneTaken.{no_fault}
use Rattle.bpl_sorts.proofs.ReadTypes.{types_fit}
use Rattle.bpl_sorts.proofs.AlikeScopes.{E, A, TE, TA, CE, constants_at, all_at}
use Rattle.bpl_sorts.proofs.TypedParts.{truth_typed}
use Rattle.bpl_sorts.proofs.TypedVars.{CA}
use Rattle.bpl_sorts.proofs.TypedClauses.{globals_clauses, groups_typed}
use Rattle.bpl_sorts.proofs.TypedProcs.{OptionOk, implements_ok, own_ok, or_ok, declared_proc}
use Rattle.bpl_sorts.proofs.TypedFunctions.{as_many, functions_typed}

one_axiom_more : (k : ℕ) (ds : List Decl) → axioms_after (suc k) ds ≡ suc (axioms_after k ds)
one_axiom_more k [] = refl
one_axiom_more k (d ∷ ds) = by d.body (λ l. one_axiom_more l ds)
  where
    by : (b : DeclBody) → ((l : ℕ) → axioms_after (suc l) ds ≡ suc (axioms_after l ds)) → axioms_after (axioms_with (suc k) b) ds ≡ suc (axioms_after (axioms_with k b) ds)
    by (axiom_of x) later = later (suc k)
    by (constant u ns s) later = later k
    by (function n ps ins r x) later = later k
    by (variables gs) later = later k
    by (synonym n s) later = later k
    by (procedure n ps g ss b) later = later k
    by (implementation n ps g b) later = later k

module _ (ds : List Decl) (none : fault_of (E ds) ≡ None) (nope : fault_of (A ds) ≡ None) where
  abbrev T : Types
  T = declared_types ds

  -- the two readings of some of the declarations, the first of which has axioms behind
  abbrev firsts : ℕ → List Decl → List Decl
  firsts k xs = replaced_from as_integers (table_of ds) k xs ++ carrier_axioms ds

  abbrev seconds : ℕ → List Decl → List Decl
  seconds k xs = replaced_from maps_over (table_of ds) k xs

  abbrev as_first : ℕ → DeclBody → DeclBody
  as_first k b = replaced_body as_integers (table_of ds) k b

  abbrev as_second : ℕ → DeclBody → DeclBody
  as_second k b = replaced_body maps_over (table_of ds) k b

  abbrev FirstFine : Before → DeclBody → Type 0
  FirstFine b x = decl_faults (TE ds) (CE ds) b x ≡ []

  abbrev SecondFine : Before → DeclBody → Type 0
  SecondFine b x = decl_faults (TA ds) (CA ds) b x ≡ []

  abbrev AllFine : Before → Before → ℕ → List Decl → Type 0
  AllFine b c k xs = NoFaults (TE ds) (CE ds) b (firsts k xs) × NoFaults (TA ds) (CA ds) c (seconds k xs)

  -- ---- what implements a procedure

  none_behind : (g : Signature) (count : ℕ → ℕ) (k : ℕ) (us : List Unique) (n : Text) → OptionOk ds none nope g (implementation_of (axioms_from count k us) n)
  none_behind g count k [] n = tt
  none_behind g count k (u ∷ us) n = none_behind g (one_more count u.0) (suc k) us n

  module _ (n : Text) (j : ℕ) (d : Contract) (q : entity_of (TE ds) n ≡ Some (a_procedure j d)) where
    one_implements : (b c : Before) (k : ℕ) (x : DeclBody) → FirstFine b (as_first k x) → SecondFine c (as_second k x) → OptionOk ds none nope d.signature (implements n (as_first k x))
    one_implements b c k (implementation m ps h y) e o = implements_ok ds none nope b c n j d q m ps h y e o
    one_implements b c k (constant u ns s) e o = tt
    one_implements b c k (function m ps ins r y) e o = tt
    one_implements b c k (axiom_of y) e o = tt
    one_implements b c k (variables gs) e o = tt
    one_implements b c k (synonym m None) e o = tt
    one_implements b c k (synonym m (Some s)) e o = tt
    one_implements b c k (procedure m ps h ss y) e o = tt

    each_implements : (b c : Before) (k : ℕ) (xs : List Decl) → AllFine b c k xs → OptionOk ds none nope d.signature (implementation_of (firsts k xs) n)
    each_implements b c k [] h = none_behind d.signature (λ i. 0) (axioms_after 0 ds) (uniques (table_of ds) ds) n
    each_implements b c k (x ∷ xs) h =
        let l = users_with k x.body in
        or_ok ds none nope d.signature (implements n (as_first l x.body)) (implementation_of (firsts l xs) n) (one_implements b c l x.body (h.0).0 (h.1).0)
        (each_implements (before_with b (as_first l x.body)) (before_with c (as_second l x.body)) l xs ((h.0).1, (h.1).1))

  all_fine : AllFine nothing_before nothing_before 0 ds
  all_fine = (none_faulty (E ds) none, none_faulty (A ds) nope)

  -- ---- procedures

  abbrev proc_types_of : List Decl → List ProcTypes
  proc_types_of xs = flat_map (λ (d : Decl). proc_types_in (table_of ds) (implementation_of (erased ds)) d.body) xs

  abbrev procs_of : List Decl → List Proc
  procs_of xs = flat_map (λ (d : Decl). procs_in (E ds) (TE ds) (CE ds) d.body) xs

  no_procs : (count : ℕ → ℕ) (k : ℕ) (us : List Unique) → AllZip (IsTypedProc T) (proc_types_of (axioms_from count k us)) (procs_of (axioms_from count k us))
  no_procs count k [] = tt
  no_procs count k (u ∷ us) = no_procs (one_more count u.0) (suc k) us

  one_proc : (b c : Before) (k : ℕ) (x : DeclBody) (ts : List ProcTypes) (ps : List Proc) → FirstFine b (as_first k x) → SecondFine c (as_second k x) → StandsForIt (TE ds) (as_first k x)
      → AllZip (IsTypedProc T) ts ps → AllZip (IsTypedProc T) (proc_types_in (table_of ds) (implementation_of (erased ds)) (as_first k x) ++ ts) (procs_in (E ds) (TE ds) (CE ds) (as_first k x) ++ ps)
  one_proc b c k (procedure n qs g ss y) ts ps e o q h =
      let i = or_else (own_body g y) (implementation_of (E ds) n.text) in (
        declared_proc ds none nope b c n qs g ss y i e o
            (or_ok ds none nope g (own_body g y) (implementation_of (E ds) n.text) (own_ok ds none nope b c n qs g ss y e o) (each_implements n.text q.0 (contract_with g ss) q.1 nothing_before nothing_before 0 ds all_fine)),
        h,
      )
  one_proc b c k (constant u ns s) ts ps e o q h = h
  one_proc b c k (function m qs ins r y) ts ps e o q h = h
  one_proc b c k (axiom_of y) ts ps e o q h = h
  one_proc b c k (variables gs) ts ps e o q h = h
  one_proc b c k (synonym m None) ts ps e o q h = h
  one_proc b c k (synonym m (Some s)) ts ps e o q h = h
  one_proc b c k (implementation m qs g y) ts ps e o q h = h

  each_proc : (b c : Before) (k : ℕ) (xs : List Decl) → AllFine b c k xs → AllByRecursion (λ (x : Decl). StandsForIt (TE ds) x.body) (firsts k xs) → AllZip (IsTypedProc T) (proc_types_of (firsts k xs)) (procs_of (firsts k xs))
  each_proc b c k [] h g = no_procs (λ i. 0) (axioms_after 0 ds) (uniques (table_of ds) ds)
  each_proc b c k (x ∷ xs) h g =
      let l = users_with k x.body in
      one_proc b c l x.body (proc_types_of (firsts l xs)) (procs_of (firsts l xs)) (h.0).0 (h.1).0 g.0
      (each_proc (before_with b (as_first l x.body)) (before_with c (as_second l x.body)) l xs ((h.0).1, (h.1).1) g.1)

  -- ---- the sorts of constants and globals are those of their types

  abbrev const_types_of : List Decl → List Ty
  const_types_of xs = flat_map (λ (d : Decl). const_types_in (table_of ds) d.body) xs

  abbrev consts_of : List Decl → List Const
  consts_of xs = flat_map (λ (d : Decl). consts_in (TE ds) (CE ds) d.body) xs

  abbrev const_kinds : List Const → List Kind
  const_kinds cs = map (λ (c : Const). c.sort) cs

  no_consts : (count : ℕ → ℕ) (k : ℕ) (us : List Unique) → kinds_of (const_types_of (axioms_from count k us)) ≡ const_kinds (consts_of (axioms_from count k us))
  no_consts count k [] = refl
  no_consts count k (u ∷ us) = no_consts (one_more count u.0) (suc k) us

  names_kinds : (ns : List Name) (s : Written) (ts : List Ty) (cs : List Const) → kind_of (type_of ds s) ≡ sort_or_int (sort_of_type (TE ds) [] s) → kinds_of ts ≡ const_kinds cs
      → kinds_of (map (λ (n : Name). type_of ds s) ns ++ ts) ≡ const_kinds (map (λ (n : Name). record { name = n.text; sort = sort_or_int (sort_of_type (TE ds) [] s) }) ns ++ cs)
  names_kinds [] s ts cs e h = h
  names_kinds (n ∷ ns) s ts cs e h = λ i. e i ∷ names_kinds ns s ts cs e h i

  one_kind : (s : Written) → type_faults (TE ds) [] s ≡ [] → type_faults (TA ds) [] s ≡ [] → kind_of (type_of ds s) ≡ sort_or_int (sort_of_type (TE ds) [] s)
  one_kind s e o =
      let k = fine_type (TE ds) (CE ds) (fine (E ds) none) [] s e in
      let l = fine_type (TA ds) (CA ds) (fine (A ds) nope) [] s o in
      (types_fit ds [] [] s k.0 l.0 k.1 l.1).0 ∙ sym (ap sort_or_int k.1)

  one_const : (b c : Before) (k : ℕ) (x : DeclBody) (ts : List Ty) (cs : List Const) → FirstFine b (as_first k x) → SecondFine c (as_second k x) → kinds_of ts ≡ const_kinds cs
      → kinds_of (const_types_in (table_of ds) (as_first k x) ++ ts) ≡ const_kinds (consts_in (TE ds) (CE ds) (as_first k x) ++ cs)
  one_const b c k (constant u ns s) ts cs e o h = names_kinds ns s ts cs
      (one_kind s (second_empty (again twice b.names ns) _ (second_empty (unique_faults (kept_unique (user_of (table_of ds) s) u)) _ e)) (second_empty (again twice c.names ns) _ (second_empty (unique_faults (kept_unique (user_of (table_of ds) s) u)) _ o))) h
  one_const b c k (function m qs ins r y) ts cs e o h = h
  one_const b c k (axiom_of y) ts cs e o h = h
  one_const b c k (variables gs) ts cs e o h = h
  one_const b c k (synonym m None) ts cs e o h = h
  one_const b c k (synonym m (Some s)) ts cs e o h = h
  one_const b c k (procedure m qs g ss y) ts cs e o h = h
  one_const b c k (implementation m qs g y) ts cs e o h = h

  each_const : (b c : Before) (k : ℕ) (xs : List Decl) → AllFine b c k xs → kinds_of (const_types_of (firsts k xs)) ≡ const_kinds (consts_of (firsts k xs))
  each_const b c k [] h = no_consts (λ i. 0) (axioms_after 0 ds) (uniques (table_of ds) ds)
  each_const b c k (x ∷ xs) h =
      let l = users_with k x.body in
      one_const b c l x.body (const_types_of (firsts l xs)) (consts_of (firsts l xs)) (h.0).0 (h.1).0 (each_const (before_with b (as_first l x.body)) (before_with c (as_second l x.body)) l xs ((h.0).1, (h.1).1))

  abbrev global_types_of : List Decl → List Ty
  global_types_of xs = flat_map (λ (d : Decl). global_types_in (table_of ds) d.body) xs

  abbrev globals_of : List Decl → List Global
  globals_of xs = flat_map (λ (d : Decl). globals_in (TE ds) (CE ds) d.body) xs

  abbrev global_kinds : List Global → List Kind
  global_kinds gs = map (λ (g : Global). g.sort) gs

  no_global_kinds : (count : ℕ → ℕ) (k : ℕ) (us : List Unique) → kinds_of (global_types_of (axioms_from count k us)) ≡ global_kinds (globals_of (axioms_from count k us))
  no_global_kinds count k [] = refl
  no_global_kinds count k (u ∷ us) = no_global_kinds (one_more count u.0) (suc k) us

  group_kinds : (ps : List (Name × Written)) (cs : List (Option Tree)) (ts : List Ty) (gs : List Global) → length cs ≡ length ps → TypesKnown (TE ds) [] ps → TypesKnown (TA ds) [] ps → kinds_of ts ≡ global_kinds gs
      → kinds_of (types_named (table_of ds) ps ++ ts) ≡ global_kinds (globals_with (TE ds) (CE ds) ps cs ++ gs)
  group_kinds [] cs ts gs l a b h = h
  group_kinds (p ∷ ps) [] ts gs l a b h = absurd (omega (arith, l))
  group_kinds (p ∷ ps) (c ∷ cs) ts gs l a b h =
      let f = types_fit ds [] [] p.1 (a.0).0 (b.0).0 (a.0).1 (b.0).1 in
      λ i. (f.0 ∙ sym (ap sort_or_int (a.0).1)) i ∷ group_kinds ps cs ts gs (ap pred l) a.1 b.1 h i

  one_global_kind : (b c : Before) (k : ℕ) (x : DeclBody) (ts : List Ty) (gs : List Global) → FirstFine b (as_first k x) → SecondFine c (as_second k x) → kinds_of ts ≡ global_kinds gs
      → kinds_of (global_types_in (table_of ds) (as_first k x) ++ ts) ≡ global_kinds (globals_in (TE ds) (CE ds) (as_first k x) ++ gs)
  one_global_kind b c k (variables vs) ts gs e o h = group_kinds (names_of vs) (clause_terms (scope_of (TE ds) (CE ds) in_clause_of_global []) vs) ts gs (length_clauses (scope_of (TE ds) (CE ds) in_clause_of_global []) vs)
      (groups_known (TE ds) [] (fine_type (TE ds) (CE ds) (fine (E ds) none) []) vs (first_empty _ _ (second_empty (again twice b.names (only_names (names_of vs))) _ e)))
      (groups_known (TA ds) [] (fine_type (TA ds) (CA ds) (fine (A ds) nope) []) vs (first_empty _ _ (second_empty (again twice c.names (only_names (names_of vs))) _ o))) h
  one_global_kind b c k (constant u ns s) ts gs e o h = h
  one_global_kind b c k (function m qs ins r y) ts gs e o h = h
  one_global_kind b c k (axiom_of y) ts gs e o h = h
  one_global_kind b c k (synonym m None) ts gs e o h = h
  one_global_kind b c k (synonym m (Some s)) ts gs e o h = h
  one_global_kind b c k (procedure m qs g ss y) ts gs e o h = h
  one_global_kind b c k (implementation m qs g y) ts gs e o h = h

  each_global_kind : (b c : Before) (k : ℕ) (xs : List Decl) → AllFine b c k xs → kinds_of (global_types_of (firsts k xs)) ≡ global_kinds (globals_of (firsts k xs))
  each_global_kind b c k [] h = no_global_kinds (λ i. 0) (axioms_after 0 ds) (uniques (table_of ds) ds)
  each_global_kind b c k (x ∷ xs) h =
      let l = users_with k x.body in
      one_global_kind b c l x.body (global_types_of (firsts l xs)) (globals_of (firsts l xs)) (h.0).0 (h.1).0 (each_global_kind (before_with b (as_first l x.body)) (before_with c (as_second l x.body)) l xs ((h.0).1, (h.1).1))

  -- ---- clauses of globals

  abbrev HasClause : Global → Type 0
  HasClause g = IsOptional T (with_own T []) g.clause

  no_globals : (count : ℕ → ℕ) (k : ℕ) (us : List Unique) → AllByRecursion HasClause (globals_of (axioms_from count k us))
  no_globals count k [] = tt
  no_globals count k (u ∷ us) = no_globals (one_more count u.0) (suc k) us

  one_global : (b c : Before) (k : ℕ) (x : DeclBody) (gs : List Global) → FirstFine b (as_first k x) → SecondFine c (as_second k x) → AllByRecursion HasClause gs → AllByRecursion HasClause (globals_in (TE ds) (CE ds) (as_first k x) ++ gs)
  one_global b c k (variables vs) gs e o h =
      let s = scope_of (TE ds) (CE ds) in_clause_of_global [] in
      let u = scope_of (TA ds) (CA ds) in_clause_of_global [] in
      every_append HasClause (globals_in (TE ds) (CE ds) (variables vs)) gs
      (globals_clauses T (with_own T []) (TE ds) (CE ds) (names_of vs) (clause_terms s vs)
      (groups_typed T (with_own T []) s u (λ x p q. truth_typed ds none nope (with_own T []) in_clause_of_global (all_at ds [] in_clause_of_global) [] [] [] [] [] tt tt tt tt tt tt true x p q) vs
      (second_empty (group_type_faults (TE ds) [] vs) _ (second_empty (again twice b.names (only_names (names_of vs))) _ e))
      (second_empty (group_type_faults (TA ds) [] vs) _ (second_empty (again twice c.names (only_names (names_of vs))) _ o)))) h
  one_global b c k (constant u ns s) gs e o h = h
  one_global b c k (function m qs ins r y) gs e o h = h
  one_global b c k (axiom_of y) gs e o h = h
  one_global b c k (synonym m None) gs e o h = h
  one_global b c k (synonym m (Some s)) gs e o h = h
  one_global b c k (procedure m qs g ss y) gs e o h = h
  one_global b c k (implementation m qs g y) gs e o h = h

  each_global : (b c : Before) (k : ℕ) (xs : List Decl) → AllFine b c k xs → AllByRecursion HasClause (globals_of (firsts k xs))
  each_global b c k [] h = no_globals (λ i. 0) (axioms_after 0 ds) (uniques (table_of ds) ds)
  each_global b c k (x ∷ xs) h =
      let l = users_with k x.body in
      one_global b c l x.body (globals_of (firsts l xs)) (h.0).0 (h.1).0 (each_global (before_with b (as_first l x.body)) (before_with c (as_second l x.body)) l xs ((h.0).1, (h.1).1))

  -- ---- axioms

  abbrev axioms_of : List Decl → List Tree
  axioms_of xs = flat_map (λ (d : Decl). axioms_in (TE ds) (CE ds) d.body) xs

  abbrev Truths : List Tree → Type 0
  Truths ts = AllByRecursion (IsTruth T T.consts) ts

  none_taken : (ts : List Tree) → Truths (take 0 ts)
  none_taken [] = tt
  none_taken (t ∷ ts) = tt

  one_axiom : (b c : Before) (k : ℕ) (x : DeclBody) (xs : List Decl) (ts : List Tree) → FirstFine b (as_first k x) → SecondFine c (as_second k x) → Truths (take (axioms_after 0 xs) ts)
      → Truths (take (axioms_after (axioms_with 0 x) xs) (axioms_in (TE ds) (CE ds) (as_first k x) ++ ts))
  one_axiom b c k (axiom_of y) xs ts e o h = subst (λ n. Truths (take n (axioms_in (TE ds) (CE ds) (axiom_of y) ++ ts))) (sym (one_axiom_more 0 xs))
      (truth_typed ds none nope T.consts in_axiom (constants_at ds in_axiom refl) [] [] [] [] [] tt tt tt tt tt tt true y e o, h)
  one_axiom b c k (constant u ns s) xs ts e o h = h
  one_axiom b c k (function m qs ins r y) xs ts e o h = h
  one_axiom b c k (variables gs) xs ts e o h = h
  one_axiom b c k (synonym m None) xs ts e o h = h
  one_axiom b c k (synonym m (Some s)) xs ts e o h = h
  one_axiom b c k (procedure m qs g ss y) xs ts e o h = h
  one_axiom b c k (implementation m qs g y) xs ts e o h = h

  each_axiom : (b c : Before) (k : ℕ) (xs : List Decl) → AllFine b c k xs → Truths (take (axioms_after 0 xs) (axioms_of (firsts k xs)))
  each_axiom b c k [] h = none_taken (axioms_of (firsts k []))
  each_axiom b c k (x ∷ xs) h =
      let l = users_with k x.body in
      one_axiom b c l x.body xs (axioms_of (firsts l xs)) (h.0).0 (h.1).0 (each_axiom (before_with b (as_first l x.body)) (before_with c (as_second l x.body)) l xs ((h.0).1, (h.1).1))

pub passing_programs_have_types : FaultlessIsTyped → PassingProgramsHaveTypes
passing_programs_have_types law ds none told =
    let nope = no_fault (fault_of (A ds)) told in
    record {
      consts = each_const ds none nope nothing_before nothing_before 0 ds (all_fine ds none nope);
      globals = each_global_kind ds none nope nothing_before nothing_before 0 ds (all_fine ds none nope);
      axioms = each_axiom ds none nope nothing_before nothing_before 0 ds (all_fine ds none nope);
      as_many = as_many ds none nope;
      functions = functions_typed ds none nope (law (E ds) none);
      clauses = each_global ds none nope nothing_before nothing_before 0 ds (all_fine ds none nope);
      procs = each_proc ds none nope nothing_before nothing_before 0 ds (all_fine ds none nope) (each_stands (TE ds) (CE ds) [] nothing_before no_counts 0 (E ds) (λ m h. tt) (none_faulty (E ds) none));
    }

pub passing_typed : (ds : List Decl) → fault_of (E ds) ≡ None → carrier_fault ds ≡ None → HasDeclaredTypes ds
passing_typed ds none told = passing_programs_have_types module_typed ds none told
