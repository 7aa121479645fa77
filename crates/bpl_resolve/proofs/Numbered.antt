-- The number of each constant, global variable and procedure is its place in the module's list, where it has its sort, or its contract and body.
use Rattle.std.proofs.Common.{◌≡◌, refl, ap, sym, ◌∙◌, subst, ℕ, zero, suc, ◌+◌, arith, List, [], ◌∷◌, ◌++◌, append_assoc, append-nil, map, length, length-append, Option, Some}
use Rattle.std.specs.Prelude.{⊤, flat_map, slice_get}
use Rattle.std.specs.List.{AllByRecursion}
use Rattle.std.proofs.lemmas.List.{map-append}
use Rattle.logic_core.specs.Tree.{Kind, Tree}
use Rattle.bpl_ast.specs.Place.{Name, Ty}
use Rattle.bpl_ast.specs.Tree.{Groups, no_groups, group}
use Rattle.bpl_ast.specs.Statement.{Spec, DeclBody, constant, function, axiom_of, variables, synonym, procedure, implementation, Decl}
use Rattle.bpl_model.specs.Module.{Const, Global, Proc}
use Rattle.bpl_scopes.specs.declared.part.Part.TheVariants.{ClauseOfGlobal as in_clause_of_global}
use Rattle.bpl_scopes.specs.Scopes.{Text, Entity, a_constant, a_global, a_function, a_synonym, a_procedure, Entry, Table, Counts, counts_with, counts_after, typed_names, names_of, entries_from, entries_of, entries_after, Scope}
use Rattle.bpl_scopes.specs.Sorts.{sort_of_type}
use Rattle.bpl_terms.specs.Terms.{sort_or_int}
use Rattle.bpl_declaration_faults.specs.Variables.{scope_of}
use Rattle.bpl_resolve.specs.Elaborate.{clause_term, clause_terms, Implemented, or_else, own_body, implementation_of, proc_of, consts_in, globals_with, globals_in, procs_in}

pub slice_at : {A : Type 0} (xs : List A) (a : A) (ys : List A) (k : ℕ) → length xs ≡ k → slice_get (xs ++ (a ∷ ys)) k ≡ Some a
slice_at [] a ys zero e = refl
slice_at [] a ys (suc k) e = absurd (omega (arith, e))
slice_at (x ∷ xs) a ys zero e = absurd (omega (arith, e))
slice_at (x ∷ xs) a ys (suc k) e = slice_at xs a ys k (omega (arith, e))

pub length_clauses : (s : Scope) (gs : Groups) → length (clause_terms s gs) ≡ length (names_of gs)
length_clauses s no_groups = refl
length_clauses s (group ns t c gs) = rest ns (length_clauses s gs)
  where
    rest : (ks : List Name) → length (clause_terms s gs) ≡ length (names_of gs) → length (map (λ (n : Name). clause_term s c) ks ++ clause_terms s gs) ≡ length (typed_names ks t ++ names_of gs)
    rest [] h = h
    rest (k ∷ ks) h = ap suc (rest ks h)

module _ (ds : List Decl) (t : Table) (c : Counts) where
  abbrev pub const_kinds : List Const → List Kind
  const_kinds xs = map (λ (x : Const). x.sort) xs

  abbrev pub global_kinds : List Global → List Kind
  global_kinds xs = map (λ (x : Global). x.sort) xs

  abbrev pub consts_from : List Decl → List Const
  consts_from xs = flat_map (λ (d : Decl). consts_in t c d.body) xs

  abbrev pub globals_from : List Decl → List Global
  globals_from xs = flat_map (λ (d : Decl). globals_in t c d.body) xs

  abbrev pub procs_from : List Decl → List Proc
  procs_from xs = flat_map (λ (d : Decl). procs_in ds t c d.body) xs

  abbrev pub kind_of : Ty → Kind
  kind_of s = sort_or_int (sort_of_type t [] s)

  abbrev pub IsNumbered : List Kind → List Kind → List Proc → Text → Entity → Type 0
  IsNumbered cs gs ps n (a_constant k s) = slice_get cs k ≡ Some (kind_of s)
  IsNumbered cs gs ps n (a_global k s) = slice_get gs k ≡ Some (kind_of s)
  IsNumbered cs gs ps n (a_function h) = ⊤
  IsNumbered cs gs ps n (a_synonym s) = ⊤
  IsNumbered cs gs ps n (a_procedure k d) = (i : Option Implemented) × (ss : List Spec) × (slice_get ps k ≡ Some (proc_of t c n d.signature ss i))

  abbrev pub AreNumbered : List Kind → List Kind → List Proc → Table → Type 0
  AreNumbered cs gs ps es = AllByRecursion (λ (e : Entry). IsNumbered cs gs ps e.name e.entity) es

  pub global_sorts_same : (ps : List (Name × Ty)) (ks : List (Option Tree)) → length ks ≡ length ps → global_kinds (globals_with t c ps ks) ≡ map (λ p. kind_of p.1) ps
  global_sorts_same [] ks e = refl
  global_sorts_same (p ∷ ps) [] e = absurd (omega (arith, e))
  global_sorts_same (p ∷ ps) (k ∷ ks) e = ap (λ w. kind_of p.1 ∷ w) (global_sorts_same ps ks (omega (arith, e)))

  constants_numbered : (cs more gs : List Kind) (ps : List Proc) (d k : ℕ) (ns : List Name) (s : Ty) → length cs ≡ k
      → AreNumbered (cs ++ (map (λ (n : Name). kind_of s) ns ++ more)) gs ps (entries_from a_constant d k (typed_names ns s))
  constants_numbered cs more gs ps d k [] s e = tt
  constants_numbered cs more gs ps d k (n ∷ ns) s e = (
    slice_at cs (kind_of s) _ k e,
    subst (λ w. AreNumbered w gs ps (entries_from a_constant d (k + 1) (typed_names ns s))) (append_assoc cs (kind_of s ∷ []) (map (λ (m : Name). kind_of s) ns ++ more))
        (constants_numbered (cs ++ (kind_of s ∷ [])) more gs ps d (k + 1) ns s (length-append cs (kind_of s ∷ []) ∙ ap (λ w. w + 1) e)),
  )

  globals_numbered : (cs gs more : List Kind) (ps : List Proc) (d k : ℕ) (ns : List (Name × Ty)) → length gs ≡ k
      → AreNumbered cs (gs ++ (map (λ p. kind_of p.1) ns ++ more)) ps (entries_from a_global d k ns)
  globals_numbered cs gs more ps d k [] e = tt
  globals_numbered cs gs more ps d k (n ∷ ns) e = (
    slice_at gs (kind_of n.1) _ k e,
    subst (λ w. AreNumbered cs w ps (entries_from a_global d (k + 1) ns)) (append_assoc gs (kind_of n.1 ∷ []) (map (λ p. kind_of p.1) ns ++ more))
        (globals_numbered cs (gs ++ (kind_of n.1 ∷ [])) more ps d (k + 1) ns (length-append gs (kind_of n.1 ∷ []) ∙ ap (λ w. w + 1) e)),
  )

  same_kinds : (ns : List Name) (s : Ty) → const_kinds (map (λ (n : Name). record { name = n.text; sort = kind_of s }) ns) ≡ map (λ (n : Name). kind_of s) ns
  same_kinds [] s = refl
  same_kinds (n ∷ ns) s = ap (λ w. kind_of s ∷ w) (same_kinds ns s)

  decl_numbered : (cs gs : List Kind) (ps : List Proc) (k : Counts) (d : ℕ) (x : DeclBody) (mc mg : List Kind) (mp : List Proc)
      → length cs ≡ k.constants → length gs ≡ k.globals → length ps ≡ k.procedures
      → AreNumbered (cs ++ (const_kinds (consts_in t c x) ++ mc)) (gs ++ (global_kinds (globals_in t c x) ++ mg)) (ps ++ (procs_in ds t c x ++ mp)) (entries_of k d x)
  decl_numbered cs gs ps k d (constant u ns s) mc mg mp e f g =
      subst (λ w. AreNumbered (cs ++ (w ++ mc)) (gs ++ mg) (ps ++ mp) (entries_from a_constant d k.constants (typed_names ns s))) (sym (same_kinds ns s))
      (constants_numbered cs mc (gs ++ mg) (ps ++ mp) d k.constants ns s e)
  decl_numbered cs gs ps k d (function n q ins r x) mc mg mp e f g = (tt, tt)
  decl_numbered cs gs ps k d (axiom_of x) mc mg mp e f g = tt
  decl_numbered cs gs ps k d (variables vs) mc mg mp e f g =
      subst (λ w. AreNumbered (cs ++ mc) (gs ++ (w ++ mg)) (ps ++ mp) (entries_from a_global d k.globals (names_of vs)))
      (sym (global_sorts_same (names_of vs) (clause_terms (scope_of t c in_clause_of_global []) vs) (length_clauses (scope_of t c in_clause_of_global []) vs)))
      (globals_numbered (cs ++ mc) gs mg (ps ++ mp) d k.globals (names_of vs) f)
  decl_numbered cs gs ps k d (synonym n s) mc mg mp e f g = (tt, tt)
  decl_numbered cs gs ps k d (procedure n q s ss b) mc mg mp e f g =
      ((or_else (own_body s b) (implementation_of ds n.text), ss, slice_at ps (proc_of t c n.text s ss (or_else (own_body s b) (implementation_of ds n.text))) mp k.procedures g), tt)
  decl_numbered cs gs ps k d (implementation n q s b) mc mg mp e f g = tt

  numbered_joined : (cs gs : List Kind) (ps : List Proc) (es fs : Table) → AreNumbered cs gs ps es → AreNumbered cs gs ps fs → AreNumbered cs gs ps (es ++ fs)
  numbered_joined cs gs ps [] fs h g = g
  numbered_joined cs gs ps (e ∷ es) fs h g = (h.0, numbered_joined cs gs ps es fs h.1 g)

  map_length : {A B : Type 0} (f : A → B) (xs : List A) → length (map f xs) ≡ length xs
  map_length f [] = refl
  map_length f (x ∷ xs) = ap suc (map_length f xs)

  const_count : (k : Counts) (x : DeclBody) → k.constants + length (const_kinds (consts_in t c x)) ≡ (counts_with k x).constants
  const_count k (constant u ns s) = ap (λ w. k.constants + w) (ap length (same_kinds ns s) ∙ map_length (λ (n : Name). kind_of s) ns)
  const_count k (function n q ins r x) = omega arith
  const_count k (axiom_of x) = omega arith
  const_count k (variables vs) = omega arith
  const_count k (synonym n s) = omega arith
  const_count k (procedure n q s ss b) = omega arith
  const_count k (implementation n q s b) = omega arith

  global_count : (k : Counts) (x : DeclBody) → k.globals + length (global_kinds (globals_in t c x)) ≡ (counts_with k x).globals
  global_count k (constant u ns s) = omega arith
  global_count k (function n q ins r x) = omega arith
  global_count k (axiom_of x) = omega arith
  global_count k (variables vs) = ap (λ w. k.globals + w) (ap length (global_sorts_same (names_of vs) (clause_terms (scope_of t c in_clause_of_global []) vs) (length_clauses (scope_of t c in_clause_of_global []) vs))
      ∙ map_length (λ (p : Name × Ty). kind_of p.1) (names_of vs))
  global_count k (synonym n s) = omega arith
  global_count k (procedure n q s ss b) = omega arith
  global_count k (implementation n q s b) = omega arith

  proc_count : (k : Counts) (x : DeclBody) → k.procedures + length (procs_in ds t c x) ≡ (counts_with k x).procedures
  proc_count k (constant u ns s) = omega arith
  proc_count k (function n q ins r x) = omega arith
  proc_count k (axiom_of x) = omega arith
  proc_count k (variables vs) = omega arith
  proc_count k (synonym n s) = omega arith
  proc_count k (procedure n q s ss b) = refl
  proc_count k (implementation n q s b) = omega arith

  consts_step : (x : Decl) (xs : List Decl) → const_kinds (consts_from (x ∷ xs)) ≡ const_kinds (consts_in t c x.body) ++ const_kinds (consts_from xs)
  consts_step x xs = map-append (λ (k : Const). k.sort) (consts_in t c x.body) (consts_from xs)

  globals_step : (x : Decl) (xs : List Decl) → global_kinds (globals_from (x ∷ xs)) ≡ global_kinds (globals_in t c x.body) ++ global_kinds (globals_from xs)
  globals_step x xs = map-append (λ (k : Global). k.sort) (globals_in t c x.body) (globals_from xs)

  one_longer : {A : Type 0} (xs ys : List A) (a b : ℕ) → length xs ≡ a → a + length ys ≡ b → length (xs ++ ys) ≡ b
  one_longer xs ys a b e f = length-append xs ys ∙ (ap (λ w. w + length ys) e ∙ f)

  pub numbered : (cs gs : List Kind) (ps : List Proc) (k : Counts) (d : ℕ) (xs : List Decl) → length cs ≡ k.constants → length gs ≡ k.globals → length ps ≡ k.procedures
      → AreNumbered (cs ++ const_kinds (consts_from xs)) (gs ++ global_kinds (globals_from xs)) (ps ++ procs_from xs) (entries_after k d xs)
  numbered cs gs ps k d [] e f g = tt
  numbered cs gs ps k d (x ∷ xs) e f g =
      let a = ap (λ w. cs ++ w) (consts_step x xs) in
      let b = ap (λ w. gs ++ w) (globals_step x xs) in
      let now = decl_numbered cs gs ps k d x.body (const_kinds (consts_from xs)) (global_kinds (globals_from xs)) (procs_from xs) e f g in
      let later = numbered (cs ++ const_kinds (consts_in t c x.body)) (gs ++ global_kinds (globals_in t c x.body)) (ps ++ procs_in ds t c x.body) (counts_with k x.body) (d + 1) xs
      (one_longer cs _ _ _ e (const_count k x.body)) (one_longer gs _ _ _ f (global_count k x.body)) (one_longer ps _ _ _ g (proc_count k x.body)) in
      let moved = subst (λ w. AreNumbered (cs ++ (const_kinds (consts_in t c x.body) ++ const_kinds (consts_from xs))) (gs ++ (global_kinds (globals_in t c x.body) ++ global_kinds (globals_from xs))) w (entries_after (counts_with k x.body) (d + 1) xs))
      (append_assoc ps (procs_in ds t c x.body) (procs_from xs))
      (subst (λ w. AreNumbered (cs ++ (const_kinds (consts_in t c x.body) ++ const_kinds (consts_from xs))) w ((ps ++ procs_in ds t c x.body) ++ procs_from xs) (entries_after (counts_with k x.body) (d + 1) xs))
      (append_assoc gs (global_kinds (globals_in t c x.body)) (global_kinds (globals_from xs)))
      (subst (λ w. AreNumbered w ((gs ++ global_kinds (globals_in t c x.body)) ++ global_kinds (globals_from xs)) ((ps ++ procs_in ds t c x.body) ++ procs_from xs) (entries_after (counts_with k x.body) (d + 1) xs))
      (append_assoc cs (const_kinds (consts_in t c x.body)) (const_kinds (consts_from xs))) later)) in
      subst (λ w. AreNumbered w (gs ++ global_kinds (globals_from (x ∷ xs))) (ps ++ procs_from (x ∷ xs)) (entries_after k d (x ∷ xs))) (sym a)
      (subst (λ w. AreNumbered (cs ++ (const_kinds (consts_in t c x.body) ++ const_kinds (consts_from xs))) w (ps ++ procs_from (x ∷ xs)) (entries_after k d (x ∷ xs))) (sym b)
      (numbered_joined _ _ _ (entries_of k d x.body) (entries_after (counts_with k x.body) (d + 1) xs) now moved))

  pub count_constants : (cs : List Kind) (k : Counts) (xs : List Decl) → length cs ≡ k.constants → length (cs ++ const_kinds (consts_from xs)) ≡ (counts_after k xs).constants
  count_constants cs k [] e = ap length (append-nil cs) ∙ e
  count_constants cs k (x ∷ xs) e = ap length (ap (λ w. cs ++ w) (consts_step x xs) ∙ sym (append_assoc cs (const_kinds (consts_in t c x.body)) (const_kinds (consts_from xs))))
      ∙ count_constants (cs ++ const_kinds (consts_in t c x.body)) (counts_with k x.body) xs (one_longer cs _ _ _ e (const_count k x.body))

  pub count_globals : (gs : List Kind) (k : Counts) (xs : List Decl) → length gs ≡ k.globals → length (gs ++ global_kinds (globals_from xs)) ≡ (counts_after k xs).globals
  count_globals gs k [] e = ap length (append-nil gs) ∙ e
  count_globals gs k (x ∷ xs) e = ap length (ap (λ w. gs ++ w) (globals_step x xs) ∙ sym (append_assoc gs (global_kinds (globals_in t c x.body)) (global_kinds (globals_from xs))))
      ∙ count_globals (gs ++ global_kinds (globals_in t c x.body)) (counts_with k x.body) xs (one_longer gs _ _ _ e (global_count k x.body))
