-- The number of each global variable is the place of its name in the module's list; so two names of globals have two numbers.
use Rattle.std.proofs.Common.{◌≡◌, refl, ap, sym, ◌∙◌, subst, ℕ, suc, ◌+◌, arith, List, [], ◌∷◌, ◌++◌, append_assoc, map, length, length-append, Option, Some}
use Rattle.std.specs.Prelude.{⊤, slice_get}
use Rattle.std.specs.List.{AllByRecursion}
use Rattle.std.proofs.lemmas.List.{map-append}
use Rattle.logic_core.specs.Tree.{Tree}
use Rattle.bpl_ast.specs.Place.{Name, Ty}
use Rattle.bpl_ast.specs.Statement.{DeclBody, constant, function, axiom_of, variables, synonym, procedure, implementation, Decl}
use Rattle.bpl_model.specs.Module.{Global}
use Rattle.bpl_scopes.specs.declared.part.Part.TheVariants.{ClauseOfGlobal as in_clause_of_global}
use Rattle.bpl_scopes.specs.Scopes.{Text, Entity, a_constant, a_global, a_function, a_synonym, a_procedure, Entry, Table, Counts, counts_with, typed_names, names_of, entries_from, entries_of, entries_after}
use Rattle.bpl_declaration_faults.specs.Variables.{scope_of}
use Rattle.bpl_resolve.specs.Elaborate.{clause_terms, globals_with, globals_in}
use Rattle.bpl_resolve.proofs.Numbered.{slice_at, length_clauses, globals_from}

module _ (ds : List Decl) (t : Table) (c : Counts) where
  abbrev pub global_names : List Global → List Text
  global_names xs = map (λ (x : Global). x.name) xs

  abbrev pub IsNamed : List Text → Text → Entity → Type 0
  IsNamed gs n (a_constant k s) = ⊤
  IsNamed gs n (a_global k s) = slice_get gs k ≡ Some n
  IsNamed gs n (a_function h) = ⊤
  IsNamed gs n (a_synonym s) = ⊤
  IsNamed gs n (a_procedure k d) = ⊤

  abbrev pub AreNamed : List Text → Table → Type 0
  AreNamed gs es = AllByRecursion (λ (e : Entry). IsNamed gs e.name e.entity) es

  names_same : (ps : List (Name × Ty)) (ks : List (Option Tree)) → length ks ≡ length ps → global_names (globals_with t c ps ks) ≡ map (λ p. (p.0).text) ps
  names_same [] ks e = refl
  names_same (p ∷ ps) [] e = absurd (omega (arith, e))
  names_same (p ∷ ps) (k ∷ ks) e = ap (λ w. (p.0).text ∷ w) (names_same ps ks (omega (arith, e)))

  constants_named : (gs : List Text) (d k : ℕ) (ps : List (Name × Ty)) → AreNamed gs (entries_from a_constant d k ps)
  constants_named gs d k [] = tt
  constants_named gs d k (p ∷ ps) = (tt, constants_named gs d (k + 1) ps)

  globals_named : (gs more : List Text) (d k : ℕ) (ps : List (Name × Ty)) → length gs ≡ k → AreNamed (gs ++ (map (λ p. (p.0).text) ps ++ more)) (entries_from a_global d k ps)
  globals_named gs more d k [] e = tt
  globals_named gs more d k (p ∷ ps) e = (
    slice_at gs (p.0).text _ k e,
    subst (λ w. AreNamed w (entries_from a_global d (k + 1) ps)) (append_assoc gs ((p.0).text ∷ []) (map (λ q. (q.0).text) ps ++ more))
        (globals_named (gs ++ ((p.0).text ∷ [])) more d (k + 1) ps (length-append gs ((p.0).text ∷ []) ∙ ap (λ w. w + 1) e)),
  )

  decl_named : (gs : List Text) (k : Counts) (d : ℕ) (x : DeclBody) (more : List Text) → length gs ≡ k.globals → AreNamed (gs ++ (global_names (globals_in t c x) ++ more)) (entries_of k d x)
  decl_named gs k d (constant u ns s) more e = constants_named _ d k.constants (typed_names ns s)
  decl_named gs k d (function n q ins r x) more e = (tt, tt)
  decl_named gs k d (axiom_of x) more e = tt
  decl_named gs k d (variables vs) more e = subst (λ w. AreNamed (gs ++ (w ++ more)) (entries_from a_global d k.globals (names_of vs)))
      (sym (names_same (names_of vs) (clause_terms (scope_of t c in_clause_of_global []) vs) (length_clauses (scope_of t c in_clause_of_global []) vs))) (globals_named gs more d k.globals (names_of vs) e)
  decl_named gs k d (synonym n s) more e = (tt, tt)
  decl_named gs k d (procedure n q s ss b) more e = (tt, tt)
  decl_named gs k d (implementation n q s b) more e = tt

  named_joined : (gs : List Text) (es fs : Table) → AreNamed gs es → AreNamed gs fs → AreNamed gs (es ++ fs)
  named_joined gs [] fs h g = g
  named_joined gs (e ∷ es) fs h g = (h.0, named_joined gs es fs h.1 g)

  map_length : {A B : Type 0} (f : A → B) (xs : List A) → length (map f xs) ≡ length xs
  map_length f [] = refl
  map_length f (x ∷ xs) = ap suc (map_length f xs)

  name_count : (k : Counts) (x : DeclBody) → k.globals + length (global_names (globals_in t c x)) ≡ (counts_with k x).globals
  name_count k (constant u ns s) = omega arith
  name_count k (function n q ins r x) = omega arith
  name_count k (axiom_of x) = omega arith
  name_count k (variables vs) = ap (λ w. k.globals + w) (ap length (names_same (names_of vs) (clause_terms (scope_of t c in_clause_of_global []) vs) (length_clauses (scope_of t c in_clause_of_global []) vs))
      ∙ map_length (λ (p : Name × Ty). (p.0).text) (names_of vs))
  name_count k (synonym n s) = omega arith
  name_count k (procedure n q s ss b) = omega arith
  name_count k (implementation n q s b) = omega arith

  pub named : (gs : List Text) (k : Counts) (d : ℕ) (xs : List Decl) → length gs ≡ k.globals → AreNamed (gs ++ global_names (globals_from ds t c xs)) (entries_after k d xs)
  named gs k d [] e = tt
  named gs k d (x ∷ xs) e =
      let a = map-append (λ (g : Global). g.name) (globals_in t c x.body) (globals_from ds t c xs) in
      let l = length-append gs (global_names (globals_in t c x.body)) ∙ (ap (λ w. w + length (global_names (globals_in t c x.body))) e ∙ name_count k x.body) in
      subst (λ w. AreNamed (gs ++ w) (entries_after k d (x ∷ xs))) (sym a)
      (named_joined _ (entries_of k d x.body) (entries_after (counts_with k x.body) (d + 1) xs) (decl_named gs k d x.body (global_names (globals_from ds t c xs)) e)
      (subst (λ w. AreNamed w (entries_after (counts_with k x.body) (d + 1) xs)) (append_assoc gs (global_names (globals_in t c x.body)) (global_names (globals_from ds t c xs)))
      (named (gs ++ global_names (globals_in t c x.body)) (counts_with k x.body) (d + 1) xs l)))
