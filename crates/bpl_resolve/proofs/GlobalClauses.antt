-- In the module of a program without faults the where clause of each global variable is a formula over constants and global variables.
use Rattle.std.proofs.Common.{◌≡◌, refl, sym, ◌∙◌, ℕ, true, false, List, [], ◌∷◌, ◌++◌, map, Option, Some, None}
use Rattle.std.specs.Prelude.{⊤, flat_map}
use Rattle.std.specs.List.{AllByRecursion}
use Rattle.logic_core.specs.Tree.{Kind, Tree}
use Rattle.logic_core.specs.Renamed.{EachHas}
use Rattle.logic_core.proofs.EachOf.{every_append}
use Rattle.bpl_ast.specs.Place.{Name, Ty}
use Rattle.bpl_ast.specs.Tree.{Groups, no_groups, group, Clause, no_clause, clause}
use Rattle.bpl_ast.specs.Statement.{DeclBody, constant, function, axiom_of, variables, synonym, procedure, implementation, Decl}
use Rattle.bpl_model.specs.Module.{Global}
use Rattle.bpl_model.specs.Numbering.{defs_of, const_sorts, global_sorts}
use Rattle.bpl_model.specs.Typed.{IsGlobalClause}
use Rattle.bpl_scopes.specs.declared.fault.TypeKind.TheVariants.{Twice as twice}
use Rattle.bpl_scopes.specs.Fault.{again}
use Rattle.bpl_scopes.specs.declared.part.Part.TheVariants.{ClauseOfGlobal as in_clause_of_global}
use Rattle.bpl_scopes.specs.Scopes.{Text, Entity, a_constant, a_global, a_function, a_synonym, a_procedure, Table, Counts, BoundVar, Scope, declared_as, names_of, only_names, entity_of, meaning}
use Rattle.bpl_scopes.specs.TypeFaults.{group_type_faults}
use Rattle.bpl_faults.specs.ExprFaults.{clause_faults, group_clause_faults}
use Rattle.bpl_declaration_faults.specs.Variables.{scope_of}
use Rattle.bpl_declaration_faults.specs.DeclFaults.{decl_faults, before_with, Before, fault_of, nothing_before}
use Rattle.bpl_terms.specs.Terms.{meaning_term, term_of}
use Rattle.bpl_resolve.specs.Elaborate.{clause_term, clause_terms, globals_with, globals_in}
use Rattle.bpl_resolve.proofs.HasSort.{first_empty, second_empty}
use Rattle.bpl_resolve.proofs.EntriesFine.{NoFaults, none_faulty}
use Rattle.bpl_resolve.proofs.ScopesKnown.{name_has, any_bounds}
use Rattle.bpl_resolve.proofs.ModuleSorts.{T, C, M, slice_left, slice_right, numbered_entity, constants_count, sorts_before, global_is_at, formula_fits}
use Rattle.bpl_resolve.proofs.Reached.{reached}
use Rattle.bpl_resolve.proofs.SameOver.{SameAt, same_over}

module _ (ds : List Decl) (none : fault_of ds ≡ None) where
  abbrev TT : Table
  TT = T ds none

  abbrev CC : Counts
  CC = C ds none

  -- the sorts of constants and globals alone
  abbrev Shared : List Kind
  Shared = const_sorts (M ds none) ++ global_sorts (M ds none)

  abbrev IsShared : ℕ → Type 0
  IsShared = SameAt Shared (sorts_before ds none [])

  abbrev AnyDef : ℕ → Type 0
  AnyDef = SameAt (defs_of (M ds none)) (defs_of (M ds none))

  abbrev S : Scope
  S = scope_of TT CC in_clause_of_global []

  entity_shared : (n : Text) (e : Entity) → entity_of TT n ≡ Some e → EachHas IsShared AnyDef (meaning_term false CC (declared_as e))
  entity_shared n (a_constant k s) q = let a = numbered_entity ds none n (a_constant k s) q in
      slice_left (const_sorts (M ds none)) (global_sorts (M ds none)) k _ a ∙ sym (slice_left (const_sorts (M ds none)) _ k _ a)
  entity_shared n (a_global k s) q = let a = numbered_entity ds none n (a_global k s) q in
      slice_right (const_sorts (M ds none)) (global_sorts (M ds none)) CC.constants k (constants_count ds none) ∙ (a ∙ sym (global_is_at ds none [] k _ a false))
  entity_shared n (a_function h) q = tt
  entity_shared n (a_synonym s) q = tt
  entity_shared n (a_procedure k d) q = tt

  name_shared : (bs : List BoundVar) (n : Text) → EachHas IsShared AnyDef (meaning_term false CC (meaning (record S { bounds = bs }) n))
  name_shared bs n = name_has (λ m. EachHas IsShared AnyDef (meaning_term false CC m)) tt (λ o. ⊤) (λ j o i. tt) (record S { bounds = bs }) n (entity_shared n) tt (any_bounds bs)

  clause_typed : (c : Clause) → clause_faults S c ≡ [] → IsGlobalClause (M ds none) (clause_term S c)
  clause_typed no_clause e = tt
  clause_typed (clause p x) e = same_over (sorts_before ds none []) Shared (defs_of (M ds none)) (defs_of (M ds none)) [] (term_of S x)
      (reached IsShared AnyDef (λ n. ⊤) S (record { names = name_shared; functions = λ bs n k q u. refl }) refl [] (λ n i. absurd i) true x (first_empty _ _ e) (λ n i. tt))
      ∙ formula_fits ds none [] in_clause_of_global [] tt tt x e

  clauses_typed : (gs : Groups) → group_clause_faults S gs ≡ [] → AllByRecursion (IsGlobalClause (M ds none)) (clause_terms S gs)
  clauses_typed no_groups e = tt
  clauses_typed (group ns t c gs) e = each ns (clause_typed c (first_empty _ _ e)) (clauses_typed gs (second_empty (clause_faults S c) _ e))
    where
      each : (ms : List Name) → IsGlobalClause (M ds none) (clause_term S c) → AllByRecursion (IsGlobalClause (M ds none)) (clause_terms S gs)
          → AllByRecursion (IsGlobalClause (M ds none)) (map (λ (n : Name). clause_term S c) ms ++ clause_terms S gs)
      each [] x y = y
      each (m ∷ ms) x y = (x, each ms x y)

  abbrev HasClause : Global → Type 0
  HasClause g = IsGlobalClause (M ds none) g.clause

  with_clauses : (ps : List (Name × Ty)) (cs : List (Option Tree)) → AllByRecursion (IsGlobalClause (M ds none)) cs → AllByRecursion HasClause (globals_with TT CC ps cs)
  with_clauses [] cs h = tt
  with_clauses (p ∷ ps) [] h = tt
  with_clauses (p ∷ ps) (c ∷ cs) h = (h.0, with_clauses ps cs h.1)

  globals_from : (b : Before) (xs : List Decl) → NoFaults TT CC b xs → AllByRecursion HasClause (flat_map (λ (d : Decl). globals_in TT CC d.body) xs)
  globals_from b [] h = tt
  globals_from b (x ∷ xs) h = by x.body h.0 (globals_from (before_with b x.body) xs h.1)
    where
      by : (d : DeclBody) → decl_faults TT CC b d ≡ [] → AllByRecursion HasClause (flat_map (λ (d : Decl). globals_in TT CC d.body) xs)
          → AllByRecursion HasClause (globals_in TT CC d ++ flat_map (λ (d : Decl). globals_in TT CC d.body) xs)
      by (variables gs) e later = every_append HasClause (globals_in TT CC (variables gs)) _ (with_clauses (names_of gs) (clause_terms S gs)
          (clauses_typed gs (second_empty (group_type_faults TT [] gs) _ (second_empty (again twice b.names (only_names (names_of gs))) _ e)))) later
      by (constant u ns s) e later = later
      by (function n ps ins r y) e later = later
      by (axiom_of y) e later = later
      by (synonym n s) e later = later
      by (procedure n ps g ss y) e later = later
      by (implementation n ps g y) e later = later

  pub global_clauses_typed : AllByRecursion HasClause (M ds none).globals
  global_clauses_typed = globals_from nothing_before ds (none_faulty ds none)
