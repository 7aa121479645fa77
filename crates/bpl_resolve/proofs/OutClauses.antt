-- A where clause without faults is a formula that reads no entry value, over the sorts of constants, globals and variables at their numbers.
use Rattle.std.proofs.Common.{◌≡◌, refl, sym, ◌∙◌, ℕ, ◌+◌, ◌≤◌, ◌<◌, arith, nat_eq, Bool, true, false, List, [], ◌∷◌, ◌++◌, map, Option, Some, None}
use Rattle.std.specs.Prelude.{⊤}
use Rattle.std.specs.List.{AllByRecursion}
use Rattle.std.proofs.lemmas.Bool.{eqb-true}
use Rattle.std.proofs.lemmas.Option.{slice_get_within}
use Rattle.logic_core.specs.Tree.{Kind, Tree}
use Rattle.bpl_ast.specs.Place.{Name, Ty}
use Rattle.bpl_ast.specs.Tree.{Groups, no_groups, group, Clause, no_clause, clause}
use Rattle.bpl_ast.specs.Statement.{Decl}
use Rattle.bpl_model.specs.Module.{Proc}
use Rattle.bpl_model.specs.Numbering.{const_sorts, global_sorts, first_entry, first_in}
use Rattle.bpl_model.specs.Typed.{IsClause, HaveClauses}
use Rattle.bpl_scopes.specs.declared.part.Part.{Part}
use Rattle.bpl_scopes.specs.declared.part.Role.{Role}
use Rattle.bpl_scopes.specs.Scopes.{Text, Table, Counts, Entity, a_constant, a_global, a_function, a_synonym, a_procedure, entity_of, Var, declared_as, var_in}
use Rattle.bpl_faults.specs.NameFaults.{reads_entry}
use Rattle.bpl_faults.specs.ExprFaults.{clause_faults, group_clause_faults}
use Rattle.bpl_declaration_faults.specs.Variables.{first_parameter, vars_from, scope_of}
use Rattle.bpl_declaration_faults.specs.DeclFaults.{fault_of}
use Rattle.bpl_terms.specs.Terms.{meaning_term}
use Rattle.bpl_resolve.specs.Elaborate.{clause_term, clause_terms, locals_with}
use Rattle.bpl_resolve.proofs.HasSort.{first_empty, second_empty}
use Rattle.bpl_resolve.proofs.ScopesKnown.{VarsKnown, name_has, var_in_has, any_bounds}
use Rattle.bpl_resolve.proofs.ScopesFit.{AreAt}
use Rattle.bpl_resolve.proofs.ModuleSorts.{T, C, M, numbered_entity, constants_count, globals_count, sorts_before, formula_fits}
use Rattle.bpl_resolve.proofs.ProcedureVariables.{map_length}
use Rattle.bpl_resolve.proofs.Unmentioned.{Lacks, NoName, lacks}

pub different : (v k : ℕ) → (v ≡ k → ⊥) → nat_eq v k ≡ false
different v k h = by (nat_eq v k) refl
  where
    by : (r : Bool) → nat_eq v k ≡ r → r ≡ false
    by false q = refl
    by true q = absurd (h (eqb-true v k q))

pub numbers_from : (t : Table) (hidden : List Text) (r : Role) (o k : ℕ) (ps : List (Name × Ty)) → o ≤ k → AllByRecursion (λ (u : Var). o ≤ u.number) (vars_from t hidden r k ps)
numbers_from t hidden r o k [] h = tt
numbers_from t hidden r o k (p ∷ ps) h = (h, numbers_from t hidden r o (k + 1) ps (omega (arith, h)))

module _ (ds : List Decl) (none : fault_of ds ≡ None) where
  abbrev TT : Table
  TT = T ds none

  abbrev CC : Counts
  CC = C ds none

  abbrev Old : ℕ → Type 0
  Old v = (first_entry (M ds none) ≤ v) × (v < first_in (M ds none))

  -- no name stands for an entry value
  module _ (v : ℕ) (old : Old v) where
    entity_lacks : (n : Text) (e : Entity) → entity_of TT n ≡ Some e → Lacks v (meaning_term false CC (declared_as e))
    entity_lacks n (a_constant k s) q =
        let a = slice_get_within (const_sorts (M ds none)) k _ (numbered_entity ds none n (a_constant k s) q) in
        let b = map_length (λ c. c.sort) (M ds none).consts in
        let l = old.0 in
        different v k (λ e. omega (arith, a, b, l, e))
    entity_lacks n (a_global k s) q =
        let a = slice_get_within (global_sorts (M ds none)) k _ (numbered_entity ds none n (a_global k s) q) in
        let b = map_length (λ c. c.sort) (M ds none).consts in
        let d = map_length (λ c. c.sort) (M ds none).globals in
        let c1 = constants_count ds none in
        let l = old.0 in
        different v (CC.constants + k) (λ e. omega (arith, a, b, d, c1, l, e))
    entity_lacks n (a_function h) q = refl
    entity_lacks n (a_synonym s) q = refl
    entity_lacks n (a_procedure k d) q = refl

    vars_lack : (w : Part) (vs : List Var) → AllByRecursion (λ (u : Var). first_parameter CC ≤ u.number) vs
        → AllByRecursion (λ (u : Var). Lacks v (meaning_term false CC (var_in w u))) vs
    vars_lack w [] h = tt
    vars_lack w (u ∷ vs) h =
        let b = map_length (λ c. c.sort) (M ds none).consts in
        let d = map_length (λ c. c.sort) (M ds none).globals in
        let c1 = constants_count ds none in
        let g1 = globals_count ds none in
        let l = old.1 in
        let z = h.0 in
        (var_in_has (λ m. Lacks v (meaning_term false CC m)) refl w u (different v u.number (λ e. omega (arith, b, d, c1, g1, l, z, e))), vars_lack w vs h.1)

    pub no_old : (w : Part) (vs : List Var) → AllByRecursion (λ (u : Var). first_parameter CC ≤ u.number) vs → NoName v (scope_of TT CC w vs)
    no_old w vs h bs n = name_has (λ m. Lacks v (meaning_term false CC m)) refl (λ o. ⊤) (λ j o i. refl) (record { table = TT; counts = CC; part = w; vars = vs; bounds = bs }) n (entity_lacks n) (vars_lack w vs h) (any_bounds bs)

  -- a clause without fault
  pub clause_typed : (p : Proc) (rest : List Kind) (w : Part) → reads_entry w ≡ false → (vs : List Var) → VarsKnown vs → AreAt ds TT CC (sorts_before ds none rest) vs → AllByRecursion (λ (u : Var). first_parameter CC ≤ u.number) vs
      → (c : Clause) → clause_faults (scope_of TT CC w vs) c ≡ [] → IsClause (M ds none) p (sorts_before ds none rest) (clause_term (scope_of TT CC w vs) c)
  clause_typed p rest w o vs k a h no_clause e = tt
  clause_typed p rest w o vs k a h (clause q x) e = (
    formula_fits ds none rest w vs k a x e,
    λ v z m. let b = lacks v (scope_of TT CC w vs) (no_old v z w vs h) o true x (first_empty _ _ e) in let bad : true ≡ false = sym m ∙ b in cc,
  )

  pub group_clauses : (p : Proc) (rest : List Kind) (w : Part) → reads_entry w ≡ false → (vs : List Var) → VarsKnown vs → AreAt ds TT CC (sorts_before ds none rest) vs → AllByRecursion (λ (u : Var). first_parameter CC ≤ u.number) vs
      → (gs : Groups) → group_clause_faults (scope_of TT CC w vs) gs ≡ [] → AllByRecursion (IsClause (M ds none) p (sorts_before ds none rest)) (clause_terms (scope_of TT CC w vs) gs)
  group_clauses p rest w o vs k a h no_groups e = tt
  group_clauses p rest w o vs k a h (group ns t c gs) e = each ns (clause_typed p rest w o vs k a h c (first_empty _ _ e)) (group_clauses p rest w o vs k a h gs (second_empty (clause_faults (scope_of TT CC w vs) c) _ e))
    where
      each : (ms : List Name) → IsClause (M ds none) p (sorts_before ds none rest) (clause_term (scope_of TT CC w vs) c) → AllByRecursion (IsClause (M ds none) p (sorts_before ds none rest)) (clause_terms (scope_of TT CC w vs) gs)
          → AllByRecursion (IsClause (M ds none) p (sorts_before ds none rest)) (map (λ (n : Name). clause_term (scope_of TT CC w vs) c) ms ++ clause_terms (scope_of TT CC w vs) gs)
      each [] x y = y
      each (m ∷ ms) x y = (x, each ms x y)

  pub with_clauses : (p : Proc) (V : List Kind) (vs : List Var) (cs : List (Option Tree)) → AllByRecursion (IsClause (M ds none) p V) cs → HaveClauses (M ds none) p V (locals_with vs cs)
  with_clauses p V [] cs h = tt
  with_clauses p V (v ∷ vs) [] h = tt
  with_clauses p V (v ∷ vs) (c ∷ cs) h = (h.0, with_clauses p V vs cs h.1)
