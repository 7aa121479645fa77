-- Of two procedures with one dependency text, a global variable that is met stands in both modules with one sort and clauses that go alike.
use Rattle.std.specs.Prelude.{◌≡◌, ℕ, zero, suc, ◌+◌, ◌-◌, ◌<◌, ◌≤◌, Bool, true, false, IsTrue, cond, List, [], ◌∷◌, ◌++◌, map, length, slice_get, Option, Some, None}
use Rattle.std.specs.List.{AllByRecursion}
use Rattle.std.proofs.Common.{refl, ap, sym, ◌∙◌, subst, arith}
use Rattle.logic_core.specs.Tree.{Kind, Tree}
use Rattle.bpl_ast.specs.Place.{Name}
use Rattle.bpl_ast.specs.Tree.{Groups, no_groups, group, Clause}
use Rattle.bpl_ast.specs.Statement.{DeclBody, variables, Decl}
use Rattle.bpl_model.specs.Module.{Global, Proc, Module}
use Rattle.bpl_model.specs.Numbering.{first_global, first_entry}
use Rattle.bpl_model.specs.Reach.{own_positions}
use Rattle.bpl_scopes.specs.declared.fault.TypeKind.TheVariants.{Twice as twice}
use Rattle.bpl_scopes.specs.declared.part.Part.TheVariants.{ClauseOfGlobal as in_clause_of_global}
use Rattle.bpl_scopes.specs.Fault.{again}
use Rattle.bpl_scopes.specs.Scopes.{Text, a_global, Table, table_of, Counts, no_counts, counts_after, names_of, only_names, Scope}
use Rattle.bpl_scopes.specs.TypeFaults.{group_type_faults}
use Rattle.bpl_texts.specs.Uses.{type_uses, clause_uses, groups_uses, contract_uses}
use Rattle.bpl_faults.specs.ExprFaults.{clause_faults, group_clause_faults}
use Rattle.bpl_declaration_faults.specs.Variables.{scope_of}
use Rattle.bpl_declaration_faults.specs.DeclFaults.{Before, nothing_before, decl_faults, fault_of}
use Rattle.canonical_text.specs.SameStatement.{bare_decl}
use Rattle.canonical_text.specs.Heads.{bare_head, HaveBody}
use Rattle.bpl_resolve.specs.Elaborate.{module_of}
use Rattle.bpl_resolve.proofs.Ways.{Member}
use Rattle.bpl_resolve.proofs.HasSort.{first_empty, second_empty}
use Rattle.bpl_resolve.proofs.FunctionOrder.{stays}
use Rattle.bpl_resolve.proofs.EntriesFine.{none_faulty}
use Rattle.bpl_resolve.proofs.ModuleSorts.{numbered_entity}
use Rattle.bpl_resolve.proofs.TypeSorts.{member_right}
use Rattle.rebuild_laws.specs.DependencyTexts.{bodies_at, other_positions}
use Rattle.rebuild_laws.specs.Numbers.{Low, AlikeGlobal, GlobalsAlike}
use Rattle.rebuild_laws.proofs.ScopesAlike.{AlikeName, no_vars}
use Rattle.rebuild_laws.proofs.SameExpressionsAlike.{clauses_alike}
use Rattle.rebuild_laws.specs.Twins.{Twins}
use Rattle.rebuild_laws.proofs.NamesInUse.{Used, in_reached}
use Rattle.rebuild_laws.proofs.SameNames.{vars_met, functions_met, new_low, new_function}
use Rattle.rebuild_laws.proofs.MetNumbers.{consts_are, globals_are, BothGlobals, NewVariable, new_const, new_glob, new_ent, new_variable}
use Rattle.rebuild_laws.proofs.GlobalsAlike.{has_text, group_clause, global_with}
use Rattle.rebuild_laws.proofs.MetClauses.{BothClauses, both_clauses}
use Rattle.rebuild_laws.proofs.NamesOfTexts.{twins, twins_back, Functions, low_names}
use Rattle.rebuild_laws.proofs.AxiomsOfTexts.{faults_at, each_used}

-- the clause of a group of groups without faults has none
clause_fine : (s : Scope) (gs : Groups) (n : Text) (c : Clause) → group_clause_faults s gs ≡ [] → group_clause gs n ≡ Some c → clause_faults s c ≡ []
clause_fine s no_groups n c e h = absurd (cc)
clause_fine s (group ns t d gs) n c e h = by (has_text ns n) h (λ f. clause_fine s gs n c (second_empty (clause_faults s d) _ e) f)
  where
    by : (b : Bool) → cond b (Some d) (group_clause gs n) ≡ Some c → (group_clause gs n ≡ Some c → clause_faults s c ≡ []) → clause_faults s c ≡ []
    by true f later = let z : d ≡ c = cc in subst (λ k. clause_faults s k ≡ []) z (first_empty _ _ e)
    by false f later = later f

-- and its names are among those of the groups
clause_within : (gs : Groups) (n : Text) (c : Clause) (m : Text) → group_clause gs n ≡ Some c → Member m (clause_uses [] c) → Member m (groups_uses [] gs)
clause_within no_groups n c m h i = absurd (cc)
clause_within (group ns t d gs) n c m h i = by (has_text ns n) h (λ f. clause_within gs n c m f i)
  where
    by : (b : Bool) → cond b (Some d) (group_clause gs n) ≡ Some c → (group_clause gs n ≡ Some c → Member m (groups_uses [] gs)) → Member m (groups_uses [] (group ns t d gs))
    by true f later =
        let z : d ≡ c = cc in
        member_right m (type_uses [] t) (clause_uses [] d ++ groups_uses [] gs) (stays m (clause_uses [] d) (groups_uses [] gs) (subst (λ k. Member m (clause_uses [] k)) (sym z) i))
    by false f later = member_right m (type_uses [] t) (clause_uses [] d ++ groups_uses [] gs) (member_right m (clause_uses [] d) (groups_uses [] gs) (later f))

-- the groups of a declaration without faults have none
pub groups_fine : (t : Table) (c : Counts) (b : Before) (gs : Groups) → decl_faults t c b (variables gs) ≡ [] → group_clause_faults (scope_of t c in_clause_of_global []) gs ≡ []
groups_fine t c b gs e = second_empty (group_type_faults t [] gs) _ (second_empty (again twice b.names (only_names (names_of gs))) _ e)

-- a global of which the place's sort is known
sort_there : (gs : List Global) (k : ℕ) (g : Global) (s : Kind) → slice_get gs k ≡ Some g → slice_get (map (λ (x : Global). x.sort) gs) k ≡ Some s → g.sort ≡ s
sort_there [] k g s e f = absurd (cc)
sort_there (x ∷ gs) zero g s e f =
    let z : x ≡ g = cc in
    let w : x.sort ≡ s = cc in
    ap (λ (y : Global). y.sort) (sym z) ∙ w
sort_there (x ∷ gs) (suc k) g s e f = sort_there gs k g s e f

module _ (ds : List Decl) (p : Proc) (es : List Decl) (q : Proc) (none : fault_of ds ≡ None) (none_there : fault_of es ≡ None)
    (body : HaveBody (bodies_at ds (own_positions (module_of ds) p))) (body_there : HaveBody (bodies_at es (own_positions (module_of es) q)))
    (own : map bare_decl (bodies_at ds (own_positions (module_of ds) p)) ≡ map bare_decl (bodies_at es (own_positions (module_of es) q)))
    (others : map bare_head (bodies_at ds (other_positions (module_of ds) p)) ≡ map bare_head (bodies_at es (other_positions (module_of es) q))) where
  abbrev M : Module
  M = module_of ds

  abbrev N : Module
  N = module_of es

  abbrev C : Counts
  C = counts_after no_counts ds

  abbrev E : Counts
  E = counts_after no_counts es

  abbrev F : ℕ → Type 0
  F = Functions ds p es q none none_there body body_there own others

  abbrev L : ℕ → Type 0
  L = Low M N (vars_met ds p) (vars_met es q) (new_low ds es) (new_low es ds)

  abbrev lows : (n : Text) → Used ds p n → AlikeName (new_function ds es) (new_low ds es) F L (Used ds p) (table_of ds) (table_of es) C E n
  lows = low_names ds p es q none none_there body body_there own others

  abbrev tw : Twins ds p es q
  tw = twins ds p es q none none_there body body_there own others

  abbrev back : Twins es q ds p
  back = twins_back ds p es q none none_there body body_there own others

  abbrev AlikeHere : ℕ → Type 0
  AlikeHere = AlikeGlobal M N (vars_met ds p) (vars_met es q) (new_low ds es) (new_low es ds) (new_function ds es) F

  -- the k-th global variable
  global_alike : (v k : ℕ) → k < C.globals → v ≡ C.constants + k → (b : BothGlobals ds p es q tw back none none_there k) → new_low ds es v ≡ E.constants + b.new → AlikeHere v
  global_alike v k l z b e =
      let w = both_clauses ds p es q tw back none none_there k b in
      let a = consts_are ds none in
      let d = consts_are es none_there in
      let i : v - first_global M ≡ k = omega (arith, z, a) in
      let j : new_low ds es v - first_global N ≡ b.new = omega (arith, e, d) in
      let f = faults_at (table_of ds) C nothing_before ds w.position w.decl (none_faulty ds none) w.stands in
      let g = groups_fine (table_of ds) C f.0 w.groups (subst (λ x. decl_faults (table_of ds) C f.0 x ≡ []) w.body f.1) in
      let s = sort_there M.globals k (global_with (table_of ds) C b.name w.type w.clause) _ w.here (numbered_entity ds none b.name (a_global k b.type) b.here) in
      let t = sort_there N.globals b.new (global_with (table_of es) E b.name w.new_type w.new_clause) _ w.there (numbered_entity es none_there b.name (a_global b.new b.new_type) b.is_there) in
      record {
        mine = global_with (table_of ds) C b.name w.type w.clause;
        theirs = global_with (table_of es) E b.name w.new_type w.new_clause;
        here = ap (slice_get M.globals) i ∙ w.here;
        there = ap (slice_get N.globals) j ∙ w.there;
        sort = t ∙ (sym b.same ∙ sym s);
        clause = clauses_alike (new_function ds es) (new_low ds es) F L (Used ds p) (table_of ds) (table_of es) C E lows in_clause_of_global [] [] no_vars [] [] refl [] (λ n. refl) w.clause w.new_clause
            (clause_fine (scope_of (table_of ds) C in_clause_of_global []) w.groups b.name w.clause g w.found)
            (each_used (Used ds p) (clause_uses [] w.clause) (λ n y. in_reached w.position w.decl w.reached w.stands (subst (λ x. Member n (contract_uses x)) (sym w.body) (clause_within w.groups b.name w.clause n w.found y))))
            w.same;
      }

  pub globals_alike : GlobalsAlike M N (vars_met ds p) (vars_met es q) (new_low ds es) (new_low es ds) (new_function ds es) (λ g. IsTrue (functions_met ds p g))
  globals_alike v above below met =
      let a = consts_are ds none in
      let c = globals_are ds none in
      by (new_variable ds p es q tw back none none_there v (omega (arith, below, a, c)) met)
    where
      by : NewVariable ds p es q tw back none none_there v → AlikeHere v
      by (new_const l b e) = let a = consts_are ds none in absurd (omega (arith, l, above, a))
      by (new_glob k l z b e) = global_alike v k l z b e
      by (new_ent k l z b e) = let a = consts_are ds none in let c = globals_are ds none in absurd (omega (arith, z, below, a, c))
