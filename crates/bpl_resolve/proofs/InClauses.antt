-- The where clause of each in-parameter is a formula over globals and in-parameters that reads no entry value.
use Rattle.std.proofs.Common.{◌≡◌, refl, ap, sym, ◌∙◌, subst, ◌+◌, ◌≤◌, arith, List, [], ◌∷◌, ◌++◌, append_assoc, append-nil, map, length, length-append, Option, None, ℕ, true, false, inl}
use Rattle.std.specs.List.{AllByRecursion}
use Rattle.logic_core.specs.Tree.{Kind}
use Rattle.logic_core.proofs.EachOf.{every_append}
use Rattle.bpl_ast.specs.Statement.{Signature, Spec as SpecTree, Decl}
use Rattle.bpl_model.specs.Module.{Proc}
use Rattle.bpl_model.specs.Numbering.{defs_of, const_sorts, global_sorts, in_sorts}
use Rattle.bpl_model.specs.Typed.{IsClause, HaveClauses}
use Rattle.bpl_scopes.specs.declared.part.Part.TheVariants.{ClauseOfIn as in_clause_of_in}
use Rattle.bpl_scopes.specs.declared.part.Role.TheVariants.{In as in_parameter, Out as out_parameter}
use Rattle.bpl_scopes.specs.Scopes.{Text, Table, Counts, names_of, Var}
use Rattle.bpl_faults.specs.ExprFaults.{clause_faults, group_clause_faults}
use Rattle.bpl_declaration_faults.specs.Variables.{vars_from, first_parameter, in_vars, out_vars, parameters, scope_of}
use Rattle.bpl_declaration_faults.specs.DeclFaults.{fault_of, parameter_clause_faults}
use Rattle.bpl_resolve.specs.Elaborate.{clause_term, clause_terms, Implemented, proc_of}
use Rattle.bpl_resolve.proofs.HasSort.{first_empty, second_empty}
use Rattle.bpl_resolve.proofs.EntriesFine.{SignatureFine}
use Rattle.bpl_resolve.proofs.ModuleSorts.{T, C, M, fine, constants_count, globals_count, sorts_before, all_at}
use Rattle.bpl_resolve.proofs.BodyTyped.{ins_sorts}
use Rattle.bpl_resolve.proofs.OutClauses.{numbers_from, no_old, with_clauses}
use Rattle.bpl_ast.specs.Place.{Name, Ty}
use Rattle.bpl_ast.specs.Tree.{Groups, no_groups, group, Clause, no_clause, clause}
use Rattle.bpl_terms.specs.Terms.{sort_or_int}
use Rattle.bpl_scopes.specs.Scopes.{signature_names, Scope, texts_of}
use Rattle.bpl_resolve.proofs.Formulas.{formula_sorted}
use Rattle.bpl_resolve.proofs.Unmentioned.{lacks}
use Rattle.bpl_resolve.proofs.ScopesKnown.{VarsKnown, scope_known, vars_from_known, vars_joined}
use Rattle.bpl_resolve.proofs.ScopesFit.{AreAt, VarsFit, vars_fit, vars_are_at, scope_fits}

module _ (ds : List Decl) (none : fault_of ds ≡ None) where
  abbrev TT : Table
  TT = T ds none

  abbrev CC : Counts
  CC = C ds none

  abbrev kind_at : Var → Kind
  kind_at v = sort_or_int v.sort

  abbrev Rest : Signature → List Kind
  Rest g = map kind_at (in_vars TT CC g)

  three : {A : Type 0} (xs ys zs ws : List A) → (xs ++ (ys ++ zs)) ++ ws ≡ xs ++ (ys ++ (zs ++ ws))
  three xs ys zs ws = append_assoc xs (ys ++ zs) ws ∙ ap (λ w. xs ++ w) (append_assoc ys zs ws)

  long : length (const_sorts (M ds none) ++ (global_sorts (M ds none) ++ global_sorts (M ds none))) ≡ first_parameter CC
  long = length-append (const_sorts (M ds none)) _ ∙ λ i. constants_count ds none i + (length-append (global_sorts (M ds none)) (global_sorts (M ds none)) ∙ λ j. globals_count ds none j + globals_count ds none j) i

  parameters_known : (g : Signature) → SignatureFine TT CC g → VarsKnown (parameters TT CC g)
  parameters_known g s = vars_joined TT CC (fine ds none) (in_vars TT CC g) (out_vars TT CC g) (vars_from_known TT CC (fine ds none) _ in_parameter _ g.ins s.ins_fine) (vars_from_known TT CC (fine ds none) _ out_parameter _ g.outs s.outs_fine)

  parameters_from : (g : Signature) → AllByRecursion (λ (u : Var). first_parameter CC ≤ u.number) (parameters TT CC g)
  parameters_from g = every_append _ (in_vars TT CC g) (out_vars TT CC g) (numbers_from TT _ in_parameter _ _ (names_of g.ins) (omega arith)) (numbers_from TT _ out_parameter _ _ (names_of g.outs) (omega arith))

  abbrev V : Signature → List Kind
  V g = sorts_before ds none (Rest g)

  abbrev Here : Signature → Scope
  Here g = scope_of TT CC in_clause_of_in (parameters TT CC g)

  ins_at : (g : Signature) → AreAt ds TT CC (V g) (in_vars TT CC g)
  ins_at g = subst (λ w. AreAt ds TT CC w (in_vars TT CC g)) (three (const_sorts (M ds none)) (global_sorts (M ds none)) (global_sorts (M ds none)) _ ∙ ap (sorts_before ds none) (append-nil (Rest g)))
      (vars_are_at ds TT CC (const_sorts (M ds none) ++ (global_sorts (M ds none) ++ global_sorts (M ds none))) [] (texts_of (signature_names g)) in_parameter (first_parameter CC) (names_of g.ins) long)

  outs_fit : (g : Signature) (hidden : List Text) (k : ℕ) (ps : List (Name × Ty)) → VarsFit ds TT CC (V g) (defs_of (M ds none)) (Here g) (vars_from TT hidden out_parameter k ps)
  outs_fit g hidden k [] = tt
  outs_fit g hidden k (p ∷ ps) = ((λ b o. inl refl), outs_fit g hidden (k + 1) ps)

  clause_ok : (p : Proc) (g : Signature) → SignatureFine TT CC g → (c : Clause) → clause_faults (Here g) c ≡ [] → IsClause (M ds none) p (V g) (clause_term (Here g) c)
  clause_ok p g s no_clause e = tt
  clause_ok p g s (clause q x) e = (
    formula_sorted (V g) (defs_of (M ds none)) (Here g) (scope_known TT CC (fine ds none) CC in_clause_of_in (parameters TT CC g) [] (parameters_known g s)) tt
        (scope_fits ds TT CC (V g) (defs_of (M ds none)) in_clause_of_in (all_at ds none (Rest g) in_clause_of_in) (parameters TT CC g) []
        (every_append _ (in_vars TT CC g) (out_vars TT CC g) (vars_fit ds TT CC (V g) (defs_of (M ds none)) (Here g) (in_vars TT CC g) (ins_at g)) (outs_fit g _ _ (names_of g.outs)))) tt x e,
    λ v z m. let b = lacks v (Here g) (no_old ds none v z in_clause_of_in (parameters TT CC g) (parameters_from g)) refl true x (first_empty _ _ e) in let bad : true ≡ false = sym m ∙ b in cc,
  )

  group_ok : (p : Proc) (g : Signature) → SignatureFine TT CC g → (gs : Groups) → group_clause_faults (Here g) gs ≡ [] → AllByRecursion (IsClause (M ds none) p (V g)) (clause_terms (Here g) gs)
  group_ok p g s no_groups e = tt
  group_ok p g s (group ns t c gs) e = every_append _ (map (λ (n : Name). clause_term (Here g) c) ns) _ (each ns (clause_ok p g s c (first_empty _ _ e))) (group_ok p g s gs (second_empty (clause_faults (Here g) c) _ e))
    where
      each : (ms : List Name) → IsClause (M ds none) p (V g) (clause_term (Here g) c) → AllByRecursion (IsClause (M ds none) p (V g)) (map (λ (n : Name). clause_term (Here g) c) ms)
      each [] x = tt
      each (m ∷ ms) x = (x, each ms x)

  pub in_clauses_typed : (n : Text) (g : Signature) (ss : List SpecTree) (i : Option Implemented) → SignatureFine TT CC g → parameter_clause_faults TT CC g ≡ []
      → HaveClauses (M ds none) (proc_of TT CC n g ss i) (in_sorts (M ds none) (proc_of TT CC n g ss i)) (proc_of TT CC n g ss i).ins
  in_clauses_typed n g ss i s e = subst (λ w. HaveClauses (M ds none) (proc_of TT CC n g ss i) (sorts_before ds none w) (proc_of TT CC n g ss i).ins) (sym (ins_sorts ds none n g ss i))
      (with_clauses ds none (proc_of TT CC n g ss i) (V g) (in_vars TT CC g) _ (group_ok (proc_of TT CC n g ss i) g s g.ins (first_empty _ _ e)))
