-- In the module of a program without faults the where clause of each local is a formula over the procedure's variables that reads no entry value.
use Rattle.std.proofs.Common.{◌≡◌, refl, sym, subst, ◌≤◌, arith, List, [], ◌∷◌, ◌++◌, map, Some, None}
use Rattle.std.specs.Prelude.{flat_map}
use Rattle.std.specs.List.{AllByRecursion}
use Rattle.logic_core.specs.Tree.{Kind}
use Rattle.logic_core.proofs.EachOf.{every_append}
use Rattle.bpl_ast.specs.Tree.{Groups}
use Rattle.bpl_ast.specs.Statement.{Signature, Body, Spec as SpecTree, Decl}
use Rattle.bpl_model.specs.Module.{Proc}
use Rattle.bpl_model.specs.Numbering.{sorts_of}
use Rattle.bpl_model.specs.Typed.{IsClause, HaveClauses}
use Rattle.bpl_scopes.specs.declared.part.Part.TheVariants.{ClauseOfLocal as in_clause_of_local}
use Rattle.bpl_scopes.specs.declared.part.Role.TheVariants.{In as in_parameter, Out as out_parameter, Local as local_variable}
use Rattle.bpl_scopes.specs.Scopes.{Text, Table, Counts, names_of, texts_of, Var}
use Rattle.bpl_scopes.specs.TypeFaults.{group_type_faults}
use Rattle.bpl_declaration_faults.specs.Variables.{first_parameter, in_vars, out_vars, local_vars, parameters, body_vars, locals_of, names_in_body, scope_of}
use Rattle.bpl_declaration_faults.specs.DeclFaults.{fault_of, local_faults}
use Rattle.bpl_terms.specs.Terms.{sort_or_int}
use Rattle.bpl_resolve.specs.Elaborate.{clause_terms, proc_of}
use Rattle.bpl_resolve.proofs.HasSort.{first_empty, second_empty}
use Rattle.bpl_resolve.proofs.ScopesKnown.{VarsKnown}
use Rattle.bpl_resolve.proofs.ModuleSorts.{T, C, M, sorts_before}
use Rattle.bpl_resolve.proofs.OutClauses.{numbers_from, group_clauses, with_clauses}
use Rattle.bpl_resolve.proofs.BodyTyped.{sorts_are, kinds_at}

module _ (ds : List Decl) (none : fault_of ds ≡ None) (n : Text) (g : Signature) (ss : List SpecTree) (h : Signature) (b : Body) where
  abbrev TT : Table
  TT = T ds none

  abbrev CC : Counts
  CC = C ds none

  abbrev PP : Proc
  PP = proc_of TT CC n g ss (Some (h, b))

  abbrev kind_at : Var → Kind
  kind_at v = sort_or_int v.sort

  abbrev Rest : List Kind
  Rest = map kind_at (in_vars TT CC h) ++ (map kind_at (out_vars TT CC h) ++ map kind_at (local_vars TT CC h b.locals))

  numbers : AllByRecursion (λ (u : Var). first_parameter CC ≤ u.number) (body_vars TT CC h b.locals)
  numbers = every_append _ (parameters TT CC h) (local_vars TT CC h b.locals) (every_append _ (in_vars TT CC h) (out_vars TT CC h) (numbers_from TT _ in_parameter _ _ (names_of h.ins) (omega arith)) (numbers_from TT _ out_parameter _ _ (names_of h.outs) (omega arith)))
      (numbers_from TT _ local_variable _ _ (locals_of b.locals) (omega arith))

  module _ (ins_same : map kind_at (in_vars TT CC g) ≡ map kind_at (in_vars TT CC h)) (outs_same : map kind_at (out_vars TT CC g) ≡ map kind_at (out_vars TT CC h)) (known : VarsKnown (body_vars TT CC h b.locals)) where
    all_clauses : (vs : List Groups) → flat_map (local_faults TT CC h b.locals) vs ≡ [] → AllByRecursion (IsClause (M ds none) PP (sorts_before ds none Rest)) (flat_map (clause_terms (scope_of TT CC in_clause_of_local (body_vars TT CC h b.locals))) vs)
    all_clauses [] e = tt
    all_clauses (v ∷ vs) e = every_append _ (clause_terms (scope_of TT CC in_clause_of_local (body_vars TT CC h b.locals)) v) _
        (group_clauses ds none PP Rest in_clause_of_local refl (body_vars TT CC h b.locals) known (kinds_at ds none n g ss h b None ins_same outs_same known) numbers v
        (second_empty (group_type_faults TT (texts_of (names_in_body h b.locals)) v) _ (first_empty _ _ e))) (all_clauses vs (second_empty (local_faults TT CC h b.locals v) _ e))

    pub local_clauses_typed : flat_map (local_faults TT CC h b.locals) b.locals ≡ [] → HaveClauses (M ds none) PP (sorts_of (M ds none) PP) PP.locals
    local_clauses_typed e = subst (λ w. HaveClauses (M ds none) PP w PP.locals) (sym (sorts_are ds none n g ss h b None ins_same outs_same known))
        (with_clauses ds none PP (sorts_before ds none Rest) (local_vars TT CC h b.locals) _ (all_clauses b.locals e))
