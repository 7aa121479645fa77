-- The scope of a body fits its procedure in the module of a program without faults; so a body without faults is one that the module's type keeps.
use Rattle.std.proofs.Common.{◌≡◌, refl, ap, sym, ◌∙◌, inl, inr, ◌⊎◌, subst, ℕ, ◌+◌, ◌≤◌, arith, false, List, [], ◌++◌, append_assoc, map, length, length-append, Option, Some, None}
use Rattle.std.specs.Prelude.{slice_get}
use Rattle.std.specs.List.{AllByRecursion}
use Rattle.std.proofs.lemmas.Option.{slice_get_within}
use Rattle.bv_base.specs.declared.place.Place.{Place}
use Rattle.logic_core.specs.Tree.{Kind}
use Rattle.logic_core.proofs.EachOf.{every_both}
use Rattle.bpl_ast.specs.Place.{Name, Ty}
use Rattle.bpl_ast.specs.Tree.{Groups}
use Rattle.bpl_ast.specs.Statement.{Signature, Body, Spec as SpecTree, Decl}
use Rattle.bpl_model.specs.Module.{Proc}
use Rattle.bpl_model.specs.Numbering.{const_sorts, global_sorts, local_sorts, sorts_of, defs_of, first_out}
use Rattle.bpl_model.specs.Typed.{MayBeSet, AreTyped}
use Rattle.bpl_scopes.specs.declared.part.Part.TheVariants.{Body as in_body, ClauseOfIn as in_clause_of_in, ClauseOfOut as in_clause_of_out, ClauseOfLocal as in_clause_of_local}
use Rattle.bpl_scopes.specs.declared.part.Role.{Role}
use Rattle.bpl_scopes.specs.declared.part.Role.TheVariants.{In as in_parameter, Out as out_parameter, Local as local_variable}
use Rattle.bpl_scopes.specs.Scopes.{Text, Entity, a_constant, a_global, a_function, a_synonym, a_procedure, no_counts, entity_of, names_of, texts_of, signature_names, Contract, Var, Scope, Meaning, stands_for, declared_as, var_of, declared_meaning, free_meaning, meaning}
use Rattle.bpl_scopes.specs.Sorts.{sort_of_type, sorts_of_names, sort_of_meaning}
use Rattle.bpl_scopes.specs.TypeFaults.{group_type_faults}
use Rattle.bpl_statement_faults.specs.StmtFaults.{BodyScope, labels_of, role_faults, set_faults, target_faults, stmts_faults, outermost}
use Rattle.bpl_declaration_faults.specs.Variables.{first_parameter, in_vars, out_vars, local_vars, parameters, body_vars, locals_of, scope_of}
use Rattle.bpl_declaration_faults.specs.DeclFaults.{fault_of}
use Rattle.bpl_terms.specs.Terms.{sort_or_int, meaning_term, global_number}
use Rattle.bpl_resolve.specs.Elaborate.{number_of_term, procedure_number, Implemented, proc_of, stmts_of}
use Rattle.bpl_resolve.proofs.HasSort.{Known}
use Rattle.bpl_resolve.proofs.Faultless.{EachKnown, groups_known}
use Rattle.bpl_resolve.proofs.EntriesFine.{entity_has, entity_fine}
use Rattle.bpl_resolve.proofs.ScopesKnown.{VarsKnown, scope_known, fine_type}
use Rattle.bpl_resolve.proofs.Numbered.{length_clauses}
use Rattle.bpl_resolve.proofs.ScopesFit.{AreAt, vars_fit, scope_fits}
use Rattle.bpl_resolve.proofs.GlobalNames.{global_names, IsNamed, named}
use Rattle.bpl_resolve.proofs.ModuleSorts.{T, C, M, fine, numbered_entity, constants_count, globals_count, sorts_before, all_at, same_locals, length_vars, slice_left, slice_right}
use Rattle.bpl_resolve.proofs.TermSorts.{Fits}
use Rattle.bpl_resolve.proofs.TargetVariables.{Ready, IsSet}
use Rattle.bpl_resolve.proofs.Statements.{IsCallee, list_typed}
use Rattle.bpl_resolve.proofs.ProcedureVariables.{map_length, var_found, columns, Later, body_later, kinds_same, each_known, length_all_clauses}

module _ (ds : List Decl) (none : fault_of ds ≡ None) where
  signature_known : (hidden : List Text) (gs : Groups) → group_type_faults (T ds none) hidden gs ≡ [] → EachKnown (sorts_of_names (T ds none) hidden (names_of gs))
  signature_known hidden gs e = each_known (T ds none) hidden (names_of gs) (groups_known (T ds none) hidden (fine_type (T ds none) (C ds none) (fine ds none) hidden) gs e)

  pub ins_sorts : (n : Text) (g : Signature) (ss : List SpecTree) (i : Option Implemented) → local_sorts (proc_of (T ds none) (C ds none) n g ss i).ins ≡ map (λ (v : Var). sort_or_int v.sort) (in_vars (T ds none) (C ds none) g)
  ins_sorts n g ss i = same_locals (in_vars (T ds none) (C ds none) g) _ (length_clauses (scope_of (T ds none) (C ds none) in_clause_of_in (parameters (T ds none) (C ds none) g)) g.ins ∙ sym (length_vars (T ds none) _ in_parameter _ (names_of g.ins)))

  pub outs_sorts : (n : Text) (g : Signature) (ss : List SpecTree) (i : Option Implemented) → local_sorts (proc_of (T ds none) (C ds none) n g ss i).outs ≡ map (λ (v : Var). sort_or_int v.sort) (out_vars (T ds none) (C ds none) g)
  outs_sorts n g ss i = same_locals (out_vars (T ds none) (C ds none) g) _ (length_clauses (scope_of (T ds none) (C ds none) in_clause_of_out (parameters (T ds none) (C ds none) g)) g.outs ∙ sym (length_vars (T ds none) _ out_parameter _ (names_of g.outs)))

  pub locals_sorts : (n : Text) (g : Signature) (ss : List SpecTree) (h : Signature) (b : Body) → local_sorts (proc_of (T ds none) (C ds none) n g ss (Some (h, b))).locals ≡ map (λ (v : Var). sort_or_int v.sort) (local_vars (T ds none) (C ds none) h b.locals)
  locals_sorts n g ss h b = same_locals (local_vars (T ds none) (C ds none) h b.locals) _ (length_all_clauses (scope_of (T ds none) (C ds none) in_clause_of_local (body_vars (T ds none) (C ds none) h b.locals)) b.locals ∙ sym (length_vars (T ds none) _ local_variable _ (locals_of b.locals)))

  pub name_at : (n : Text) (x : Entity) → entity_of (T ds none) n ≡ Some x → IsNamed ds (T ds none) (C ds none) (global_names ds (T ds none) (C ds none) (M ds none).globals) n x
  name_at n x e = entity_has (IsNamed ds (T ds none) (C ds none) (global_names ds (T ds none) (C ds none) (M ds none).globals)) (T ds none) (named ds (T ds none) (C ds none) [] no_counts 0 ds refl) n x e

  consts_length : length (M ds none).consts ≡ (C ds none).constants
  consts_length = sym (map_length _ (M ds none).consts) ∙ constants_count ds none

  globals_length : length (M ds none).globals ≡ (C ds none).globals
  globals_length = sym (map_length _ (M ds none).globals) ∙ globals_count ds none

  -- a body h, b of the procedure n with the contract g, ss; both have the same sorts of parameters
  module _ (n : Text) (g : Signature) (ss : List SpecTree) (h : Signature) (b : Body) (ms : Option (List Text)) where
    abbrev pub P : Proc
    P = proc_of (T ds none) (C ds none) n g ss (Some (h, b))

    abbrev pub S : Scope
    S = scope_of (T ds none) (C ds none) in_body (body_vars (T ds none) (C ds none) h b.locals)

    abbrev pub B : BodyScope
    B = record { scope = S; modified = ms; labels = texts_of (labels_of b.stmts) }

    abbrev pub rest_of : {A : Type 0} → (Var → A) → List A
    rest_of F = map F (in_vars (T ds none) (C ds none) h) ++ (map F (out_vars (T ds none) (C ds none) h) ++ map F (local_vars (T ds none) (C ds none) h b.locals))

    abbrev pub kind_at : Var → Kind
    kind_at v = sort_or_int v.sort

    abbrev pub N : List Text
    N = map (λ c. c.name) (M ds none).consts ++ (global_names ds (T ds none) (C ds none) (M ds none).globals ++ (global_names ds (T ds none) (C ds none) (M ds none).globals ++ rest_of (λ (v : Var). v.name)))

    module _ (ins_same : map kind_at (in_vars (T ds none) (C ds none) g) ≡ map kind_at (in_vars (T ds none) (C ds none) h))
        (outs_same : map kind_at (out_vars (T ds none) (C ds none) g) ≡ map kind_at (out_vars (T ds none) (C ds none) h))
        (known : VarsKnown (body_vars (T ds none) (C ds none) h b.locals)) where
      pub sorts_are : sorts_of (M ds none) P ≡ sorts_before ds none (rest_of kind_at)
      sorts_are = λ i. sorts_before ds none ((ins_sorts n g ss (Some (h, b)) ∙ ins_same) i ++ ((outs_sorts n g ss (Some (h, b)) ∙ outs_same) i ++ locals_sorts n g ss h b i))

      three : {A : Type 0} (xs ys zs ws : List A) → (xs ++ (ys ++ zs)) ++ ws ≡ xs ++ (ys ++ (zs ++ ws))
      three xs ys zs ws = append_assoc xs (ys ++ zs) ws ∙ ap (λ w. xs ++ w) (append_assoc ys zs ws)

      three_long : {A : Type 0} (xs ys : List A) → length xs ≡ (C ds none).constants → length ys ≡ (C ds none).globals → length (xs ++ (ys ++ ys)) ≡ first_parameter (C ds none)
      three_long xs ys e f = length-append xs (ys ++ ys) ∙ λ i. e i + (length-append ys ys ∙ λ j. f j + f j) i

      pub kinds_at : AreAt ds (T ds none) (C ds none) (sorts_before ds none (rest_of kind_at)) (body_vars (T ds none) (C ds none) h b.locals)
      kinds_at = subst (λ w. AreAt ds (T ds none) (C ds none) w (body_vars (T ds none) (C ds none) h b.locals)) (three (const_sorts (M ds none)) (global_sorts (M ds none)) (global_sorts (M ds none)) (rest_of kind_at))
          (columns kind_at (T ds none) (C ds none) h b.locals (const_sorts (M ds none) ++ (global_sorts (M ds none) ++ global_sorts (M ds none))) (three_long (const_sorts (M ds none)) (global_sorts (M ds none)) (constants_count ds none) (globals_count ds none)))

      abbrev names_before : List Text
      names_before = map (λ c. c.name) (M ds none).consts

      abbrev names_global : List Text
      names_global = global_names ds (T ds none) (C ds none) (M ds none).globals

      names_at : AllByRecursion (λ (v : Var). slice_get N v.number ≡ Some v.name) (body_vars (T ds none) (C ds none) h b.locals)
      names_at = subst (λ w. AllByRecursion (λ (v : Var). slice_get w v.number ≡ Some v.name) (body_vars (T ds none) (C ds none) h b.locals)) (three names_before names_global names_global (rest_of (λ (v : Var). v.name)))
          (columns (λ (v : Var). v.name) (T ds none) (C ds none) h b.locals (names_before ++ (names_global ++ names_global)) (three_long names_before names_global (map_length _ (M ds none).consts ∙ consts_length) (map_length _ (M ds none).globals ∙ globals_length)))

      body_ready : Ready (M ds none) P S N
      body_ready = record {
        known = scope_known (T ds none) (C ds none) (fine ds none) (C ds none) in_body (body_vars (T ds none) (C ds none) h b.locals) [] known;
        bounds_known = tt;
        fits = subst (λ w. Fits w (defs_of (M ds none)) S) (sym sorts_are)
            (scope_fits ds (T ds none) (C ds none) (sorts_before ds none (rest_of kind_at)) (defs_of (M ds none)) in_body (all_at ds none (rest_of kind_at) in_body) (body_vars (T ds none) (C ds none) h b.locals) []
            (vars_fit ds (T ds none) (C ds none) (sorts_before ds none (rest_of kind_at)) (defs_of (M ds none)) S (body_vars (T ds none) (C ds none) h b.locals) kinds_at));
        bounds_fit = tt;
      }

      meaning_is : (m : Text) → meaning S m ≡ free_meaning S m (var_of (body_vars (T ds none) (C ds none) h b.locals) m)
      unfolding meaning
      meaning_is m = refl

      -- a procedure that is called
      called : (f : Text) (o : Option Var) (e : Option Entity) (k : ℕ) (d : Contract) → entity_of (T ds none) f ≡ e → free_meaning S f o ≡ declared_as (a_procedure k d) → entity_of (T ds none) f ≡ Some (a_procedure k d)
      called f (Some v) e k d q z = cc
      called f None None k d q z = let w : declared_meaning in_body None ≡ declared_as (a_procedure k d) = subst (λ u. declared_meaning in_body u ≡ declared_as (a_procedure k d)) q z in cc
      called f None (Some x) k d q z = let w : declared_meaning in_body (Some x) ≡ declared_as (a_procedure k d) = subst (λ u. declared_meaning in_body u ≡ declared_as (a_procedure k d)) q z in q ∙ ap Some (same_entity x (a_procedure k d) w)
        where
          same_entity : (x y : Entity) → declared_as x ≡ declared_as y → x ≡ y
          same_entity x y w = cc

      calls_are : (f : Name) (k : ℕ) (d : Contract) → meaning S f.text ≡ declared_as (a_procedure k d) → IsCallee (M ds none) P B N f d
      calls_are f k d e =
          let q = called f.text (var_of (body_vars (T ds none) (C ds none) h b.locals) f.text) (entity_of (T ds none) f.text) k d refl (sym (meaning_is f.text) ∙ e) in
          let r = numbered_entity ds none f.text (a_procedure k d) q in
          let y = entity_fine (T ds none) (C ds none) (fine ds none) f.text (a_procedure k d) q in
          record {
            callee = proc_of (T ds none) (C ds none) f.text d.signature r.1 r.0;
            is_named = subst (λ w. slice_get (M ds none).procs (procedure_number w) ≡ Some (proc_of (T ds none) (C ds none) f.text d.signature r.1 r.0)) (sym q) r.2;
            ins_known = signature_known (texts_of (signature_names d.signature)) d.signature.ins y.ins_fine;
            outs_known = signature_known (texts_of (signature_names d.signature)) d.signature.outs y.outs_fine;
            ins_are = sym (ins_sorts f.text d.signature r.1 r.0 ∙ kinds_same (T ds none) (texts_of (signature_names d.signature)) in_parameter (first_parameter (C ds none)) (names_of d.signature.ins));
            outs_are = sym (outs_sorts f.text d.signature r.1 r.0 ∙ kinds_same (T ds none) (texts_of (signature_names d.signature)) out_parameter (first_parameter (C ds none) + length (names_of d.signature.ins)) (names_of d.signature.outs));
          }

      -- a variable that is set
      abbrev SetAs : Meaning → Text → Type 0
      SetAs o m = (k : Kind) × MayBeSet (M ds none) P (number_of_term (meaning_term false (C ds none) o)) × (slice_get N (number_of_term (meaning_term false (C ds none) o)) ≡ Some m)
          × (sort_of_meaning S o ≡ Some k) × (slice_get (sorts_of (M ds none) P) (number_of_term (meaning_term false (C ds none) o)) ≡ Some k)

      ins_long : length P.ins ≡ length (names_of h.ins)
      ins_long = sym (map_length _ P.ins) ∙ (ap length (ins_sorts n g ss (Some (h, b)) ∙ ins_same) ∙ (map_length _ (in_vars (T ds none) (C ds none) h) ∙ length_vars (T ds none) _ in_parameter _ (names_of h.ins)))

      first_out_is : first_out (M ds none) P ≡ first_parameter (C ds none) + length (names_of h.ins)
      first_out_is = (λ i. consts_length i + globals_length i + globals_length i + ins_long i) ∙ omega arith

      abbrev VarGood : Var → Type 0
      VarGood v = (slice_get (sorts_before ds none (rest_of kind_at)) v.number ≡ Some (kind_at v)) × ((slice_get N v.number ≡ Some v.name) × (Known v.sort × Later (first_parameter (C ds none) + length (names_of h.ins)) v))

      vars_good : AllByRecursion VarGood (body_vars (T ds none) (C ds none) h b.locals)
      vars_good = every_both _ _ (body_vars (T ds none) (C ds none) h b.locals) kinds_at (every_both _ _ (body_vars (T ds none) (C ds none) h b.locals) names_at (every_both _ _ (body_vars (T ds none) (C ds none) h b.locals) known (body_later (T ds none) (C ds none) h b.locals)))

      out_or_local : (r : Role) (p : Place) (k j : ℕ) → (r ≡ in_parameter) ⊎ (k ≤ j) → role_faults r p ≡ [] → k ≤ j
      out_or_local in_parameter p k j o e = cc
      out_or_local r p k j (inr l) e = l
      out_or_local out_parameter p k j (inl q) e = cc
      out_or_local local_variable p k j (inl q) e = cc

      var_set : (v : Var) (m : Text) (p : Place) → VarGood v → v.name ≡ m → role_faults v.role p ≡ [] → SetAs (stands_for v) m
      var_set v m p q z e =
          let l = out_or_local v.role p _ v.number q.1.1.1 e in
          let s = subst (λ w. slice_get w v.number ≡ Some (kind_at v)) (sym sorts_are) q.0 in
          let k = q.1.1.0.0 in
          let u : kind_at v ≡ k = ap sort_or_int q.1.1.0.1 in
          let w = slice_get_within (sorts_of (M ds none) P) v.number (kind_at v) s in
          let f = first_out_is in
          (k, inr (omega (arith, l, f), w), q.1.0 ∙ ap Some z, q.1.1.0.1, s ∙ ap Some u)

      global_set : (m : Text) (k : ℕ) (s : Ty) → entity_of (T ds none) m ≡ Some (a_global k s) → SetAs (declared_as (a_global k s)) m
      global_set m k s e =
          let a = numbered_entity ds none m (a_global k s) e in
          let y = fine_type (T ds none) (C ds none) (fine ds none) [] s (entity_fine (T ds none) (C ds none) (fine ds none) m (a_global k s) e) in
          let u : sort_or_int (sort_of_type (T ds none) [] s) ≡ y.0 = ap sort_or_int y.1 in
          let w = slice_get_within (global_sorts (M ds none)) k _ a in
          let c1 = consts_length in
          let g1 = globals_length in
          let g2 = globals_count ds none in
          let i = slice_right names_before (names_global ++ (names_global ++ rest_of (λ (v : Var). v.name))) (C ds none).constants k (map_length _ (M ds none).consts ∙ consts_length) ∙ slice_left names_global _ k m (name_at m (a_global k s) e) in
          let j = (all_at ds none (rest_of kind_at) in_body).globals refl m k s e false in
          (y.0, inl (omega (arith, c1), omega (arith, c1, g1, g2, w)), i, y.1, subst (λ w. slice_get w (global_number (C ds none) k) ≡ Some y.0) (sym sorts_are) (j ∙ ap Some u))

      entity_set : (m : Text) (p : Place) (o : Option Entity) → entity_of (T ds none) m ≡ o → set_faults B m (declared_meaning in_body o) p ≡ [] → SetAs (declared_meaning in_body o) m
      entity_set m p None q e = cc
      entity_set m p (Some (a_constant k s)) q e = cc
      entity_set m p (Some (a_global k s)) q e = global_set m k s q
      entity_set m p (Some (a_function f)) q e = cc
      entity_set m p (Some (a_synonym s)) q e = cc
      entity_set m p (Some (a_procedure k d)) q e = cc

      free_set : (m : Text) (p : Place) (o : Option Var) → var_of (body_vars (T ds none) (C ds none) h b.locals) m ≡ o → set_faults B m (free_meaning S m o) p ≡ [] → SetAs (free_meaning S m o) m
      free_set m p None q e = entity_set m p (entity_of (T ds none) m) refl e
      free_set m p (Some v) q e = let r = var_found VarGood (body_vars (T ds none) (C ds none) h b.locals) m v vars_good q in var_set v m p r.0 r.1 e

      sets_are : (m : Name) → target_faults B m ≡ [] → IsSet (M ds none) P S N m
      sets_are m e =
          let q = meaning_is m.text in
          let r = subst (λ o. SetAs o m.text) (sym q) (free_set m.text m.at _ refl (subst (λ o. set_faults B m.text o m.at ≡ []) q e)) in
          record { may = r.1; named = r.2; kind = r.0; target_is = r.3; variable_is = r.4 }

      pub body_typed : stmts_faults B outermost b.stmts ≡ [] → AreTyped (M ds none) P false [] (stmts_of S b.stmts)
      body_typed e = list_typed (M ds none) P B N (record { ready = body_ready; sets = sets_are; calls = calls_are }) outermost b.stmts e
