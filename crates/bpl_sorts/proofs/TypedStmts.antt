-- The expressions of statements without faults in both readings have their types.
use Rattle.std.proofs.Common.{◌≡◌, ◌∙◌, refl, sym, ap, subst, ℕ, pred, arith, Bool, true, false, nat_eq, Option, Some, None, List, [], ◌∷◌, ◌++◌, map, length}
use Rattle.std.specs.Prelude.{flat_map, slice_get}
use Rattle.std.specs.List.{AllByRecursion, AllZip}
use Rattle.std.proofs.lemmas.Bool.{eqb-true}
use Rattle.logic_core.proofs.Booleans.{both_true}
use Rattle.bv_base.specs.declared.place.Place.{Place}
use Rattle.logic_core.specs.Tree.{Kind, boolean, free}
use Rattle.flow_core.specs.declared.block.Invariant.{Invariant as BlockInvariant}
use Rattle.bpl_ast.specs.Place.{Name, Ty as Written}
use Rattle.bpl_ast.specs.Tree.{Expr, expr, first_place, variable, Exprs, no_exprs, item, Groups}
use Rattle.bpl_ast.specs.Statement.{Target, Guard, Invariant, Stmt as Statement, stmt as statement, Action, assert, assume, havoc, assign, call, branches, loop, «break», «return», goto, Branches, branch, otherwise, no_branch, Stmts as Statements, no_stmts as no_statements, next, Decl}
use Rattle.bpl_model.specs.Module.{Stmt}
use Rattle.bpl_scopes.specs.declared.part.Part.TheVariants.{Body as in_body}
use Rattle.bpl_scopes.specs.Scopes.{table_of, Text, Contract, Entity, a_constant, a_global, a_function, a_synonym, a_procedure, names_of, texts_of, signature_names, entity_of, Var, Scope, Meaning, bound_to, stands_for, declared_as, nothing, meaning, var_in}
use Rattle.bpl_scopes.specs.Sorts.{sort_of_type, sorts_of_names, sort_of_meaning}
use Rattle.bpl_scopes.specs.TypeFaults.{group_type_faults}
use Rattle.bpl_faults.specs.NameFaults.{variable_faults, same_sort_faults}
use Rattle.bpl_faults.specs.ExprFaults.{expr_faults, faults_as, formula_faults, argument_faults, count}
use Rattle.bpl_statement_faults.specs.StmtFaults.{BodyScope, Position, labels_of_list, set_faults, target_faults, target_sort, count_faults, targets_faults, entry_at, indices_faults, sides_sorts, outs_faults, counted_outs_faults, callee_faults, callee_sorts, guard_faults, stmts_faults, stmt_faults, action_faults, branches_faults}
use Rattle.bpl_declaration_faults.specs.DeclFaults.{fault_of}
use Rattle.bpl_terms.specs.Terms.{meaning_term, term_of}
use Rattle.bpl_resolve.specs.Elaborate.{number_of_term, target_number, target_numbers, assignments, arguments, procedure_number, guard_of, labelled_as, stmts_of, stmt_of, action_of, chain_of, others_of}
use Rattle.bpl_resolve.proofs.HasSort.{first_empty, second_empty, has_same}
use Rattle.bpl_resolve.proofs.Faultless.{TypesKnown, groups_known}
use Rattle.bpl_resolve.proofs.EntriesFine.{entity_fine}
use Rattle.bpl_resolve.proofs.ScopesKnown.{VarsKnown, name_has, fine_type}
use Rattle.bpl_resolve.proofs.ModuleSorts.{fine}
use Rattle.bpl_sorts.specs.Types.{Ty, kind_of}
use Rattle.bpl_sorts.specs.Typed.{HasType}
use Rattle.bpl_sorts.specs.Apart.{apart}
use Rattle.bpl_sorts.specs.TypeNames.{type_of}
use Rattle.bpl_sorts.specs.DeclaredTypes.{types_named, Types, declared_types}
use Rattle.bpl_sorts.specs.TypedModule.{IsOptional, IsTruth, IsSide, IsCall, IsStmt, AreStmts}
use Rattle.bpl_sorts.proofs.ReadTypes.{types_fit}
use Rattle.bpl_sorts.proofs.SortReadings.{one_type}
use Rattle.bpl_sorts.proofs.NumberedTypes.{types_numbered}
use Rattle.bpl_sorts.proofs.AlikeScopes.{E, A, TE, TA, CE, hs, TypesAt, VarsAlike, same_procedure, declared_there}
use Rattle.bpl_sorts.proofs.TypedParts.{same_some, CA, s as scope_s, u as scope_u, expression_typed, truth_typed, side_typed, entry_typed, arguments_typed}

counted_true : (r : Bool) (ks js : List (Option Kind)) (p : Place) → counted_outs_faults r ks js p ≡ [] → (r ≡ true) × (outs_faults ks js p ≡ [])
counted_true true ks js p e = (refl, e)
counted_true false ks js p e = absurd (cc)

-- a variable that is set is one that may be named
set_named : (b : BodyScope) (n : Text) (m : Meaning) (p : Place) → set_faults b n m p ≡ [] → variable_faults in_body m p ≡ []
set_named b n (bound_to i k) p e = refl
set_named b n (stands_for v) p e = refl
set_named b n (declared_as (a_constant k t)) p e = refl
set_named b n (declared_as (a_global k t)) p e = refl
set_named b n (declared_as (a_function h)) p e = absurd (cc)
set_named b n (declared_as (a_synonym t)) p e = absurd (cc)
set_named b n (declared_as (a_procedure k c)) p e = absurd (cc)
set_named b n nothing p e = absurd (cc)

-- the term of a variable
abbrev IsFree : Scope → Meaning → Type 0
IsFree z m = (k : Kind) → sort_of_meaning z m ≡ Some k → meaning_term false z.counts m ≡ free (number_of_term (meaning_term false z.counts m))

entity_free : (z : Scope) (e : Entity) → IsFree z (declared_as e)
entity_free z (a_constant i r) k e = refl
entity_free z (a_global i r) k e = refl
entity_free z (a_function h) k e = absurd (cc)
entity_free z (a_synonym r) k e = absurd (cc)
entity_free z (a_procedure i c) k e = absurd (cc)

vars_free : (z : Scope) (vs : List Var) → AllByRecursion (λ (v : Var). IsFree z (var_in in_body v)) vs
vars_free z [] = tt
vars_free z (v ∷ vs) = ((λ k e. refl), vars_free z vs)

labelled_typed : (T : Types) (types : List Ty) (ls : List Name) (x : Stmt) → IsStmt T types x → IsStmt T types (labelled_as ls x)
labelled_typed T types [] x h = h
labelled_typed T types (l ∷ ls) x h = h

module _ (ds : List Decl) (none : fault_of (E ds) ≡ None) (nope : fault_of (A ds) ≡ None) (types : List Ty) (at : TypesAt ds types in_body)
    (vs us : List Var) (vars : VarsAlike types vs us) (knv : VarsKnown vs) (knu : VarsKnown us) (ms ns : Option (List Text)) (ls ks : List Text) where
  abbrev T : Types
  T = declared_types ds

  abbrev s : Scope
  s = scope_s ds none nope types in_body at vs us [] [] [] vars knv knu tt tt tt

  abbrev u : Scope
  u = scope_u ds none nope types in_body at vs us [] [] [] vars knv knu tt tt tt

  abbrev B : BodyScope
  B = record { scope = s; modified = ms; labels = ls }

  abbrev C : BodyScope
  C = record { scope = u; modified = ns; labels = ks }

  truth_has : (f : Bool) (x : Expr) → faults_as s f boolean x ≡ [] → faults_as u f boolean x ≡ [] → IsTruth T types (term_of s x)
  truth_has f x e g = truth_typed ds none nope types in_body at vs us [] [] [] vars knv knu tt tt tt f x e g

  -- ---- targets

  pub record IsTarget (n : Name) : Type 0 where
    pub type : Ty
    pub sort_is : target_sort s n ≡ Some (kind_of type)
    pub other_is : target_sort u n ≡ Some (apart type)
    pub there : slice_get types (target_number s n) ≡ Some type

  abbrev AllTargets : List Name → Type 0
  AllTargets xs = AllByRecursion IsTarget xs

  name_free : (n : Text) → IsFree s (meaning s n)
  name_free n = name_has (IsFree s) (λ k e. absurd (cc)) (λ o. ⊥) (λ j o i k e. absurd i) s n (λ e q. entity_free s e) (vars_free s vs) tt

  target_typed : (n : Name) → target_faults B n ≡ [] → target_faults C n ≡ [] → IsTarget n
  target_typed n e g =
      let r = expression_typed ds none nope types in_body at vs us [] [] [] vars knv knu tt tt tt false (expr n.at (variable n)) (set_named B n.text (meaning s n.text) n.at e) (set_named C n.text (meaning u n.text) n.at g) in
      record { type = r.0; sort_is = r.1; other_is = r.2; there = subst (λ z. HasType types (hs ds) [] z r.0) (name_free n.text (kind_of r.0) r.1) r.3 }

  targets_typed : (xs : List Name) → flat_map (target_faults B) xs ≡ [] → flat_map (target_faults C) xs ≡ [] → AllTargets xs
  targets_typed [] e g = tt
  targets_typed (n ∷ xs) e g = (target_typed n (first_empty _ _ e) (first_empty _ _ g), targets_typed xs (second_empty (target_faults B n) _ e) (second_empty (target_faults C n) _ g))

  -- ---- assignments

  assignments_typed : (ts : List Target) (xs : Exprs) → AllTargets (map (λ (t : Target). t.name) ts) → flat_map (indices_faults s) ts ≡ [] → flat_map (indices_faults u) ts ≡ []
      → argument_faults s (sides_sorts s ts) xs ≡ [] → argument_faults u (sides_sorts u ts) xs ≡ [] → AllByRecursion (IsSide T types) (assignments s ts xs)
  assignments_typed [] xs h e g i j = tt
  assignments_typed (t ∷ ts) no_exprs h e g i j = tt
  assignments_typed (t ∷ ts) (item x xs) h e g i j =
      let n = t.name in
      let y = entry_typed ds none nope types in_body at vs us [] [] [] vars knv knu tt tt tt n.at (target_sort s n) (target_sort u n) (free (target_number s n)) h.0.type t.indices h.0.sort_is h.0.other_is h.0.there (first_empty _ _ e) (first_empty _ _ g) in
      let i1 = second_empty (expr_faults s false x) _ i in
      let j1 = second_empty (expr_faults u false x) _ j in
      let v = side_typed ds none nope types in_body at vs us [] [] [] vars knv knu tt tt tt false x (entry_at s (target_sort s n) t.indices) (entry_at u (target_sort u n) t.indices) y.type y.sort_is y.other_is
      (first_empty _ _ i) (first_empty _ _ j) (first_empty _ _ i1) (first_empty _ _ j1) in (
        record { type = h.0.type; variable = h.0.there; side = y.after (term_of s x) v },
        assignments_typed ts xs h.1 (second_empty (indices_faults s t) _ e) (second_empty (indices_faults u t) _ g)
            (second_empty (same_sort_faults (entry_at s (target_sort s n) t.indices) _ (first_place x)) _ i1) (second_empty (same_sort_faults (entry_at u (target_sort u n) t.indices) _ (first_place x)) _ j1),
      )

  -- ---- calls

  results_typed : (hidden others : List Text) (xs : List Name) (ps : List (Name × Written)) (q : Place) → AllTargets xs → TypesKnown (TE ds) hidden ps → TypesKnown (TA ds) others ps → length ps ≡ length xs
      → outs_faults (map (target_sort s) xs) (sorts_of_names (TE ds) hidden ps) q ≡ [] → outs_faults (map (target_sort u) xs) (sorts_of_names (TA ds) others ps) q ≡ []
      → map (slice_get types) (target_numbers s xs) ≡ map (λ t. Some t) (types_named (table_of ds) ps)
  results_typed hidden others [] [] q h k l z e g = refl
  results_typed hidden others [] (p ∷ ps) q h k l z e g = absurd (omega (arith, z))
  results_typed hidden others (n ∷ xs) [] q h k l z e g = absurd (omega (arith, z))
  results_typed hidden others (n ∷ xs) (p ∷ ps) q h k l z e g =
      let f = types_fit ds hidden others p.1 (k.0).0 (l.0).0 (k.0).1 (l.0).1 in
      let c = has_same (target_sort s n) (sort_of_type (TE ds) hidden p.1) q (kind_of h.0.type, h.0.sort_is) k.0 (first_empty _ _ e) in
      let d = has_same (target_sort u n) (sort_of_type (TA ds) others p.1) q (apart h.0.type, h.0.other_is) l.0 (first_empty _ _ g) in
      let same = one_type h.0.type (type_of ds p.1) (same_some _ _ (sym h.0.sort_is ∙ (c ∙ (k.0).1)) ∙ sym f.0) (same_some _ _ (sym h.0.other_is ∙ (d ∙ (l.0).1)) ∙ sym f.1) in
      let rest = results_typed hidden others xs ps q h.1 k.1 l.1 (ap pred z) (second_empty (same_sort_faults (target_sort s n) (sort_of_type (TE ds) hidden p.1) q) _ e)
      (second_empty (same_sort_faults (target_sort u n) (sort_of_type (TA ds) others p.1) q) _ g) in
      λ i. (h.0.there ∙ ap Some same) i ∷ rest i

  called : (xs : List Name) (f : Name) (es : Exprs) (k j : ℕ) (d c : Contract) → meaning s f.text ≡ declared_as (a_procedure k d) → meaning u f.text ≡ declared_as (a_procedure j c) → AllTargets xs
      → callee_faults B xs (declared_as (a_procedure k d)) (count es) f.at ≡ [] → callee_faults C xs (declared_as (a_procedure j c)) (count es) f.at ≡ []
      → argument_faults s (callee_sorts (TE ds) (declared_as (a_procedure k d))) es ≡ [] → argument_faults u (callee_sorts (TA ds) (declared_as (a_procedure j c))) es ≡ []
      → IsCall T types (procedure_number (entity_of (TE ds) f.text)) (arguments s es) (target_numbers s xs)
  called xs f es k j d c m o h e g i l =
      let a = declared_there ds s f.text (a_procedure k d) m in
      let b = declared_there ds u f.text (a_procedure j c) o in
      let same : d ≡ c = same_procedure ds f.text k j d c a b in
      by_contract (subst (λ (z : Contract). callee_faults C xs (declared_as (a_procedure j z)) (count es) f.at ≡ []) (sym same) g)
      (subst (λ (z : Contract). argument_faults u (callee_sorts (TA ds) (declared_as (a_procedure j z))) es ≡ []) (sym same) l) a (subst (λ (z : Contract). entity_of (TA ds) f.text ≡ Some (a_procedure j z)) (sym same) b)
    where
      by_contract : callee_faults C xs (declared_as (a_procedure j d)) (count es) f.at ≡ [] → argument_faults u (callee_sorts (TA ds) (declared_as (a_procedure j d))) es ≡ []
          → entity_of (TE ds) f.text ≡ Some (a_procedure k d) → entity_of (TA ds) f.text ≡ Some (a_procedure j d) → IsCall T types (procedure_number (entity_of (TE ds) f.text)) (arguments s es) (target_numbers s xs)
      by_contract g' l' a b =
          let hidden = texts_of (signature_names d.signature) in
          let ins = names_of d.signature.ins in
          let outs = names_of d.signature.outs in
          let y = entity_fine (TE ds) (CE ds) (fine (E ds) none) f.text (a_procedure k d) a in
          let z = entity_fine (TA ds) (CA ds none nope types in_body at) (fine (A ds) nope) f.text (a_procedure j d) b in
          let kn : (gs : Groups) → group_type_faults (TE ds) hidden gs ≡ [] → TypesKnown (TE ds) hidden (names_of gs) = λ gs w. groups_known (TE ds) hidden (fine_type (TE ds) (CE ds) (fine (E ds) none) hidden) gs w in
          let ku : (gs : Groups) → group_type_faults (TA ds) hidden gs ≡ [] → TypesKnown (TA ds) hidden (names_of gs) = λ gs w. groups_known (TA ds) hidden (fine_type (TA ds) (CA ds none nope types in_body at) (fine (A ds) nope) hidden) gs w in
          let r = counted_true _ (map (target_sort s) xs) (sorts_of_names (TE ds) hidden outs) f.at (first_empty _ _ e) in
          let r' = counted_true _ (map (target_sort u) xs) (sorts_of_names (TA ds) hidden outs) f.at (first_empty _ _ g') in
          let many = eqb-true (length ins) (count es) (both_true _ _ r.0).0 in
          let others = eqb-true (length outs) (length xs) (both_true (nat_eq (length ins) (count es)) _ r.0).1 in
          let n = types_numbered ds f.text (a_procedure k d) a in
          record {
            callee = n.0;
            there = ap (λ w. slice_get T.procs (procedure_number w)) a ∙ n.1;
            arguments = subst (λ w. AllZip (λ t x. HasType types (hs ds) [] x t) w (arguments s es)) (sym (n.2).ins)
                (arguments_typed ds none nope types in_body at vs us [] [] [] vars knv knu tt tt tt hidden hidden ins es (kn d.signature.ins y.ins_fine) (ku d.signature.ins z.ins_fine) many i l');
            results = results_typed hidden hidden xs outs f.at h (kn d.signature.outs y.outs_fine) (ku d.signature.outs z.outs_fine) others r.1 r'.1 ∙ ap (λ w. map (λ t. Some t) w) (sym (n.2).outs);
          }

  call_typed : (xs : List Name) (f : Name) (es : Exprs) (m o : Meaning) → meaning s f.text ≡ m → meaning u f.text ≡ o → AllTargets xs
      → callee_faults B xs m (count es) f.at ≡ [] → callee_faults C xs o (count es) f.at ≡ []
      → argument_faults s (callee_sorts (TE ds) m) es ≡ [] → argument_faults u (callee_sorts (TA ds) o) es ≡ []
      → IsCall T types (procedure_number (entity_of (TE ds) f.text)) (arguments s es) (target_numbers s xs)
  call_typed xs f es (bound_to i k) o p q h e g a b = absurd (cc)
  call_typed xs f es (stands_for v) o p q h e g a b = absurd (cc)
  call_typed xs f es nothing o p q h e g a b = absurd (cc)
  call_typed xs f es (declared_as (a_constant k t)) o p q h e g a b = absurd (cc)
  call_typed xs f es (declared_as (a_global k t)) o p q h e g a b = absurd (cc)
  call_typed xs f es (declared_as (a_function k)) o p q h e g a b = absurd (cc)
  call_typed xs f es (declared_as (a_synonym t)) o p q h e g a b = absurd (cc)
  call_typed xs f es (declared_as (a_procedure k d)) (bound_to i j) p q h e g a b = absurd (cc)
  call_typed xs f es (declared_as (a_procedure k d)) (stands_for v) p q h e g a b = absurd (cc)
  call_typed xs f es (declared_as (a_procedure k d)) nothing p q h e g a b = absurd (cc)
  call_typed xs f es (declared_as (a_procedure k d)) (declared_as (a_constant j t)) p q h e g a b = absurd (cc)
  call_typed xs f es (declared_as (a_procedure k d)) (declared_as (a_global j t)) p q h e g a b = absurd (cc)
  call_typed xs f es (declared_as (a_procedure k d)) (declared_as (a_function j)) p q h e g a b = absurd (cc)
  call_typed xs f es (declared_as (a_procedure k d)) (declared_as (a_synonym t)) p q h e g a b = absurd (cc)
  call_typed xs f es (declared_as (a_procedure k d)) (declared_as (a_procedure j c)) p q h e g a b = called xs f es k j d c p q h e g a b

  -- ---- statements

  guard_typed : (x : Guard) → guard_faults s x ≡ [] → guard_faults u x ≡ [] → IsOptional T types (guard_of s x)
  guard_typed None e g = tt
  guard_typed (Some x) e g = truth_has false x e g

  invariants_typed : (is : List Invariant) → flat_map (λ (i : Invariant). formula_faults s i.formula) is ≡ [] → flat_map (λ (i : Invariant). formula_faults u i.formula) is ≡ []
      → AllByRecursion (λ (i : BlockInvariant). IsTruth T types i.formula) (map (λ (i : Invariant). record { free = i.free; place = i.at; formula = term_of s i.formula }) is)
  invariants_typed [] e g = tt
  invariants_typed (i ∷ is) e g = (truth_has true i.formula (first_empty _ _ e) (first_empty _ _ g), invariants_typed is (second_empty (formula_faults s i.formula) _ e) (second_empty (formula_faults u i.formula) _ g))

  mutual
    pub list_typed : (w : Position) (ss : Statements) → stmts_faults B w ss ≡ [] → stmts_faults C w ss ≡ [] → AreStmts T types (stmts_of s ss)
    list_typed w no_statements e g = tt
    list_typed w (next x ss) e g =
        let v : Position = record w { ahead = labels_of_list ss ++ w.ahead } in
        (one_typed v x (first_empty _ _ e) (first_empty _ _ g), list_typed w ss (second_empty (stmt_faults B v x) _ e) (second_empty (stmt_faults C v x) _ g))

    one_typed : (w : Position) (x : Statement) → stmt_faults B w x ≡ [] → stmt_faults C w x ≡ [] → IsStmt T types (stmt_of s x)
    one_typed w (statement ts q a) e g = labelled_typed T types ts (action_of s q a) (action_typed w ts q a e g)

    action_typed : (w : Position) (ts : List Name) (q : Place) (a : Action) → action_faults B w (texts_of ts) q a ≡ [] → action_faults C w (texts_of ts) q a ≡ [] → IsStmt T types (action_of s q a)
    action_typed w ts q (assert x) e g = truth_has true x e g
    action_typed w ts q (assume x) e g = truth_has true x e g
    action_typed w ts q (havoc xs) e g = tt
    action_typed w ts q (assign rs xs) e g =
        let e1 = second_empty (count_faults rs xs) _ e in
        let g1 = second_empty (count_faults rs xs) _ g in
        let e2 = second_empty (targets_faults B (map (λ (t : Target). t.name) rs)) _ e1 in
        let g2 = second_empty (targets_faults C (map (λ (t : Target). t.name) rs)) _ g1 in
        let h = targets_typed (map (λ (t : Target). t.name) rs) (first_empty _ _ (first_empty _ _ e1)) (first_empty _ _ (first_empty _ _ g1)) in
        assignments_typed rs xs h (first_empty _ _ e2) (first_empty _ _ g2) (second_empty (flat_map (indices_faults s) rs) _ e2) (second_empty (flat_map (indices_faults u) rs) _ g2)
    action_typed w ts q (call xs f es) e g =
        let h = targets_typed xs (first_empty _ _ (first_empty _ _ e)) (first_empty _ _ (first_empty _ _ g)) in
        let e1 = second_empty (targets_faults B xs) _ e in
        let g1 = second_empty (targets_faults C xs) _ g in
        call_typed xs f es (meaning s f.text) (meaning u f.text) refl refl h (first_empty _ _ e1) (first_empty _ _ g1)
        (second_empty (callee_faults B xs (meaning s f.text) (count es) f.at) _ e1) (second_empty (callee_faults C xs (meaning u f.text) (count es) f.at) _ g1)
    action_typed w ts q (branches bs) e g = chain_typed (record w { around = texts_of ts ++ w.around }) q bs e g
    action_typed w ts q (loop x is ss) e g =
        let e1 = second_empty (guard_faults s x) _ e in
        let g1 = second_empty (guard_faults u x) _ g in (
          guard_typed x (first_empty _ _ e) (first_empty _ _ g),
          invariants_typed is (first_empty _ _ e1) (first_empty _ _ g1),
          list_typed (record w { in_loop = true; around = texts_of ts ++ w.around }) ss (second_empty (flat_map (λ (i : Invariant). formula_faults s i.formula) is) _ e1) (second_empty (flat_map (λ (i : Invariant). formula_faults u i.formula) is) _ g1),
        )
    action_typed w ts q («break» l) e g = tt
    action_typed w ts q «return» e g = tt
    action_typed w ts q (goto xs) e g = tt

    chain_typed : (w : Position) (q : Place) (bs : Branches) → branches_faults B w bs ≡ [] → branches_faults C w bs ≡ [] → IsStmt T types (chain_of s q bs)
    chain_typed w q (branch r x ss bs) e g =
        let e1 = second_empty (guard_faults s x) _ e in
        let g1 = second_empty (guard_faults u x) _ g in
        (guard_typed x (first_empty _ _ e) (first_empty _ _ g), list_typed w ss (first_empty _ _ e1) (first_empty _ _ g1), others_typed w bs (second_empty (stmts_faults B w ss) _ e1) (second_empty (stmts_faults C w ss) _ g1))
    chain_typed w q (otherwise ss) e g = (refl, tt, list_typed w ss e g)
    chain_typed w q no_branch e g = (refl, tt, tt)

    others_typed : (w : Position) (bs : Branches) → branches_faults B w bs ≡ [] → branches_faults C w bs ≡ [] → AreStmts T types (others_of s bs)
    others_typed w (branch r x ss bs) e g =
        let e1 = second_empty (guard_faults s x) _ e in
        let g1 = second_empty (guard_faults u x) _ g in
        ((guard_typed x (first_empty _ _ e) (first_empty _ _ g), list_typed w ss (first_empty _ _ e1) (first_empty _ _ g1), others_typed w bs (second_empty (stmts_faults B w ss) _ e1) (second_empty (stmts_faults C w ss) _ g1)), tt)
    others_typed w (otherwise ss) e g = list_typed w ss e g
    others_typed w no_branch e g = tt
