-- A statement without faults is one that the module's type keeps, over a scope that fits a procedure of the module.
use Rattle.std.proofs.Common.{◌≡◌, refl, ap, sym, ◌∙◌, inl, inr, ◌⊎◌, subst, ℕ, suc, arith, Bool, true, false, nat_eq, List, [], ◌∷◌, ◌++◌, map, length, Option, Some, None}
use Rattle.std.specs.Prelude.{cond, flat_map, slice_get}
use Rattle.std.specs.List.{AllByRecursion, AllZip}
use Rattle.std.proofs.lemmas.Bool.{eqb-true}
use Rattle.std.proofs.lemmas.Option.{get_or_from_slice_get}
use Rattle.logic_core.proofs.Booleans.{both_true}
use Rattle.bv_base.specs.declared.place.Place.{Place}
use Rattle.logic_core.specs.Tree.{Kind, int, boolean}
use Rattle.logic_core.specs.WellSorted.{IsFormula}
use Rattle.flow_core.specs.State.{sorts_at}
use Rattle.flow_core.specs.declared.block.Invariant.{Invariant as BlockInvariant}
use Rattle.bpl_ast.specs.Place.{Name}
use Rattle.bpl_ast.specs.Tree.{Expr, Exprs}
use Rattle.bpl_ast.specs.Statement.{Target, Guard, Invariant, Stmt as Statement, stmt as statement, Action, assert, assume, havoc, assign, call, branches, loop, «break», «return», goto, Branches, branch, otherwise, no_branch, Stmts as Statements, no_stmts as no_statements, next}
use Rattle.bpl_model.specs.Module.{is_scope, Stmt, Proc, Module}
use Rattle.bpl_model.specs.Numbering.{defs_of, sorts_of, local_sorts}
use Rattle.bpl_model.specs.Typed.{HasSort, IsGuard, IsCall, IsTyped, AreTyped, AreTargets, Fits as FitsTarget}
use Rattle.bpl_scopes.specs.declared.fault.TypeKind.TheVariants.{Arity as arity, BreakHere as break_here}
use Rattle.bpl_scopes.specs.Scopes.{Text, texts_of, Contract, names_of, signature_names, Meaning, bound_to, stands_for, declared_as, nothing, a_constant, a_global, a_function, a_synonym, a_procedure, meaning, entity_of, Scope}
use Rattle.bpl_scopes.specs.Sorts.{sorts_of_names}
use Rattle.bpl_faults.specs.NameFaults.{same_sort_faults}
use Rattle.bpl_faults.specs.ExprFaults.{formula_faults, argument_faults, count}
use Rattle.bpl_statement_faults.specs.StmtFaults.{BodyScope, Position, labels_of_list, target_faults, target_sort, count_faults, targets_faults, indices_faults, sides_sorts, outs_faults, counted_outs_faults, callee_faults, callee_sorts, guard_faults, may_break, stmts_faults, stmt_faults, action_faults, branches_faults}
use Rattle.bpl_terms.specs.Terms.{sort_or_int, term_of}
use Rattle.bpl_resolve.specs.Elaborate.{target_numbers, target_number, arguments, assignments, procedure_number, guard_of, labelled_as, stmts_of, stmt_of, action_of, chain_of, others_of}
use Rattle.bpl_resolve.proofs.HasSort.{first_empty, second_empty, unless_empty, has_same}
use Rattle.bpl_resolve.proofs.Faultless.{EachKnown}
use Rattle.bpl_resolve.proofs.TargetVariables.{Ready, IsSet, AllSet, each_set, are_targets, expr_has, arguments_have, assignments_fit}

chain_scope : (s : Scope) (q : Place) (bs : Branches) → is_scope (chain_of s q bs) ≡ true
chain_scope s q (branch p g ss bs) = refl
chain_scope s q (otherwise ss) = refl
chain_scope s q no_branch = refl

same_either : (c : Bool) (ls : List Text) → cond c ls ls ≡ ls
same_either true ls = refl
same_either false ls = refl

counted_true : (r : Bool) (ks js : List (Option Kind)) (p : Place) → counted_outs_faults r ks js p ≡ [] → (r ≡ true) × (outs_faults ks js p ≡ [])
counted_true true ks js p e = (refl, e)
counted_true false ks js p e = cc

map_length : {A B : Type 0} (f : A → B) (xs : List A) → length (map f xs) ≡ length xs
map_length f [] = refl
map_length f (x ∷ xs) = ap suc (map_length f xs)

module _ (m : Module) (p : Proc) (b : BodyScope) (N : List Text) where
  -- the procedure of that number has the sorts of the contract that the name stands for
  pub record IsCallee (f : Name) (d : Contract) : Type 0 where
    pub callee : Proc
    pub is_named : slice_get m.procs (procedure_number (entity_of b.scope.table f.text)) ≡ Some callee
    pub ins_known : EachKnown (sorts_of_names b.scope.table (texts_of (signature_names d.signature)) (names_of d.signature.ins))
    pub outs_known : EachKnown (sorts_of_names b.scope.table (texts_of (signature_names d.signature)) (names_of d.signature.outs))
    pub ins_are : map sort_or_int (sorts_of_names b.scope.table (texts_of (signature_names d.signature)) (names_of d.signature.ins)) ≡ local_sorts callee.ins
    pub outs_are : map sort_or_int (sorts_of_names b.scope.table (texts_of (signature_names d.signature)) (names_of d.signature.outs)) ≡ local_sorts callee.outs

  pub record BodyReady : Type 0 where
    pub ready : Ready m p b.scope N
    pub sets : (n : Name) → target_faults b n ≡ [] → IsSet m p b.scope N n
    pub calls : (f : Name) (k : ℕ) (d : Contract) → meaning b.scope f.text ≡ declared_as (a_procedure k d) → IsCallee f d

  module _ (here : BodyReady) where
    abbrev s : Scope
    s = b.scope

    formula_has : (x : Expr) → formula_faults s x ≡ [] → IsFormula (sorts_of m p) (defs_of m) (term_of s x)
    formula_has x e = expr_has m p s N here.ready true boolean x e

    guard_has : (g : Guard) → guard_faults s g ≡ [] → IsGuard m p (guard_of s g)
    guard_has None e = tt
    guard_has (Some x) e = expr_has m p s N here.ready false boolean x e

    invariants_have : (is : List Invariant) → flat_map (λ (i : Invariant). formula_faults s i.formula) is ≡ []
        → AllByRecursion (λ (i : BlockInvariant). IsFormula (sorts_of m p) (defs_of m) i.formula) (map (λ (i : Invariant). record { free = i.free; place = i.at; formula = term_of s i.formula }) is)
    invariants_have [] e = tt
    invariants_have (i ∷ is) e = (formula_has i.formula (first_empty _ _ e), invariants_have is (second_empty (formula_faults s i.formula) _ e))

    targets_set : (ns : List Name) → targets_faults b ns ≡ [] → AllSet m p s N ns × AreTargets m p (target_numbers s ns)
    targets_set ns e = let g = each_set m p s N b here.sets ns (first_empty _ _ e) in (g, are_targets m p s N ns g (second_empty (flat_map (target_faults b) ns) _ e))

    same_count : (ts : List Target) (xs : Exprs) → count_faults ts xs ≡ [] → (length ts ≡ count xs) ⊎ (ts ≡ [])
    same_count [] xs e = inr refl
    same_count (t ∷ ts) xs e = inl (eqb-true _ _ (unless_empty _ arity t.name.at e))

    assign_typed : (ts : List Target) (xs : Exprs) → (length ts ≡ count xs) ⊎ (ts ≡ []) → AllSet m p s N (map (λ (t : Target). t.name) ts) → AreTargets m p (target_numbers s (map (λ (t : Target). t.name) ts))
        → flat_map (indices_faults s) ts ≡ [] → argument_faults s (sides_sorts s ts) xs ≡ [] → AreTargets m p (map (λ a. a.0) (assignments s ts xs)) × AllByRecursion (FitsTarget m p) (assignments s ts xs)
    assign_typed ts xs (inl l) g a e f = let r = assignments_fit m p s N here.ready ts xs g l e f in (subst (AreTargets m p) (sym r.1) a, r.0)
    assign_typed [] xs (inr l) g a e f = (a, tt)
    assign_typed (t ∷ ts) xs (inr l) g a e f = cc

    -- outs have the sorts of the callee's
    outs_have : (ns : List Name) (js : List (Option Kind)) (q : Place) → AllSet m p s N ns → EachKnown js → length js ≡ length ns → outs_faults (map (target_sort s) ns) js q ≡ []
        → sorts_at (sorts_of m p) (target_numbers s ns) ≡ map sort_or_int js
    outs_have [] [] q g k l e = refl
    outs_have [] (j ∷ js) q g k l e = absurd (omega (arith, l))
    outs_have (n ∷ ns) [] q g k l e = absurd (omega (arith, l))
    outs_have (n ∷ ns) (j ∷ js) q g k l e =
        let h = has_same (target_sort s n) j q (g.0.kind, g.0.target_is) k.0 (first_empty _ _ e) in
        let u = get_or_from_slice_get (sorts_of m p) (target_number s n) g.0.kind int g.0.variable_is in
        let w : sort_or_int j ≡ g.0.kind = ap sort_or_int (sym h ∙ g.0.target_is) in
        let rest = outs_have ns js q g.1 k.1 (omega (arith, l)) (second_empty (same_sort_faults (target_sort s n) j q) _ e) in
        λ i. (u ∙ sym w) i ∷ rest i

    call_typed : (ns : List Name) (f : Name) (xs : Exprs) (o : Meaning) → meaning s f.text ≡ o → AllSet m p s N ns → callee_faults b ns o (count xs) f.at ≡ [] → argument_faults s (callee_sorts s.table o) xs ≡ []
        → IsCall m p (procedure_number (entity_of s.table f.text)) (arguments s xs) (target_numbers s ns)
    call_typed ns f xs (bound_to i k) q g e h = cc
    call_typed ns f xs (stands_for v) q g e h = cc
    call_typed ns f xs nothing q g e h = cc
    call_typed ns f xs (declared_as (a_constant k t)) q g e h = cc
    call_typed ns f xs (declared_as (a_global k t)) q g e h = cc
    call_typed ns f xs (declared_as (a_function k)) q g e h = cc
    call_typed ns f xs (declared_as (a_synonym t)) q g e h = cc
    call_typed ns f xs (declared_as (a_procedure k d)) q g e h =
        let c = here.calls f k d q in
        let ins = sorts_of_names s.table (texts_of (signature_names d.signature)) (names_of d.signature.ins) in
        let outs = sorts_of_names s.table (texts_of (signature_names d.signature)) (names_of d.signature.outs) in
        let r = counted_true _ (map (target_sort s) ns) outs f.at (first_empty _ _ e) in
        let a = eqb-true (length (names_of d.signature.ins)) (count xs) (both_true _ _ r.0).0 in
        let o = eqb-true (length (names_of d.signature.outs)) (length ns) (both_true (nat_eq (length (names_of d.signature.ins)) (count xs)) _ r.0).1 in
        record {
          callee = c.callee;
          named = c.is_named;
          arguments = subst (λ w. AllZip (HasSort (sorts_of m p) (defs_of m)) w (arguments s xs)) c.ins_are (arguments_have m p s N here.ready ins xs c.ins_known (map_length _ (names_of d.signature.ins) ∙ a) h);
          results = outs_have ns outs f.at g c.outs_known (map_length _ (names_of d.signature.outs) ∙ o) r.1 ∙ c.outs_are;
        }

    labelled_typed : (inside : Bool) (around : List Text) (ls : List Name) (x : Stmt) → IsTyped m p inside (cond (is_scope x) (texts_of ls ++ around) around) x → IsTyped m p inside around (labelled_as ls x)
    labelled_typed inside around [] x h = subst (λ w. IsTyped m p inside w x) (same_either (is_scope x) around) h
    labelled_typed inside around (l ∷ ls) x h = h

    mutual
      pub list_typed : (w : Position) (ss : Statements) → stmts_faults b w ss ≡ [] → AreTyped m p w.in_loop w.around (stmts_of s ss)
      list_typed w no_statements e = tt
      list_typed w (next x ss) e =
          let v : Position = record w { ahead = labels_of_list ss ++ w.ahead } in
          (one_typed v x (first_empty _ _ e), list_typed w ss (second_empty (stmt_faults b v x) _ e))

      one_typed : (w : Position) (x : Statement) → stmt_faults b w x ≡ [] → IsTyped m p w.in_loop w.around (stmt_of s x)
      one_typed w (statement ls q a) e = labelled_typed w.in_loop w.around ls (action_of s q a) (action_typed w ls q a e)

      action_typed : (w : Position) (ls : List Name) (q : Place) (a : Action) → action_faults b w (texts_of ls) q a ≡ []
          → IsTyped m p w.in_loop (cond (is_scope (action_of s q a)) (texts_of ls ++ w.around) w.around) (action_of s q a)
      action_typed w ls q (assert x) e = formula_has x e
      action_typed w ls q (assume x) e = formula_has x e
      action_typed w ls q (havoc ns) e = (targets_set ns e).1
      action_typed w ls q (assign ts xs) e =
          let r1 = second_empty (count_faults ts xs) _ e in
          let g = targets_set (map (λ (t : Target). t.name) ts) (first_empty _ _ r1) in
          let r2 = second_empty (targets_faults b (map (λ (t : Target). t.name) ts)) _ r1 in
          assign_typed ts xs (same_count ts xs (first_empty _ _ e)) g.0 g.1 (first_empty _ _ r2) (second_empty (flat_map (indices_faults s) ts) _ r2)
      action_typed w ls q (call ns f xs) e =
          let g = targets_set ns (first_empty _ _ e) in
          let r = second_empty (targets_faults b ns) _ e in
          (g.1, call_typed ns f xs (meaning s f.text) refl g.0 (first_empty _ _ r) (second_empty (callee_faults b ns (meaning s f.text) (count xs) f.at) _ r))
      action_typed w ls q (branches bs) e = subst (λ c. IsTyped m p w.in_loop (cond c (texts_of ls ++ w.around) w.around) (chain_of s q bs)) (sym (chain_scope s q bs))
          (chain_typed (record w { around = texts_of ls ++ w.around }) q bs e)
      action_typed w ls q (loop g is ss) e =
          let r = second_empty (guard_faults s g) _ e in (
            guard_has g (first_empty _ _ e),
            invariants_have is (first_empty _ _ r),
            list_typed (record w { in_loop = true; around = texts_of ls ++ w.around }) ss (second_empty (flat_map (λ (i : Invariant). formula_faults s i.formula) is) _ r),
          )
      action_typed w ls q («break» l) e = by l (unless_empty _ break_here q e)
        where
          by : (l : Option Name) → may_break w l ≡ true → IsTyped m p w.in_loop (cond (is_scope (action_of s q («break» l))) (texts_of ls ++ w.around) w.around) (action_of s q («break» l))
          by None h = h
          by (Some n) h = h
      action_typed w ls q «return» e = tt
      action_typed w ls q (goto ns) e = tt

      chain_typed : (w : Position) (q : Place) (bs : Branches) → branches_faults b w bs ≡ [] → IsTyped m p w.in_loop w.around (chain_of s q bs)
      chain_typed w q (branch r g ss bs) e =
          let u = second_empty (guard_faults s g) _ e in
          (guard_has g (first_empty _ _ e), list_typed w ss (first_empty _ _ u), others_typed w bs (second_empty (stmts_faults b w ss) _ u))
      chain_typed w q (otherwise ss) e = (refl, tt, list_typed w ss e)
      chain_typed w q no_branch e = (refl, tt, tt)

      others_typed : (w : Position) (bs : Branches) → branches_faults b w bs ≡ [] → AreTyped m p w.in_loop w.around (others_of s bs)
      others_typed w (branch r g ss bs) e =
          let u = second_empty (guard_faults s g) _ e in
          ((guard_has g (first_empty _ _ e), list_typed w ss (first_empty _ _ u), others_typed w bs (second_empty (stmts_faults b w ss) _ u)), tt)
      others_typed w (otherwise ss) e = list_typed w ss e
      others_typed w no_branch e = tt
