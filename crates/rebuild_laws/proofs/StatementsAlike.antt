-- The statements of a body without faults in two scopes in which the names that it uses stand for things that go alike.
use Rattle.std.specs.Prelude.{◌≡◌, refl, ℕ, Bool, true, false, List, [], ◌∷◌, ◌++◌, map, length, flat_map, Option, Some, None, option_map}
use Rattle.std.specs.List.{AllByRecursion}
use Rattle.std.proofs.Common.{ap, sym, subst, ◌∙◌}
use Rattle.bv_base.specs.declared.place.Place.{Place}
use Rattle.flow_core.specs.declared.mark.GoalKind.TheVariants.{Assert}
use Rattle.flow_core.specs.declared.block.Invariant.{Invariant as Assumed}
use Rattle.logic_core.specs.Tree.{Kind, int, Tree, free, write, read, Trees, no_trees, tree}
use Rattle.logic_core.specs.Sorts.{is, range}
use Rattle.logic_core.specs.Wide.{when, ◌>>=◌}
use Rattle.logic_core.specs.Renamed.{both_renamed, each_both_renamed, EachHas, EachInTrees}
use Rattle.bpl_ast.specs.Place.{Name}
use Rattle.bpl_ast.specs.Tree.{Expr, first_place, Exprs, no_exprs, item}
use Rattle.bpl_ast.specs.Statement.{Target, Guard, Invariant, Stmt as Statement, stmt as statement, Action, assert, assume, havoc, assign, call, branches, loop, «break», «return», goto, Branches, branch, otherwise, no_branch, Stmts as Statements, no_stmts as no_statements, next}
use Rattle.bpl_model.specs.Module.{Stmt, Stmts}
use Rattle.bpl_scopes.specs.declared.part.Part.{Part}
use Rattle.bpl_scopes.specs.declared.part.Part.TheVariants.{Body as in_body}
use Rattle.bpl_scopes.specs.declared.fault.TypeKind.TheVariants.{TargetTwice as target_twice}
use Rattle.bpl_scopes.specs.Fault.{again}
use Rattle.bpl_scopes.specs.Scopes.{Text, Contract, Entity, a_constant, a_global, a_function, a_synonym, a_procedure, Table, Counts, texts_of, entity_of, Var, BoundVar, Scope, Meaning, bound_to, stands_for, declared_as, nothing, meaning, declared_meaning, free_meaning, var_of}
use Rattle.bpl_scopes.specs.Sorts.{sort_in}
use Rattle.bpl_faults.specs.NameFaults.{same_sort_faults, map_faults}
use Rattle.bpl_faults.specs.ExprFaults.{expr_faults, faults_as, formula_faults, argument_faults, count}
use Rattle.bpl_statement_faults.specs.StmtFaults.{BodyScope, Position, labels_of_list, set_faults, target_sort, target_faults, targets_faults, count_faults, entry_faults, indices_faults, sides_sorts, guard_faults, callee_faults, callee_sorts, stmts_faults, stmt_faults, action_faults, branches_faults}
use Rattle.bpl_texts.specs.Uses.{use_of, uses_of, expr_uses, exprs_uses, guard_uses, target_uses, invariant_uses, stmts_uses, stmt_uses, action_uses, branches_uses}
use Rattle.bpl_terms.specs.Terms.{meaning_term, entity_term, global_number, term_in, terms_in, stored}
use Rattle.bpl_resolve.specs.Elaborate.{number_of_term, target_number, target_numbers, assignment, assignments, arguments, procedure_number, guard_of, invariants_of, labelled_as, stmts_of, stmt_of, action_of, chain_of, others_of}
use Rattle.bpl_resolve.proofs.HasSort.{first_empty, second_empty}
use Rattle.rebuild_laws.specs.Alike.{Sets, AlikeInvariant, AlikeInvariants, no_invariants, one_invariant, AlikeGuard, free_choice, guarded, AlikeStmt, asserts, assumes, havocs, assigns, branches as branches_alike, loops, breaks, returns, jumps, calls_so, labels, AlikeStmts, none_more, a_stmt}
use Rattle.rebuild_laws.proofs.ScopesAlike.{AlikeTerm, AlikeName, AlikeVars, scope_here, scope_there, IsDeclared, unhidden}
use Rattle.rebuild_laws.proofs.TermsAlike.{AlikeTrees, Each, used_unless, each_first, each_second, Hidden, variable_alike, term_alike, arguments_alike}

-- over bodies without bound variables around them
module _ (new_def new_var : ℕ → ℕ) (D V : ℕ → Type 0) (Used : Text → Type 0) (t u : Table) (c d : Counts) (names : (n : Text) → Used n → AlikeName new_def new_var D V Used t u c d n)
    (C : ℕ → ℕ → Type 0) (callees : (n : Text) (k : ℕ) (e : Contract) → Used n → entity_of t n ≡ Some (a_procedure k e) → C k (procedure_number (entity_of u n)))
    (vs ws : List Var) (vars : AlikeVars new_def new_var D V Used t u c d vs ws) (h : List Text) (hides : Hidden new_def new_var D V Used t u c d names in_body vs [] h) (modified : Option (List Text)) (around : List Text) where
  abbrev here : Scope
  here = scope_here new_def new_var D V Used t u c d in_body vs []

  abbrev there : Scope
  there = scope_there new_def new_var D V Used t u c d in_body ws []

  abbrev b : BodyScope
  b = record { scope = here; modified = modified; labels = around }

  abbrev Alike : Tree → Tree → Type 0
  Alike = AlikeTerm new_def new_var D V Used t u c d

  abbrev Eaches : List Text → Type 0
  Eaches = Each new_def new_var D V Used t u c d names

  first_used : (xs ys : List Text) → Eaches (xs ++ ys) → Eaches xs
  first_used = each_first new_def new_var D V Used t u c d names

  second_used : (xs ys : List Text) → Eaches (xs ++ ys) → Eaches ys
  second_used = each_second new_def new_var D V Used t u c d names

  expression : (f : Bool) (x : Expr) → expr_faults here f x ≡ [] → Eaches (expr_uses h x) → Alike (term_in here false x) (term_in there false x)
  expression f x e k = term_alike new_def new_var D V Used t u c d names in_body vs ws vars false [] [] refl h hides f x e k

  formula : (x : Expr) → formula_faults here x ≡ [] → Eaches (expr_uses h x) → Alike (term_in here false x) (term_in there false x)
  formula x e k = expression true x (first_empty _ _ e) k

  -- what is set is a variable
  abbrev Unbound : Meaning → Type 0
  Unbound (bound_to i k) = ⊥
  Unbound (stands_for v) = Unit {0}
  Unbound (declared_as x) = Unit {0}
  Unbound nothing = Unit {0}

  set_free : (m : Meaning) → Unbound m → (n : Text) (p : Place) → set_faults b n m p ≡ [] → (v : ℕ) × (meaning_term false c m ≡ free v)
  set_free (bound_to i k) q n p e = absurd q
  set_free (stands_for v) q n p e = (v.number, refl)
  set_free (declared_as (a_constant k x)) q n p e = absurd (cc)
  set_free (declared_as (a_global k x)) q n p e = (global_number c k, refl)
  set_free (declared_as (a_function x)) q n p e = absurd (cc)
  set_free (declared_as (a_synonym x)) q n p e = absurd (cc)
  set_free (declared_as (a_procedure k x)) q n p e = absurd (cc)
  set_free nothing q n p e = absurd (cc)

  body_meaning : (o : Option Var) (n : Text) → Unbound (free_meaning here n o)
  body_meaning (Some v) n = tt
  body_meaning None n = by (entity_of t n)
    where
      by : (o : Option Entity) → Unbound (declared_meaning in_body o)
      by None = tt
      by (Some x) = tt

  unbound : (n : Text) → Unbound (meaning here n)
  unfolding meaning
  unbound n = body_meaning (var_of vs n) n

  -- a target and its new number
  pub record AlikeTarget (n : Name) : Type 0 where
    pub same : target_number there n ≡ new_var (target_number here n)
    pub covered : V (target_number here n)

  target_alike : (n : Name) → target_faults b n ≡ [] → Eaches (use_of h n.text) → AlikeTarget n
  target_alike n e k =
      let f = set_free (meaning here n.text) (unbound n.text) n.text n.at e in
      let a = variable_alike new_def new_var D V Used t u c d names in_body vs ws vars false [] [] refl h hides n.text k in
      let mine : target_number here n ≡ f.0 = ap number_of_term f.1 in
      let theirs : target_number there n ≡ new_var f.0 = ap number_of_term (a.same ∙ ap (both_renamed new_def new_var) f.1) in
      let has : V f.0 = subst (EachHas V D) f.1 a.covered in
      record { same = theirs ∙ ap new_var (sym mine); covered = subst V (sym mine) has }

  targets_alike : (ns : List Name) → flat_map (target_faults b) ns ≡ [] → Eaches (uses_of h ns) → (target_numbers there ns ≡ map new_var (target_numbers here ns)) × AllByRecursion V (target_numbers here ns)
  targets_alike [] e k = (refl, tt)
  targets_alike (n ∷ ns) e k =
      let one = target_alike n (first_empty _ _ e) (first_used (use_of h n.text) (uses_of h ns) k) in
      let rest = targets_alike ns (second_empty (target_faults b n) _ e) (second_used (use_of h n.text) (uses_of h ns) k) in
      ((λ j. one.same j ∷ rest.0 j), (one.covered, rest.1))

  stored_alike : (m n : Tree) (is js : Trees) (x y : Tree) → Alike m n → AlikeTrees new_def new_var D V Used t u c d names is js → Alike x y → Alike (stored m is x) (stored n js y)
  stored_alike m n is js x y a g v = subst (λ ks. Alike (stored m is x) (stored n ks y)) (sym g.same) (by m n is a g.covered)
    where
      by : (m n : Tree) (is : Trees) → Alike m n → EachInTrees V D is → Alike (stored m is x) (stored n (each_both_renamed new_def new_var is) y)
      by m n no_trees a k = v
      by m n (tree i is) a k =
          let rest = by (read m i) (read n (both_renamed new_def new_var i)) is (record { same = λ j. read (a.same j) (both_renamed new_def new_var i); covered = (a.covered, k.0) }) k.1 in
          record { same = λ j. write (a.same j) (both_renamed new_def new_var i) (rest.same j); covered = (a.covered, k.0, rest.covered) }

  abbrev AlikeIndices : Trees → Trees → Type 0
  AlikeIndices = AlikeTrees new_def new_var D V Used t u c d names

  indices_alike : (p : Place) (m : Option Kind) (xs : Exprs) → entry_faults here p m xs ≡ [] → Eaches (exprs_uses h xs) → AlikeIndices (terms_in here false xs) (terms_in there false xs)
  indices_alike p m no_exprs e k = record { same = refl; covered = tt }
  indices_alike p m (item x xs) e k =
      let r = second_empty (map_faults m p) _ e in
      let one = expression false x (first_empty _ _ (first_empty _ _ r)) (first_used (expr_uses h x) (exprs_uses h xs) k) in
      let rest = indices_alike p (m >>= λ k'. range k' >>= λ r'. when (is int (sort_in here x)) (Some r')) xs (second_empty (faults_as here false int x) _ r) (second_used (expr_uses h x) (exprs_uses h xs) k) in
      record { same = λ j. tree (one.same j) (rest.same j); covered = (one.covered, rest.covered) }

  -- assignments, one after another
  pub record AlikePairs (ps qs : List (ℕ × Tree)) : Type 0 where
    pub same : qs ≡ map (λ (r : ℕ × Tree). (new_var r.0, both_renamed new_def new_var r.1)) ps
    pub covered : AllByRecursion (Sets D V) ps

  sides_alike : (ts : List Target) (ks : List (Option Kind)) (xs : Exprs) → flat_map (target_faults b) (map (λ (x : Target). x.name) ts) ≡ [] → flat_map (indices_faults here) ts ≡ [] → argument_faults here ks xs ≡ []
      → Eaches (flat_map (target_uses h) ts) → Eaches (exprs_uses h xs) → AlikePairs (assignments here ts xs) (assignments there ts xs)
  sides_alike [] ks xs e f g k l = record { same = refl; covered = tt }
  sides_alike (x ∷ ts) ks no_exprs e f g k l = record { same = refl; covered = tt }
  sides_alike (x ∷ ts) ks (item y xs) e f g k l =
      let used = first_used (target_uses h x) (flat_map (target_uses h) ts) k in
      let target = target_alike x.name (first_empty _ _ e) (first_used (use_of h x.name.text) (exprs_uses h x.indices) used) in
      let indices = indices_alike x.name.at (target_sort here x.name) x.indices (first_empty _ _ f) (second_used (use_of h x.name.text) (exprs_uses h x.indices) used) in
      let side = expression false y (one_argument ks y xs g) (first_used (expr_uses h y) (exprs_uses h xs) l) in
      let rest = sides_alike ts (later_sorts ks) xs (second_empty (target_faults b x.name) _ e) (second_empty (indices_faults here x) _ f) (later_arguments ks y xs g) (second_used (target_uses h x) (flat_map (target_uses h) ts) k) (second_used (expr_uses h y) (exprs_uses h xs) l) in
      let base : Alike (free (target_number here x.name)) (free (target_number there x.name)) = record { same = ap free target.same; covered = target.covered } in
      let whole = stored_alike (free (target_number here x.name)) (free (target_number there x.name)) (terms_in here false x.indices) (terms_in there false x.indices) (term_in here false y) (term_in there false y) base indices side in
      record { same = λ j. (target.same j, whole.same j) ∷ rest.same j; covered = ((target.covered, whole.covered), rest.covered) }
    where
      later_sorts : List (Option Kind) → List (Option Kind)
      later_sorts [] = []
      later_sorts (a ∷ as') = as'

      one_argument : (ks : List (Option Kind)) (y : Expr) (xs : Exprs) → argument_faults here ks (item y xs) ≡ [] → expr_faults here false y ≡ []
      one_argument [] y xs g = first_empty _ _ g
      one_argument (a ∷ as') y xs g = first_empty _ _ g

      later_arguments : (ks : List (Option Kind)) (y : Expr) (xs : Exprs) → argument_faults here ks (item y xs) ≡ [] → argument_faults here (later_sorts ks) xs ≡ []
      later_arguments [] y xs g = second_empty (expr_faults here false y) _ g
      later_arguments (a ∷ as') y xs g = second_empty (same_sort_faults a (sort_in here y) (first_place y)) _ (second_empty (expr_faults here false y) _ g)

  -- arguments as a list
  pub record AlikeList (xs ys : List Tree) : Type 0 where
    pub same : ys ≡ map (both_renamed new_def new_var) xs
    pub covered : AllByRecursion (EachHas V D) xs

  list_alike : (xs : Exprs) → AlikeIndices (terms_in here false xs) (terms_in there false xs) → AlikeList (arguments here xs) (arguments there xs)
  list_alike xs a = by xs (terms_in there false xs) refl a
    where
      first_tree : Tree → Trees → Tree
      first_tree x no_trees = x
      first_tree x (tree y ys) = y

      rest_trees : Trees → Trees
      rest_trees no_trees = no_trees
      rest_trees (tree y ys) = ys

      by : (xs : Exprs) (us : Trees) → terms_in there false xs ≡ us → AlikeIndices (terms_in here false xs) us → AlikeList (arguments here xs) (arguments there xs)
      by no_exprs us e a = record { same = refl; covered = tt }
      by (item x xs) us e a =
          let whole = e ∙ a.same in
          let one : term_in there false x ≡ both_renamed new_def new_var (term_in here false x) = ap (first_tree (free 0)) whole in
          let more : terms_in there false xs ≡ each_both_renamed new_def new_var (terms_in here false xs) = ap rest_trees whole in
          let rest = by xs (terms_in there false xs) refl (record { same = more; covered = a.covered.1 }) in
          record { same = λ j. one j ∷ rest.same j; covered = (a.covered.0, rest.covered) }

  abbrev AlikeGuards : Option Tree → Option Tree → Type 0
  AlikeGuards = AlikeGuard new_def new_var D V C

  guard_alike : (g : Guard) → guard_faults here g ≡ [] → Eaches (guard_uses h g) → AlikeGuards (guard_of here g) (guard_of there g)
  guard_alike None e k = free_choice
  guard_alike (Some x) e k =
      let a = expression false x (first_empty _ _ e) k in subst (λ y. AlikeGuards (Some (term_in here false x)) (Some y)) (sym a.same) (guarded a.covered)

  invariants_alike : (is : List Invariant) → flat_map (λ (i : Invariant). formula_faults here i.formula) is ≡ [] → Eaches (flat_map (invariant_uses h) is) → AlikeInvariants new_def new_var D V (invariants_of here is) (invariants_of there is)
  invariants_alike [] e k = no_invariants
  invariants_alike (i ∷ is) e k =
      let a = formula i.formula (first_empty _ _ e) (first_used (invariant_uses h i) (flat_map (invariant_uses h) is) k) in
      one_invariant (record { free = refl; covered = a.covered; formula = a.same }) (invariants_alike is (second_empty (formula_faults here i.formula) _ e) (second_used (invariant_uses h i) (flat_map (invariant_uses h) is) k))

  abbrev Both : Stmt → Stmt → Type 0
  Both = AlikeStmt new_def new_var D V C

  abbrev All : Stmts → Stmts → Type 0
  All = AlikeStmts new_def new_var D V C

  labelled_alike : (ls : List Name) (x y : Stmt) → Both x y → Both (labelled_as ls x) (labelled_as ls y)
  labelled_alike [] x y a = a
  labelled_alike (l ∷ ls) x y a = labels a

  -- what is called is a procedure, and no variable hides its name
  is_procedure : (o : Meaning) (ns : List Name) (j : ℕ) (p : Place) → callee_faults b ns o j p ≡ [] → (k : ℕ) × (e : Contract) × (o ≡ declared_as (a_procedure k e))
  is_procedure (bound_to i k) ns j p e = absurd (cc)
  is_procedure (stands_for v) ns j p e = absurd (cc)
  is_procedure (declared_as (a_constant k x)) ns j p e = absurd (cc)
  is_procedure (declared_as (a_global k x)) ns j p e = absurd (cc)
  is_procedure (declared_as (a_function x)) ns j p e = absurd (cc)
  is_procedure (declared_as (a_synonym x)) ns j p e = absurd (cc)
  is_procedure (declared_as (a_procedure k x)) ns j p e = (k, x, refl)
  is_procedure nothing ns j p e = absurd (cc)

  declared_so : (o : Option Entity) (x : Entity) → declared_meaning in_body o ≡ declared_as x → o ≡ Some x
  declared_so None x e = absurd (cc)
  declared_so (Some y) x e = let z : y ≡ x = cc in ap Some z

  free_so : (o : Option Var) (n : Text) (x : Entity) → free_meaning here n o ≡ declared_as x → entity_of t n ≡ Some x
  free_so (Some v) n x e = absurd (cc)
  free_so None n x e = declared_so (entity_of t n) x e

  meaning_so : (n : Text) (x : Entity) → meaning here n ≡ declared_as x → entity_of t n ≡ Some x
  unfolding meaning
  meaning_so n x e = free_so (var_of vs n) n x e

  called : (f : Name) (ns : List Name) (j : ℕ) → callee_faults b ns (meaning here f.text) j f.at ≡ [] → Eaches (use_of h f.text) → C (procedure_number (entity_of t f.text)) (procedure_number (entity_of u f.text))
  called f ns j e k =
      let r = is_procedure (meaning here f.text) ns j f.at e in
      let declared = subst (IsDeclared new_def new_var D V Used t u c d) (sym r.2) tt in
      let is = meaning_so f.text (a_procedure r.0 r.1) r.2 in
      let used = used_unless new_def new_var D V Used t u c d names h f.text k (hides f.text ∙ unhidden new_def new_var D V Used t u c d in_body vs [] f.text declared) in
      subst (λ l. C l (procedure_number (entity_of u f.text))) (sym (ap procedure_number is)) (callees f.text r.0 r.1 used is)

  mutual
    pub stmts_alike : (w : Position) (ss : Statements) → stmts_faults b w ss ≡ [] → Eaches (stmts_uses h ss) → All (stmts_of here ss) (stmts_of there ss)
    stmts_alike w no_statements e k = none_more
    stmts_alike w (next x ss) e k =
        let v : Position = record w { ahead = labels_of_list ss ++ w.ahead } in
        a_stmt (stmt_alike v x (first_empty _ _ e) (first_used (stmt_uses h x) (stmts_uses h ss) k)) (stmts_alike w ss (second_empty (stmt_faults b v x) _ e) (second_used (stmt_uses h x) (stmts_uses h ss) k))

    stmt_alike : (w : Position) (x : Statement) → stmt_faults b w x ≡ [] → Eaches (stmt_uses h x) → Both (stmt_of here x) (stmt_of there x)
    stmt_alike w (statement ls p a) e k = labelled_alike ls (action_of here p a) (action_of there p a) (action_alike w (texts_of ls) p a e k)

    action_alike : (w : Position) (ls : List Text) (p : Place) (a : Action) → action_faults b w ls p a ≡ [] → Eaches (action_uses h a) → Both (action_of here p a) (action_of there p a)
    action_alike w ls p (assert x) e k = let a = formula x e k in subst (λ y. Both (action_of here p (assert x)) (Stmt.assert (record { place = p; kind = Assert }) y)) (sym a.same) (asserts a.covered)
    action_alike w ls p (assume x) e k = let a = formula x e k in subst (λ y. Both (action_of here p (assume x)) (Stmt.assume p y)) (sym a.same) (assumes a.covered)
    action_alike w ls p (havoc ns) e k = let a = targets_alike ns (first_empty _ _ e) k in subst (λ vs'. Both (action_of here p (havoc ns)) (Stmt.havoc p vs')) (sym a.0) (havocs a.1)
    action_alike w ls p (assign ts xs) e k =
        let r1 = second_empty (count_faults ts xs) _ e in
        let r2 = second_empty (targets_faults b (map (λ (x : Target). x.name) ts)) _ r1 in
        let a = sides_alike ts (sides_sorts here ts) xs (first_empty _ _ (first_empty _ _ r1)) (first_empty _ _ r2) (second_empty (flat_map (indices_faults here) ts) _ r2) (first_used (flat_map (target_uses h) ts) (exprs_uses h xs) k) (second_used (flat_map (target_uses h) ts) (exprs_uses h xs) k) in
        subst (λ ps. Both (action_of here p (assign ts xs)) (Stmt.assign p ps)) (sym a.same) (assigns a.covered)
    action_alike w ls p (call ns f xs) e k =
        let r = second_empty (targets_faults b ns) _ e in
        let k1 = second_used (uses_of h ns) (use_of h f.text ++ exprs_uses h xs) k in
        let outs = targets_alike ns (first_empty _ _ (first_empty _ _ e)) (first_used (uses_of h ns) (use_of h f.text ++ exprs_uses h xs) k) in
        let args = list_alike xs (arguments_alike new_def new_var D V Used t u c d names in_body vs ws vars false [] [] refl h hides (callee_sorts t (meaning here f.text)) xs (second_empty (callee_faults b ns (meaning here f.text) (count xs) f.at) _ r) (second_used (use_of h f.text) (exprs_uses h xs) k1)) in
        let callee = called f ns (count xs) (first_empty _ _ r) (first_used (use_of h f.text) (exprs_uses h xs) k1) in
        subst (λ es. Both (action_of here p (call ns f xs)) (Stmt.call p (procedure_number (entity_of u f.text)) es (target_numbers there ns))) (sym args.same)
        (subst (λ vs'. Both (action_of here p (call ns f xs)) (Stmt.call p (procedure_number (entity_of u f.text)) (map (both_renamed new_def new_var) (arguments here xs)) vs')) (sym outs.0) (calls_so callee args.covered outs.1))
    action_alike w ls p (branches bs) e k = chain_alike (record w { around = ls ++ w.around }) p bs e k
    action_alike w ls p (loop g is ss) e k =
        let r = second_empty (guard_faults here g) _ e in
        let k1 = second_used (guard_uses h g) (flat_map (invariant_uses h) is ++ stmts_uses h ss) k in
        loops (guard_alike g (first_empty _ _ e) (first_used (guard_uses h g) (flat_map (invariant_uses h) is ++ stmts_uses h ss) k)) (invariants_alike is (first_empty _ _ r) (first_used (flat_map (invariant_uses h) is) (stmts_uses h ss) k1))
        (stmts_alike (record w { in_loop = true; around = ls ++ w.around }) ss (second_empty (flat_map (λ (i : Invariant). formula_faults here i.formula) is) _ r) (second_used (flat_map (invariant_uses h) is) (stmts_uses h ss) k1))
    action_alike w ls p («break» l) e k = breaks
    action_alike w ls p «return» e k = returns
    action_alike w ls p (goto ns) e k = jumps

    chain_alike : (w : Position) (p : Place) (bs : Branches) → branches_faults b w bs ≡ [] → Eaches (branches_uses h bs) → Both (chain_of here p bs) (chain_of there p bs)
    chain_alike w p (branch q g ss bs) e k =
        let r = second_empty (guard_faults here g) _ e in
        let k1 = second_used (guard_uses h g) (stmts_uses h ss ++ branches_uses h bs) k in
        branches_alike (guard_alike g (first_empty _ _ e) (first_used (guard_uses h g) (stmts_uses h ss ++ branches_uses h bs) k)) (stmts_alike w ss (first_empty _ _ r) (first_used (stmts_uses h ss) (branches_uses h bs) k1))
        (others_alike w bs (second_empty (stmts_faults b w ss) _ r) (second_used (stmts_uses h ss) (branches_uses h bs) k1))
    chain_alike w p (otherwise ss) e k = branches_alike (guarded tt) none_more (stmts_alike w ss e k)
    chain_alike w p no_branch e k = branches_alike (guarded tt) none_more none_more

    others_alike : (w : Position) (bs : Branches) → branches_faults b w bs ≡ [] → Eaches (branches_uses h bs) → All (others_of here bs) (others_of there bs)
    others_alike w (branch q g ss bs) e k =
        let r = second_empty (guard_faults here g) _ e in
        let k1 = second_used (guard_uses h g) (stmts_uses h ss ++ branches_uses h bs) k in
        a_stmt (branches_alike (guard_alike g (first_empty _ _ e) (first_used (guard_uses h g) (stmts_uses h ss ++ branches_uses h bs) k)) (stmts_alike w ss (first_empty _ _ r) (first_used (stmts_uses h ss) (branches_uses h bs) k1))
        (others_alike w bs (second_empty (stmts_faults b w ss) _ r) (second_used (stmts_uses h ss) (branches_uses h bs) k1))) none_more
    others_alike w (otherwise ss) e k = stmts_alike w ss e k
    others_alike w no_branch e k = none_more
