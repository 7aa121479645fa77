-- Statements and the same without their places are, once elaborated, the same but for places.
use Rattle.std.specs.Prelude.{◌≡◌, refl, ℕ, true, false, List, [], ◌∷◌, map, Option, Some, None, option_map}
use Rattle.bv_base.specs.declared.place.Place.{Place}
use Rattle.flow_core.specs.declared.mark.GoalKind.TheVariants.{Assert}
use Rattle.std.proofs.Common.{ap}
use Rattle.logic_core.specs.Tree.{Tree, free, truth}
use Rattle.bpl_ast.specs.Place.{Name}
use Rattle.bpl_ast.specs.Tree.{Expr, Exprs, no_exprs, item}
use Rattle.bpl_ast.specs.Statement.{Target, Guard, Invariant, Stmt as Statement, stmt as statement, Action, assert, assume, havoc, assign, call, branches, loop, «break», «return», goto, Branches, branch, otherwise, no_branch, Stmts as Statements, no_stmts as no_statements, next}
use Rattle.bpl_model.specs.Module.{Stmt, Stmts}
use Rattle.bpl_scopes.specs.Scopes.{entity_of, Scope}
use Rattle.bpl_terms.specs.Terms.{stored}
use Rattle.canonical_text.specs.Same.{start, bare_names, bare, bare_exprs}
use Rattle.canonical_text.specs.SameStatement.{bare_target, bare_invariant, bare_stmt, bare_action, bare_branches, bare_stmts}
use Rattle.bpl_resolve.specs.Elaborate.{target_number, target_numbers, assignments, arguments, procedure_number, guard_of, invariants_of, labelled_as, is_else, stmts_of, stmt_of, action_of, chain_of, others_of}
use Rattle.rebuild_laws.specs.Unplaced.{unplaced_invariant, unplaced, unplaced_stmts}
use Rattle.rebuild_laws.proofs.BareTerms.{bare_texts, bare_term, bare_terms_in}

bare_numbers : (s : Scope) (ns : List Name) → target_numbers s (bare_names ns) ≡ target_numbers s ns
bare_numbers s [] = refl
bare_numbers s (n ∷ ns) = ap (λ ks. target_number s n ∷ ks) (bare_numbers s ns)

bare_assignments : (s : Scope) (ts : List Target) (xs : Exprs) → assignments s (map bare_target ts) (bare_exprs xs) ≡ assignments s ts xs
bare_assignments s [] xs = refl
bare_assignments s (t ∷ ts) no_exprs = refl
bare_assignments s (t ∷ ts) (item x xs) =
    λ i. (target_number s t.name, stored (free (target_number s t.name)) (bare_terms_in s false t.indices i) (bare_term s false x i)) ∷ bare_assignments s ts xs i

bare_arguments : (s : Scope) (xs : Exprs) → arguments s (bare_exprs xs) ≡ arguments s xs
bare_arguments s no_exprs = refl
bare_arguments s (item x xs) = λ i. bare_term s false x i ∷ bare_arguments s xs i

bare_guard : (s : Scope) (g : Guard) → guard_of s (option_map bare g) ≡ guard_of s g
bare_guard s None = refl
bare_guard s (Some x) = ap Some (bare_term s false x)

bare_invariants : (s : Scope) (is : List Invariant) → map unplaced_invariant (invariants_of s (map bare_invariant is)) ≡ map unplaced_invariant (invariants_of s is)
bare_invariants s [] = refl
bare_invariants s (j ∷ js) = λ i. record { free = j.free; place = start; formula = bare_term s false j.formula i } ∷ bare_invariants s js i

bare_labels : (ls : List Name) (x y : Stmt) → unplaced x ≡ unplaced y → unplaced (labelled_as (bare_names ls) x) ≡ unplaced (labelled_as ls y)
bare_labels [] x y e = e
bare_labels (l ∷ ls) x y e = λ i. Stmt.labelled (l.text ∷ bare_texts ls i) (e i)

bare_else : (bs : Branches) → is_else (bare_branches bs) ≡ is_else bs
bare_else (branch q g xs bs) = refl
bare_else (otherwise xs) = refl
bare_else no_branch = refl

mutual
  pub bare_body_stmts : (s : Scope) (xs : Statements) → unplaced_stmts (stmts_of s (bare_stmts xs)) ≡ unplaced_stmts (stmts_of s xs)
  bare_body_stmts s no_statements = refl
  bare_body_stmts s (next x xs) = λ i. Stmts.stmt (bare_one s x i) (bare_body_stmts s xs i)

  bare_one : (s : Scope) (x : Statement) → unplaced (stmt_of s (bare_stmt x)) ≡ unplaced (stmt_of s x)
  bare_one s (statement ls p a) = bare_labels ls (action_of s start (bare_action a)) (action_of s p a) (bare_acted s p a)

  bare_acted : (s : Scope) (p : Place) (a : Action) → unplaced (action_of s start (bare_action a)) ≡ unplaced (action_of s p a)
  bare_acted s p (assert x) = λ i. Stmt.assert (record { place = start; kind = Assert }) (bare_term s false x i)
  bare_acted s p (assume x) = λ i. Stmt.assume start (bare_term s false x i)
  bare_acted s p (havoc ns) = λ i. Stmt.havoc start (bare_numbers s ns i)
  bare_acted s p (assign ts xs) = λ i. Stmt.assign start (bare_assignments s ts xs i)
  bare_acted s p (call ns f xs) = λ i. Stmt.call start (procedure_number (entity_of s.table f.text)) (bare_arguments s xs i) (bare_numbers s ns i)
  bare_acted s p (branches bs) = bare_chain s p bs
  bare_acted s p (loop g is xs) = λ i. Stmt.while start (bare_guard s g i) (bare_invariants s is i) (bare_body_stmts s xs i)
  bare_acted s p («break» None) = refl
  bare_acted s p («break» (Some l)) = refl
  bare_acted s p «return» = refl
  bare_acted s p (goto ns) = λ i. Stmt.goto start (bare_texts ns i)

  bare_chain : (s : Scope) (p : Place) (bs : Branches) → unplaced (chain_of s start (bare_branches bs)) ≡ unplaced (chain_of s p bs)
  bare_chain s p (branch q g xs bs) = λ i. Stmt.if_else start (bare_else bs i) (bare_guard s g i) (bare_body_stmts s xs i) (bare_others s bs i)
  bare_chain s p (otherwise xs) = λ i. Stmt.if_else start true (Some (truth false)) Stmts.no_stmts (bare_body_stmts s xs i)
  bare_chain s p no_branch = refl

  bare_others : (s : Scope) (bs : Branches) → unplaced_stmts (others_of s (bare_branches bs)) ≡ unplaced_stmts (others_of s bs)
  bare_others s (branch q g xs bs) = λ i. Stmts.stmt (Stmt.if_else start (bare_else bs i) (bare_guard s g i) (bare_body_stmts s xs i) (bare_others s bs i)) Stmts.no_stmts
  bare_others s (otherwise xs) = bare_body_stmts s xs
  bare_others s no_branch = refl
