-- Statements and clauses that go alike do so wherever they stand.
use Rattle.std.specs.Prelude.{◌≡◌, ℕ, List, [], ◌∷◌, map, Option, Some, None, option_map}
use Rattle.std.proofs.Common.{subst}
use Rattle.flow_core.specs.declared.block.Invariant.{Invariant}
use Rattle.bpl_model.specs.Module.{Spec, requires, ensures, modifies, Stmt, assert, assume, havoc, assign, call, if_else, while, break, return, goto, labelled, Stmts, no_stmts, stmt}
use Rattle.rebuild_laws.specs.Alike.{AlikeInvariants, no_invariants, one_invariant, AlikeStmt, asserts, assumes, havocs, assigns, branches, loops, breaks, returns, jumps, calls_so, labels, AlikeStmts, none_more, a_stmt, AlikeSpec, both_require, both_ensure, both_modify, AlikeSpecs, no_specs, a_spec}
use Rattle.rebuild_laws.specs.Unplaced.{unplaced_invariant, unplaced, unplaced_stmts, unplaced_spec}

module _ (new_def new_var : ℕ → ℕ) (D V : ℕ → Type 0) where
  abbrev Invariants : List Invariant → List Invariant → Type 0
  Invariants = AlikeInvariants new_def new_var D V

  without_places : (is js : List Invariant) → Invariants is js → Invariants is (map unplaced_invariant js)
  without_places _ _ no_invariants = no_invariants
  without_places _ _ (one_invariant a rest) = one_invariant (record { free = a.free; covered = a.covered; formula = a.formula }) (without_places _ _ rest)

  with_places : (is js : List Invariant) → Invariants is (map unplaced_invariant js) → Invariants is js
  with_places _ [] no_invariants = no_invariants
  with_places _ (j ∷ js) (one_invariant a rest) = one_invariant (record { free = a.free; covered = a.covered; formula = a.formula }) (with_places _ js rest)

module _ (new_def new_var : ℕ → ℕ) (D V : ℕ → Type 0) (C : ℕ → ℕ → Type 0) where
  abbrev Both : Stmt → Stmt → Type 0
  Both = AlikeStmt new_def new_var D V C

  abbrev All : Stmts → Stmts → Type 0
  All = AlikeStmts new_def new_var D V C

  mutual
    taken : (x y : Stmt) → Both x y → Both x (unplaced y)
    taken _ _ (asserts h) = asserts h
    taken _ _ (assumes h) = assumes h
    taken _ _ (havocs h) = havocs h
    taken _ _ (assigns h) = assigns h
    taken _ _ (branches g a b) = branches g (all_taken _ _ a) (all_taken _ _ b)
    taken _ _ (loops g i a) = loops g (without_places new_def new_var D V _ _ i) (all_taken _ _ a)
    taken _ _ breaks = breaks
    taken _ _ returns = returns
    taken _ _ jumps = jumps
    taken _ _ (calls_so c e v) = calls_so c e v
    taken _ _ (labels a) = labels (taken _ _ a)

    all_taken : (xs ys : Stmts) → All xs ys → All xs (unplaced_stmts ys)
    all_taken _ _ none_more = none_more
    all_taken _ _ (a_stmt a rest) = a_stmt (taken _ _ a) (all_taken _ _ rest)

  mutual
    given : (x y : Stmt) → Both x (unplaced y) → Both x y
    given _ (assert m _) (asserts h) = asserts h
    given _ (assume p _) (assumes h) = assumes h
    given _ (havoc p _) (havocs h) = havocs h
    given _ (assign p _) (assigns h) = assigns h
    given _ (if_else p has_else _ ss ts) (branches g a b) = branches g (all_given _ ss a) (all_given _ ts b)
    given _ (while p _ is ss) (loops g i a) = loops g (with_places new_def new_var D V _ is i) (all_given _ ss a)
    given _ (break p _) breaks = breaks
    given _ (return p) returns = returns
    given _ (goto p _) jumps = jumps
    given _ (call p _ _ _) (calls_so c e v) = calls_so c e v
    given _ (labelled _ s) (labels a) = labels (given _ s a)

    all_given : (xs ys : Stmts) → All xs (unplaced_stmts ys) → All xs ys
    all_given _ no_stmts none_more = none_more
    all_given _ (stmt s ss) (a_stmt a rest) = a_stmt (given _ s a) (all_given _ ss rest)

  pub alike_wherever : (ss ts us : Stmts) → All ss ts → unplaced_stmts ts ≡ unplaced_stmts us → All ss us
  alike_wherever ss ts us a e = all_given ss us (subst (All ss) e (all_taken ss ts a))

-- clauses of contracts
module _ (new_def new_var : ℕ → ℕ) (D W : ℕ → Type 0) where
  abbrev Clause : Spec → Spec → Type 0
  Clause = AlikeSpec new_def new_var D W

  abbrev Clauses : List Spec → List Spec → Type 0
  Clauses = AlikeSpecs new_def new_var D W

  clause_taken : (x y : Spec) → Clause x y → Clause x (unplaced_spec y)
  clause_taken _ _ (both_require h) = both_require h
  clause_taken _ _ (both_ensure h) = both_ensure h
  clause_taken _ _ (both_modify h) = both_modify h

  clause_given : (x y : Spec) → Clause x (unplaced_spec y) → Clause x y
  clause_given _ (requires _ p _) (both_require h) = both_require h
  clause_given _ (ensures _ p _) (both_ensure h) = both_ensure h
  clause_given _ (modifies _) (both_modify h) = both_modify h

  clauses_taken : (xs ys : List Spec) → Clauses xs ys → Clauses xs (map unplaced_spec ys)
  clauses_taken _ _ no_specs = no_specs
  clauses_taken _ _ (a_spec a rest) = a_spec (clause_taken _ _ a) (clauses_taken _ _ rest)

  clauses_given : (xs ys : List Spec) → Clauses xs (map unplaced_spec ys) → Clauses xs ys
  clauses_given _ [] no_specs = no_specs
  clauses_given _ (y ∷ ys) (a_spec a rest) = a_spec (clause_given _ y a) (clauses_given _ ys rest)

  pub clauses_wherever : (xs ys zs : List Spec) → Clauses xs ys → map unplaced_spec ys ≡ map unplaced_spec zs → Clauses xs zs
  clauses_wherever xs ys zs a e = clauses_given xs zs (subst (Clauses xs) e (clauses_taken xs ys a))
