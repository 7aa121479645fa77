-- Statements, clauses of contracts and procedures without their places.
use Rattle.std.specs.Prelude.{◌≡◌, ℕ, Bool, IsTrue, List, map, option_map}
use Rattle.canonical_text.specs.Same.{start}
use Rattle.flow_core.specs.declared.block.Invariant.{Invariant}
use Rattle.bpl_model.specs.Module.{Spec, requires, ensures, modifies, Stmt, assert, assume, havoc, assign, call, if_else, while, break, return, goto, labelled, Stmts, no_stmts, stmt, Proc}
use Rattle.rebuild_laws.specs.Alike.{AlikeStmts}

abbrev pub unplaced_invariant : Invariant → Invariant
unplaced_invariant i = record { free = i.free; place = start; formula = i.formula }

-- one place stands for each
abbrev mutual
  pub unplaced : Stmt → Stmt
  unplaced (assert m e) = assert (record { place = start; kind = m.kind }) e
  unplaced (assume p e) = assume start e
  unplaced (havoc p vs) = havoc start vs
  unplaced (assign p ps) = assign start ps
  unplaced (call p k es vs) = call start k es vs
  unplaced (if_else p has_else g ss ts) = if_else start has_else g (unplaced_stmts ss) (unplaced_stmts ts)
  unplaced (while p g is ss) = while start g (map unplaced_invariant is) (unplaced_stmts ss)
  unplaced (break p l) = break start l
  unplaced (return p) = return start
  unplaced (goto p ls) = goto start ls
  unplaced (labelled ls s) = labelled ls (unplaced s)

  pub unplaced_stmts : Stmts → Stmts
  unplaced_stmts no_stmts = no_stmts
  unplaced_stmts (stmt s ss) = stmt (unplaced s) (unplaced_stmts ss)

abbrev pub unplaced_spec : Spec → Spec
unplaced_spec (requires f p e) = requires f start e
unplaced_spec (ensures f p e) = ensures f start e
unplaced_spec (modifies vs) = modifies vs

abbrev pub unplaced_proc : Proc → Proc
unplaced_proc p = record p { specs = map unplaced_spec p.specs; body = option_map unplaced_stmts p.body }

-- what goes alike does so wherever it stands
abbrev pub AlikeWhereverTheyStand : Type 0
AlikeWhereverTheyStand =
    (new_def new_var : ℕ → ℕ) (defs? vars? : ℕ → Bool) (callees? : ℕ → ℕ → Bool) (ss ts us : Stmts)
    → AlikeStmts new_def new_var (λ f. IsTrue (defs? f)) (λ v. IsTrue (vars? v)) (λ k l. IsTrue (callees? k l)) ss ts
    → unplaced_stmts ts ≡ unplaced_stmts us
    → AlikeStmts new_def new_var (λ f. IsTrue (defs? f)) (λ v. IsTrue (vars? v)) (λ k l. IsTrue (callees? k l)) ss us
