-- A typed module stays typed where a point is put in.
use Rattle.std.proofs.Common.{◌≡◌, refl, sym, subst, ℕ, ◌-◌, nat_eq, Bool, true, false, cond, List, [], ◌∷◌, ◌++◌, slice_get, set, Option, Some, None, option_map}
use Rattle.std.specs.List.{AllByRecursion, AllZip}
use Rattle.flow_core.specs.State.{sorts_at}
use Rattle.flow_core.specs.declared.mark.Mark.{Mark}
use Rattle.bpl_model.specs.Module.{Name, Stmt, assert, assume, havoc, assign, call, if_else, while, break, return, goto, labelled, Stmts, no_stmts, stmt, is_scope, Proc, Module}
use Rattle.bpl_model.specs.Numbering.{defs_of, local_sorts, sorts_of}
use Rattle.bpl_model.specs.Typed.{HasSort, IsTyped, AreTyped, IsBody, IsTypedProc, IsTypedModule}
use Rattle.bpl_model.specs.Cut.{append, one}
use Rattle.logic_core.specs.Tree.{truth}
use Rattle.smoke_report.specs.declared.point.Point.{Point}
use Rattle.smoke_report.specs.Points.{point_at}
use Rattle.smoke_report.specs.Put.{count_within, count_in, ended, ended_if, put_in, put_within, put_list, proc_with, proc_with_point, procs_with}
use Rattle.smoke_report.specs.Kept.{WithPointStaysTyped}
use Rattle.smoke_report.proofs.Found.{HaveLike, set_like, point_like, set_all, found_in}

-- ---- over other procedures, each like the one in whose place it stands

module _ (m : Module) (ps : List Proc) (like : HaveLike m.procs ps) (p : Proc) where
  abbrev n : Module
  n = record m { procs = ps }

  mutual
    moved : (s : Stmt) (inside : Bool) (A : List Name) → IsTyped m p inside A s → IsTyped n p inside A s
    moved (assert mark E) inside A h = h
    moved (assume at E) inside A h = h
    moved (havoc at xs) inside A h = h
    moved (assign at es) inside A h = h
    moved (call at q es xs) inside A h =
        let k = like q h.1.callee h.1.named in (
          h.0,
          record {
            callee = k.0;
            named = k.1;
            arguments = subst (λ ls. AllZip (HasSort (sorts_of m p) (defs_of m)) (local_sorts ls) es) (sym (k.2).0) h.1.arguments;
            results = subst (λ ls. sorts_at (sorts_of m p) xs ≡ local_sorts ls) (sym (k.2).1) h.1.results;
          },
        )
    moved (if_else at has_else g ss ts) inside A h = (h.0, moved_list ss inside A h.1, moved_list ts inside A h.2)
    moved (while at g is ss) inside A h = (h.0, h.1, moved_list ss true A h.2)
    moved (break at None) inside A h = h
    moved (break at (Some l)) inside A h = h
    moved (return at) inside A h = h
    moved (goto at ls) inside A h = h
    moved (labelled ls s) inside A h = moved s inside (cond (is_scope s) (ls ++ A) A) h

    moved_list : (ss : Stmts) (inside : Bool) (A : List Name) → AreTyped m p inside A ss → AreTyped n p inside A ss
    moved_list no_stmts inside A h = h
    moved_list (stmt s ss) inside A h = (moved s inside A h.0, moved_list ss inside A h.1)

  moved_body : (b : Option Stmts) → IsBody m p b → IsBody n p b
  moved_body None h = h
  moved_body (Some ss) h = moved_list ss false [] h

  pub moved_proc : IsTypedProc m p → IsTypedProc n p
  moved_proc h = record { specs = h.specs; in_clauses = h.in_clauses; out_clauses = h.out_clauses; local_clauses = h.local_clauses; body = moved_body p.body h.body; none_own = h.none_own }

pub moved_procs : (m : Module) (ps : List Proc) → HaveLike m.procs ps → (qs : List Proc) → AllByRecursion (IsTypedProc m) qs → AllByRecursion (IsTypedProc (record m { procs = ps })) qs
moved_procs m ps like [] h = tt
moved_procs m ps like (q ∷ qs) h = (moved_proc m ps like q h.0, moved_procs m ps like qs h.1)

-- ---- with a point

module _ (mark : Mark) where
  scope_stays : (s : Stmt) (k : ℕ) → is_scope (put_in mark k s) ≡ is_scope s
  scope_stays (assert m E) k = refl
  scope_stays (assume at E) k = refl
  scope_stays (havoc at xs) k = refl
  scope_stays (assign at es) k = refl
  scope_stays (call at q es xs) k = refl
  scope_stays (if_else at has_else g ss ts) k = refl
  scope_stays (while at g is ss) k = refl
  scope_stays (break at l) k = refl
  scope_stays (return at) k = refl
  scope_stays (goto at ls) k = refl
  scope_stays (labelled ls s) k = scope_stays s k

  module _ (m : Module) (p : Proc) where
    typed_append : (ss ts : Stmts) (inside : Bool) (A : List Name) → AreTyped m p inside A ss → AreTyped m p inside A ts → AreTyped m p inside A (append ss ts)
    typed_append no_stmts ts inside A h k = k
    typed_append (stmt s ss) ts inside A h k = (h.0, typed_append ss ts inside A h.1 k)

    typed_ended : (k : ℕ) (ss : Stmts) (inside : Bool) (A : List Name) → AreTyped m p inside A ss → AreTyped m p inside A (ended mark k ss)
    typed_ended k ss inside A h = by_test (nat_eq k 1)
      where
        by_test : (b : Bool) → AreTyped m p inside A (cond b (append ss (one (assert mark (truth false)))) ss)
        by_test true = typed_append ss (one (assert mark (truth false))) inside A h (refl, tt)
        by_test false = h

    typed_ended_if : (b : Bool) (k : ℕ) (ss : Stmts) (inside : Bool) (A : List Name) → AreTyped m p inside A ss → AreTyped m p inside A (ended_if mark b k ss)
    typed_ended_if true k ss inside A h = typed_ended k ss inside A h
    typed_ended_if false k ss inside A h = h

    mutual
      typed_in : (s : Stmt) (k : ℕ) (inside : Bool) (A : List Name) → IsTyped m p inside A s → IsTyped m p inside A (put_in mark k s)
      typed_in (assert l E) k inside A h = h
      typed_in (assume at E) k inside A h = h
      typed_in (havoc at xs) k inside A h = h
      typed_in (assign at es) k inside A h = h
      typed_in (call at q es xs) k inside A h = h
      typed_in (if_else at has_else g ss ts) k inside A h =
          let j = k - count_within ss in (
            h.0,
            typed_ended j (put_within mark k ss) inside A (typed_within ss k inside A h.1),
            typed_ended_if has_else (j - 1 - count_within ts) (put_within mark (j - 1) ts) inside A (typed_within ts (j - 1) inside A h.2),
          )
      typed_in (while at g is ss) k inside A h = (h.0, h.1, typed_ended (k - count_within ss) (put_within mark k ss) true A (typed_within ss k true A h.2))
      typed_in (break at None) k inside A h = h
      typed_in (break at (Some l)) k inside A h = h
      typed_in (return at) k inside A h = h
      typed_in (goto at ls) k inside A h = h
      typed_in (labelled ls s) k inside A h =
          subst (λ b. IsTyped m p inside (cond b (ls ++ A) A) (put_in mark k s)) (sym (scope_stays s k)) (typed_in s k inside (cond (is_scope s) (ls ++ A) A) h)

      typed_within : (ss : Stmts) (k : ℕ) (inside : Bool) (A : List Name) → AreTyped m p inside A ss → AreTyped m p inside A (put_within mark k ss)
      typed_within no_stmts k inside A h = h
      typed_within (stmt s ss) k inside A h = (typed_in s k inside A h.0, typed_within ss (k - count_in s) inside A h.1)

    typed_body : (b : Option Stmts) (k : ℕ) → IsBody m p b → IsBody m p (option_map (put_list mark k) b)
    typed_body None k h = h
    typed_body (Some ss) k h = typed_ended (k - count_within ss) (put_within mark k ss) false [] (typed_within ss k false [] h)

-- a body is typed whatever body its procedure has
module _ (m : Module) (p : Proc) (b : Option Stmts) where
  abbrev q : Proc
  q = record p { body = b }

  mutual
    kept : (s : Stmt) (inside : Bool) (A : List Name) → IsTyped m p inside A s → IsTyped m q inside A s
    kept (assert mark E) inside A h = h
    kept (assume at E) inside A h = h
    kept (havoc at xs) inside A h = h
    kept (assign at es) inside A h = h
    kept (call at f es xs) inside A h = (h.0, record { callee = h.1.callee; named = h.1.named; arguments = h.1.arguments; results = h.1.results })
    kept (if_else at has_else g ss ts) inside A h = (h.0, kept_list ss inside A h.1, kept_list ts inside A h.2)
    kept (while at g is ss) inside A h = (h.0, h.1, kept_list ss true A h.2)
    kept (break at None) inside A h = h
    kept (break at (Some l)) inside A h = h
    kept (return at) inside A h = h
    kept (goto at ls) inside A h = h
    kept (labelled ls s) inside A h = kept s inside (cond (is_scope s) (ls ++ A) A) h

    kept_list : (ss : Stmts) (inside : Bool) (A : List Name) → AreTyped m p inside A ss → AreTyped m q inside A ss
    kept_list no_stmts inside A h = h
    kept_list (stmt s ss) inside A h = (kept s inside A h.0, kept_list ss inside A h.1)

  kept_body : (c : Option Stmts) → IsBody m p c → IsBody m q c
  kept_body None h = h
  kept_body (Some ss) h = kept_list ss false [] h

typed_with : (m : Module) (p : Proc) (k : ℕ) (o : Option Point) → IsTypedProc m p → IsTypedProc m (proc_with p k o)
typed_with m p k None h = h
typed_with m p k (Some point) h =
    let b = option_map (put_list point.mark k) p.body in
    record {
      specs = h.specs;
      in_clauses = h.in_clauses;
      out_clauses = h.out_clauses;
      local_clauses = h.local_clauses;
      body = typed_body point.mark m (record p { body = b }) p.body k (kept_body m p b p.body h.body);
      none_own = h.none_own;
    }

pub with_point_stays_typed : WithPointStaysTyped
with_point_stays_typed m i k typed = by_found (slice_get m.procs i) refl
  where
    by_found : (o : Option Proc) → slice_get m.procs i ≡ o → IsTypedModule (record m { procs = procs_with m.procs i k o })
    by_found None e = typed
    by_found (Some p) e =
        let q = proc_with_point p k in
        let ps = set m.procs i q in
        let like = set_like m.procs i p q e (point_like p k) in
        let n : Module = record m { procs = ps } in
        record {
          functions = typed.functions;
          axioms = typed.axioms;
          clauses = typed.clauses;
          procs = set_all (IsTypedProc n) m.procs i q (moved_procs m ps like m.procs typed.procs)
              (typed_with n p k (point_at p k) (moved_proc m ps like p (found_in (IsTypedProc m) m.procs i p typed.procs e)));
          texts = typed.texts;
        }
