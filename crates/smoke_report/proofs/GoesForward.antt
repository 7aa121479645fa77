-- Labels stay distinct and gotos go forward where a point is put in.
use Rattle.std.proofs.Common.{◌≡◌, ◌∙◌, refl, sym, ap, subst, ℕ, ◌-◌, nat_eq, Bool, true, false, cond, List, [], ◌++◌, slice_get, Option, Some, None, option_map}
use Rattle.std.specs.Prelude.{IsTrue}
use Rattle.flow_core.specs.declared.mark.Mark.{Mark}
use Rattle.logic_core.specs.Tree.{truth}
use Rattle.bpl_model.specs.Module.{Name, Stmt, assert, assume, havoc, assign, call, if_else, while, break, return, goto, labelled, Stmts, no_stmts, stmt, labels_of, Proc}
use Rattle.bpl_model.specs.Cut.{append, one}
use Rattle.bpl_goto.specs.Labels.{are_distinct, list_labels, labels_in, labels_within}
use Rattle.bpl_goto.specs.Forward.{GoesForward, GoForward, BodyGoesForward, AllGoForward}
use Rattle.smoke_report.specs.declared.point.Point.{Point}
use Rattle.smoke_report.specs.Points.{point_at}
use Rattle.smoke_report.specs.Put.{count_within, count_in, ended, ended_if, put_in, put_within, put_list, proc_with, proc_with_point, procs_with}
use Rattle.smoke_report.specs.Kept.{WithPointGoesForward}
use Rattle.smoke_report.proofs.Found.{set_all, found_in}

module _ (mark : Mark) where
  abbrev never : Stmts
  never = one (assert mark (truth false))

  -- ---- a list that ends with an assertion

  within_append : (ss : Stmts) → labels_within (append ss never) ≡ labels_within ss
  within_append no_stmts = refl
  within_append (stmt s ss) = ap (λ ls. labels_in s ++ ls) (within_append ss)

  list_append : (ss : Stmts) → list_labels (append ss never) ≡ list_labels ss
  list_append no_stmts = refl
  list_append (stmt s ss) = ap (λ ls. labels_of s ++ ls) (list_append ss)

  forward_append : (later : List Name) (ss : Stmts) → GoForward later ss → GoForward later (append ss never)
  forward_append later no_stmts h = (tt, tt)
  forward_append later (stmt s ss) h = (subst (λ ls. GoesForward (ls ++ later) s) (sym (list_append ss)) h.0, forward_append later ss h.1)

  within_ended : (k : ℕ) (ss : Stmts) → labels_within (ended mark k ss) ≡ labels_within ss
  within_ended k ss = by_test (nat_eq k 1)
    where
      by_test : (b : Bool) → labels_within (cond b (append ss never) ss) ≡ labels_within ss
      by_test true = within_append ss
      by_test false = refl

  forward_ended : (later : List Name) (k : ℕ) (ss : Stmts) → GoForward later ss → GoForward later (ended mark k ss)
  forward_ended later k ss h = by_test (nat_eq k 1)
    where
      by_test : (b : Bool) → GoForward later (cond b (append ss never) ss)
      by_test true = forward_append later ss h
      by_test false = h

  within_ended_if : (b : Bool) (k : ℕ) (ss : Stmts) → labels_within (ended_if mark b k ss) ≡ labels_within ss
  within_ended_if true k ss = within_ended k ss
  within_ended_if false k ss = refl

  forward_ended_if : (later : List Name) (b : Bool) (k : ℕ) (ss : Stmts) → GoForward later ss → GoForward later (ended_if mark b k ss)
  forward_ended_if later true k ss h = forward_ended later k ss h
  forward_ended_if later false k ss h = h

  -- ---- labels

  own_labels : (s : Stmt) (k : ℕ) → labels_of (put_in mark k s) ≡ labels_of s
  own_labels (assert l E) k = refl
  own_labels (assume at E) k = refl
  own_labels (havoc at xs) k = refl
  own_labels (assign at es) k = refl
  own_labels (call at q es xs) k = refl
  own_labels (if_else at has_else g ss ts) k = refl
  own_labels (while at g is ss) k = refl
  own_labels (break at l) k = refl
  own_labels (return at) k = refl
  own_labels (goto at ls) k = refl
  own_labels (labelled ls s) k = ap (λ ns. ls ++ ns) (own_labels s k)

  list_put : (ss : Stmts) (k : ℕ) → list_labels (put_within mark k ss) ≡ list_labels ss
  list_put no_stmts k = refl
  list_put (stmt s ss) k = λ i. own_labels s k i ++ list_put ss (k - count_in s) i

  mutual
    labels_put : (s : Stmt) (k : ℕ) → labels_in (put_in mark k s) ≡ labels_in s
    labels_put (assert l E) k = refl
    labels_put (assume at E) k = refl
    labels_put (havoc at xs) k = refl
    labels_put (assign at es) k = refl
    labels_put (call at q es xs) k = refl
    labels_put (if_else at has_else g ss ts) k =
        let j = k - count_within ss in
        let first = within_ended j (put_within mark k ss) ∙ within_put ss k in
        let second = within_ended_if has_else (j - 1 - count_within ts) (put_within mark (j - 1) ts) ∙ within_put ts (j - 1) in
        λ i. first i ++ second i
    labels_put (while at g is ss) k = within_ended (k - count_within ss) (put_within mark k ss) ∙ within_put ss k
    labels_put (break at l) k = refl
    labels_put (return at) k = refl
    labels_put (goto at ls) k = refl
    labels_put (labelled ls s) k = ap (λ ns. ls ++ ns) (labels_put s k)

    within_put : (ss : Stmts) (k : ℕ) → labels_within (put_within mark k ss) ≡ labels_within ss
    within_put no_stmts k = refl
    within_put (stmt s ss) k = λ i. labels_put s k i ++ within_put ss (k - count_in s) i

  -- ---- gotos

  mutual
    forward_put : (later : List Name) (s : Stmt) (k : ℕ) → GoesForward later s → GoesForward later (put_in mark k s)
    forward_put later (assert l E) k h = h
    forward_put later (assume at E) k h = h
    forward_put later (havoc at xs) k h = h
    forward_put later (assign at es) k h = h
    forward_put later (call at q es xs) k h = h
    forward_put later (if_else at has_else g ss ts) k h =
        let j = k - count_within ss in (
          forward_ended later j (put_within mark k ss) (forward_within later ss k h.0),
          forward_ended_if later has_else (j - 1 - count_within ts) (put_within mark (j - 1) ts) (forward_within later ts (j - 1) h.1),
        )
    forward_put later (while at g is ss) k h = forward_ended later (k - count_within ss) (put_within mark k ss) (forward_within later ss k h)
    forward_put later (break at l) k h = h
    forward_put later (return at) k h = h
    forward_put later (goto at ls) k h = h
    forward_put later (labelled ls s) k h = forward_put later s k h

    forward_within : (later : List Name) (ss : Stmts) (k : ℕ) → GoForward later ss → GoForward later (put_within mark k ss)
    forward_within later no_stmts k h = h
    forward_within later (stmt s ss) k h = (
      subst (λ ls. GoesForward (ls ++ later) (put_in mark k s)) (sym (list_put ss (k - count_in s))) (forward_put (list_labels ss ++ later) s k h.0),
      forward_within later ss (k - count_in s) h.1,
    )

  forward_body : (b : Option Stmts) (k : ℕ) → BodyGoesForward b → BodyGoesForward (option_map (put_list mark k) b)
  forward_body None k h = h
  forward_body (Some ss) k h =
      let j = k - count_within ss in
      let same : labels_within (put_list mark k ss) ≡ labels_within ss = within_ended j (put_within mark k ss) ∙ within_put ss k in
      (subst (λ ls. IsTrue (are_distinct ls)) (sym same) h.0, forward_ended [] j (put_within mark k ss) (forward_within [] ss k h.1))

forward_with : (p : Proc) (k : ℕ) (o : Option Point) → BodyGoesForward p.body → BodyGoesForward (proc_with p k o).body
forward_with p k None h = h
forward_with p k (Some point) h = forward_body point.mark p.body k h

pub with_point_goes_forward : WithPointGoesForward
with_point_goes_forward m i k forward = by_found (slice_get m.procs i) refl
  where
    by_found : (o : Option Proc) → slice_get m.procs i ≡ o → AllGoForward (record m { procs = procs_with m.procs i k o })
    by_found None e = forward
    by_found (Some p) e = set_all (λ q. BodyGoesForward q.body) m.procs i (proc_with_point p k) forward (forward_with p k (point_at p k) (found_in (λ q. BodyGoesForward q.body) m.procs i p forward e))
