-- A point put into a procedure: at its list's end what is false is asserted, with the point's mark.
use Rattle.std.specs.Prelude.{ℕ, ◌-◌, nat_eq, Bool, true, false, cond, List, length, set, slice_get, Option, Some, None, option_map}
use Rattle.logic_core.specs.Tree.{truth}
use Rattle.flow_core.specs.declared.mark.Mark.{Mark}
use Rattle.bpl_model.specs.Module.{Stmt, assert, assume, havoc, assign, call, if_else, while, break, return, goto, labelled, Stmts, no_stmts, stmt, append, one, Proc, Module}
use Rattle.smoke_report.specs.Points.{points_in, points_within, point_at}
use Rattle.smoke_report.specs.declared.point.Point.{Point}

-- how many points there are
abbrev pub count_in : Stmt → ℕ
count_in s = length (points_in None s)

abbrev pub count_within : Stmts → ℕ
count_within ss = length (points_within None ss)

-- over the point's mark; n is its number among the points from here on, from 1, and 0 behind it
module _ (mark : Mark) where
  -- the list, whose end is the next point
  abbrev pub ended : ℕ → Stmts → Stmts
  ended n ss = cond (nat_eq n 1) (append ss (one (assert mark (truth false)))) ss

  -- the other branch of an if, whose end is the next point where it is an else list
  abbrev pub ended_if : Bool → ℕ → Stmts → Stmts
  ended_if true n ss = ended n ss
  ended_if false n ss = ss

  abbrev mutual
    pub put_in : ℕ → Stmt → Stmt
    put_in n (assert m E) = assert m E
    put_in n (assume at E) = assume at E
    put_in n (havoc at xs) = havoc at xs
    put_in n (assign at ps) = assign at ps
    put_in n (call at q es xs) = call at q es xs
    put_in n (if_else at has_else g ss ts) =
        let k = n - count_within ss in
        if_else at has_else g (ended k (put_within n ss)) (ended_if has_else (k - 1 - count_within ts) (put_within (k - 1) ts))
    put_in n (while at g is ss) = while at g is (ended (n - count_within ss) (put_within n ss))
    put_in n (break at l) = break at l
    put_in n (return at) = return at
    put_in n (goto at ls) = goto at ls
    put_in n (labelled ls s) = labelled ls (put_in n s)

    pub put_within : ℕ → Stmts → Stmts
    put_within n no_stmts = no_stmts
    put_within n (stmt s ss) = stmt (put_in n s) (put_within (n - count_in s) ss)

  -- a list whose end is a point
  abbrev pub put_list : ℕ → Stmts → Stmts
  put_list n ss = ended (n - count_within ss) (put_within n ss)

abbrev pub proc_with : Proc → ℕ → Option Point → Proc
proc_with p n None = p
proc_with p n (Some point) = record p { body = option_map (put_list point.mark n) p.body }

-- the procedure with the point of this number
abbrev pub proc_with_point : Proc → ℕ → Proc
proc_with_point p n = proc_with p n (point_at p n)

-- of these procedures, the one of the first number, which this is, has its point of the second
abbrev pub procs_with : List Proc → ℕ → ℕ → Option Proc → List Proc
procs_with ps i n None = ps
procs_with ps i n (Some p) = set ps i (proc_with_point p n)

-- the module in which the procedure of the first number has its point of the second
abbrev pub with_point : Module → ℕ → ℕ → Module
with_point m i n = record m { procs = procs_with m.procs i n (slice_get m.procs i) }
