-- One statement more, where points are gathered and where one is put in.
use Rattle.std.proofs.Common.{◌≡◌, ◌≢◌, ◌∙◌, refl, sym, ap, arith, ℕ, ◌+◌, ◌-◌, ◌≤◌, nat_eq, Bool, true, false, cond, List, [], ◌∷◌, ◌++◌, length, drop, get_or, drop-cons, ◌<◌, suc, Some, None}
use Rattle.std.specs.Prelude.{IfSome}
use Rattle.std.proofs.lemmas.Bool.{eqb-true}
use Rattle.std.proofs.lemmas.List.{append_assoc, length-append}
use Rattle.flow_core.specs.declared.mark.Mark.{Mark}
use Rattle.logic_core.specs.Tree.{truth}
use Rattle.bpl_model.specs.Module.{Stmt, assert, Stmts}
use Rattle.bpl_model.specs.StmtView.{stmts_of}
use Rattle.bpl_model.specs.Cut.{append, one}
use Rattle.smoke_report.specs.Points.{Spot, Chain, points_in, points_within}
use Rattle.smoke_report.specs.Put.{count_in, count_within, ended, put_in, put_within}
use Rattle.smoke_report.proofs.Lists.{one_before}

pub spots_next : (xs : List Spot) (chain : Chain) (s : Stmt) (ss : List Stmt) → xs ++ points_within chain (stmts_of (s ∷ ss)) ≡ (xs ++ points_in chain s) ++ points_within chain (stmts_of ss)
spots_next xs chain s ss = sym (append_assoc xs (points_in chain s) (points_within chain (stmts_of ss)))

-- the number of a branch still fits where there are more points
pub fits_more : (chain : Chain) (a b : ℕ) → IfSome chain (λ c. c.1 ≤ a + 1) → a ≤ b → IfSome chain (λ c. c.1 ≤ b + 1)
fits_more None a b h more = tt
fits_more (Some c) a b h more = omega (arith, h, more)

pub put_next : (mark : Mark) (xs : List Stmt) (n : ℕ) (s : Stmt) (ss : List Stmt) → append (stmts_of xs) (put_within mark n (stmts_of (s ∷ ss))) ≡ append (stmts_of (xs ++ put_in mark n s ∷ [])) (put_within mark (n - count_in s) (stmts_of ss))
put_next mark xs n s ss = sym (one_before xs (put_in mark n s) (put_within mark (n - count_in s) (stmts_of ss)))

pub count_more : (s : Stmt) (ss : List Stmt) → count_within (stmts_of (s ∷ ss)) ≡ count_in s + count_within (stmts_of ss)
count_more s ss = length-append (points_in None s) (points_within None (stmts_of ss))

-- whether the end of a list is the next point
pub ended_here : (mark : Mark) (n : ℕ) (ss : Stmts) → n ≡ 1 → ended mark n ss ≡ append ss (one (assert mark (truth false)))
ended_here mark n ss e = ap (λ k. cond (nat_eq k 1) (append ss (one (assert mark (truth false)))) ss) e

pub ended_elsewhere : (mark : Mark) (n : ℕ) (ss : Stmts) → n ≢ 1 → ended mark n ss ≡ ss
ended_elsewhere mark n ss other = by_test (nat_eq n 1) refl
  where
    by_test : (b : Bool) → nat_eq n 1 ≡ b → cond b (append ss (one (assert mark (truth false)))) ss ≡ ss
    by_test true e = absurd (other (eqb-true n 1 e))
    by_test false e = refl

-- what is left begins with the item at the position
pub next_is : {A : Type 0} (xs : List A) (i : ℕ) (x : A) → i < length xs → x ≡ get_or xs i x → drop i xs ≡ x ∷ drop (i + 1) xs
next_is xs i x lt is = let next : suc i ≡ i + 1 = omega arith in drop-cons xs i x lt ∙ (λ j. sym is j ∷ drop (next j) xs)
