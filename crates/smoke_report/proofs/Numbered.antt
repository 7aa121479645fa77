-- Points by their numbers.
use Rattle.std.proofs.Common.{◌≡◌, ◌∙◌, sym, ap, arith, ℕ, zero, suc, ◌+◌, ◌-◌, ◌<◌, List, [], ◌∷◌, slice_get, Some, None}
use Rattle.flow_core.specs.declared.mark.GoalKind.TheVariants as why
use Rattle.bpl_model.specs.Module.{Proc}
use Rattle.smoke_report.specs.declared.point.Point.{Point}
use Rattle.smoke_report.specs.Points.{Spot, point_of, numbered, spots_of, of_number, point_at}

pub number_is : (ps : List Point) (n : ℕ) → 0 < n → of_number ps n ≡ slice_get ps (n - 1)
number_is ps zero h = absurd (omega (arith, h))
number_is ps (suc k) h = let e : k ≡ suc k - 1 = omega arith in ap (slice_get ps) e

kind_in : (n k : ℕ) (ss : List Spot) (x : Point) → slice_get (numbered n ss) k ≡ Some x → x.mark.kind ≡ why.Point (n + k)
kind_in n k [] x e = let c : None ≡ Some x = e in absurd cc
kind_in n zero (s ∷ ss) x e =
    let c : Some (point_of n s) ≡ Some x = e in
    let same : point_of n s ≡ x = cc in
    let n_is : n ≡ n + 0 = omega arith in
    ap (λ (y : Point). y.mark.kind) (sym same) ∙ ap why.Point n_is
kind_in n (suc k) (s ∷ ss) x e = let n_is : n + 1 + k ≡ n + suc k = omega arith in kind_in (n + 1) k ss x e ∙ ap why.Point n_is

-- the kind of a point's mark tells its number
pub kind_is : (p : Proc) (n : ℕ) (x : Point) → point_at p n ≡ Some x → x.mark.kind ≡ why.Point n
kind_is p zero x e = let c : None ≡ Some x = e in absurd cc
kind_is p (suc k) x e = let n_is : 1 + k ≡ suc k = omega arith in kind_in 1 k (spots_of p.body) x e ∙ ap why.Point n_is
