-- One procedure in the place of another.
use Rattle.std.proofs.Common.{◌≡◌, ◌∙◌, refl, sym, ap, subst, ℕ, zero, suc, ◌<◌, ◌≤◌, List, [], ◌∷◌, length, get_or, slice_get, set, Option, Some, None}
use Rattle.std.proofs.lemmas.Option.{slice_get_past, slice_get-get_or}
use Rattle.std.specs.List.{AllByRecursion}
use Rattle.bpl_model.specs.Module.{Proc}
use Rattle.smoke_report.specs.declared.point.Point.{Point}
use Rattle.smoke_report.specs.Points.{point_at}
use Rattle.smoke_report.specs.Put.{proc_with, proc_with_point, procs_with}

pub set_all : {A : Type 0} (P : A → Type 0) (xs : List A) (i : ℕ) (y : A) → AllByRecursion P xs → P y → AllByRecursion P (set xs i y)
set_all P [] i y h k = tt
set_all P (x ∷ xs) zero y h k = (k, h.1)
set_all P (x ∷ xs) (suc i) y h k = (h.0, set_all P xs i y h.1 k)

pub found_in : {A : Type 0} (P : A → Type 0) (xs : List A) (i : ℕ) (x : A) → AllByRecursion P xs → slice_get xs i ≡ Some x → P x
found_in P [] i x h e = absurd (let c : None ≡ Some x = e in cc)
found_in P (y ∷ xs) zero x h e = let c : Some y ≡ Some x = e in let same : y ≡ x = cc in subst P same h.0
found_in P (y ∷ xs) (suc i) x h e = found_in P xs i x h.1 e

-- the one that is put there is there
pub set_found : {A : Type 0} (xs : List A) (i : ℕ) (x y : A) → slice_get xs i ≡ Some x → slice_get (set xs i y) i ≡ Some y
set_found [] i x y e = absurd (let c : None ≡ Some x = e in cc)
set_found (z ∷ xs) zero x y e = refl
set_found (z ∷ xs) (suc i) x y e = set_found xs i x y e

-- a procedure takes and gives what another does
abbrev pub IsLike : Proc → Proc → Type 0
IsLike c d = (d.ins ≡ c.ins) × (d.outs ≡ c.outs)

-- each procedure has one like it in its place
abbrev pub HaveLike : List Proc → List Proc → Type 0
HaveLike ps qs = (k : ℕ) (c : Proc) → slice_get ps k ≡ Some c → (d : Proc) × (slice_get qs k ≡ Some d) × IsLike c d

pub set_like : (ps : List Proc) (i : ℕ) (p q : Proc) → slice_get ps i ≡ Some p → IsLike p q → HaveLike ps (set ps i q)
set_like [] i p q e like k c f = absurd (let n : None ≡ Some c = f in cc)
set_like (x ∷ ps) zero p q e like zero c f = (q, refl, subst (λ z. IsLike z q) same like)
  where
    same : p ≡ c
    same = let a : Some x ≡ Some p = e in let b : Some x ≡ Some c = f in cc
set_like (x ∷ ps) zero p q e like (suc k) c f = (c, f, (refl, refl))
set_like (x ∷ ps) (suc i) p q e like zero c f = (c, f, (refl, refl))
set_like (x ∷ ps) (suc i) p q e like (suc k) c f = set_like ps i p q e like k c f

with_like : (p : Proc) (n : ℕ) (o : Option Point) → IsLike p (proc_with p n o)
with_like p n None = (refl, refl)
with_like p n (Some point) = (refl, refl)

pub point_like : (p : Proc) (n : ℕ) → IsLike p (proc_with_point p n)
point_like p n = with_like p n (point_at p n)

-- where there is no such procedure, and where there is
pub put_past : (ps : List Proc) (i n : ℕ) → length ps ≤ i → procs_with ps i n (slice_get ps i) ≡ ps
put_past ps i n past = ap (procs_with ps i n) (slice_get_past ps i past)

pub put_there : (ps qs : List Proc) (i n : ℕ) (p q : Proc) → qs ≡ ps → i < length ps → p ≡ get_or ps i p → q ≡ proc_with_point p n → set qs i q ≡ procs_with ps i n (slice_get ps i)
put_there ps qs i n p q same below is made =
    (λ j. set (same j) i (made j)) ∙ sym (ap (procs_with ps i n) (slice_get-get_or ps i p below ∙ ap Some (sym is)))
