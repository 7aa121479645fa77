-- Procedures that are called as others are: what their contracts say is the same, whatever their bodies are.
use Rattle.std.proofs.Common.{◌≡◌, ◌∙◌, refl, subst, ℕ, zero, suc, List, [], ◌∷◌, ◌++◌, map, set, slice_get, Option, Some, None}
use Rattle.bpl_model.specs.Module.{Proc}
use Rattle.bpl_goto.specs.Removed.{removed}
use Rattle.smoke_report.specs.declared.point.Point.{Point}
use Rattle.smoke_report.specs.Points.{point_at}
use Rattle.smoke_report.specs.Put.{proc_with, proc_with_point}
use Rattle.smoke_report.proofs.Found.{HaveLike}

abbrev pub IsCalledAs : Proc → Proc → Type 0
IsCalledAs c d = (d.ins ≡ c.ins) × (d.outs ≡ c.outs) × (d.specs ≡ c.specs)

-- for each procedure another stands in its place that is called as it is
abbrev pub AreCalledAs : List Proc → List Proc → Type 0
AreCalledAs ps qs = (k : ℕ) (c : Proc) → slice_get ps k ≡ Some c → (d : Proc) × (slice_get qs k ≡ Some d) × IsCalledAs c d

pub are_like : (ps qs : List Proc) → AreCalledAs ps qs → HaveLike ps qs
are_like ps qs f k c e = let a = f k c e in (a.0, a.1, ((a.2).0, (a.2).1))

pub through : (ps qs rs : List Proc) → AreCalledAs ps qs → AreCalledAs qs rs → AreCalledAs ps rs
through ps qs rs f g k c e =
    let a = f k c e in
    let b = g k a.0 a.1 in
    (b.0, b.1, ((b.2).0 ∙ (a.2).0, (b.2).1 ∙ (a.2).1, (b.2).2 ∙ (a.2).2))

-- with their gotos
pub with_gotos : (ps : List Proc) → AreCalledAs (map removed ps) ps
with_gotos [] k c e = absurd (let n : None ≡ Some c = e in cc)
with_gotos (p ∷ ps) zero c e = (p, refl, subst (λ z. IsCalledAs z p) same (refl, refl, refl))
  where
    same : removed p ≡ c
    same = let a : Some (removed p) ≡ Some c = e in cc
with_gotos (p ∷ ps) (suc k) c e = with_gotos ps k c e

-- where one of them had another body
pub before_set : (ps : List Proc) (i : ℕ) (p q : Proc) → slice_get ps i ≡ Some p → IsCalledAs q p → AreCalledAs (set ps i q) ps
before_set [] i p q e like k c f = absurd (let n : None ≡ Some c = f in cc)
before_set (x ∷ ps) zero p q e like zero c f = (x, refl, subst (λ z. IsCalledAs z x) new (subst (λ z. IsCalledAs q z) old like))
  where
    new : q ≡ c
    new = let a : Some q ≡ Some c = f in cc

    old : p ≡ x
    old = let a : Some x ≡ Some p = e in cc
before_set (x ∷ ps) zero p q e like (suc k) c f = (c, f, (refl, refl, refl))
before_set (x ∷ ps) (suc i) p q e like zero c f = (c, f, (refl, refl, refl))
before_set (x ∷ ps) (suc i) p q e like (suc k) c f = before_set ps i p q e like k c f

-- with others behind
pub with_others : (ps qs : List Proc) → AreCalledAs ps (ps ++ qs)
with_others [] qs k c e = absurd (let n : None ≡ Some c = e in cc)
with_others (p ∷ ps) qs zero c e = (c, e, (refl, refl, refl))
with_others (p ∷ ps) qs (suc k) c e = with_others ps qs k c e

called_with : (p : Proc) (n : ℕ) (o : Option Point) → IsCalledAs (proc_with p n o) p
called_with p n None = (refl, refl, refl)
called_with p n (Some point) = (refl, refl, refl)

pub called_with_point : (p : Proc) (n : ℕ) → IsCalledAs (proc_with_point p n) p
called_with_point p n = called_with p n (point_at p n)
