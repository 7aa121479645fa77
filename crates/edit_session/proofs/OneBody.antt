-- A revision that is another body.
use Rattle.std.proofs.Common.{◌≡◌, ◌∙◌, refl, sym, ap, subst, arith, ℕ, zero, suc, ◌+◌, ◌<◌, List, [], ◌∷◌, map, length, take, drop, get_or, slice_set}
use Rattle.std.proofs.lemmas.List.{length-map, length-set}
use Rattle.bpl_model.specs.Module.{Module}
use Rattle.body_revision.specs.Revision.{revised, all_revised}
use Rattle.body_revision.specs.declared.revised.Revision.{Revision}
use Rattle.board_core.specs.Difference.{IsDifference}
use Rattle.vc_build.specs.Rebuild.{BuiltProc}
use Rattle.vc_rebuild.specs.Change.{IsOneOther}

pub only_revised : (m : Module) (rs : List Revision) (r : Revision) → length rs ≡ 1 → r ≡ get_or rs 0 r → all_revised m rs ≡ revised r m
only_revised m [] r one is = absurd (omega (arith, one))
only_revised m (q ∷ []) r one is = ap (λ x. revised x m) (sym is)
only_revised m (q ∷ (s ∷ rs)) r one is = absurd (omega (arith, one))

-- lists that differ in one place alone
module _ {A B : Type 0} (f : A → B) where
  before_same : (xs : List A) (k : ℕ) (y : A) → take k (map f xs) ≡ take k (map f (slice_set xs k y))
  before_same [] k y = refl
  before_same (x ∷ xs) zero y = refl
  before_same (x ∷ xs) (suc k) y = ap (λ bs. f x ∷ bs) (before_same xs k y)

  behind_same : (xs : List A) (k : ℕ) (y : A) → drop (suc k) (map f xs) ≡ drop (suc k) (map f (slice_set xs k y))
  behind_same [] k y = refl
  behind_same (x ∷ xs) zero y = refl
  behind_same (x ∷ xs) (suc k) y = behind_same xs k y

pub differ_at : (k : ℕ) (old new : List BuiltProc) → IsOneOther k old new → IsDifference (map (λ (b : BuiltProc). b.depends) old) (map (λ (b : BuiltProc). b.depends) new) k (k + 1) (k + 1)
differ_at k old new one =
    let next : k + 1 ≡ suc k = omega arith in
    record {
      old_starts = omega arith;
      old_ends = omega (arith, one.there, length-map old (λ (b : BuiltProc). b.depends));
      new_starts = omega arith;
      new_ends = omega (arith, one.there, length-map new (λ (b : BuiltProc). b.depends), ap length one.put, length-set old k one.new);
      before = before_same (λ (b : BuiltProc). b.depends) old k one.new ∙ ap (λ bs. take k (map (λ (b : BuiltProc). b.depends) bs)) (sym one.put);
      after = ap (λ j. drop j (map (λ (b : BuiltProc). b.depends) old)) next ∙ behind_same (λ (b : BuiltProc). b.depends) old k one.new ∙ (λ i. drop (sym next i) (map (λ (b : BuiltProc). b.depends) (sym one.put i)));
    }
