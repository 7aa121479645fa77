-- The marks of a call, by how many checked requires the called procedure has; and the marks of procedures, where calls have the same.
use Rattle.std.specs.Prelude.{◌≡◌, refl, ℕ, zero, suc, ◌+◌, ◌<◌, Bool, true, false, cond, List, [], ◌∷◌, ◌++◌, map, length, get_or, drop, is_some, Option, Some, None, slice_get, slice_set}
use Rattle.std.proofs.Common.{ap, sym, arith, ◌∙◌}
use Rattle.std.proofs.lemmas.List.{at_drop_more}
use Rattle.bv_base.specs.declared.place.Place.{Place}
use Rattle.flow_core.specs.declared.mark.GoalKind.TheVariants.{Requires}
use Rattle.flow_core.specs.declared.mark.Mark.{Mark}
use Rattle.bpl_model.specs.Module.{Spec, requires, ensures, modifies, Stmts, Proc, Module}
use Rattle.bpl_model.specs.Contract.{call_checks, end_checks}
use Rattle.vc_build.specs.declared.goal.Goal.{Goal}
use Rattle.vc_build.specs.Goals.{goals_by_passes}
use Rattle.vc_build.specs.Marks.{marks_read, list_marks, contract_marks, call_marks, body_marks}
use Rattle.vc_build.specs.MarkLaws.{GoalsHaveTheirMarks}
use Rattle.vc_rebuild.specs.Change.{is_checked, checked_requires, AreAlike}

-- so many marks, the first with the number after k
abbrev numbered : Place → ℕ → ℕ → List Mark
numbered at k zero = []
numbered at k (suc n) = record { place = at; kind = Requires (k + 1) } ∷ numbered at (k + 1) n

by_count : (at : Place) (k : ℕ) (ss : List Spec) → marks_read (call_checks at k ss) ≡ numbered at k (checked_requires ss)
by_count at k [] = refl
by_count at k (requires true place E ∷ ss) =
    let none : checked_requires ss ≡ 0 + checked_requires ss = omega arith in
    by_count at k ss ∙ ap (numbered at k) none
by_count at k (requires false place E ∷ ss) =
    let one : suc (checked_requires ss) ≡ 1 + checked_requires ss = omega arith in
    ap (λ ms. record { place = at; kind = Requires (k + 1) } ∷ ms) (by_count at (k + 1) ss) ∙ ap (numbered at k) one
by_count at k (ensures free place E ∷ ss) =
    let none : checked_requires ss ≡ 0 + checked_requires ss = omega arith in
    by_count at k ss ∙ ap (numbered at k) none
by_count at k (modifies xs ∷ ss) =
    let none : checked_requires ss ≡ 0 + checked_requires ss = omega arith in
    by_count at k ss ∙ ap (numbered at k) none

pub as_many : (p q : Proc) → is_some p.body ≡ true → is_some q.body ≡ true → checked_requires p.specs ≡ checked_requires q.specs → AreAlike p q
as_many p q first second same = record {
  first_body = first;
  second_body = second;
  called = λ at. by_count at 0 p.specs ∙ ap (numbered at 0) same ∙ sym (by_count at 0 q.specs);
}

-- one element further, what is counted so far and what is ahead
pub counted_on : {A : Type 0} (F : List A → ℕ) (one : A → ℕ) → ((x : A) (xs : List A) → F (x ∷ xs) ≡ one x + F xs)
    → (xs : List A) (i : ℕ) (x : A) (count n all : ℕ) → i < length xs → x ≡ get_or xs i x → count + F (drop i xs) ≡ all → n ≡ one x → (count + n) + F (drop (i + 1) xs) ≡ all
counted_on F one step xs i x count n all below is so_far told =
    let next : F (drop i xs) ≡ one x + F (drop (i + 1) xs) = at_drop_more F xs i x below ∙ ap (λ y. F (y ∷ drop (i + 1) xs)) (sym is) ∙ step x (drop (i + 1) xs) in
    omega (next, so_far, told, arith)

pub checked_on : (ss : List Spec) (i : ℕ) (s : Spec) (count n all : ℕ) → i < length ss → s ≡ get_or ss i s → count + checked_requires (drop i ss) ≡ all → n ≡ cond (is_checked s) 1 0 → (count + n) + checked_requires (drop (i + 1) ss) ≡ all
checked_on ss i s count n all below is so_far told = counted_on checked_requires (λ (x : Spec). cond (is_checked x) 1 0) (λ x xs. refl) ss i s count n all below is so_far told

-- calls have the marks that they had
pub called_there : (ps : List Proc) (k : ℕ) (old new : Proc) → slice_get ps k ≡ Some old → AreAlike old new → (at : Place) (q : ℕ) → contract_marks at (slice_get (slice_set ps k new) q) ≡ contract_marks at (slice_get ps q)
called_there [] k old new was alike at q = refl
called_there (p ∷ ps) zero old new was alike at zero = let same : p ≡ old = cc in sym (alike.called at) ∙ ap (λ x. contract_marks at (Some x)) (sym same)
called_there (p ∷ ps) zero old new was alike at (suc q) = refl
called_there (p ∷ ps) (suc k) old new was alike at zero = refl
called_there (p ∷ ps) (suc k) old new was alike at (suc q) = called_there ps k old new was alike at q

module _ (m n : Module) (called : (at : Place) (q : ℕ) → call_marks n at q ≡ call_marks m at q) where
  marks_by : (p : Proc) (b : Option Stmts) → body_marks n p b ≡ body_marks m p b
  marks_by p None = refl
  marks_by p (Some ss) = λ i. list_marks (λ at q. called at q i) ss ++ marks_read (end_checks p.specs)

  -- and so do the goals of a procedure
  pub marks_stay : GoalsHaveTheirMarks → (p : Proc) → map (λ (g : Goal). g.mark) (goals_by_passes m p) ≡ map (λ (g : Goal). g.mark) (goals_by_passes n p)
  marks_stay law p = law m p ∙ sym (marks_by p p.body) ∙ sym (law n p)
