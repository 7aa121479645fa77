-- Goals that take marks, one after another.
use Rattle.std.specs.Prelude.{◌≡◌, refl, Bool, true, List, [], ◌∷◌, map, length}
use Rattle.std.proofs.Common.{ap, sym, arith, ◌∙◌}
use lib.Pointwise.{pointwise}
use Rattle.std.proofs.lemmas.Bool.{and_parts}
use Rattle.std.proofs.lemmas.List.{length-map}
use Rattle.flow_core.specs.declared.mark.Mark.{Mark}
use Rattle.logic_core.specs.Def.{Obligation}
use Rattle.vc_build.specs.declared.goal.Goal.{Goal}
use Rattle.vc_rebuild.specs.Inside.{each_obligation, SameObligations}
use Rattle.vc_rebuild.specs.Marks.{remarked}

-- each obligation with its mark
abbrev with_marks : List Mark → List Obligation → List Goal
with_marks [] os = []
with_marks (m ∷ ms) [] = []
with_marks (m ∷ ms) (o ∷ os) = record { mark = m; obligation = o } ∷ with_marks ms os

remarked_by : (ms : List Mark) (gs : List Goal) → remarked ms gs ≡ with_marks ms (each_obligation gs)
remarked_by [] gs = refl
remarked_by (m ∷ ms) [] = refl
remarked_by (m ∷ ms) (g ∷ gs) = ap (λ hs. record { mark = m; obligation = g.obligation } ∷ hs) (remarked_by ms gs)

marked_again : (gs : List Goal) → with_marks (map (λ (g : Goal). g.mark) gs) (each_obligation gs) ≡ gs
marked_again [] = refl
marked_again (g ∷ gs) = ap (λ hs. g ∷ hs) (marked_again gs)

-- goals with the obligations of others and their marks are those
pub goals_again : (gs hs : List Goal) → SameObligations gs hs → remarked (map (λ (h : Goal). h.mark) hs) gs ≡ hs
goals_again gs hs same = remarked_by (map (λ (h : Goal). h.mark) hs) gs ∙ ap (with_marks (map (λ (h : Goal). h.mark) hs)) same ∙ marked_again hs

-- goals of the same marks and obligations are the same
pub same_goals : (gs hs : List Goal) → map (λ (g : Goal). g.mark) gs ≡ map (λ (h : Goal). h.mark) hs → SameObligations gs hs → gs ≡ hs
same_goals gs hs marks same = sym (goals_again gs gs refl) ∙ ap (λ ms. remarked ms gs) marks ∙ goals_again gs hs same

-- lists that are equal point by point, by a test that tells equal points
pub same_points : {A : Type 0} (test : A → A → Bool) → ((x y : A) → test x y ≡ true → x ≡ y) → (xs ys : List A) → pointwise test xs ys ≡ true → xs ≡ ys
same_points test tells [] [] e = refl
same_points test tells [] (y ∷ ys) e = absurd (cc)
same_points test tells (x ∷ xs) [] e = absurd (cc)
same_points test tells (x ∷ xs) (y ∷ ys) e = let both = and_parts (test x y) (pointwise test xs ys) e in λ i. tells x y both.0 i ∷ same_points test tells xs ys both.1 i

-- goals of as many marks have these marks, and the obligations that they had
pub marks_of_remarked : (ms : List Mark) (gs : List Goal) → length ms ≡ length gs → ms ≡ map (λ (g : Goal). g.mark) (remarked ms gs)
marks_of_remarked [] gs e = refl
marks_of_remarked (m ∷ ms) [] e = absurd (omega (e, arith))
marks_of_remarked (m ∷ ms) (g ∷ gs) e = ap (λ ns. m ∷ ns) (marks_of_remarked ms gs (omega (e, arith)))

pub obligations_of_remarked : (ms : List Mark) (gs : List Goal) → length ms ≡ length gs → SameObligations gs (remarked ms gs)
obligations_of_remarked [] [] e = refl
obligations_of_remarked [] (g ∷ gs) e = absurd (omega (e, arith))
obligations_of_remarked (m ∷ ms) [] e = absurd (omega (e, arith))
obligations_of_remarked (m ∷ ms) (g ∷ gs) e = ap (λ os. g.obligation ∷ os) (obligations_of_remarked ms gs (omega (e, arith)))

-- goals of the same obligations are as many
pub as_many_goals : (gs hs : List Goal) → SameObligations gs hs → length gs ≡ length hs
as_many_goals gs hs same = omega (arith, length-map gs (λ (g : Goal). g.obligation), length-map hs (λ (g : Goal). g.obligation), ap length same)
