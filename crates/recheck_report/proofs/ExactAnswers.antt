-- The answer is `accepted` exactly where each goal's line is the text of an accepted proof.
use Rattle.std.proofs.Common.{◌≡◌, ◌∙◌, refl, sym, ap, subst, arith, ℕ, zero, suc, Bool, true, List, [], ◌∷◌, Option, Some, None, slice_index_or}
use Rattle.proof_text.specs.Reading.{OneProofATextHas, OneBadPlace}
use Rattle.recheck_report.specs.Lines.{first_line, later_lines}
use Rattle.recheck_report.specs.Judged.{Judgement, accepted, missing, bad, rejected, IsJudged, complaint}
use Rattle.recheck_report.specs.Accepted.{accepted_line}
use Rattle.recheck_report.specs.Recheck.{Head, Rechecks, all_accepted, has_proof, lacks_one}
use Rattle.recheck_report.specs.Worth.{AreAccepted, AcceptedExactly}
use Rattle.recheck_report.proofs.OneAnswers.{nothing_said}

first_is : (ls : List (List ℕ)) → first_line ls ≡ slice_index_or ls 0 []
first_is [] = refl
first_is (l ∷ ls) = refl

later_is : (ls : List (List ℕ)) (k : ℕ) → slice_index_or (later_lines ls) k [] ≡ slice_index_or ls (suc k) []
later_is [] zero = refl
later_is [] (suc k) = refl
later_is (l ∷ ls) k = refl

-- one goal more

with_first : (g : Head) (gs : List Head) (ls : List (List ℕ)) → IsJudged g.obligation (first_line ls) accepted → AreAccepted gs (later_lines ls) → AreAccepted (g ∷ gs) ls
with_first g gs ls h rest zero x e =
    let first : Some g ≡ Some x = e in
    let same : g ≡ x = cc in
    subst (λ (y : Head). IsJudged y.obligation (slice_index_or ls 0 []) accepted) same (subst (λ l. IsJudged g.obligation l accepted) (first_is ls) h)
with_first g gs ls h rest (suc k) x e = subst (λ l. IsJudged x.obligation l accepted) (later_is ls k) (rest k x e)

the_first : (g : Head) (gs : List Head) (ls : List (List ℕ)) → AreAccepted (g ∷ gs) ls → IsJudged g.obligation (first_line ls) accepted
the_first g gs ls h = subst (λ l. IsJudged g.obligation l accepted) (sym (first_is ls)) (h 0 g refl)

the_others : (g : Head) (gs : List Head) (ls : List (List ℕ)) → AreAccepted (g ∷ gs) ls → AreAccepted gs (later_lines ls)
the_others g gs ls h k x e = subst (λ l. IsJudged x.obligation l accepted) (sym (later_is ls k)) (h (suc k) x e)

-- what is said of a goal is no `accepted`

abbrev first_byte : Option (List ℕ) → ℕ
first_byte None = 0
first_byte (Some []) = 0
first_byte (Some (b ∷ bs)) = b

other_line : (head : List ℕ) (j : Judgement) → complaint head j ≡ Some accepted_line → ⊥
other_line head accepted e = let first : 0 ≡ 97 = ap first_byte e in omega (arith, first)
other_line head missing e = let first : 109 ≡ 97 = ap first_byte e in omega (arith, first)
other_line head (bad at) e = let first : 98 ≡ 97 = ap first_byte e in omega (arith, first)
other_line head (rejected n r) e = let first : 114 ≡ 97 = ap first_byte e in omega (arith, first)

pub all_by_line : {gs : List Head} {ls : List (List ℕ)} {answer : List ℕ} {all : Bool} → Rechecks gs ls answer all → answer ≡ accepted_line → all ≡ true
all_by_line all_accepted e = refl
all_by_line (has_proof h r) e = all_by_line r e
all_by_line (lacks_one {g = g} j k d) e = absurd (other_line g.head j (d ∙ ap Some e))

line_by_all : {gs : List Head} {ls : List (List ℕ)} {answer : List ℕ} {all : Bool} → Rechecks gs ls answer all → all ≡ true → answer ≡ accepted_line
line_by_all all_accepted e = refl
line_by_all (has_proof h r) e = line_by_all r e
line_by_all (lacks_one j k d) e = absurd (cc)

accepted_by_all : {gs : List Head} {ls : List (List ℕ)} {answer : List ℕ} {all : Bool} → Rechecks gs ls answer all → all ≡ true → AreAccepted gs ls
accepted_by_all all_accepted e = λ k g f. absurd (let none : None ≡ Some g = f in cc)
accepted_by_all (has_proof {g = g} {gs = gs} {ls = ls} h r) e = with_first g gs ls h (accepted_by_all r e)
accepted_by_all (lacks_one j k d) e = absurd (cc)

module _ (one_proof : OneProofATextHas) (one_place : OneBadPlace) where
  all_by_accepted : {gs : List Head} {ls : List (List ℕ)} {answer : List ℕ} {all : Bool} → Rechecks gs ls answer all → AreAccepted gs ls → all ≡ true
  all_by_accepted all_accepted h = refl
  all_by_accepted (has_proof {g = g} {gs = gs} {ls = ls} k r) h = all_by_accepted r (the_others g gs ls h)
  all_by_accepted (lacks_one {g = g} {gs = gs} {ls = ls} {answer = answer} j k d) h = absurd (nothing_said one_proof one_place g (first_line ls) answer j (the_first g gs ls h) k d)

  pub accepted_exactly : AcceptedExactly
  accepted_exactly gs ls answer all r = record {
    by_line = ((λ e. accepted_by_all r (all_by_line r e)), (λ h. line_by_all r (all_by_accepted r h)));
    by_all = (accepted_by_all r, all_by_accepted r);
  }
