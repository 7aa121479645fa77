-- Goals and lines have one answer at most.
use Rattle.std.proofs.Common.{◌≡◌, ◌∙◌, refl, sym, ap, ℕ, Bool, List, Some, None}
use Rattle.proof_text.specs.Reading.{OneProofATextHas, OneBadPlace}
use Rattle.recheck_report.specs.Lines.{first_line}
use Rattle.recheck_report.specs.Judged.{Judgement, accepted, IsJudged, complaint}
use Rattle.recheck_report.specs.Recheck.{Head, Rechecks, all_accepted, has_proof, lacks_one}
use Rattle.recheck_report.specs.Worth.{OneAnswer}
use Rattle.recheck_report.proofs.OneJudgement.{one_judgement}

module _ (one_proof : OneProofATextHas) (one_place : OneBadPlace) where
  -- of what is accepted nothing is said
  pub nothing_said : (g : Head) (line answer : List ℕ) (j : Judgement) → IsJudged g.obligation line accepted → IsJudged g.obligation line j → complaint g.head j ≡ Some answer → ⊥
  nothing_said g line answer j h k e =
      let same : accepted ≡ j = one_judgement one_proof one_place g.obligation line accepted j h k in
      let none : None ≡ Some answer = ap (complaint g.head) same ∙ e in
      cc

  same_said : (g : Head) (line a b : List ℕ) (i j : Judgement) → IsJudged g.obligation line i → complaint g.head i ≡ Some a → IsJudged g.obligation line j → complaint g.head j ≡ Some b → a ≡ b
  same_said g line a b i j h d k e =
      let same : i ≡ j = one_judgement one_proof one_place g.obligation line i j h k in
      let both : Some a ≡ Some b = sym d ∙ ap (complaint g.head) same ∙ e in
      cc

  one : {gs : List Head} {ls : List (List ℕ)} {a b : List ℕ} {x y : Bool} → Rechecks gs ls a x → Rechecks gs ls b y → (a ≡ b) × (x ≡ y)
  one all_accepted all_accepted = (refl, refl)
  one (has_proof h r) (has_proof k s) = one r s
  one (has_proof {g = g} {ls = ls} h r) (lacks_one {answer = answer} j k e) = absurd (nothing_said g (first_line ls) answer j h k e)
  one (lacks_one {g = g} {ls = ls} {answer = answer} j k e) (has_proof h r) = absurd (nothing_said g (first_line ls) answer j h k e)
  one (lacks_one {g = g} {ls = ls} {answer = a} i h d) (lacks_one {answer = b} j k e) = (same_said g (first_line ls) a b i j h d k e, refl)

  pub one_answer : OneAnswer
  one_answer gs ls a b x y r s = one r s
