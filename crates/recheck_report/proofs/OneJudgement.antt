-- A line is one thing as the proof of an obligation.
use Rattle.std.proofs.Common.{◌≡◌, ◌∙◌, refl, sym, ap, subst, ℕ, List, [], ◌∷◌, Result, Ok, Err, IsOk}
use Rattle.logic_core.specs.Def.{Obligation}
use Rattle.proof_core.specs.Proof.{by_split, by_instantiate, by_skolem, by_replace, by_unfold, by_back, by_differ, by_combine, by_tighten, Proof, proof, End, by_close, by_cases, by_condition, by_past, by_trichotomy}
use Rattle.proof_core.specs.Rule.{Rule}
use Rattle.proof_core.specs.Verdict.{Refused, verdict}
use Rattle.proof_text.specs.Text.{proof_text, end_text}
use Rattle.proof_text.specs.Reading.{Spells, OneProofATextHas, OneBadPlace}
use Rattle.recheck_report.specs.Judged.{Judgement, accepted, missing, bad, rejected, IsJudged}

-- a proof's text has bytes

no_end : (e : End) → [] ≡ end_text e → ⊥
no_end (by_close f g) h = cc
no_end (by_cases f p ps) h = cc
no_end (by_condition f t p q) h = cc
no_end (by_past t p q r) h = cc
no_end (by_trichotomy d p q r) h = cc

no_proof : (p : Proof) → [] ≡ proof_text p → ⊥
no_proof (proof [] e) h = no_end e h
no_proof (proof (by_split f ∷ ss) e) h = cc
no_proof (proof (by_instantiate f ts ∷ ss) e) h = cc
no_proof (proof (by_skolem f ∷ ss) e) h = cc
no_proof (proof (by_replace f g t ∷ ss) e) h = cc
no_proof (proof (by_unfold f t ∷ ss) e) h = cc
no_proof (proof (by_back f t ∷ ss) e) h = cc
no_proof (proof (by_differ f ∷ ss) e) h = cc
no_proof (proof (by_combine f p g q ∷ ss) e) h = cc
no_proof (proof (by_tighten f ∷ ss) e) h = cc

not_empty : (line : List ℕ) (p : Proof) → line ≡ [] → Spells line p → ⊥
not_empty line p e s = no_proof p (sym e ∙ s.text)

-- a verdict is Ok or names a node, and one node alone

not_both : {A : Type 0} (r : Result A Refused) (f : Refused) → IsOk r → r ≡ Err f → ⊥
not_both (Ok a) f h e = cc
not_both (Err g) f h e = cc

one_fault : (f g : Refused) → ◌≡◌ {A = Result ℕ Refused} (Err f) (Err g) → f ≡ g
one_fault f g e = cc

module _ (one_proof : OneProofATextHas) (one_place : OneBadPlace) (o : Obligation) (line : List ℕ) where
  refused_here : (p q : Proof) (f : Refused) → Spells line p → Spells line q → verdict o q ≡ Err f → verdict o p ≡ Err f
  refused_here p q f a b e = subst (λ (r : Proof). verdict o r ≡ Err f) (one_proof line q p b a) e

  not_accepted : (p q : Proof) (f : Refused) → Spells line p → IsOk (verdict o p) → Spells line q → verdict o q ≡ Err f → ⊥
  not_accepted p q f a h b e = not_both (verdict o p) f h (refused_here p q f a b e)

  one_node : (m n : ℕ) (r s : Rule) (p q : Proof) → Spells line p → verdict o p ≡ Err (record { node = m; rule = r }) → Spells line q → verdict o q ≡ Err (record { node = n; rule = s })
      → rejected m r ≡ rejected n s
  one_node m n r s p q a d b e = ap (λ (f : Refused). rejected f.node f.rule) (one_fault _ _ (sym d ∙ refused_here p q (record { node = n; rule = s }) a b e))

  pub one_judgement : (i j : Judgement) → IsJudged o line i → IsJudged o line j → i ≡ j
  one_judgement accepted accepted h k = refl
  one_judgement accepted missing h k = absurd (not_empty line h.0 k h.1)
  one_judgement accepted (bad at) h k = absurd (k.1.no_text h.0 h.1)
  one_judgement accepted (rejected n r) h k = absurd (not_accepted h.0 k.0 _ h.1 h.2 k.1 k.2)
  one_judgement missing accepted h k = absurd (not_empty line k.0 h k.1)
  one_judgement missing missing h k = refl
  one_judgement missing (bad at) h k = absurd (k.0 h)
  one_judgement missing (rejected n r) h k = absurd (not_empty line k.0 h k.1)
  one_judgement (bad at) accepted h k = absurd (h.1.no_text k.0 k.1)
  one_judgement (bad at) missing h k = absurd (h.0 k)
  one_judgement (bad at) (bad other) h k = ap bad (one_place line at other h.1 k.1)
  one_judgement (bad at) (rejected n r) h k = absurd (h.1.no_text k.0 k.1)
  one_judgement (rejected n r) accepted h k = absurd (not_accepted k.0 h.0 _ k.1 k.2 h.1 h.2)
  one_judgement (rejected n r) missing h k = absurd (not_empty line h.0 k h.1)
  one_judgement (rejected n r) (bad at) h k = absurd (k.1.no_text h.0 h.1)
  one_judgement (rejected m r) (rejected n s) h k = one_node m n r s h.0 k.0 h.1 h.2 k.1 k.2
