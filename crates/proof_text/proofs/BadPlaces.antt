-- Bytes that are no proof's text are bad at one place, and how a reader finds it.
use Rattle.std.proofs.Common.{ℕ, ◌+◌, ◌≤◌, List, [], ◌∷◌, ◌++◌, length, take, drop, refl, ap, sym, ◌∙◌, subst, append_assoc, ⊎_elim, arith}
use Rattle.std.proofs.lemmas.List.{take-append-drop, take-take, take_at, take_all, length-append}
use Rattle.std.proofs.lemmas.Bool.{cases_lt}
use Rattle.std.proofs.Math.Nat.{le_refl, lt_irrefl}
use Rattle.proof_core.specs.Proof.{Proof}
use Rattle.proof_text.specs.Reading.{Spells, BeginsOne, IsBadAt, OneBadPlace}

begins_shorter : (a b : List ℕ) → BeginsOne (a ++ b) → BeginsOne a
begins_shorter a b h = (h.0, b ++ h.1, record { in_range = h.2.in_range; text = sym (append_assoc a b h.1) ∙ h.2.text })

begins_take : (bytes : List ℕ) (m n : ℕ) → n ≤ m → BeginsOne (take m bytes) → BeginsOne (take n bytes)
begins_take bytes m n l h = begins_shorter (take n bytes) (drop n (take m bytes)) (subst BeginsOne (sym (take-append-drop n (take m bytes)) ∙ ap (λ l. l ++ drop n (take m bytes)) (take-take n m bytes l)) h)

-- no longer front begins a proof's text
longest_front : (bytes : List ℕ) (place : ℕ) → IsBadAt bytes place → (n : ℕ) → n ≤ length bytes → BeginsOne (take n bytes) → n ≤ place
longest_front bytes place h n l b = ⊎_elim (λ more. absurd (h.longest (omega arith) (begins_take bytes n (place + 1) (omega arith) b))) (λ le. le) (cases_lt place n)

pub one_bad_place : OneBadPlace
one_bad_place bytes a b ha hb = let x = longest_front bytes a ha b hb.within hb.good in let y = longest_front bytes b hb a ha.within ha.good in omega arith

-- what has been read begins a proof's text, and with the next byte it begins none
pub bad_at : (bs : List ℕ) (c : ℕ) (more : List ℕ) → BeginsOne bs → ¬ BeginsOne (bs ++ c ∷ []) → IsBadAt (bs ++ c ∷ more) (length bs)
bad_at bs c more good bad = record {
  no_text = λ p s. bad (p, more, record { in_range = s.in_range; text = append_assoc bs (c ∷ []) more ∙ s.text });
  within = omega (arith, length-append bs (c ∷ more));
  good = subst BeginsOne (sym (take_at bs (c ∷ more) (length bs) refl)) good;
  longest = λ l b. bad (subst BeginsOne (ap (take (length bs + 1)) (sym (append_assoc bs (c ∷ []) more)) ∙ take_at (bs ++ c ∷ []) more (length bs + 1) (length-append bs (c ∷ []))) b);
}

-- or all has been read, which begins a proof's text and is none
pub unfinished : (bytes : List ℕ) → BeginsOne bytes → ((p : Proof) → ¬ Spells bytes p) → IsBadAt bytes (length bytes)
unfinished bytes good none = record { no_text = none; within = le_refl (length bytes); good = subst BeginsOne (sym (take_all (length bytes) bytes (le_refl (length bytes)))) good; longest = λ l. absurd (lt_irrefl (length bytes) l) }
