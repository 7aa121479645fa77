-- Flags that entries take in any order are right, and where one round more finds nothing new, they are all.
use Rattle.std.proofs.Common.{◌≡◌, refl, sym, ap, ◌∙◌, subst, ℕ, zero, suc, ◌-◌, ◌<◌, ◌≤◌, arith, Bool, true, false, true≢false, cond, ◌||◌, List, [], ◌∷◌, length, slice_set}
use Rattle.std.specs.Prelude.{◌⊎◌, replicate, Vec}
use Rattle.std.specs.declared.alloc.Global.{Global}
use Rattle.std.proofs.lemmas.Bool.{or_cases, or_left, or_right}
use mathlib.Core.Logic.{inl, inr}
use Rattle.logic_terms.proofs.Booleans.{same_test}
use Rattle.bpl_scopes.proofs.SynonymRounds.{ups_is}
use Rattle.bpl_dependencies.specs.Reach.{edges_seen}
use Rattle.bpl_dependencies.specs.Rounds.{flag_of, IsUnder, row, leads_on, round_of, rounds_of, put_flag}
use Rattle.bpl_dependencies.proofs.Reaching.{ups}

-- no entry has a flag
pub none_under : (n : ℕ) → IsUnder (replicate n false) []
none_under zero i h = h
none_under (suc n) zero h = h
none_under (suc n) (suc i) h = none_under n i h

leads_under : (fs gs : List Bool) → IsUnder fs gs → (es : List ℕ) → leads_on es fs ≡ true → leads_on es gs ≡ true
leads_under fs gs u [] h = h
leads_under fs gs u (e ∷ es) h = elim (or_cases (flag_of fs e) (leads_on es fs) h) [
  | inl a ↦ or_left (flag_of gs e) (leads_on es gs) (u e a)
  | inr b ↦ or_right (flag_of gs e) (leads_on es gs) (leads_under fs gs u es b)
]

round_under : (fs gs : List Bool) → IsUnder fs gs → (bs : List Bool) (es : List (List ℕ)) (i : ℕ) → flag_of (round_of bs es fs) i ≡ true → flag_of (round_of bs es gs) i ≡ true
round_under fs gs u [] es i h = h
round_under fs gs u (b ∷ bs) [] i h = h
round_under fs gs u (b ∷ bs) (e ∷ es) zero h = elim (or_cases b (leads_on e fs) h) [
  | inl a ↦ or_left b (leads_on e gs) a
  | inr k ↦ or_right b (leads_on e gs) (leads_under fs gs u e k)
]
round_under fs gs u (b ∷ bs) (e ∷ es) (suc i) h = round_under fs gs u bs es i h

same_rounds : (fs gs : List Bool) (bs : List Bool) (es : List (List ℕ)) → IsUnder (round_of bs es fs) (round_of bs es gs) → IsUnder (round_of bs es gs) (round_of bs es fs) → round_of bs es fs ≡ round_of bs es gs
same_rounds fs gs [] es u v = refl
same_rounds fs gs (b ∷ bs) [] u v = refl
same_rounds fs gs (b ∷ bs) (e ∷ es) u v =
    let first : (b || leads_on e fs) ≡ (b || leads_on e gs) = same_test (b || leads_on e fs) (b || leads_on e gs) (u zero) (v zero) in
    let rest : round_of bs es fs ≡ round_of bs es gs = same_rounds fs gs bs es (λ i. u (suc i)) (λ i. v (suc i)) in
    λ j. first j ∷ rest j

set_flag : (fs : List Bool) (p i : ℕ) → flag_of (slice_set fs p true) i ≡ true → (p ≡ i) ⊎ (flag_of fs i ≡ true)
set_flag [] p i h = inr h
set_flag (f ∷ fs) zero zero h = inl refl
set_flag (f ∷ fs) zero (suc i) h = inr h
set_flag (f ∷ fs) (suc p) zero h = inr h
set_flag (f ∷ fs) (suc p) (suc i) h = elim (set_flag fs p i h) [ inl e ↦ inl (ap suc e) | inr k ↦ inr k ]

module _ (bs : List Bool) (es : List (List ℕ)) where
  rises : (k : ℕ) → IsUnder (rounds_of bs es k) (rounds_of bs es (suc k))
  rises zero i h = absurd (true≢false (sym h))
  rises (suc k) i h = round_under (rounds_of bs es k) (rounds_of bs es (suc k)) (rises k) bs es i h

  later_by : (k d : ℕ) → IsUnder (rounds_of bs es k) (rounds_of bs es (ups d k))
  later_by k zero i h = h
  later_by k (suc d) i h = rises (ups d k) i (later_by k d i h)

  -- what is right after fewer rounds is right after more
  pub later : (fs : List Bool) (k m : ℕ) → IsUnder fs (rounds_of bs es k) → k ≤ m → IsUnder fs (rounds_of bs es m)
  later fs k m u l i h =
      let at : ups (m - k) k ≡ m = ups_is (m - k) k ∙ omega (l, arith) in
      subst (λ n. flag_of (rounds_of bs es n) i ≡ true) at (later_by k (m - k) i (u i h))

  -- an entry that takes its flag by those of k rounds has it after one round more
  pub put_under : (fs gs : List Bool) (k p : ℕ) → IsUnder fs (rounds_of bs es k) → gs ≡ put_flag bs es fs p → IsUnder gs (rounds_of bs es (suc k))
  put_under fs gs k p u e i h = by (flag_of (round_of bs es fs) p) refl (subst (λ xs. flag_of xs i ≡ true) e h)
    where
      by : (b : Bool) → flag_of (round_of bs es fs) p ≡ b → flag_of (cond b (slice_set fs p true) fs) i ≡ true → flag_of (rounds_of bs es (suc k)) i ≡ true
      by true q g = elim (set_flag fs p i g) [
        | inl s ↦ subst (λ j. flag_of (rounds_of bs es (suc k)) j ≡ true) s (round_under fs (rounds_of bs es k) u bs es p q)
        | inr f ↦ rises k i (u i f)
      ]
      by false q g = rises k i (u i g)

  below_settled : (fs : List Bool) → round_of bs es fs ≡ fs → (k : ℕ) → IsUnder (rounds_of bs es k) fs
  below_settled fs e zero i h = absurd (true≢false (sym h))
  below_settled fs e (suc k) i h = subst (λ xs. flag_of xs i ≡ true) e (round_under (rounds_of bs es k) fs (below_settled fs e k) bs es i h)

  settled_after : (fs : List Bool) (k : ℕ) → IsUnder fs (rounds_of bs es (suc k)) → round_of bs es fs ≡ fs → fs ≡ rounds_of bs es (suc k)
  settled_after fs k u e =
      sym e ∙ same_rounds fs (rounds_of bs es k) bs es (λ i h. u i (subst (λ xs. flag_of xs i ≡ true) e h)) (λ i h. subst (λ xs. flag_of xs i ≡ true) (sym e) (below_settled fs e (suc k) i h))

pub settled_are : (bs : List Bool) (es : List (List ℕ)) (fs : List Bool) → IsUnder fs (rounds_of bs es (length bs)) → round_of bs es fs ≡ fs → fs ≡ rounds_of bs es (length bs)
settled_are [] es fs u e = sym e
settled_are (b ∷ bs) es fs u e = settled_after (b ∷ bs) es fs (length bs) u e

-- the flag of an entry after a round, where it has edges, and where it hasn't
pub round_there : (bs : List Bool) (vs : List (Vec ℕ Global)) (fs : List Bool) (i : ℕ) → i < length vs → i < length bs → flag_of (round_of bs (edges_seen vs) fs) i ≡ (flag_of bs i || leads_on (row (edges_seen vs) i) fs)
round_there [] vs fs i l k = absurd (omega (k, arith))
round_there (b ∷ bs) [] fs i l k = absurd (omega (l, arith))
round_there (b ∷ bs) (v ∷ vs) fs zero l k = refl
round_there (b ∷ bs) (v ∷ vs) fs (suc i) l k = round_there bs vs fs i (omega (l, arith)) (omega (k, arith))

pub past_edges : (bs : List Bool) (vs : List (Vec ℕ Global)) (fs : List Bool) (i : ℕ) → length vs ≤ i → flag_of (round_of bs (edges_seen vs) fs) i ≡ false
past_edges [] vs fs i g = refl
past_edges (b ∷ bs) [] fs i g = refl
past_edges (b ∷ bs) (v ∷ vs) fs zero g = absurd (omega (g, arith))
past_edges (b ∷ bs) (v ∷ vs) fs (suc i) g = past_edges bs vs fs i (omega (g, arith))

pub past_base : (bs : List Bool) (vs : List (Vec ℕ Global)) (fs : List Bool) (i : ℕ) → length bs ≤ i → flag_of (round_of bs (edges_seen vs) fs) i ≡ false
past_base [] vs fs i g = refl
past_base (b ∷ bs) [] fs i g = refl
past_base (b ∷ bs) (v ∷ vs) fs zero g = absurd (omega (g, arith))
past_base (b ∷ bs) (v ∷ vs) fs (suc i) g = past_base bs vs fs i (omega (g, arith))
