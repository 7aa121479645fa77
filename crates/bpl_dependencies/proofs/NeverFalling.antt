-- Ranks that never fall along an edge: an entry whose edges all lead to higher ones has no way back.
use Rattle.std.proofs.Common.{◌≡◌, refl, sym, ◌∙◌, subst, ℕ, zero, suc, ◌+◌, ◌<◌, ◌≤◌, arith, Bool, true, false, true≢false, ◌||◌, ◌==◌, List, [], ◌∷◌, length}
use Rattle.std.specs.Prelude.{nat_lt, Vec}
use Rattle.std.specs.declared.alloc.Global.{Global}
use Rattle.std.specs.List.{list_any}
use Rattle.std.proofs.lemmas.Bool.{ltb-false, eqb-true, or_cases, cases_lt, false_from_ne_true}
use mathlib.Core.Logic.{inl, inr}
use Rattle.bpl_dependencies.specs.Reach.{edges_seen}
use Rattle.bpl_dependencies.specs.Rounds.{flag_of, row, leads_on, round_of, rounds_of, has_edge, edges_into, comes_back}
use Rattle.bpl_dependencies.specs.Ranks.{rank_of, falls, NeverFall}

-- an edge leads to one of those that pass, all of which are at most so high
led : (rs : List ℕ) (r top : ℕ) (p : ℕ → Bool) (es : List ℕ) → falls rs r es ≡ false → list_any p es ≡ true → ((j : ℕ) → p j ≡ true → rank_of rs j ≤ top) → r ≤ top
led rs r top p [] f h each = absurd (true≢false (sym h))
led rs r top p (e ∷ es) f h each = by (p e) (nat_lt (rank_of rs e) r) refl refl h f (λ g k. led rs r top p es g k each)
  where
    by : (a b : Bool) → p e ≡ a → nat_lt (rank_of rs e) r ≡ b → (a || list_any p es) ≡ true → (b || falls rs r es) ≡ false → (falls rs r es ≡ false → list_any p es ≡ true → r ≤ top) → r ≤ top
    by true true q l k g next = absurd (true≢false g)
    by true false q l k g next =
        let low : r ≤ rank_of rs e = ltb-false (rank_of rs e) r l in
        let high : rank_of rs e ≤ top = each e q in
        omega (low, high, arith)
    by false true q l k g next = absurd (true≢false g)
    by false false q l k g next = next g k

into_round : (at : ℕ) (es : List (List ℕ)) (fs : List Bool) (i : ℕ) → flag_of (round_of (edges_into es at) es fs) i ≡ (has_edge at (row es i) || leads_on (row es i) fs)
unfolding has_edge
into_round at [] fs i = refl
into_round at (e ∷ es) fs zero = refl
into_round at (e ∷ es) fs (suc i) = into_round at es fs i

module _ (rs : List ℕ) (es : List (List ℕ)) (at : ℕ) (never : NeverFall rs es) where
  abbrev flags : ℕ → List Bool
  flags k = rounds_of (edges_into es at) es k

  -- one edge more
  stepped : (r k i : ℕ) → ((j : ℕ) → flag_of (flags k) j ≡ true → rank_of rs j ≤ rank_of rs at) → falls rs r (row es i) ≡ false → flag_of (flags (suc k)) i ≡ true → r ≤ rank_of rs at
  unfolding has_edge
  stepped r k i each f h = elim (or_cases (has_edge at (row es i)) (leads_on (row es i) (flags k)) (sym (into_round at es (flags k) i) ∙ h)) [
    | inl e ↦ led rs r (rank_of rs at) (λ j. j == at) (row es i) f e (λ j q. subst (λ n. rank_of rs j ≤ rank_of rs n) (eqb-true j at q) (omega arith))
    | inr l ↦ led rs r (rank_of rs at) (flag_of (flags k)) (row es i) f l each
  ]

  lower : (k i : ℕ) → flag_of (flags k) i ≡ true → rank_of rs i ≤ rank_of rs at
  lower zero i h = absurd (true≢false (sym h))
  lower (suc k) i h = stepped (rank_of rs i) k i (lower k) (never i) h

  not_back : (k : ℕ) → falls rs (rank_of rs at + 1) (row es at) ≡ false → flag_of (flags k) at ≡ true → ⊥
  not_back zero above h = true≢false (sym h)
  not_back (suc k) above h = let l : rank_of rs at + 1 ≤ rank_of rs at = stepped (rank_of rs at + 1) k at (lower k) above h in omega (l, arith)

  pub no_way_back : falls rs (rank_of rs at + 1) (row es at) ≡ false → comes_back es at ≡ false
  no_way_back above = false_from_ne_true (comes_back es at) (not_back (length (edges_into es at)) above)

-- at 0 nothing falls
none_below : (es : List ℕ) → falls [] 0 es ≡ false
none_below [] = refl
none_below (e ∷ es) = none_below es

pub flat_never : (es : List (List ℕ)) → NeverFall [] es
flat_never es i = none_below (row es i)

-- rows that are gone through
pub one_more : (rs : List ℕ) (es : List (List ℕ)) (k : ℕ) → ((i : ℕ) → i < k → falls rs (rank_of rs i) (row es i) ≡ false) → falls rs (rank_of rs k) (row es k) ≡ false → (i : ℕ) → i < k + 1 → falls rs (rank_of rs i) (row es i) ≡ false
one_more rs es k before now i l = elim (cases_lt i k) [
  | inl b ↦ before i b
  | inr g ↦ let e : k ≡ i = omega (l, g, arith) in subst (λ n. falls rs (rank_of rs n) (row es n) ≡ false) e now
]

row_past : (vs : List (Vec ℕ Global)) (i : ℕ) → length vs ≤ i → row (edges_seen vs) i ≡ []
row_past [] i g = refl
row_past (v ∷ vs) zero g = absurd (omega (g, arith))
row_past (v ∷ vs) (suc i) g = row_past vs i (omega (g, arith))

pub all_gone : (rs : List ℕ) (vs : List (Vec ℕ Global)) (k : ℕ) → length vs ≤ k → ((i : ℕ) → i < k → falls rs (rank_of rs i) (row (edges_seen vs) i) ≡ false) → NeverFall rs (edges_seen vs)
all_gone rs vs k g before i = elim (cases_lt i k) [
  | inl b ↦ before i b
  | inr h ↦ subst (λ r. falls rs (rank_of rs i) r ≡ false) (sym (row_past vs i (omega (g, h, arith)))) refl
]
