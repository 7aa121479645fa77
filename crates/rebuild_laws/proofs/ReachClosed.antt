-- What the names of a procedure reach is closed: what a reached declaration leads to is reached.
use Rattle.std.specs.Prelude.{◌≡◌, refl, ◌⊎◌, ℕ, zero, suc, ◌+◌, ◌<◌, ◌≤◌, ◌==◌, Bool, true, false, ◌||◌, cond, List, [], ◌∷◌, ◌++◌, length, filter, flat_map}
use Rattle.std.specs.List.{AllByRecursion, range_with_len}
use Rattle.std.proofs.Common.{ap, sym, subst, arith, ◌∙◌, true≢false}
use Rattle.std.proofs.lemmas.Bool.{eqb-true, eq-eqb}
use Rattle.std.proofs.lemmas.List.{append_assoc}
use Rattle.logic_core.proofs.Booleans.{or_true}
use mathlib.Core.Logic.{inl, inr}
use Rattle.bpl_model.specs.Module.{Proc, Module}
use Rattle.bpl_model.specs.Reach.{among, decl_at, positions, reaches_axiom, leads_to, reach_on, own_positions, reached_by}
use Rattle.bpl_model.proofs.NumberLists.{of_any}

-- tests, the first of which passes no more than the second
module _ (p q : ℕ → Bool) (less : (d : ℕ) → p d ≡ true → q d ≡ true) where
  fewer : (ds : List ℕ) → length (filter p ds) ≤ length (filter q ds)
  fewer [] = omega arith
  fewer (d ∷ ds) = by (p d) refl (q d) refl (fewer ds)
    where
      by : (a : Bool) → p d ≡ a → (b : Bool) → q d ≡ b → length (filter p ds) ≤ length (filter q ds) → length (cond a (d ∷ filter p ds) (filter p ds)) ≤ length (cond b (d ∷ filter q ds) (filter q ds))
      by true e true f h = omega (h, arith)
      by true e false f h = absurd (true≢false (sym (less d e) ∙ f))
      by false e true f h = omega (h, arith)
      by false e false f h = h

  -- they pass the same, or the second passes more
  more_or_same : (ds : List ℕ) → (filter q ds ≡ filter p ds) ⊎ (length (filter p ds) < length (filter q ds))
  more_or_same [] = inl refl
  more_or_same (d ∷ ds) = by (p d) refl (q d) refl (more_or_same ds) (fewer ds)
    where
      by : (a : Bool) → p d ≡ a → (b : Bool) → q d ≡ b → (filter q ds ≡ filter p ds) ⊎ (length (filter p ds) < length (filter q ds)) → length (filter p ds) ≤ length (filter q ds)
          → (cond b (d ∷ filter q ds) (filter q ds) ≡ cond a (d ∷ filter p ds) (filter p ds)) ⊎ (length (cond a (d ∷ filter p ds) (filter p ds)) < length (cond b (d ∷ filter q ds) (filter q ds)))
      by true e true f (inl s) h = inl (ap (λ ds'. d ∷ ds') s)
      by true e true f (inr m) h = inr (omega (m, arith))
      by true e false f s h = absurd (true≢false (sym (less d e) ∙ f))
      by false e true f s h = inr (omega (h, arith))
      by false e false f s h = s

filter_short : (p : ℕ → Bool) (ds : List ℕ) → length (filter p ds) ≤ length ds
filter_short p [] = omega arith
filter_short p (d ∷ ds) = by (p d) (filter_short p ds)
  where
    by : (b : Bool) → length (filter p ds) ≤ length ds → length (cond b (d ∷ filter p ds) (filter p ds)) ≤ suc (length ds)
    by true h = omega (h, arith)
    by false h = omega (h, arith)

filter_same : (p q : ℕ → Bool) (ds : List ℕ) → AllByRecursion (λ d. p d ≡ q d) ds → filter p ds ≡ filter q ds
filter_same p q [] h = refl
filter_same p q (d ∷ ds) h = λ i. cond (h.0 i) (d ∷ filter_same p q ds h.1 i) (filter_same p q ds h.1 i)

passed : (p : ℕ → Bool) (ds : List ℕ) → AllByRecursion (λ d. p d ≡ true) (filter p ds)
passed p [] = tt
passed p (d ∷ ds) = by (p d) refl (passed p ds)
  where
    by : (b : Bool) → p d ≡ b → AllByRecursion (λ e. p e ≡ true) (filter p ds) → AllByRecursion (λ e. p e ≡ true) (cond b (d ∷ filter p ds) (filter p ds))
    by true e k = (e, k)
    by false e k = k

-- one of them that passes is among those that pass
pub is_passed : (p : ℕ → Bool) (ds : List ℕ) (d : ℕ) → among ds d ≡ true → p d ≡ true → among (filter p ds) d ≡ true
is_passed p [] d h e = absurd (true≢false (sym h))
is_passed p (x ∷ ds) d h e = by (x == d) refl (p x) refl (λ k. is_passed p ds d k e)
  where
    by : (a : Bool) → (x == d) ≡ a → (b : Bool) → p x ≡ b → (among ds d ≡ true → among (filter p ds) d ≡ true) → among (cond b (x ∷ filter p ds) (filter p ds)) d ≡ true
    by true f true g rest = λ i. f i || among (filter p ds) d
    by true f false g rest = let is = eqb-true x d f in absurd (true≢false (sym (ap p is ∙ e) ∙ g))
    by false f true g rest = (λ i. f i || among (filter p ds) d) ∙ rest ((λ i. sym f i || among ds d) ∙ h)
    by false f false g rest = rest ((λ i. sym f i || among ds d) ∙ h)

member_tests : (p : ℕ → Bool) (ds es : List ℕ) → AllByRecursion (λ d. among ds d ≡ true) es → AllByRecursion (λ d. among (filter p ds) d ≡ p d) es
member_tests p ds [] h = tt
member_tests p ds (d ∷ es) h = (by (p d) refl (among (filter p ds) d) refl, member_tests p ds es h.1)
  where
    by : (a : Bool) → p d ≡ a → (b : Bool) → among (filter p ds) d ≡ b → among (filter p ds) d ≡ p d
    by true e b f = is_passed p ds d h.0 e ∙ sym e
    by false e true f = absurd (true≢false (sym (of_any (λ x. p x ≡ true) (filter p ds) d f (passed p ds)) ∙ e))
    by false e false f = f ∙ sym e

each_member : (ds es : List ℕ) → AllByRecursion (λ d. among (es ++ ds) d ≡ true) ds
each_member [] es = tt
each_member (d ∷ ds) es = (here es, moved ds (each_member ds (es ++ d ∷ [])))
  where
    here : (es : List ℕ) → among (es ++ d ∷ ds) d ≡ true
    here [] = λ i. eq-eqb d d refl i || among ds d
    here (e ∷ es) = (λ i. (e == d) || here es i) ∙ or_true (e == d)

    moved : (xs : List ℕ) → AllByRecursion (λ x. among ((es ++ d ∷ []) ++ ds) x ≡ true) xs → AllByRecursion (λ x. among (es ++ d ∷ ds) x ≡ true) xs
    moved [] h = tt
    moved (x ∷ xs) h = (subst (λ ys. among ys x ≡ true) (append_assoc es (d ∷ []) ds) h.0, moved xs h.1)

filtered_again : (p : ℕ → Bool) (ds : List ℕ) → filter (among (filter p ds)) ds ≡ filter p ds
filtered_again p ds = filter_same (among (filter p ds)) p ds (member_tests p ds ds (each_member ds []))

-- rounds over positions, each of which keeps what is there
module _ (ds : List ℕ) (step : List ℕ → ℕ → Bool) (keeps : (rs : List ℕ) (d : ℕ) → among rs d ≡ true → step rs d ≡ true) where
  abbrev next : List ℕ → List ℕ
  next rs = filter (step rs) ds

  abbrev rounds : ℕ → List ℕ → List ℕ
  rounds zero rs = rs
  rounds (suc n) rs = rounds n (next rs)

  stays : (n : ℕ) (rs : List ℕ) → next rs ≡ rs → rounds n rs ≡ rs
  stays zero rs e = refl
  stays (suc n) rs e = ap (rounds n) e ∙ stays n rs e

  -- those that are positions, in their order
  abbrev Filtered : List ℕ → Type 0
  Filtered rs = filter (among rs) ds ≡ rs

  next_filtered : (rs : List ℕ) → Filtered (next rs)
  next_filtered rs = filtered_again (step rs) ds

  grows_or_stays : (rs : List ℕ) → Filtered rs → (next rs ≡ rs) ⊎ (length rs < length (next rs))
  grows_or_stays rs f = elim (more_or_same (among rs) (step rs) (keeps rs) ds) [ inl s ↦ inl (s ∙ f) | inr m ↦ inr (subst (λ xs. length xs < length (next rs)) f m) ]

  pub stable : (n : ℕ) (rs : List ℕ) → Filtered rs → length ds ≤ length rs + n → next (rounds n rs) ≡ rounds n rs
  stable zero rs f h = elim (grows_or_stays rs f) [
    | inl s ↦ s
    | inr m ↦ let short = filter_short (step rs) ds in absurd (omega (m, short, h, arith))
  ]
  stable (suc n) rs f h = elim (grows_or_stays rs f) [
    | inl s ↦ ap next (ap (rounds n) s ∙ stays n rs s) ∙ s ∙ sym (ap (rounds n) s ∙ stays n rs s)
    | inr m ↦ stable n (next rs) (next_filtered rs) (omega (m, h, arith))
  ]

module _ (m : Module) where
  kept : (rs : List ℕ) (d : ℕ) → among rs d ≡ true → leads_to m rs d ≡ true
  kept rs d h = λ i. h i || (among (flat_map (λ r. (decl_at m r).contract_leads) rs) d || reaches_axiom m rs d)

  rounds_are : (n : ℕ) (rs : List ℕ) → reach_on m n rs ≡ rounds (positions m) (leads_to m) kept n rs
  rounds_are zero rs = refl
  rounds_are (suc n) rs = rounds_are n (filter (leads_to m rs) (positions m))

  range_length : (a k : ℕ) → length (range_with_len a k) ≡ k
  range_length a zero = refl
  range_length a (suc k) = ap suc (range_length (a + 1) k)

  pub reached_stable : (p : Proc) → filter (leads_to m (reached_by m p)) (positions m) ≡ reached_by m p
  reached_stable p =
      let n = length m.texts in
      let start = flat_map (λ d. (decl_at m d).leads) (own_positions m p) in
      let e : n + 1 ≡ suc n = omega arith in
      let is : reached_by m p ≡ rounds (positions m) (leads_to m) kept (suc n) start = ap (λ k. reach_on m k start) e ∙ rounds_are (suc n) start in
      let long = range_length 0 n in
      subst (λ rs. filter (leads_to m rs) (positions m) ≡ rs) (sym is)
      (stable (positions m) (leads_to m) kept n (filter (leads_to m start) (positions m)) (next_filtered (positions m) (leads_to m) kept start) (omega (long, arith)))

  -- what is led to is reached
  pub reached_closed : (p : Proc) (d : ℕ) → among (positions m) d ≡ true → leads_to m (reached_by m p) d ≡ true → among (reached_by m p) d ≡ true
  reached_closed p d there leads = subst (λ rs. among rs d ≡ true) (reached_stable p) (is_passed (leads_to m (reached_by m p)) (positions m) d there leads)

  in_range : (d a k : ℕ) → a ≤ d → d < a + k → among (range_with_len a k) d ≡ true
  in_range d a zero h l = absurd (omega (h, l, arith))
  in_range d a (suc k) h l = by (a == d) refl (λ other. in_range d (a + 1) k (omega (h, other, arith)) (omega (l, arith)))
    where
      by : (b : Bool) → (a == d) ≡ b → (¬ (a ≡ d) → among (range_with_len (a + 1) k) d ≡ true) → ((a == d) || among (range_with_len (a + 1) k) d) ≡ true
      by true e rest = λ i. e i || among (range_with_len (a + 1) k) d
      by false e rest = (λ i. e i || among (range_with_len (a + 1) k) d) ∙ rest (λ is. true≢false (sym (eq-eqb a d is) ∙ e))

  pub position_there : (d : ℕ) → d < length m.texts → among (positions m) d ≡ true
  position_there d h = in_range d 0 (length m.texts) (omega arith) (omega (h, arith))
