-- Tests over ranges of numbers, of which some have new ones in their order.
use Rattle.std.specs.Prelude.{◌≡◌, refl, ℕ, zero, suc, ◌+◌, ◌<◌, Bool, true, false, cond, List, [], ◌∷◌, map, length, filter}
use Rattle.std.specs.List.{AllByRecursion, range_with_len}
use Rattle.std.proofs.Common.{ap, sym, subst, ◌∙◌, true≢false}

pub range_long : (a n : ℕ) → length (range_with_len a n) ≡ n
range_long a zero = refl
range_long a (suc n) = ap suc (range_long (a + 1) n)

filtered_within : (p t : ℕ → Bool) → ((v : ℕ) → p v ≡ true → t v ≡ true) → (vs : List ℕ) → filter p vs ≡ filter p (filter t vs)
filtered_within p t within [] = refl
filtered_within p t within (v ∷ vs) = by (p v) refl (t v) refl (filtered_within p t within vs)
  where
    by : (a : Bool) → p v ≡ a → (b : Bool) → t v ≡ b → filter p vs ≡ filter p (filter t vs) → cond (p v) (v ∷ filter p vs) (filter p vs) ≡ filter p (cond (t v) (v ∷ filter t vs) (filter t vs))
    by true e true f h = (λ i. cond (e i) (v ∷ filter p vs) (filter p vs)) ∙ ap (λ ws. v ∷ ws) h ∙ sym ((λ i. filter p (cond (f i) (v ∷ filter t vs) (filter t vs))) ∙ (λ i. cond (e i) (v ∷ filter p (filter t vs)) (filter p (filter t vs))))
    by true e false f h = absurd (true≢false (sym (within v e) ∙ f))
    by false e true f h = (λ i. cond (e i) (v ∷ filter p vs) (filter p vs)) ∙ h ∙ sym ((λ i. filter p (cond (f i) (v ∷ filter t vs) (filter t vs))) ∙ (λ i. cond (e i) (v ∷ filter p (filter t vs)) (filter p (filter t vs))))
    by false e false f h = (λ i. cond (e i) (v ∷ filter p vs) (filter p vs)) ∙ h ∙ sym (λ i. filter p (cond (f i) (v ∷ filter t vs) (filter t vs)))

pub filtered_mapped : (V : ℕ → Type 0) (new : ℕ → ℕ) (p q : ℕ → Bool) → ((v : ℕ) → V v → q (new v) ≡ p v) → (vs : List ℕ) → AllByRecursion V vs → filter q (map new vs) ≡ map new (filter p vs)
filtered_mapped V new p q same [] h = refl
filtered_mapped V new p q same (v ∷ vs) h = (λ i. cond (same v h.0 i) (new v ∷ filtered_mapped V new p q same vs h.1 i) (filtered_mapped V new p q same vs h.1 i)) ∙ by (p v)
  where
    by : (b : Bool) → cond b (new v ∷ map new (filter p vs)) (map new (filter p vs)) ≡ map new (cond b (v ∷ filter p vs) (filter p vs))
    by true = refl
    by false = refl

pub filtered_each : (V : ℕ → Type 0) (p : ℕ → Bool) (vs : List ℕ) → AllByRecursion V vs → AllByRecursion V (filter p vs)
filtered_each V p [] h = tt
filtered_each V p (v ∷ vs) h = by (p v) (filtered_each V p vs h.1)
  where
    by : (b : Bool) → AllByRecursion V (filter p vs) → AllByRecursion V (cond b (v ∷ filter p vs) (filter p vs))
    by true k = (h.0, k)
    by false k = k

-- numbers that pass a test are renamed in their order, and those are the ones that pass the other
pub record InOrder (new : ℕ → ℕ) (V : ℕ → Type 0) (n m : ℕ) : Type 0 where
  pub reached : List ℕ
  pub each : AllByRecursion V reached
  pub in_here : ℕ → Bool
  pub in_there : ℕ → Bool
  pub low_here : (v : ℕ) → in_here v ≡ false → v < n
  pub low_there : (w : ℕ) → in_there w ≡ false → w < m
  pub here : filter in_here (range_with_len 0 n) ≡ reached
  pub there : filter in_there (range_with_len 0 m) ≡ map new reached

-- tests that pass nothing else, and are alike, give lists that are
pub in_order : (new : ℕ → ℕ) (V : ℕ → Type 0) (n m : ℕ) (o : InOrder new V n m) (p q : ℕ → Bool) → ((v : ℕ) → p v ≡ true → o.in_here v ≡ true) → ((w : ℕ) → q w ≡ true → o.in_there w ≡ true) → ((v : ℕ) → V v → q (new v) ≡ p v)
    → (filter q (range_with_len 0 m) ≡ map new (filter p (range_with_len 0 n))) × AllByRecursion V (filter p (range_with_len 0 n))
in_order new V n m o p q only only_there same =
    let mine : filter p (range_with_len 0 n) ≡ filter p o.reached = filtered_within p o.in_here only (range_with_len 0 n) ∙ ap (filter p) o.here in (
      filtered_within q o.in_there only_there (range_with_len 0 m) ∙ ap (filter q) o.there ∙ filtered_mapped V new p q same o.reached o.each ∙ ap (map new) (sym mine),
      subst (AllByRecursion V) (sym mine) (filtered_each V p o.reached o.each),
    )
