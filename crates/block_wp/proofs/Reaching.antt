-- Blocks from which another is reached stand in falling order, none above it, and with a block those with an edge to it.
use Rattle.std.specs.Prelude.{◌≡◌, refl, ◌⊎◌, ℕ, zero, suc, ◌<◌, ◌==◌, Bool, true, false, cond, List, [], ◌∷◌, ◌++◌, length, slice_index_or}
use Rattle.std.specs.List.{list_any}
use Rattle.std.proofs.Common.{arith}
use Rattle.std.proofs.lemmas.Bool.{eq-eqb, or_left, or_right, cases_eq}
use mathlib.Core.Path.{subst, sym}
use mathlib.Core.Logic.{inl, inr}
use Rattle.passive_form.specs.declared.passive.Passive.{Passive}
use Rattle.passive_form.specs.Passive.{passive_block_at}
use Rattle.block_wp.specs.Equations.{reaching_from}
use Rattle.block_wp.proofs.Junctions.{In}

pub in_left : (x : ℕ) (xs ys : List ℕ) → In x xs → In x (xs ++ ys)
in_left x [] ys h = absurd h
in_left x (z ∷ xs) ys (inl e) = inl e
in_left x (z ∷ xs) ys (inr h) = inr (in_left x xs ys h)

pub in_right : (x : ℕ) (xs ys : List ℕ) → In x ys → In x (xs ++ ys)
in_right x [] ys h = h
in_right x (z ∷ xs) ys h = inr (in_right x xs ys h)

pub in_one : (x : ℕ) (xs ys : List ℕ) → In x (xs ++ ys) → In x xs ⊎ In x ys
in_one x [] ys h = inr h
in_one x (z ∷ xs) ys (inl e) = inl (inl e)
in_one x (z ∷ xs) ys (inr h) = elim (in_one x xs ys h) [ inl k ↦ inl (inr k) | inr k ↦ inr k ]

-- the tests
pub is_among : (xs : List ℕ) (x : ℕ) → In x xs → list_any (λ y. y == x) xs ≡ true
is_among [] x h = absurd h
is_among (y ∷ xs) x (inl e) = or_left (y == x) (list_any (λ y. y == x) xs) (eq-eqb y x e)
is_among (y ∷ xs) x (inr h) = or_right (y == x) (list_any (λ y. y == x) xs) (is_among xs x h)

pub contained : (xs : List ℕ) (x k : ℕ) → k < length xs → slice_index_or xs k x ≡ x → In x xs
contained [] x k below e = absurd (omega (below, arith))
contained (y ∷ xs) x zero below e = inl e
contained (y ∷ xs) x (suc k) below e = inr (contained xs x k (omega (below, arith)) e)

pub some_passes : (p : ℕ → Bool) (xs : List ℕ) (x : ℕ) → In x xs → p x ≡ true → list_any p xs ≡ true
some_passes p [] x h e = absurd h
some_passes p (y ∷ xs) x (inl same) e = or_left (p y) (list_any p xs) (subst (λ z. p z ≡ true) (sym same) e)
some_passes p (y ∷ xs) x (inr h) e = or_right (p y) (list_any p xs) (some_passes p xs x h e)

module _ (g : Passive) where
  abbrev pub leads : ℕ → List ℕ → Bool
  leads n bs = list_any (λ x. list_any (λ y. y == x) (passive_block_at g.blocks n).next) bs

  abbrev pub joins : ℕ → List ℕ → List ℕ
  joins n bs = cond (leads n bs) (bs ++ n ∷ []) bs

  pub joins_cases : (n : ℕ) (bs : List ℕ) (P : List ℕ → Type 0) → (leads n bs ≡ true → P (bs ++ n ∷ [])) → P bs → P (joins n bs)
  joins_cases n bs P anew old = by_test (leads n bs) refl
    where
      by_test : (b : Bool) → leads n bs ≡ b → P (cond b (bs ++ n ∷ []) bs)
      by_test true e = anew e
      by_test false e = old

  -- what is there stays
  pub stays : (n : ℕ) (bs : List ℕ) (x : ℕ) → In x bs → In x (reaching_from g n bs)
  stays zero bs x h = h
  stays (suc n) bs x h = stays n (joins n bs) x (joins_cases n bs (In x) (λ e. in_left x bs (n ∷ []) h) h)

  one_more : (n : ℕ) (bs : List ℕ) (x : ℕ) → In x (joins n bs) → In x bs ⊎ (n ≡ x)
  one_more n bs x = joins_cases n bs (λ cs. In x cs → In x bs ⊎ (n ≡ x)) (λ e h. at_end (in_one x bs (n ∷ []) h)) (λ h. inl h)
    where
      at_end : In x bs ⊎ In x (n ∷ []) → In x bs ⊎ (n ≡ x)
      at_end (inl h) = inl h
      at_end (inr (inl e)) = inr e
      at_end (inr (inr h)) = absurd h

  -- what joins is below
  pub joined_below : (n : ℕ) (bs : List ℕ) (x : ℕ) → In x (reaching_from g n bs) → In x bs ⊎ (x < n)
  joined_below zero bs x h = inl h
  joined_below (suc n) bs x h = elim (joined_below n (joins n bs) x h) [
    | inl k ↦ elim (one_more n bs x k) [ inl there ↦ inl there | inr e ↦ let below : x < suc n = omega (e, arith) in inr below ]
    | inr k ↦ let below : x < suc n = omega (k, arith) in inr below
  ]

  -- a block below n with an edge to a block above it joins where that one is there
  pub leads_there : (n : ℕ) (bs : List ℕ) (b c : ℕ) → b < n → b < c → In c (passive_block_at g.blocks b).next → In c (reaching_from g n bs) → In b (reaching_from g n bs)
  leads_there zero bs b c below rises edge h = absurd (omega (below, arith))
  leads_there (suc n) bs b c below rises edge h = elim (cases_eq b n) [
    | inl e ↦ let e' : n ≡ b = sym e in
        elim (joined_below n (joins n bs) c h) [
          | inl k ↦ elim (one_more n bs c k) [
            | inl there ↦ stays n (joins n bs) b (joins_itself e' there)
            | inr same ↦ absurd (omega (same, rises, e, arith))
          ]
          | inr k ↦ absurd (omega (k, rises, e, arith))
        ]
    | inr apart ↦ let lower : b < n = omega (below, apart, arith) in leads_there n (joins n bs) b c lower rises edge h
  ]
    where
      joins_itself : n ≡ b → In c bs → In b (joins n bs)
      joins_itself e there =
          let leading : leads n bs ≡ true = some_passes (λ x. list_any (λ y. y == x) (passive_block_at g.blocks n).next) bs c there (is_among (passive_block_at g.blocks n).next c (subst (λ m. In c (passive_block_at g.blocks m).next) (sym e) edge)) in
          subst (λ t. In b (cond t (bs ++ n ∷ []) bs)) (sym leading) (in_right b bs (n ∷ []) (inl e))
