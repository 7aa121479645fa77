-- The globals that a procedure may modify: each stands after those before it, and lies where globals do.
use Rattle.std.specs.Prelude.{◌≡◌, ℕ, zero, suc, ◌+◌, ◌-◌, ◌<◌, ◌≤◌, ◌==◌, Bool, true, false, cond, List, [], ◌∷◌, length, filter}
use Rattle.std.specs.List.{range_with_len, list_any}
use Rattle.std.specs.List.Sorted.{IsStrictlyIncreasing}
use Rattle.std.proofs.Common.{arith, get_or, sym, subst}
use Rattle.bpl_model.specs.Module.{Module, Proc}
use Rattle.bpl_model.specs.Numbering.{first_global, global_numbers}
use Rattle.bpl_model.specs.Contract.{modified, named_in_modifies}

-- each is no less than low, and greater than those before
abbrev Rises : ℕ → List ℕ → Type 0
Rises low [] = Unit {0}
Rises low (x ∷ xs) = (low ≤ x) × Rises (x + 1) xs

lower : (low : ℕ) (xs : List ℕ) → Rises (low + 1) xs → Rises low xs
lower low [] h = tt
lower low (x ∷ xs) h = let l = h.0 in (omega (arith, l), h.1)

one_more : (b : Bool) (low : ℕ) (xs : List ℕ) → Rises (low + 1) xs → Rises low (cond b (low ∷ xs) xs)
one_more true low xs h = (omega arith, h)
one_more false low xs h = lower low xs h

filter_rises : (p : ℕ → Bool) (low count : ℕ) → Rises low (filter p (range_with_len low count))
filter_rises p low zero = tt
filter_rises p low (suc n) = one_more (p low) low (filter p (range_with_len (low + 1) n)) (filter_rises p (low + 1) n)

no_less : (low : ℕ) (xs : List ℕ) → Rises low xs → (k : ℕ) → k < length xs → low ≤ get_or xs k 0
no_less low [] h k l = absurd (omega (arith, l))
no_less low (x ∷ xs) h zero l = h.0
no_less low (x ∷ xs) h (suc k) l = let a = h.0 in let b = no_less (x + 1) xs h.1 k (omega (arith, l)) in omega (arith, a, b)

rises_on : (low : ℕ) (xs : List ℕ) → Rises low xs → IsStrictlyIncreasing xs
rises_on low [] h k l = absurd (omega (arith, l))
rises_on low (x ∷ xs) h zero l = let a : x + 1 ≤ get_or xs 0 0 = no_less (x + 1) xs h.1 0 (omega (arith, l)) in omega (arith, a)
rises_on low (x ∷ xs) h (suc k) l = let e : suc k + 1 ≡ suc (k + 1) = omega arith in subst (λ j. get_or xs k 0 < get_or (x ∷ xs) j 0) (sym e) (rises_on (x + 1) xs h.1 k (omega (arith, l)))

one_more_below : (b : Bool) (low n : ℕ) (xs : List ℕ) → ((k : ℕ) → k < length xs → get_or xs k 0 < low + 1 + n) → (k : ℕ) → k < length (cond b (low ∷ xs) xs) → get_or (cond b (low ∷ xs) xs) k 0 < low + suc n
one_more_below true low n xs h zero l = omega arith
one_more_below true low n xs h (suc k) l = let a = h k (omega (arith, l)) in omega (arith, a)
one_more_below false low n xs h k l = let a = h k l in omega (arith, a)

filter_below : (p : ℕ → Bool) (low count : ℕ) (k : ℕ) → k < length (filter p (range_with_len low count)) → get_or (filter p (range_with_len low count)) k 0 < low + count
filter_below p low zero k l = absurd (omega (arith, l))
filter_below p low (suc n) k l = one_more_below (p low) low n (filter p (range_with_len (low + 1) n)) (filter_below p (low + 1) n) k l

module _ (m : Module) (q : Proc) where
  abbrev may : ℕ → Bool
  may g = list_any (λ x. x == g) (named_in_modifies q.specs)

  pub modified_rise : IsStrictlyIncreasing (modified m q)
  modified_rise = rises_on (first_global m) (filter may (global_numbers m)) (filter_rises may (first_global m) (length m.globals))

  pub modified_inside : (k : ℕ) → k < length (modified m q) → (length m.consts ≤ get_or (modified m q) k 0) × (get_or (modified m q) k 0 < length m.consts + length m.globals)
  modified_inside k l = (
    no_less (first_global m) (filter may (global_numbers m)) (filter_rises may (first_global m) (length m.globals)) k l,
    filter_below may (first_global m) (length m.globals) k l,
  )

-- of two places the later one has the greater number
further : (xs : List ℕ) → IsStrictlyIncreasing xs → (i d : ℕ) → i + suc d < length xs → get_or xs i 0 < get_or xs (i + suc d) 0
further xs up i zero l = up i (omega (arith, l))
further xs up i (suc d) l =
    let e : i + suc d + 1 ≡ i + suc (suc d) = omega arith in
    let a = further xs up i d (omega (arith, l)) in
    let b : get_or xs (i + suc d) 0 < get_or xs (i + suc (suc d)) 0 = subst (λ j. get_or xs (i + suc d) 0 < get_or xs j 0) e (up (i + suc d) (omega (arith, l))) in
    omega (arith, a, b)

pub greater : (xs : List ℕ) → IsStrictlyIncreasing xs → (i j : ℕ) → i < j → j < length xs → get_or xs i 0 < get_or xs j 0
greater xs up i j h l = let e : i + suc (j - suc i) ≡ j = omega (arith, h) in subst (λ k. get_or xs i 0 < get_or xs k 0) e (further xs up i (j - suc i) (omega (arith, e, l)))
