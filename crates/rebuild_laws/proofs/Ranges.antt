-- Ranges of numbers in parts, and choices by comparing numbers.
use Rattle.std.specs.Prelude.{◌≡◌, refl, ℕ, zero, suc, ◌+◌, ◌-◌, ◌<◌, ◌≤◌, nat_lt, Bool, true, false, cond, IsTrue, List, [], ◌∷◌, ◌++◌, map, length, filter, slice_get}
use Rattle.std.specs.List.{AllByRecursion, range_with_len}
use Rattle.std.proofs.Common.{ap, arith, ◌∙◌}
use Rattle.std.proofs.lemmas.Bool.Decides.{nat_tests}

pub lower_so : {A : Type 0} (a b : ℕ) (x y : A) → a < b → cond (nat_lt a b) x y ≡ x
lower_so a b x y h = let e : nat_lt a b ≡ true = grind (arith, nat_tests, h) in λ i. cond (e i) x y

pub higher_so : {A : Type 0} (a b : ℕ) (x y : A) → b ≤ a → cond (nat_lt a b) x y ≡ y
higher_so a b x y h = let e : nat_lt a b ≡ false = grind (arith, nat_tests, h) in λ i. cond (e i) x y

pub range_plus : (a k l : ℕ) → range_with_len a (k + l) ≡ range_with_len a k ++ range_with_len (a + k) l
range_plus a zero l = let e : zero + l ≡ l = omega arith in let f : a ≡ a + zero = omega arith in λ i. range_with_len (f i) (e i)
range_plus a (suc k) l =
    let e : suc k + l ≡ suc (k + l) = omega arith in
    let f : a + 1 + k ≡ a + suc k = omega arith in
    ap (range_with_len a) e ∙ ap (λ ns. a ∷ ns) (range_plus (a + 1) k l ∙ ap (λ b. range_with_len (a + 1) k ++ range_with_len b l) f)

pub filter_agree : (p q : ℕ → Bool) (a k : ℕ) → ((v : ℕ) → a ≤ v → v < a + k → p v ≡ q v) → filter p (range_with_len a k) ≡ filter q (range_with_len a k)
filter_agree p q a zero same = refl
filter_agree p q a (suc k) same =
    let rest = filter_agree p q (a + 1) k (λ v low high. same v (omega (low, arith)) (omega (high, arith))) in
    let one = same a (omega arith) (omega arith) in
    λ i. cond (one i) (a ∷ rest i) (rest i)

pub filter_none : (p : ℕ → Bool) (a k : ℕ) → ((v : ℕ) → a ≤ v → v < a + k → p v ≡ false) → filter p (range_with_len a k) ≡ []
filter_none p a k none = filter_agree p (λ v. false) a k none ∙ all_out a k
  where
    all_out : (a k : ℕ) → filter (λ v. false) (range_with_len a k) ≡ []
    all_out a zero = refl
    all_out a (suc k) = all_out (a + 1) k

pub filter_all : (p : ℕ → Bool) (a k : ℕ) → ((v : ℕ) → a ≤ v → v < a + k → p v ≡ true) → filter p (range_with_len a k) ≡ range_with_len a k
filter_all p a k all = filter_agree p (λ v. true) a k all ∙ all_in a k
  where
    all_in : (a k : ℕ) → filter (λ v. true) (range_with_len a k) ≡ range_with_len a k
    all_in a zero = refl
    all_in a (suc k) = ap (λ ns. a ∷ ns) (all_in (a + 1) k)

pub filtered_pass : (p : ℕ → Bool) (vs : List ℕ) → AllByRecursion (λ v. IsTrue (p v)) (filter p vs)
filtered_pass p [] = tt
filtered_pass p (v ∷ vs) = by (p v) refl (filtered_pass p vs)
  where
    by : (b : Bool) → p v ≡ b → AllByRecursion (λ w. IsTrue (p w)) (filter p vs) → AllByRecursion (λ w. IsTrue (p w)) (cond b (v ∷ filter p vs) (filter p vs))
    by true e k = (e, k)
    by false e k = k

pub filter_keeps : (P : ℕ → Type 0) (p : ℕ → Bool) (vs : List ℕ) → AllByRecursion P vs → AllByRecursion P (filter p vs)
filter_keeps P p [] h = tt
filter_keeps P p (v ∷ vs) h = by (p v) (filter_keeps P p vs h.1)
  where
    by : (b : Bool) → AllByRecursion P (filter p vs) → AllByRecursion P (cond b (v ∷ filter p vs) (filter p vs))
    by true k = (h.0, k)
    by false k = k

pub range_each : (a k : ℕ) → AllByRecursion (λ v. (a ≤ v) × (v < a + k)) (range_with_len a k)
range_each a zero = tt
range_each a (suc k) = ((omega arith, omega arith), up (range_with_len (a + 1) k) (range_each (a + 1) k))
  where
    up : (vs : List ℕ) → AllByRecursion (λ v. (a + 1 ≤ v) × (v < a + 1 + k)) vs → AllByRecursion (λ v. (a ≤ v) × (v < a + suc k)) vs
    up [] h = tt
    up (v ∷ vs) h = let low = h.0.0 in let high = h.0.1 in ((omega (low, arith), omega (high, arith)), up vs h.1)

-- a range is another one moved
pub range_moved : (new : ℕ → ℕ) (a b k : ℕ) → ((v : ℕ) → a ≤ v → v < a + k → new v ≡ b + (v - a)) → map new (range_with_len a k) ≡ range_with_len b k
range_moved new a b zero moved = refl
range_moved new a b (suc k) moved =
    let one = moved a (omega arith) (omega arith) in
    let e : b + (a - a) ≡ b = omega arith in
    let rest = range_moved new (a + 1) (b + 1) k (λ v low high. let m = moved v (omega (low, arith)) (omega (high, arith)) in omega (m, low, arith)) in
    λ i. (one ∙ e) i ∷ rest i

pub slice_before : {A : Type 0} (xs ys : List A) (n : ℕ) → n < length xs → slice_get (xs ++ ys) n ≡ slice_get xs n
slice_before [] ys n h = absurd (omega (h, arith))
slice_before (x ∷ xs) ys zero h = refl
slice_before (x ∷ xs) ys (suc n) h = slice_before xs ys n (omega (h, arith))

pub slice_behind : {A : Type 0} (xs ys : List A) (n : ℕ) → length xs ≤ n → slice_get (xs ++ ys) n ≡ slice_get ys (n - length xs)
slice_behind [] ys n h = let e : n ≡ n - 0 = omega arith in ap (slice_get ys) e
slice_behind (x ∷ xs) ys zero h = absurd (omega (h, arith))
slice_behind (x ∷ xs) ys (suc n) h = slice_behind xs ys n (omega (h, arith)) ∙ (let e : n - length xs ≡ suc n - suc (length xs) = omega arith in ap (slice_get ys) e)
