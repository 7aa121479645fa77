-- The bytes at the front that pass a test are the longest front whose bytes all pass it.
use Rattle.std.specs.Prelude.{◌≡◌, ℕ, zero, suc, ◌+◌, ◌<◌, ◌≤◌, Bool, true, false, ◌&&◌, cond, List, [], ◌∷◌, take, length}
use Rattle.std.specs.List.{list_all, prefix_len}
use Rattle.std.proofs.Common.{refl, ap, ◌∙◌, arith}

-- one more
one_more : (n : ℕ) → 1 + n ≡ suc n
one_more n = omega arith

-- by whether the first byte passes
all_at : (x : Bool) (p : ℕ → Bool) (b : ℕ) (bytes : List ℕ) → p b ≡ x → list_all p (take (prefix_len p bytes) bytes) ≡ true → list_all p (take (cond x (1 + prefix_len p bytes) 0) (b ∷ bytes)) ≡ true
all_at true p b bytes h ih =
    ap (λ n. list_all p (take n (b ∷ bytes))) (one_more (prefix_len p bytes)) ∙ (λ j. h j && list_all p (take (prefix_len p bytes) bytes)) ∙ ih
all_at false p b bytes h ih = refl

-- they all pass
pub prefix_passes : (p : ℕ → Bool) (bytes : List ℕ) → list_all p (take (prefix_len p bytes) bytes) ≡ true
prefix_passes p [] = refl
prefix_passes p (b ∷ bytes) = all_at (p b) p b bytes refl (prefix_passes p bytes)

-- by whether the first byte passes
more_at : (x : Bool) (p : ℕ → Bool) (b : ℕ) (bytes : List ℕ) (m : ℕ) → p b ≡ x → cond x (1 + prefix_len p bytes) 0 < suc m → (prefix_len p bytes < m → list_all p (take m bytes) ≡ false) → list_all p (take (suc m) (b ∷ bytes)) ≡ false
more_at true p b bytes m h a ih = (λ j. h j && list_all p (take m bytes)) ∙ ih (omega arith)
more_at false p b bytes m h a ih = λ j. h j && list_all p (take m bytes)

-- and no longer front does
pub prefix_longest : (p : ℕ → Bool) (bytes : List ℕ) (m : ℕ) → prefix_len p bytes < m → m ≤ length bytes → list_all p (take m bytes) ≡ false
prefix_longest p bytes zero a b = absurd (omega arith)
prefix_longest p [] (suc m) a b = absurd (omega arith)
prefix_longest p (b ∷ bytes) (suc m) a c = more_at (p b) p b bytes m refl a (λ d. prefix_longest p bytes m d (omega arith))

-- there are some where the first passes
pub prefix_some : (p : ℕ → Bool) (b : ℕ) (bytes : List ℕ) → p b ≡ true → 0 < prefix_len p (b ∷ bytes)
prefix_some p b bytes h = rw h (omega arith)
