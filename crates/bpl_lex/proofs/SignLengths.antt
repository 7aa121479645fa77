-- No sign is longer than four bytes.
use Rattle.std.specs.Prelude.{◌≡◌, ◌⊎◌, ℕ, ◌-◌, ◌<◌, ◌≤◌, Bool, true, false, ◌||◌, ◌&&◌, nat_le, List, [], ◌∷◌, take, length, bytes_eq}
use Rattle.std.specs.List.{list_all}
use Rattle.std.proofs.Common.{refl, ap, sym, arith}
use Rattle.std.proofs.lemmas.List.{length-take-le}
use Rattle.std.proofs.lemmas.Bool.Decides.{nat_tests}
use Rattle.std.specs.Cmp.Lexicographic.{same_text}
use Rattle.bpl_lex.proofs.FirstBytes.{false_from}
use Rattle.bv_base.specs.Text.{is_among}
use Rattle.bpl_lex.specs.Shape.{brackets, signs, is_sign}

-- where one test and the other is true, both are
and_true : (x y : Bool) → (x && y) ≡ true → (x ≡ true) × (y ≡ true)
and_true true y h = (refl, h)
and_true false y h = absurd (cc)

-- a length that is at most k is not one above k
shorter : (k m n : ℕ) → k < n → nat_le m k ≡ true → m ≡ n → ⊥
shorter k m n above h e = grind (arith, nat_tests)

-- a longer text is another
other : (k : ℕ) (bytes t : List ℕ) → k < length bytes → nat_le (length t) k ≡ true → bytes_eq bytes t ≡ false
other k bytes t above h = false_from (bytes_eq bytes t) (λ e. shorter k (length t) (length bytes) above h (sym (ap length (same_text bytes t (sym e)))))

-- a text longer than each of these is none of them
not_among_shorter : (k : ℕ) (bytes : List ℕ) (texts : List (List ℕ)) → k < length bytes → list_all (λ t. nat_le (length t) k) texts ≡ true → is_among texts bytes ≡ false
not_among_shorter k bytes [] above h = refl
not_among_shorter k bytes (t ∷ texts) above h =
    let parts = and_true (nat_le (length t) k) (list_all (λ u. nat_le (length u) k) texts) h in
    λ j. other k bytes t above parts.0 j || not_among_shorter k bytes texts above parts.1 j

-- a front of more than four bytes is no sign
pub no_longer_sign : (bytes : List ℕ) (m : ℕ) → 4 < m → m ≤ length bytes → is_sign (take m bytes) ≡ false
no_longer_sign bytes m above within =
    let long : 4 < length (take m bytes) = omega (arith, length-take-le m bytes within) in
    λ j. not_among_shorter 4 (take m bytes) brackets long refl j || not_among_shorter 4 (take m bytes) signs long refl j

-- what is longer than one byte less is as long or longer
pub here_or_longer : (k m : ℕ) → 0 < k → k - 1 < m → (m ≡ k) ⊎ (k < m)
here_or_longer k m some h = grind arith
