-- Euclid's algorithm gives the same however many turns it may take beyond those that it needs.
use Rattle.std.proofs.Common.{◌≡◌, ◌∙◌, refl, sym, ap, ℕ, zero, suc, ◌+◌, ◌%◌, ◌<◌, nat_eq, Bool, true, false, cond, arith}
use Rattle.std.proofs.lemmas.Bool.{ne_eqb}
use Rattle.logic_core.specs.Tighten.{gcd_within, gcd}

turns_by : (c : Bool) (m n a b : ℕ) → nat_eq b 0 ≡ c → b < suc m → b < suc n → ((a % b < m) → (a % b < n) → gcd_within m b (a % b) ≡ gcd_within n b (a % b)) → cond c a (gcd_within m b (a % b)) ≡ cond c a (gcd_within n b (a % b))
turns_by true m n a b e h k ih = refl
turns_by false m n a b e h k ih = let q : (b ≡ 0 → ⊥) = (λ z. let f : nat_eq b 0 ≡ true = ap (λ x. nat_eq x 0) z in cc) in ih (omega arith) (omega arith)

pub more_turns : (m n a b : ℕ) → b < m → b < n → gcd_within m a b ≡ gcd_within n a b
more_turns zero n a b h k = absurd (omega arith)
more_turns (suc m) zero a b h k = absurd (omega arith)
more_turns (suc m) (suc n) a b h k = turns_by (nat_eq b 0) m n a b refl h k (λ i j. more_turns m n b (a % b) i j)

turn : (m a b : ℕ) → (b ≡ 0 → ⊥) → gcd_within (suc m) a b ≡ gcd_within m b (a % b)
turn m a b h = ap (λ c. cond c a (gcd_within m b (a % b))) (ne_eqb b 0 h)

-- a turn
pub gcd_step : (a b : ℕ) → (b ≡ 0 → ⊥) → gcd b (a % b) ≡ gcd a b
gcd_step a b h = let e : suc b ≡ b + 1 = omega arith in more_turns (a % b + 1) b b (a % b) (omega arith) (let f : (b ≡ 0 → ⊥) = h in omega arith) ∙ sym (turn b a b h) ∙ ap (λ n. gcd_within n a b) e
