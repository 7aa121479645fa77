-- The multipliers of a pair of opposite entries: both are positive, and negative where the entry is turned.
use Rattle.std.specs.Prelude.{◌≡◌, refl, ℕ, zero, suc, ◌+◌, ◌*◌, ◌/◌, ◌%◌, ◌<◌, ℤ, pos, negsuc, neg_ℤ, int_lt, unsigned_abs, Bool, true, false, not, ◌&&◌, ◌||◌, Option, Some, None, if◌then◌else◌}
use Rattle.std.specs.Ordering.{int_eq}
use Rattle.std.proofs.Common.{◌∙◌, subst, arith}
use Rattle.std.proofs.lemmas.Bool.Decides.{Decides-int_eq}
use Rattle.std.proofs.lemmas.Int.{ints}
use Rattle.logic_core.proofs.Booleans.{both_true}
use Rattle.logic_core.specs.Tree.{Tree, at_most, Parts, no_parts, part}
use Rattle.logic_core.specs.Wide.{checked, fits}
use Rattle.logic_core.specs.Same.{same_term}
use Rattle.logic_core.specs.Tighten.{gcd}
use Rattle.logic_core.specs.Combine.{lead, first_part}
use Rattle.logic_laws.proofs.Options.{map_some, cond_has, cond_some}
use Rattle.logic_laws.proofs.Divided.{gcd_divides}
use Rattle.linear_certs.specs.Multiplier.{may_multiply}
use Rattle.theory_rules.specs.Combining.{Entry, opposite_parts, counted, is_at_most, is_positive, is_negative, are_opposite, size_of, lead_size, multiplier}

-- a quotient by a divisor is above zero, as the number is
quotient : (g n q : ℕ) → 0 < n → n ≡ g * q → 0 < n / g
quotient zero n q h e = absurd (omega arith)
quotient (suc g) n zero h e = absurd (omega arith)
quotient (suc g) n (suc q) h e = by_parts (n / suc g) refl
  where
    by_parts : (k : ℕ) → n / suc g ≡ k → 0 < n / suc g
    by_parts zero z =
        let whole : n ≡ suc g * (n / suc g) + n % suc g = omega arith in
        let rest : n ≡ suc g * 0 + n % suc g = subst (λ k. n ≡ suc g * k + n % suc g) z whole in
        let small : n < suc g = omega arith in
        let big : suc g * suc q ≡ suc g * q + suc g = omega arith in
        let more : n ≡ suc g * q + suc g = e ∙ big in absurd (omega arith)
    by_parts (suc k) z = omega arith

pub divided_positive : (a b : ℕ) → 0 < a → 0 < b → (0 < b / gcd a b) × (0 < a / gcd a b)
divided_positive a b h k = let d = gcd_divides a b in (quotient (gcd a b) b d.1.0 k d.1.1, quotient (gcd a b) a d.0.0 h d.0.1)

-- the size of a number with a sign isn't zero
negative_size : (k : ℤ) → is_negative k ≡ true → 0 < unsigned_abs k
negative_size (pos zero) h = absurd (cc)
negative_size (pos (suc n)) h = omega arith
negative_size (negsuc n) h = omega arith

positive_size : (k : ℤ) → is_positive k ≡ true → 0 < unsigned_abs k
positive_size (pos zero) h = absurd (cc)
positive_size (pos (suc n)) h = omega arith
positive_size (negsuc n) h = omega arith

signed_sizes : (j k : ℤ) → ((is_negative j && is_positive k) || (is_positive j && is_negative k)) ≡ true → (0 < unsigned_abs j) × (0 < unsigned_abs k)
signed_sizes j k h = at_first (is_negative j && is_positive k) refl h
  where
    at_first : (x : Bool) → (is_negative j && is_positive k) ≡ x → (x || (is_positive j && is_negative k)) ≡ true → (0 < unsigned_abs j) × (0 < unsigned_abs k)
    at_first true e l = let b = both_true (is_negative j) (is_positive k) e in (negative_size j b.0, positive_size k b.1)
    at_first false e l = let b = both_true (is_positive j) (is_negative k) l in (positive_size j b.0, negative_size k b.1)

opposite_sizes : (o p : Option (ℤ × Tree)) → are_opposite o p ≡ true → (0 < size_of o) × (0 < size_of p)
opposite_sizes (Some p) (Some q) h = signed_sizes p.0 q.0 (both_true (same_term p.1 q.1) ((is_negative p.0 && is_positive q.0) || (is_positive p.0 && is_negative q.0)) h).1
opposite_sizes (Some p) None h = absurd (cc)
opposite_sizes None p h = absurd (cc)

turned_size : (k : ℤ) → unsigned_abs (neg_ℤ k) ≡ unsigned_abs k
turned_size (pos zero) = refl
turned_size (pos (suc n)) = refl
turned_size (negsuc n) = refl

turned_lead : (ps : Parts) → size_of (first_part (opposite_parts ps)) ≡ size_of (first_part ps)
turned_lead no_parts = refl
turned_lead (part k t ps) = turned_size k

counted_size : (e : Entry) → size_of (lead (counted e)) ≡ lead_size e
counted_size e = at_turned e.turned refl
  where
    at_turned : (x : Bool) → e.turned ≡ x → size_of (lead (counted e)) ≡ lead_size e
    at_turned true h = rw h (turned_lead e.form.parts)
    at_turned false h = rw h refl

-- the leads of opposite entries have sizes above zero
pub lead_sizes : (d e : Entry) → are_opposite (lead (counted d)) (lead (counted e)) ≡ true → (0 < lead_size d) × (0 < lead_size e)
lead_sizes d e h = let p = opposite_sizes (lead (counted d)) (lead (counted e)) h in (subst (λ n. 0 < n) (counted_size d) p.0, subst (λ n. 0 < n) (counted_size e) p.1)

-- a number that stays in 128 bits is itself
checked_is : (n k : ℤ) → checked n ≡ Some k → k ≡ n
checked_is n k h = cond_some (λ _. k ≡ n) (fits n) (Some n) None k h (λ _ e. cc) (λ _ e. absurd (cc))

nonzero : (k : ℤ) → (k ≡ pos 0 → ⊥) → not (int_eq k (pos 0)) ≡ true
nonzero k h = at_test (int_eq k (pos 0)) refl
  where
    at_test : (x : Bool) → int_eq k (pos 0) ≡ x → not x ≡ true
    at_test true e = absurd (h ((Decides-int_eq k (pos 0)).0 e))
    at_test false e = refl

above_nothing : (n : ℕ) → int_lt (pos 0) (pos (suc n)) ≡ true
above_nothing n = grind (arith, ints)

-- by a positive number every linear fact may be multiplied, and by a negative one those that aren't Le
positive_may : (n : ℕ) (t : Tree) → may_multiply (pos (suc n)) t ≡ true
positive_may n (at_most z d) = above_nothing n
positive_may n t = nonzero (pos (suc n)) (λ e. cc)

negative_may : (n : ℕ) (t : Tree) → is_at_most t ≡ false → may_multiply (negsuc n) t ≡ true
negative_may n (at_most z d) h = absurd (cc)
negative_may n t h = nonzero (negsuc n) (λ e. cc)

pub may_by : (e : Entry) (n : ℕ) (k : ℤ) (t : Tree) → 0 < n → (e.turned ≡ true → is_at_most t ≡ false) → multiplier e n ≡ Some k → may_multiply k t ≡ true
may_by e zero k t h turned m = absurd (omega arith)
may_by e (suc n) k t h turned m =
    let p = map_some (λ j. if e.turned then neg_ℤ j else j) (checked (pos (suc n))) k m in
    let is_n : p.0 ≡ pos (suc n) = checked_is (pos (suc n)) p.0 p.1 in
    let is_k : (if e.turned then neg_ℤ (pos (suc n)) else pos (suc n)) ≡ k = subst (λ j. (if e.turned then neg_ℤ j else j) ≡ k) is_n p.2 in
    subst (λ j. may_multiply j t ≡ true) is_k (cond_has (λ j. may_multiply j t ≡ true) e.turned (neg_ℤ (pos (suc n))) (pos (suc n)) (λ x. negative_may n t (turned x)) (λ _. positive_may n t))

divides_positive : (g a q : ℕ) → 0 < a → a ≡ g * q → 0 < g
divides_positive zero a q h e = absurd (omega arith)
divides_positive (suc g) a q h e = omega arith

-- their divisor is above zero
pub divisor_positive : (d e : Entry) → are_opposite (lead (counted d)) (lead (counted e)) ≡ true → 0 < gcd (lead_size d) (lead_size e)
divisor_positive d e h = let p = gcd_divides (lead_size d) (lead_size e) in divides_positive (gcd (lead_size d) (lead_size e)) (lead_size d) p.0.0 (lead_sizes d e h).0 p.0.1
