-- The greatest common divisor of the coefficients of a sum divides each of them, and division rounds down.
use Rattle.std.proofs.Common.{◌≡◌, ◌∙◌, refl, sym, ap, subst, ℕ, zero, suc, ◌+◌, ◌-◌, ◌*◌, ◌/◌, ◌%◌, ◌<◌, nat_eq, eqb-true, ℤ, pos, negsuc, ◌+ℤ◌, ◌*ℤ◌, neg_ℤ, unsigned_abs, int_le, int_eq, Bool, true, false, cond, arith, mul_assoc, mul-add}
use Rattle.std.proofs.lemmas.Int.{ints, unsigned_abs-mul}
use Rattle.std.proofs.Math.Nat.{mod-eq-sub-mul-div, mul-sub}
use Rattle.std.proofs.lemmas.Bool.Decides.{Decides-int_eq}
use Rattle.logic_core.proofs.Booleans.{same_test}
use Rattle.logic_core.specs.Tree.{Parts, no_parts, part}
use Rattle.logic_core.specs.Tighten.{gcd_within, gcd, parts_gcd, floor_div}
use Rattle.logic_laws.specs.Divisors.{Divides, DividesInt, DividesParts, PartsGcdIsGreatest}
use Rattle.logic_laws.proofs.Options.{cond_has}
use Rattle.logic_laws.proofs.Integers.{times_plus, times_minus, plus_zero}

divides_itself : (n : ℕ) → Divides n n
divides_itself n = (1, omega arith)

divides_zero : (n : ℕ) → Divides n 0
divides_zero n = (0, omega arith)

divides_through : (d e n : ℕ) → Divides d e → Divides e n → Divides d n
divides_through d e n p q = (p.0 * q.0, q.1 ∙ ap (λ x. x * q.0) p.1 ∙ mul_assoc d p.0 q.0)

-- from b and the remainder to a
divides_back : (d a b : ℕ) → (b ≡ 0 → ⊥) → Divides d b → Divides d (a % b) → Divides d a
divides_back d a b ne p q = (
  p.0 * (a / b) + q.0,
  (let e : a ≡ b * (a / b) + a % b = omega arith in e) ∙ ap (λ x. b * (a / b) + x) q.1 ∙ ap (λ x. x * (a / b) + d * q.0) p.1 ∙ ap (λ x. x + d * q.0) (mul_assoc d p.0 (a / b)) ∙ sym (mul-add d (p.0 * (a / b)) q.0),
)

gcd_by : (c : Bool) (turns a b : ℕ) → nat_eq b 0 ≡ c → b < suc turns → (((b ≡ 0 → ⊥) → Divides (gcd_within turns b (a % b)) b × Divides (gcd_within turns b (a % b)) (a % b))) → Divides (cond (nat_eq b 0) a (gcd_within turns b (a % b))) a × Divides (cond (nat_eq b 0) a (gcd_within turns b (a % b))) b
gcd_by c turns a b e h f = cond_has (λ d. Divides d a × Divides d b) (nat_eq b 0) a (gcd_within turns b (a % b))
    (λ z. (divides_itself a, subst (Divides a) (sym (eqb-true b 0 z)) (divides_zero a)))
    (λ z. let ne : b ≡ 0 → ⊥ = λ q. let w : nat_eq b 0 ≡ true = subst (λ x. nat_eq x 0 ≡ true) (sym q) refl in (cc) in let g = f ne in (divides_back (gcd_within turns b (a % b)) a b ne g.0 g.1, g.0))

gcd_within_divides : (turns a b : ℕ) → b < turns → Divides (gcd_within turns a b) a × Divides (gcd_within turns a b) b
gcd_within_divides zero a b h = absurd (omega arith)
gcd_within_divides (suc turns) a b h = gcd_by (nat_eq b 0) turns a b refl h (λ ne. gcd_within_divides turns b (a % b) (below ne))
  where
    below : (b ≡ 0 → ⊥) → a % b < turns
    below ne = omega arith

-- what divides two numbers divides what the one leaves by the other
rest_divided : (d a b : ℕ) → Divides d a → Divides d b → Divides d (a % b)
rest_divided d a b p q = (
  p.0 - q.0 * (a / b),
  mod-eq-sub-mul-div a b ∙ ap (λ x. a - x * (a / b)) q.1 ∙ ap (λ x. a - x) (mul_assoc d q.0 (a / b)) ∙ ap (λ x. x - d * (q.0 * (a / b))) p.1 ∙ sym (mul-sub d p.0 (q.0 * (a / b))),
)

-- and so their greatest common divisor
gcd_within_greatest : (turns a b d : ℕ) → Divides d a → Divides d b → Divides d (gcd_within turns a b)
gcd_within_greatest zero a b d p q = p
gcd_within_greatest (suc turns) a b d p q = cond_has (Divides d) (nat_eq b 0) a (gcd_within turns b (a % b)) (λ z. p) (λ z. gcd_within_greatest turns b (a % b) d q (rest_divided d a b p q))

divides_abs : (d : ℕ) (k : ℤ) → DividesInt d k → Divides d (unsigned_abs k)
divides_abs d k p = (unsigned_abs p.0, ap unsigned_abs p.1 ∙ unsigned_abs-mul (pos d) p.0)

divides_gcd : (ps : Parts) (d : ℕ) → DividesParts d ps → Divides d (parts_gcd ps)
divides_gcd no_parts d h = divides_zero d
divides_gcd (part k t ps) d h = gcd_within_greatest (unsigned_abs k + 1) (parts_gcd ps) (unsigned_abs k) d (divides_gcd ps d h.1) (divides_abs d k h.0)

pub gcd_divides : (a b : ℕ) → Divides (gcd a b) a × Divides (gcd a b) b
gcd_divides a b = gcd_within_divides (b + 1) a b (omega arith)

pub divides_int : (g : ℕ) (k : ℤ) → Divides g (unsigned_abs k) → DividesInt g k
divides_int g (pos n) p = (pos p.0, ap pos p.1)
divides_int g (negsuc n) p = let e : pos (suc n) ≡ pos g *ℤ pos p.0 = ap pos p.1 in (neg_ℤ (pos p.0), ap neg_ℤ e ∙ sym (times_minus (pos g) (pos p.0)))

pub divides_parts : (ps : Parts) (d : ℕ) → Divides d (parts_gcd ps) → DividesParts d ps
divides_parts no_parts d h = tt
divides_parts (part k t ps) d h = let g = gcd_divides (parts_gcd ps) (unsigned_abs k) in
    (divides_int d k (divides_through d (gcd (parts_gcd ps) (unsigned_abs k)) (unsigned_abs k) h g.1), divides_parts ps d (divides_through d (gcd (parts_gcd ps) (unsigned_abs k)) (parts_gcd ps) h g.0))

pub parts_divided : (ps : Parts) → DividesParts (parts_gcd ps) ps
parts_divided ps = divides_parts ps (parts_gcd ps) (divides_itself (parts_gcd ps))

pub parts_gcd_is_greatest : PartsGcdIsGreatest
parts_gcd_is_greatest ps = (parts_divided ps, λ d h. divides_gcd ps d h)

-- division rounds down, and leaves less than the divisor
pub floor_is : (c : ℤ) (g : ℕ) → 0 < g → (r : ℕ) × (r < g) × (c ≡ (pos g *ℤ floor_div c g) +ℤ pos r)
floor_is (pos n) g h = (n % g, omega arith, let e : n ≡ g * (n / g) + n % g = omega arith in ap pos e)
floor_is (negsuc n) g h = (g - 1 - n % g, omega arith, let e : n ≡ g * (n / g) + n % g = omega arith in let l : n % g < g = omega arith in omega (arith, ints))

-- less than g is no multiple of g but 0
pub no_multiple : (g : ℕ) (z : ℤ) (r : ℕ) → pos g *ℤ z ≡ pos r → r < g → r ≡ 0
no_multiple g (pos zero) r e l = omega (arith, ints)
no_multiple g (pos (suc a)) r e l = absurd (let f : g * suc a ≡ r = omega (arith, ints) in omega arith)
no_multiple g (negsuc a) r e l = omega (arith, ints)

-- where g divides k, nothing is left
pub exact : (k : ℤ) (g : ℕ) → 0 < g → DividesInt g k → k ≡ pos g *ℤ floor_div k g
exact k g h d =
    let f = floor_is k g h in
    let w : pos g *ℤ (d.0 +ℤ neg_ℤ (floor_div k g)) ≡ pos f.0 = times_plus (pos g) d.0 (neg_ℤ (floor_div k g)) ∙ (let a = d.1 in let b = f.2 in let c = times_minus (pos g) (floor_div k g) in omega (arith, ints)) in
    let z : f.0 ≡ 0 = no_multiple g (d.0 +ℤ neg_ℤ (floor_div k g)) f.0 w f.1 in
    f.2 ∙ ap (λ r. (pos g *ℤ floor_div k g) +ℤ pos r) z ∙ plus_zero (pos g *ℤ floor_div k g)

-- 0 ≤ g * m + c where 0 ≤ m + floor (c / g)
pub at_least_zero_divided : (g : ℕ) (m c : ℤ) → 0 < g → int_le (pos 0) ((pos g *ℤ m) +ℤ c) ≡ int_le (pos 0) (m +ℤ floor_div c g)
at_least_zero_divided g m c h =
    let f = floor_is c g h in
    let e : (pos g *ℤ m) +ℤ c ≡ (pos g *ℤ (m +ℤ floor_div c g)) +ℤ pos f.0 = (let a = times_plus (pos g) m (floor_div c g) in let b = f.2 in omega (arith, ints)) in
    ap (int_le (pos 0)) e ∙ sign g (m +ℤ floor_div c g) f.0 h f.1
  where
    sign : (g : ℕ) (x : ℤ) (r : ℕ) → 0 < g → r < g → int_le (pos 0) ((pos g *ℤ x) +ℤ pos r) ≡ int_le (pos 0) x
    sign g (pos a) r h l = grind arith
    sign g (negsuc a) r h l = let e : (pos g *ℤ negsuc a) +ℤ pos r ≡ negsuc (g * suc a - r - 1) = omega (arith, ints) in ap (int_le (pos 0)) e

-- g * x is 0 where x is
no_zero : (g : ℕ) (x : ℤ) → 0 < g → pos g *ℤ x ≡ pos 0 → x ≡ pos 0
no_zero g (pos zero) h e = refl
no_zero g (pos (suc a)) h e = absurd (let f : g * suc a ≡ 0 = omega (arith, ints) in omega arith)
no_zero g (negsuc a) h e = absurd (let f : g * suc a ≡ 0 = omega (arith, ints) in omega arith)

pub zero_divided : (g : ℕ) (x : ℤ) → 0 < g → int_eq (pos g *ℤ x) (pos 0) ≡ int_eq x (pos 0)
zero_divided g x h = same_test (int_eq (pos g *ℤ x) (pos 0)) (int_eq x (pos 0))
    (λ e. (Decides-int_eq x (pos 0)).1 (no_zero g x h ((Decides-int_eq (pos g *ℤ x) (pos 0)).0 e)))
    (λ e. (Decides-int_eq (pos g *ℤ x) (pos 0)).1 (ap (λ y. pos g *ℤ y) ((Decides-int_eq x (pos 0)).0 e) ∙ (let z : pos g *ℤ pos 0 ≡ pos 0 = omega (arith, ints) in z)))

no_remainder : (g n : ℕ) (q : ℤ) → 0 < g → pos n ≡ pos g *ℤ q → n % g ≡ 0
no_remainder g n q h e =
    let d : n ≡ g * (n / g) + n % g = omega arith in
    let l : n % g < g = omega arith in
    let f : pos n ≡ (pos g *ℤ pos (n / g)) +ℤ pos (n % g) = ap pos d in
    let w : pos g *ℤ (q +ℤ neg_ℤ (pos (n / g))) ≡ pos (n % g) = times_plus (pos g) q (neg_ℤ (pos (n / g))) ∙ (let c = times_minus (pos g) (pos (n / g)) in omega (arith, ints)) in
    no_multiple g (q +ℤ neg_ℤ (pos (n / g))) (n % g) w l

divisible : (g : ℕ) (m c : ℤ) → 0 < g → (pos g *ℤ m) +ℤ c ≡ pos 0 → unsigned_abs c % g ≡ 0
divisible g m (pos n) h e = no_remainder g n (neg_ℤ m) h (let f = times_minus (pos g) m in omega (arith, ints))
divisible g m (negsuc n) h e = no_remainder g (suc n) m h (omega (arith, ints))

not_true : (c : Bool) → (c ≡ true → ⊥) → c ≡ false
not_true true ne = absurd (ne refl)
not_true false ne = refl

-- no multiple of g and a number that g doesn't divide are opposite
pub never_zero : (g : ℕ) (m c : ℤ) → 0 < g → (unsigned_abs c % g ≡ 0 → ⊥) → int_eq ((pos g *ℤ m) +ℤ c) (pos 0) ≡ false
never_zero g m c h ne = not_true (int_eq ((pos g *ℤ m) +ℤ c) (pos 0)) (λ e. ne (divisible g m c h ((Decides-int_eq ((pos g *ℤ m) +ℤ c) (pos 0)).0 e)))

-- g divides where no remainder is left
pub divides_without_remainder : (g : ℕ) (c : ℤ) → 0 < g → unsigned_abs c % g ≡ 0 → DividesInt g c
divides_without_remainder g c h e = divides_int g c (unsigned_abs c / g, without (unsigned_abs c) e)
  where
    without : (n : ℕ) → n % g ≡ 0 → n ≡ g * (n / g)
    without n z = omega arith
