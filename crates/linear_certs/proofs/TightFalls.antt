-- A tightened fact's sums fall where the fact's do: what divides each coefficient leaves none 0.
use Rattle.std.proofs.Common.{◌≡◌, ◌∙◌, sym, ap, ℕ, ◌<◌, ◌%◌, nat_lt, nat_eq, ltb-true, ℤ, pos, unsigned_abs, int_eq, true, false, if◌then◌else◌, arith}
use Rattle.logic_core.specs.Tree.{Tree, num, truth, linear, negation, equal, at_most, Parts, no_parts, part}
use Rattle.logic_core.specs.Junction.{is_zero}
use Rattle.logic_core.specs.Tighten.{parts_gcd, floor_div, divided, tight_sum, tight_at_most, tight_equal, tight_not, tighten_not}
use Rattle.logic_laws.specs.Divisors.{DividesParts}
use Rattle.logic_laws.proofs.Divided.{parts_divided, exact, zero_divided}
use Rattle.logic_laws.proofs.Options.{cond_has}
use Rattle.linear_certs.specs.FallingLaws.{IsAbove, FallStrictly, EachSumFalls, FallInParts, TighteningFalls}
use Rattle.linear_certs.proofs.NormalFalls.{sum_falls}

above_divided : (t : Tree) (g : ℕ) (ps : Parts) → IsAbove t ps → IsAbove t (divided g ps)
above_divided t g no_parts h = tt
above_divided t g (part k u ps) h = h

divided_falls : (g : ℕ) (ps : Parts) → 0 < g → DividesParts g ps → FallStrictly ps → FallStrictly (divided g ps)
divided_falls g no_parts low d h = tt
divided_falls g (part k t ps) low d h =
    let same = ap (λ n. int_eq n (pos 0)) (exact k g low d.0) in
    (sym (zero_divided g (floor_div k g) low) ∙ sym same ∙ h.0, above_divided t g ps h.1, divided_falls g ps low d.1 h.2)

divided_within : (g : ℕ) (ps : Parts) → FallInParts ps → FallInParts (divided g ps)
divided_within g no_parts h = tt
divided_within g (part k t ps) h = (h.0, divided_within g ps h.1)

tight_sum_falls : (ps : Parts) → (c : ℤ) → nat_lt 1 (parts_gcd ps) ≡ true → FallStrictly ps → FallInParts ps → EachSumFalls (tight_sum (parts_gcd ps) ps c)
tight_sum_falls ps c e h g =
    let above = ltb-true 1 (parts_gcd ps) e in
    sum_falls (divided (parts_gcd ps) ps) (floor_div c (parts_gcd ps)) (divided_falls (parts_gcd ps) ps (omega (above, arith)) (parts_divided ps) h) (divided_within (parts_gcd ps) ps g)

tight_at_most_falls : (d : Tree) → EachSumFalls d → EachSumFalls (tight_at_most d)
tight_at_most_falls (linear ps c) h = cond_has EachSumFalls (nat_lt 1 (parts_gcd ps)) (at_most (num (pos 0)) (tight_sum (parts_gcd ps) ps c)) (at_most (num (pos 0)) (linear ps c))
    (λ e. (tt, tight_sum_falls ps c e h.0 h.1)) (λ _. (tt, h))
tight_at_most_falls d h = (tt, h)

tight_equal_falls : (d : Tree) → EachSumFalls d → EachSumFalls (tight_equal d)
tight_equal_falls (linear ps c) h = cond_has EachSumFalls (nat_lt 1 (parts_gcd ps)) (if nat_eq (unsigned_abs c % parts_gcd ps) 0 then equal (tight_sum (parts_gcd ps) ps c) (num (pos 0)) else truth false) (equal (linear ps c) (num (pos 0)))
    (λ e. cond_has EachSumFalls (nat_eq (unsigned_abs c % parts_gcd ps) 0) (equal (tight_sum (parts_gcd ps) ps c) (num (pos 0))) (truth false) (λ _. (tight_sum_falls ps c e h.0 h.1, tt)) (λ _. tt)) (λ _. (h, tt))
tight_equal_falls d h = (h, tt)

tight_not_falls : (t : Tree) → EachSumFalls t → EachSumFalls (tight_not t)
tight_not_falls (truth b) h = tt
tight_not_falls t h = h

tighten_not_falls : (t : Tree) → EachSumFalls t → EachSumFalls (tighten_not t)
tighten_not_falls (equal d z) h = cond_has EachSumFalls (is_zero z) (tight_not (tight_equal d)) (negation (equal d z)) (λ _. tight_not_falls (tight_equal d) (tight_equal_falls d h.0)) (λ _. h)
tighten_not_falls t h = h

pub tightening_falls : TighteningFalls
tightening_falls (at_most z d) h = cond_has EachSumFalls (is_zero z) (tight_at_most d) (at_most z d) (λ _. tight_at_most_falls d h.1) (λ _. h)
tightening_falls (equal d z) h = cond_has EachSumFalls (is_zero z) (tight_equal d) (equal d z) (λ _. tight_equal_falls d h.0) (λ _. h)
tightening_falls (negation t) h = tighten_not_falls t h
tightening_falls t h = h
