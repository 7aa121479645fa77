-- Tightening keeps sorts and values.
-- Here s is the sort of a term, f that the values for the bound variables fit, g the values of its parts, l that the divisor is above 0, r the divided sum with its value.
use Rattle.std.proofs.Common.{◌≡◌, ◌∙◌, refl, sym, ap, subst, ℕ, ◌<◌, ◌%◌, nat_lt, nat_eq, eqb-true, false-eqb, ltb-true, ℤ, pos, ◌+ℤ◌, ◌*ℤ◌, unsigned_abs, int_le, int_eq, Bool, true, false, not, if◌then◌else◌, Some, List, arith}
use Rattle.logic_core.proofs.Booleans.{all_true}
use Rattle.logic_core.specs.Tree.{Kind, int, boolean, Tree, num, truth, linear, negation, equal, at_most, Parts, no_parts, part}
use Rattle.logic_core.specs.Def.{Def}
use Rattle.logic_core.specs.Value.{Value, whole, flag, int_of, holds, same, are_of}
use Rattle.logic_core.specs.Valid.{Calls}
use Rattle.logic_core.specs.Sorts.{is, sort_of, are_ints}
use Rattle.logic_core.specs.Junction.{is_zero}
use Rattle.logic_core.specs.Tighten.{parts_gcd, floor_div, divided, tight_sum, tight_at_most, tight_equal, tight_not, tighten_not, tighten}
use Rattle.logic_core.proofs.Values.{HasOne}
use Rattle.logic_core.proofs.Kept.{Keeps}
use Rattle.logic_laws.proofs.Integers as Z
use Rattle.logic_laws.proofs.Options.{when_some, cond_has}
use Rattle.logic_laws.proofs.SortTests.{sort_is}
use Rattle.logic_laws.proofs.SumSorts.{first_int, sum_sort, at_most_sort}
use Rattle.logic_laws.proofs.FormulaSorts.{negation_sort, part_of_negation, parts_of_at_most, parts_of_equal, equal_sort}
use Rattle.logic_laws.proofs.Gives.{Gives, GivesSum}
use Rattle.logic_laws.proofs.ValueSorts.{CallsHaveSorts}
use Rattle.logic_laws.proofs.SumValues.{sum_gives}
use Rattle.logic_laws.proofs.FormulaValues.{zero_found}
use Rattle.logic_laws.specs.Divisors.{DividesParts}
use Rattle.logic_laws.proofs.Divided.{parts_divided, exact, at_least_zero_divided, zero_divided, never_zero, divides_without_remainder}

module _ (vars : List Kind) (defs : List Def) where
  divided_ints : (ps : Parts) (g : ℕ) (b : List Kind) → are_ints vars defs b ps ≡ true → are_ints vars defs b (divided g ps) ≡ true
  divided_ints no_parts g b h = refl
  divided_ints (part k t ps) g b h = let f = first_int vars defs k t ps b h in all_true (is int (sort_of vars defs b t)) (are_ints vars defs b (divided g ps)) (sort_is int (sort_of vars defs b t) f.0) (divided_ints ps g b f.1)

  tight_sum_sort : (g : ℕ) (ps : Parts) (c : ℤ) (b : List Kind) → sort_of vars defs b (linear ps c) ≡ Some int → sort_of vars defs b (tight_sum g ps c) ≡ Some int
  tight_sum_sort g ps c b s = sum_sort vars defs (divided g ps) (floor_div c g) b (divided_ints ps g b (when_some (are_ints vars defs b ps) int int s).0)

  zero_below_sort : (d : Tree) (b : List Kind) → sort_of vars defs b d ≡ Some int → sort_of vars defs b (at_most (num (pos 0)) d) ≡ Some boolean
  zero_below_sort d b s = at_most_sort vars defs (num (pos 0)) d b refl s

  pub tight_at_most_sort : (d : Tree) (b : List Kind) → sort_of vars defs b d ≡ Some int → sort_of vars defs b (tight_at_most d) ≡ Some boolean
  tight_at_most_sort (linear ps c) b s = cond_has (λ x. sort_of vars defs b x ≡ Some boolean) (nat_lt 1 (parts_gcd ps)) (at_most (num (pos 0)) (tight_sum (parts_gcd ps) ps c)) (at_most (num (pos 0)) (linear ps c))
      (λ _. zero_below_sort (tight_sum (parts_gcd ps) ps c) b (tight_sum_sort (parts_gcd ps) ps c b s)) (λ _. zero_below_sort (linear ps c) b s)
  tight_at_most_sort d b s = zero_below_sort d b s

  at_zero_sort : (d : Tree) (b : List Kind) → sort_of vars defs b d ≡ Some int → sort_of vars defs b (equal d (num (pos 0))) ≡ Some boolean
  at_zero_sort d b s = equal_sort vars defs d (num (pos 0)) b int s refl

  pub tight_equal_sort : (d : Tree) (b : List Kind) → sort_of vars defs b d ≡ Some int → sort_of vars defs b (tight_equal d) ≡ Some boolean
  tight_equal_sort (linear ps c) b s = cond_has (λ x. sort_of vars defs b x ≡ Some boolean) (nat_lt 1 (parts_gcd ps)) (if nat_eq (unsigned_abs c % parts_gcd ps) 0 then equal (tight_sum (parts_gcd ps) ps c) (num (pos 0)) else truth false) (equal (linear ps c) (num (pos 0)))
      (λ _. cond_has (λ x. sort_of vars defs b x ≡ Some boolean) (nat_eq (unsigned_abs c % parts_gcd ps) 0) (equal (tight_sum (parts_gcd ps) ps c) (num (pos 0))) (truth false)
      (λ _. at_zero_sort (tight_sum (parts_gcd ps) ps c) b (tight_sum_sort (parts_gcd ps) ps c b s)) (λ _. refl)) (λ _. at_zero_sort (linear ps c) b s)
  tight_equal_sort d b s = at_zero_sort d b s

  tight_not_sort : (t : Tree) (b : List Kind) → sort_of vars defs b t ≡ Some boolean → sort_of vars defs b (tight_not t) ≡ Some boolean
  tight_not_sort (truth x) b s = refl
  tight_not_sort t b s = negation_sort vars defs t b s

  -- a side of an equation with 0 is a number
  beside_zero_sort : (d z : Tree) (b : List Kind) → is_zero z ≡ true → sort_of vars defs b (equal d z) ≡ Some boolean → sort_of vars defs b d ≡ Some int
  beside_zero_sort d z b h s = let p = parts_of_equal vars defs d z b boolean s in
      let q : Some int ≡ Some p.0 = subst (λ x. sort_of vars defs b x ≡ Some p.0) (zero_found z h) p.2 in p.1 ∙ sym q

  tighten_not_sort : (t : Tree) (b : List Kind) → sort_of vars defs b t ≡ Some boolean → sort_of vars defs b (tighten_not t) ≡ Some boolean
  tighten_not_sort (equal d z) b s = cond_has (λ x. sort_of vars defs b x ≡ Some boolean) (is_zero z) (tight_not (tight_equal d)) (negation (equal d z))
      (λ h. tight_not_sort (tight_equal d) b (tight_equal_sort d b (beside_zero_sort d z b h s))) (λ _. negation_sort vars defs (equal d z) b s)
  tighten_not_sort t b s = negation_sort vars defs t b s

  pub tighten_sort : (t : Tree) (b : List Kind) → sort_of vars defs b t ≡ Some boolean → sort_of vars defs b (tighten t) ≡ Some boolean
  tighten_sort (at_most z d) b s = cond_has (λ x. sort_of vars defs b x ≡ Some boolean) (is_zero z) (tight_at_most d) (at_most z d) (λ _. tight_at_most_sort d b (parts_of_at_most vars defs z d b boolean s).1) (λ _. s)
  tighten_sort (equal d z) b s = cond_has (λ x. sort_of vars defs b x ≡ Some boolean) (is_zero z) (tight_equal d) (equal d z) (λ h. tight_equal_sort d b (beside_zero_sort d z b h s)) (λ _. s)
  tighten_sort (negation t) b s = tighten_not_sort t b (part_of_negation vars defs t b boolean s)
  tighten_sort t b s = s

  module _ (frees : List Value) (calls : Calls) (has_call : (f : ℕ) (vs : List Value) → HasOne (calls f vs)) (keeps_call : (f : ℕ) (vs : List Value) → Keeps (calls f vs)) (fits : are_of vars frees ≡ true) (call_sorts : CallsHaveSorts defs calls) where
    -- divided by g the parts have the g-th part of the value
    divided_gives : (ps : Parts) (g : ℕ) (b : List Value) (n : ℤ) → 0 < g → DividesParts g ps → GivesSum frees calls ps b n → (m : ℤ) × GivesSum frees calls (divided g ps) b m × (n ≡ pos g *ℤ m)
    divided_gives no_parts g b n h d s = (pos 0, refl, s ∙ sym (Z.times_nothing (pos g)))
    divided_gives (part k t ps) g b n h d s = let r = divided_gives ps g b s.1 h d.1 s.3 in
        ((floor_div k g *ℤ int_of s.0) +ℤ r.0, (s.0, r.0, s.2, r.1, refl), s.4 ∙ Z.divided_part k (pos g) (floor_div k g) (int_of s.0) s.1 r.0 (exact k g h d.0) r.2)

    tight_sum_gives : (ps : Parts) (c : ℤ) (bs : List Kind) (b : List Value) (m : ℤ) → sort_of vars defs bs (linear ps c) ≡ Some int → are_of bs b ≡ true → GivesSum frees calls (divided (parts_gcd ps) ps) b m → Gives frees calls (tight_sum (parts_gcd ps) ps c) b (whole (m +ℤ floor_div c (parts_gcd ps)))
    tight_sum_gives ps c bs b m s f g = sum_gives vars defs frees calls has_call keeps_call fits call_sorts (divided (parts_gcd ps) ps) (floor_div c (parts_gcd ps)) bs b m (divided_ints ps (parts_gcd ps) bs (when_some (are_ints vars defs bs ps) int int s).0) f g

    zero_below : (d : Tree) (b : List Value) (n : ℤ) → Gives frees calls d b (whole n) → Gives frees calls (at_most (num (pos 0)) d) b (flag (int_le (pos 0) n))
    zero_below d b n g = (whole (pos 0), whole n, refl, g, refl)

    pub tight_at_most_gives : (d : Tree) (bs : List Kind) (b : List Value) (v : Value) → sort_of vars defs bs d ≡ Some int → are_of bs b ≡ true → Gives frees calls d b v → Gives frees calls (tight_at_most d) b (flag (int_le (pos 0) (int_of v)))
    tight_at_most_gives (linear ps c) bs b v s f g = cond_has (λ x. Gives frees calls x b (flag (int_le (pos 0) (int_of v)))) (nat_lt 1 (parts_gcd ps)) (at_most (num (pos 0)) (tight_sum (parts_gcd ps) ps c)) (at_most (num (pos 0)) (linear ps c))
        (λ e. let l : 0 < parts_gcd ps = (let q = ltb-true 1 (parts_gcd ps) e in omega arith) in
        let r = divided_gives ps (parts_gcd ps) b g.0 l (parts_divided ps) g.1 in
        subst (Gives frees calls (at_most (num (pos 0)) (tight_sum (parts_gcd ps) ps c)) b)
        (ap flag (sym (at_least_zero_divided (parts_gcd ps) r.0 c l)) ∙ ap (λ x. flag (int_le (pos 0) (x +ℤ c))) (sym r.2) ∙ ap (λ x. flag (int_le (pos 0) (int_of x))) (sym g.2))
        (zero_below (tight_sum (parts_gcd ps) ps c) b (r.0 +ℤ floor_div c (parts_gcd ps)) (tight_sum_gives ps c bs b r.0 s f r.1)))
        (λ _. (whole (pos 0), v, refl, g, refl))
    tight_at_most_gives d bs b v s f g = (whole (pos 0), v, refl, g, refl)

    pub tight_equal_gives : (d : Tree) (bs : List Kind) (b : List Value) (v : Value) → sort_of vars defs bs d ≡ Some int → are_of bs b ≡ true → Gives frees calls d b v → Gives frees calls (tight_equal d) b (flag (same v (whole (pos 0))))
    tight_equal_gives (linear ps c) bs b v s f g = cond_has (λ x. Gives frees calls x b (flag (same v (whole (pos 0))))) (nat_lt 1 (parts_gcd ps)) (if nat_eq (unsigned_abs c % parts_gcd ps) 0 then equal (tight_sum (parts_gcd ps) ps c) (num (pos 0)) else truth false) (equal (linear ps c) (num (pos 0)))
        (λ e. let l : 0 < parts_gcd ps = (let q = ltb-true 1 (parts_gcd ps) e in omega arith) in
        let r = divided_gives ps (parts_gcd ps) b g.0 l (parts_divided ps) g.1 in
        cond_has (λ x. Gives frees calls x b (flag (same v (whole (pos 0))))) (nat_eq (unsigned_abs c % parts_gcd ps) 0) (equal (tight_sum (parts_gcd ps) ps c) (num (pos 0))) (truth false)
        (λ z. let q = exact c (parts_gcd ps) l (divides_without_remainder (parts_gcd ps) c l (eqb-true (unsigned_abs c % parts_gcd ps) 0 z)) in (
          whole (r.0 +ℤ floor_div c (parts_gcd ps)),
          whole (pos 0),
          tight_sum_gives ps c bs b r.0 s f r.1,
          refl,
          ap (λ x. flag (same x (whole (pos 0)))) g.2 ∙ ap (λ x. flag (int_eq (x +ℤ c) (pos 0))) r.2 ∙ ap (λ x. flag (int_eq ((pos (parts_gcd ps) *ℤ r.0) +ℤ x) (pos 0))) q
              ∙ ap (λ x. flag (int_eq x (pos 0))) (sym (Z.times_plus (pos (parts_gcd ps)) r.0 (floor_div c (parts_gcd ps)))) ∙ ap flag (zero_divided (parts_gcd ps) (r.0 +ℤ floor_div c (parts_gcd ps)) l),
        ))
        (λ z. ap (λ x. flag (same x (whole (pos 0)))) g.2 ∙ ap (λ x. flag (int_eq (x +ℤ c) (pos 0))) r.2 ∙ ap flag (never_zero (parts_gcd ps) r.0 c l (false-eqb (unsigned_abs c % parts_gcd ps) 0 (sym z)))))
        (λ _. (v, whole (pos 0), g, refl, refl))
    tight_equal_gives d bs b v s f g = (v, whole (pos 0), g, refl, refl)

    tight_not_gives : (t : Tree) (b : List Value) (h : Bool) → Gives frees calls t b (flag h) → Gives frees calls (tight_not t) b (flag (not h))
    tight_not_gives (truth x) b h g = ap (λ v. flag (not (holds v))) g
    tight_not_gives t b h g = (flag h, g, refl)

    beside_zero : (z : Tree) (b : List Value) (w : Value) → is_zero z ≡ true → Gives frees calls z b w → w ≡ whole (pos 0)
    beside_zero z b w h g = subst (λ x. Gives frees calls x b w) (zero_found z h) g

    tighten_not_gives : (t : Tree) (bs : List Kind) (b : List Value) (v : Value) → sort_of vars defs bs t ≡ Some boolean → are_of bs b ≡ true → Gives frees calls t b v → Gives frees calls (tighten_not t) b (flag (not (holds v)))
    tighten_not_gives (equal d z) bs b v s f g = cond_has (λ x. Gives frees calls x b (flag (not (holds v)))) (is_zero z) (tight_not (tight_equal d)) (negation (equal d z))
        (λ h. subst (Gives frees calls (tight_not (tight_equal d)) b) (ap (λ x. flag (not (same g.0 x))) (sym (beside_zero z b g.1 h g.3)) ∙ ap (λ x. flag (not (holds x))) (sym g.4))
        (tight_not_gives (tight_equal d) b (same g.0 (whole (pos 0))) (tight_equal_gives d bs b g.0 (beside_zero_sort d z bs h s) f g.2)))
        (λ _. (v, g, refl))
    tighten_not_gives t bs b v s f g = (v, g, refl)

    pub tighten_gives : (t : Tree) (bs : List Kind) (b : List Value) (r : Value) → sort_of vars defs bs t ≡ Some boolean → are_of bs b ≡ true → Gives frees calls t b r → Gives frees calls (tighten t) b r
    tighten_gives (at_most z d) bs b r s f g = cond_has (λ x. Gives frees calls x b r) (is_zero z) (tight_at_most d) (at_most z d)
        (λ h. subst (Gives frees calls (tight_at_most d) b) (ap (λ x. flag (int_le (int_of x) (int_of g.1))) (sym (beside_zero z b g.0 h g.2)) ∙ sym g.4) (tight_at_most_gives d bs b g.1 (parts_of_at_most vars defs z d bs boolean s).1 f g.3))
        (λ _. g)
    tighten_gives (equal d z) bs b r s f g = cond_has (λ x. Gives frees calls x b r) (is_zero z) (tight_equal d) (equal d z)
        (λ h. subst (Gives frees calls (tight_equal d) b) (ap (λ x. flag (same g.0 x)) (sym (beside_zero z b g.1 h g.3)) ∙ sym g.4) (tight_equal_gives d bs b g.0 (beside_zero_sort d z bs h s) f g.2))
        (λ _. g)
    tighten_gives (negation t) bs b r s f g = subst (Gives frees calls (tighten_not t) b) (sym g.2) (tighten_not_gives t bs b g.0 (part_of_negation vars defs t bs boolean s) f g.1)
    tighten_gives t bs b r s f g = g
