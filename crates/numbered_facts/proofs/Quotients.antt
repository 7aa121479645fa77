-- Tightened facts, by the numbers of their sums.
use Rattle.std.proofs.Common.{◌≡◌, refl, sym, ap, subst, ◌∙◌, ℕ, ℤ, pos, ◌+◌, ◌%◌, ◌<◌, ◌≤◌, nat_lt, nat_eq, Bool, true, false, Some, None, Result, Ok, Err, IfOk, List, [], ◌∷◌, ◌++◌, map, length, take, get_or, unsigned_abs, if◌then◌else◌, lt-ltb, le-ltb}
use Rattle.std.specs.List.{AllByRecursion}
use Rattle.std.specs.declared.alloc.AllocError.{AllocError}
use Rattle.std.proofs.lemmas.List.{map-append, take_all, take_more}
use Rattle.logic_core.specs.Tree.{Tree, num, truth, linear, negation, equal, at_most, part}
use Rattle.logic_core.specs.View.{parts_of}
use Rattle.logic_core.specs.Wide.{when}
use Rattle.logic_core.specs.Sum.{term_of}
use Rattle.logic_core.specs.Junction.{is_zero}
use Rattle.logic_core.specs.Tighten.{gcd, parts_gcd, floor_div, divided, tight_at_most, tight_equal, tight_not, tighten_not, tighten}
use Rattle.term_bank.specs.declared.node.Node.{Node}
use Rattle.term_bank.specs.declared.node.Node.TheVariants.{Not, Eq, Le}
use Rattle.term_bank.specs.Node.{tree_over}
use Rattle.term_bank.specs.Numbered.{at, Begins}
use Rattle.term_bank.proofs.Numbers.{begins_at}
use Rattle.numbered_terms.specs.Lists.{atoms_at}
use Rattle.numbered_forms.specs.Sums.{sum_at}
use Rattle.numbered_forms.specs.declared.sum.NumberedSum.{NumberedSum}
use Rattle.numbered_facts.specs.Tightening.{atoms_gcd, divided_atoms, divisor_of, constant_of, quotient_of, equation_side}

pub gcd_is : (ts : List Tree) (ps : List (ℤ × ℕ)) → atoms_gcd ps ≡ parts_gcd (parts_of (atoms_at ts ps))
gcd_is ts [] = refl
gcd_is ts (p ∷ ps) = ap (λ n. gcd n (unsigned_abs p.0)) (gcd_is ts ps)

divided_is : (ts : List Tree) (g : ℕ) (ps : List (ℤ × ℕ)) → parts_of (atoms_at ts (divided_atoms g ps)) ≡ divided g (parts_of (atoms_at ts ps))
divided_is ts g [] = refl
divided_is ts g (p ∷ ps) = ap (part (floor_div p.0 g) (at ts p.1)) (divided_is ts g ps)

divided_below : (P : ℕ → Type 0) (g : ℕ) (ps : List (ℤ × ℕ)) → AllByRecursion P (map (λ (p : ℤ × ℕ). p.1) ps) → AllByRecursion P (map (λ (p : ℤ × ℕ). p.1) (divided_atoms g ps))
divided_below P g [] h = tt
divided_below P g (p ∷ ps) h = (h.0, divided_below P g ps h.1)

-- the sum that is made of a Sum
module _ (ts : List Tree) (g d : ℕ) (ps qs : List (ℤ × ℕ)) (c : ℤ) (same : qs ≡ ps) where
  pub quotient_made : at ts d ≡ linear (parts_of (atoms_at ts ps)) c → (r : Result NumberedSum AllocError) → IfOk r (λ s. s.parts.items ≡ divided_atoms g qs) → IfOk r (λ s. s.rest ≡ floor_div c g) → IfOk r (λ s. sum_at ts s ≡ quotient_of g (at ts d))
  quotient_made shape (Ok s) parts rest =
      let e : parts_of (atoms_at ts s.parts.items) ≡ divided g (parts_of (atoms_at ts ps)) = ap (λ xs. parts_of (atoms_at ts xs)) (parts ∙ ap (divided_atoms g) same) ∙ divided_is ts g ps in
      let made : sum_at ts s ≡ quotient_of g (linear (parts_of (atoms_at ts ps)) c) = λ k. record { parts = e k; rest = rest k } in
      made ∙ ap (quotient_of g) (sym shape)
  quotient_made shape (Err e) parts rest = tt

  pub quotient_below : AllByRecursion (λ j. j < length ts) (map (λ (p : ℤ × ℕ). p.1) ps) → (r : Result NumberedSum AllocError) → IfOk r (λ s. s.parts.items ≡ divided_atoms g qs) → IfOk r (λ s. AllByRecursion (λ j. j < length ts) (map (λ (p : ℤ × ℕ). p.1) s.parts.items))
  quotient_below low (Ok s) parts = subst (λ xs. AllByRecursion (λ j. j < length ts) (map (λ (p : ℤ × ℕ). p.1) xs)) (sym (parts ∙ ap (divided_atoms g) same)) (divided_below (λ j. j < length ts) g ps low)
  quotient_below low (Err e) parts = tt

-- what becomes of Le(0, d) and of Eq(d, 0), by what divides the coefficients of d
at_most_is : (d : Tree) → tight_at_most d ≡ (if nat_lt 1 (divisor_of d) then at_most (num (pos 0)) (term_of (quotient_of (divisor_of d) d)) else at_most (num (pos 0)) d)
at_most_is (linear ps c) = refl
at_most_is d = refl

equal_is : (d : Tree) → tight_equal d ≡ (if nat_lt 1 (divisor_of d) then (if nat_eq (unsigned_abs (constant_of d) % divisor_of d) 0 then equal (term_of (quotient_of (divisor_of d) d)) (num (pos 0)) else truth false) else equal d (num (pos 0)))
equal_is (linear ps c) = refl
equal_is d = refl

module _ (d : Tree) (g : ℕ) (is : g ≡ divisor_of d) where
  at_most_by : (b : Bool) → nat_lt 1 g ≡ b → (if b then at_most (num (pos 0)) (term_of (quotient_of g d)) else at_most (num (pos 0)) d) ≡ tight_at_most d
  at_most_by b h = ap (λ c. if c then at_most (num (pos 0)) (term_of (quotient_of g d)) else at_most (num (pos 0)) d) (sym h)
      ∙ ap (λ n. if nat_lt 1 n then at_most (num (pos 0)) (term_of (quotient_of n d)) else at_most (num (pos 0)) d) is ∙ sym (at_most_is d)

  equal_by : (a b : Bool) → nat_lt 1 g ≡ a → nat_eq (unsigned_abs (constant_of d) % g) 0 ≡ b → (if a then (if b then equal (term_of (quotient_of g d)) (num (pos 0)) else truth false) else equal d (num (pos 0))) ≡ tight_equal d
  equal_by a b h r = (λ k. if (sym h k) then (if (sym r k) then equal (term_of (quotient_of g d)) (num (pos 0)) else truth false) else equal d (num (pos 0)))
      ∙ ap (λ n. if nat_lt 1 n then (if nat_eq (unsigned_abs (constant_of d) % n) 0 then equal (term_of (quotient_of n d)) (num (pos 0)) else truth false) else equal d (num (pos 0))) is ∙ sym (equal_is d)

  pub at_most_whole : g ≤ 1 → at_most (num (pos 0)) d ≡ tight_at_most d
  at_most_whole l = at_most_by false (le-ltb 1 g l)

  pub equal_whole : g ≤ 1 → equal d (num (pos 0)) ≡ tight_equal d
  equal_whole l = equal_by false (nat_eq (unsigned_abs (constant_of d) % g) 0) (le-ltb 1 g l) refl

  pub equal_never : 1 < g → nat_eq (unsigned_abs (constant_of d) % g) 0 ≡ false → truth false ≡ tight_equal d
  equal_never l r = equal_by true false (lt-ltb 1 g l) r

  pub at_most_divided : 1 < g → (t : Tree) → t ≡ term_of (quotient_of g d) → at_most (num (pos 0)) t ≡ tight_at_most d
  at_most_divided l t e = ap (at_most (num (pos 0))) e ∙ at_most_by true (lt-ltb 1 g l)

  pub equal_divided : 1 < g → nat_eq (unsigned_abs (constant_of d) % g) 0 ≡ true → (t : Tree) → t ≡ term_of (quotient_of g d) → equal t (num (pos 0)) ≡ tight_equal d
  equal_divided l r t e = ap (λ u. equal u (num (pos 0))) e ∙ equal_by true true (lt-ltb 1 g l) r

-- the Not of Eq(d, 0), and of every other fact
side_by : (b : Bool) (d e : Tree) (z : Tree) → is_zero z ≡ b → when b (Some d) ≡ Some e → tighten_not (equal d z) ≡ tight_not (tight_equal e)
side_by true d e z h g = let same : d ≡ e = cc in ap (λ c. if c then tight_not (tight_equal d) else negation (equal d z)) h ∙ ap (λ t. tight_not (tight_equal t)) same
side_by false d e z h g = absurd (cc)

pub side_tight : (t d : Tree) → equation_side t ≡ Some d → tighten_not t ≡ tight_not (tight_equal d)
side_tight (equal e z) d h = side_by (is_zero z) e d z refl h
side_tight t d h = absurd (cc)

no_side_by : (b : Bool) (d z : Tree) → is_zero z ≡ b → when b (Some d) ≡ None → tighten_not (equal d z) ≡ negation (equal d z)
no_side_by true d z h g = absurd (cc)
no_side_by false d z h g = ap (λ c. if c then tight_not (tight_equal d) else negation (equal d z)) h

pub no_side : (t : Tree) → equation_side t ≡ None → tighten_not t ≡ negation t
no_side (equal d z) h = no_side_by (is_zero z) d z refl h
no_side t h = refl

-- what a fact is tightened to, by its sides
pub tight_zero : (t z d : Tree) → t ≡ at_most z d → is_zero z ≡ true → tight_at_most d ≡ tighten t
tight_zero t z d s h = ap (λ b. if b then tight_at_most d else at_most z d) (sym h) ∙ ap tighten (sym s)

pub at_most_stays : (t z d : Tree) → t ≡ at_most z d → is_zero z ≡ false → t ≡ tighten t
at_most_stays t z d s h = s ∙ ap (λ b. if b then tight_at_most d else at_most z d) (sym h) ∙ ap tighten (sym s)

pub equal_zero : (t d z : Tree) → t ≡ equal d z → is_zero z ≡ true → tight_equal d ≡ tighten t
equal_zero t d z s h = ap (λ b. if b then tight_equal d else equal d z) (sym h) ∙ ap tighten (sym s)

pub equal_stays : (t d z : Tree) → t ≡ equal d z → is_zero z ≡ false → t ≡ tighten t
equal_stays t d z s h = s ∙ ap (λ b. if b then tight_equal d else equal d z) (sym h) ∙ ap tighten (sym s)

pub others_stay : (of : ℕ → Tree) (m : Node) → ((z d : ℕ) → m ≡ Le z d → ⊥) → ((d z : ℕ) → m ≡ Eq d z → ⊥) → ((t : ℕ) → m ≡ Not t → ⊥) → tree_over of m ≡ tighten (tree_over of m)
others_stay of (Le z d) a b c = absurd (a z d refl)
others_stay of (Eq d z) a b c = absurd (b d z refl)
others_stay of (Not t) a b c = absurd (c t refl)
others_stay of m a b c = refl

-- Le(0, d) and Eq(d, 0), of numbers in a longer store
module _ (ts us : List Tree) (z d : ℕ) (b : Begins ts us) (l : d < length ts) (is : at us z ≡ num (pos 0)) where
  pub at_most_later : at_most (at us z) (at us d) ≡ at_most (num (pos 0)) (at ts d)
  at_most_later = λ k. at_most (is k) (begins_at ts us d b l k)

  pub equal_later : equal (at us d) (at us z) ≡ equal (at ts d) (num (pos 0))
  equal_later = λ k. equal (begins_at ts us d b l k) (is k)

-- a loop that divides the atoms one by one
module _ (g : ℕ) (ps : List (ℤ × ℕ)) (i : ℕ) where
  pub divided_next : (p q : ℤ × ℕ) (old new : List (ℤ × ℕ)) → i < length ps → p ≡ get_or ps i p → old ≡ divided_atoms g (take i ps) → new ≡ old ++ q ∷ [] → q ≡ (floor_div p.0 g, p.1) → new ≡ divided_atoms g (take (i + 1) ps)
  divided_next p q old new l e so_far next is = next ∙ (λ k. so_far k ++ is k ∷ []) ∙ ap (λ (r : ℤ × ℕ). divided_atoms g (take i ps) ++ (floor_div r.0 g, r.1) ∷ []) e
      ∙ sym (ap (divided_atoms g) (take_more ps i p l) ∙ map-append (λ (r : ℤ × ℕ). (floor_div r.0 g, r.1)) (take i ps) (get_or ps i p ∷ []))

  pub divided_all : (qs : List (ℤ × ℕ)) → length ps ≤ i → qs ≡ divided_atoms g (take i ps) → qs ≡ divided_atoms g ps
  divided_all qs l e = e ∙ ap (divided_atoms g) (take_all i ps l)
