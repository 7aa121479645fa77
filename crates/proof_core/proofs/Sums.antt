-- The value of a sum: an atom's multiple and the rest.
use Rattle.std.proofs.Common.{◌≡◌, ◌∙◌, refl, sym, ap, subst, ℤ, pos, ◌+ℤ◌, ◌*ℤ◌, Bool, true, false, cond, Some, List, [], arith}
use Rattle.std.proofs.lemmas.Int.{ints}
use Rattle.logic_core.specs.Tree.{Tree, num, linear, Parts, no_parts, part}
use Rattle.logic_core.specs.Value.{Value, whole, int_of}
use Rattle.logic_core.specs.Same.{same_term}
use Rattle.logic_core.specs.Valid.{Calls}
use Rattle.logic_core.proofs.SameTerm.{same_is_equal}
use Rattle.logic_laws.proofs.Gives.{Gives, GivesSum}
use Rattle.logic_core.specs.Combine.{sum_of}
use Rattle.proof_core.specs.Says.{coefficient, without}

exchanged : (a b n : ℤ) → a +ℤ (b +ℤ n) ≡ b +ℤ (a +ℤ n)
exchanged a b n = omega (arith, ints)

atom_zero : (m : ℤ) → m ≡ pos 0 → ((pos 1 *ℤ m) +ℤ pos 0) +ℤ pos 0 ≡ pos 0
atom_zero m e = omega (arith, ints)

number_zero : (m : ℤ) → m ≡ pos 0 → pos 0 +ℤ m ≡ pos 0
number_zero m e = omega (arith, ints)

module _ (frees : List Value) (calls : Calls) where
  -- a sum of value n is the multiple of an atom and what the other parts give
  abbrev pub Parted : Tree → Parts → ℤ → ℤ → Type 0
  Parted t qs k n = (v : Value) × (m : ℤ) × Gives frees calls t [] v × GivesSum frees calls qs [] m × (n ≡ (k *ℤ int_of v) +ℤ m)

  parted_at : (t u : Tree) (ps : Parts) (j k : ℤ) (v : Value) (m : ℤ) (c : Bool) → same_term t u ≡ c → cond c (Some j) (coefficient t ps) ≡ Some k → Gives frees calls u [] v → GivesSum frees calls ps [] m → (coefficient t ps ≡ Some k → Parted t (without t ps) k m) → Parted t (cond c ps (part j u (without t ps))) k ((j *ℤ int_of v) +ℤ m)
  parted_at t u ps j k v m true same e g gs others = let one : j ≡ k = cc in
      (v, m, subst (λ x. Gives frees calls x [] v) (sym (same_is_equal t u same)) g, gs, ap (λ i. (i *ℤ int_of v) +ℤ m) one)
  parted_at t u ps j k v m false same e g gs others = let p = others e in
      (p.0, (j *ℤ int_of v) +ℤ p.1, p.2, (v, p.1, g, p.3, refl), ap (λ i. (j *ℤ int_of v) +ℤ i) p.4 ∙ exchanged (j *ℤ int_of v) (k *ℤ int_of p.0) p.1)

  pub parted : (t : Tree) (ps : Parts) (k n : ℤ) → coefficient t ps ≡ Some k → GivesSum frees calls ps [] n → Parted t (without t ps) k n
  parted t no_parts k n e g = absurd (cc)
  parted t (part j u ps) k n e g = subst (λ i. Parted t (without t (part j u ps)) k i) (sym g.4)
      (parted_at t u ps j k g.0 g.1 (same_term t u) refl e g.2 g.3 (λ h. parted t ps k g.1 h g.3))

  -- a term of value zero as a sum
  abbrev pub IsZero : Tree → Type 0
  IsZero d = (n : ℤ) × GivesSum frees calls (sum_of d).parts [] n × (n +ℤ (sum_of d).rest ≡ pos 0)

  pub zero_sum : (d : Tree) (v : Value) → Gives frees calls d [] v → v ≡ whole (pos 0) → IsZero d
  zero_sum (num n) v g e = (pos 0, refl, number_zero n (ap int_of (sym g ∙ e)))
  zero_sum (linear ps c) v g e = (g.0, g.1, ap int_of (sym g.2 ∙ e))
  zero_sum d v g e = ((pos 1 *ℤ int_of v) +ℤ pos 0, (v, pos 0, g, refl, refl), atom_zero (int_of v) (ap int_of e))
