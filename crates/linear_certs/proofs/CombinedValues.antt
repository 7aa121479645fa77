-- A sum of multiples of linear forms has the sum of the multiples of their values.
-- Here g and h are the values of forms, e what the computation gives, i and j the values on the way.
use Rattle.std.proofs.Common.{◌≡◌, ◌∙◌, refl, sym, ap, ℕ, ℤ, pos, ◌+ℤ◌, ◌*ℤ◌, true, ◌&&◌, Some, List, int_eq, arith}
use Rattle.std.proofs.lemmas.Int.{ints}
use Rattle.std.proofs.lemmas.Bool.Decides.{Decides-int_eq}
use Rattle.logic_core.proofs.Booleans.{both_true}
use Rattle.logic_core.specs.Tree.{Kind, Tree, num, linear, Parts, no_parts, part}
use Rattle.logic_core.specs.Def.{Def}
use Rattle.logic_core.specs.Value.{Value, whole, int_of, are_of}
use Rattle.logic_core.specs.Valid.{Calls}
use Rattle.logic_core.specs.Sum.{Linear, constant, sum_term, term_of}
use Rattle.logic_core.specs.Combine.{sum_of, add_multiple, combined}
use Rattle.logic_core.proofs.Values.{HasOne}
use Rattle.logic_core.proofs.Kept.{Keeps}
use Rattle.logic_laws.proofs.Integers as Z
use Rattle.logic_laws.proofs.Options.{bind_some, cond_has}
use Rattle.logic_laws.proofs.Gives.{Gives}
use Rattle.logic_laws.proofs.ValueSorts.{CallsHaveSorts}
use Rattle.logic_laws.proofs.SumValues.{GivesLinear, constant_gives, term_gives}

-- in the order in which the multiples are added
two_multiples : (x y c : ℤ) → y +ℤ (x +ℤ pos 0) ≡ c → x +ℤ y ≡ c
two_multiples x y c e = omega (arith, ints, e)

module _ (vars : List Kind) (defs : List Def) (frees : List Value) (calls : Calls) (has_call : (f : ℕ) (vs : List Value) → HasOne (calls f vs)) (keeps_call : (f : ℕ) (vs : List Value) → Keeps (calls f vs)) (fits : are_of vars frees ≡ true) (call_sorts : CallsHaveSorts defs calls) where
  -- the value of a linear form is x
  abbrev pub FormIs : Linear → List Value → ℤ → Type 0
  FormIs a b x = GivesLinear vars defs frees calls has_call keeps_call fits call_sorts a b x

  multiple_is : (k : ℤ) (a s r : Linear) (b : List Value) (x y : ℤ) → FormIs a b x → FormIs s b y → add_multiple k a s ≡ Some r → FormIs r b ((k *ℤ x) +ℤ y)
  multiple_is k a s r b x y g h e = term_gives vars defs frees calls has_call keeps_call fits call_sorts (linear a.parts a.rest) k s r b (whole x) y (g.0, g.1, ap whole g.2) h e

  pub combined_is : (a c s : Linear) (p q : ℤ) (b : List Value) (x y : ℤ) → FormIs a b x → FormIs c b y → combined a p c q ≡ Some s → FormIs s b ((p *ℤ x) +ℤ (q *ℤ y))
  combined_is a c s p q b x y g h e =
      let u = bind_some (add_multiple p a (constant (pos 0))) (λ r. add_multiple q c r) s e in
      let i = multiple_is p a (constant (pos 0)) u.0 b x (pos 0) g (constant_gives vars defs frees calls has_call keeps_call fits call_sorts (pos 0) b) u.1 in
      let j = multiple_is q c u.0 s b y ((p *ℤ x) +ℤ pos 0) h i u.2 in
      (j.0, j.1, two_multiples (p *ℤ x) (q *ℤ y) (j.0 +ℤ s.rest) j.2)

  -- a term as a form of one part
  one_part_is : (t : Tree) (b : List Value) (v : Value) → Gives frees calls t b v → FormIs (record { parts = part (pos 1) t no_parts; rest = pos 0 }) b (int_of v)
  one_part_is t b v g = ((pos 1 *ℤ int_of v) +ℤ pos 0, (v, pos 0, g, refl, refl), sym (Z.one_part (pos 1) (int_of v) (pos 0) (pos 0) refl refl refl))

  -- the form of a term has its value
  pub form_of_term_is : (d : Tree) (b : List Value) (v : Value) → Gives frees calls d b v → FormIs (sum_of d) b (int_of v)
  form_of_term_is (num n) b v g = (pos 0, refl, ap int_of g ∙ sym (Z.zero_plus n))
  form_of_term_is (linear ps c) b v g = (g.0, g.1, ap int_of g.2)
  form_of_term_is d b v g = one_part_is d b v g

  sum_is : (ps : Parts) (c : ℤ) (b : List Value) (x : ℤ) → Gives frees calls (sum_term ps c) b (whole x) → FormIs (record { parts = ps; rest = c }) b x
  sum_is no_parts c b x g = (pos 0, refl, ap int_of g ∙ sym (Z.zero_plus c))
  sum_is (part k t no_parts) c b x g = cond_has (λ u. Gives frees calls u b (whole x) → FormIs (record { parts = part k t no_parts; rest = c }) b x) (int_eq k (pos 1) && int_eq c (pos 0)) t (linear (part k t no_parts) c)
      (λ e h. let p = both_true (int_eq k (pos 1)) (int_eq c (pos 0)) e in ((k *ℤ x) +ℤ pos 0, (whole x, pos 0, h, refl, refl), sym (Z.one_part k x (pos 0) c ((Decides-int_eq k (pos 1)).0 p.0) ((Decides-int_eq c (pos 0)).0 p.1) refl)))
      (λ _ h. (h.0, h.1, ap int_of h.2)) g
  sum_is (part k t (part j u ps)) c b x g = (g.0, g.1, ap int_of g.2)

  -- a form has the value of its term
  pub form_is : (a : Linear) (b : List Value) (x : ℤ) → Gives frees calls (term_of a) b (whole x) → FormIs a b x
  form_is a b x g = sum_is a.parts a.rest b x g
