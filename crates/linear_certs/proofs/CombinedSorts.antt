-- Sums of multiples of linear facts are sums of integers.
-- Here s and r are sorts, e and f what the computations give.
use Rattle.std.proofs.Common.{◌≡◌, ◌∙◌, refl, sym, subst, ℤ, pos, true, ◌&&◌, Some, List, int_eq}
use Rattle.logic_core.specs.Tree.{Kind, int, boolean, Tree, num, linear, equal, at_most, Parts, no_parts, part}
use Rattle.logic_core.specs.Def.{Def}
use Rattle.logic_core.specs.Sorts.{sort_of, are_ints}
use Rattle.logic_core.specs.Sum.{Linear, constant, sum_term, term_of}
use Rattle.logic_core.specs.Junction.{is_zero}
use Rattle.logic_core.specs.Combine.{sum_of, linear_of, add_multiple, combined, at_least_zero}
use Rattle.logic_laws.proofs.Options.{bind_some, when_some, when_true, cond_has}
use Rattle.logic_laws.proofs.SumSorts.{one_more_int, term_ints, sum_sort}
use Rattle.logic_laws.proofs.FormulaSorts.{parts_of_at_most, parts_of_equal, zero_at_most_sort}
use Rattle.logic_laws.proofs.FormulaValues.{zero_found}

module _ (vars : List Kind) (defs : List Def) where
  -- the atoms of the form are integers
  abbrev pub OfInts : Linear → List Kind → Type 0
  OfInts a b = are_ints vars defs b a.parts ≡ true

  multiple_ints : (k : ℤ) (a s r : Linear) (b : List Kind) → OfInts a b → OfInts s b → add_multiple k a s ≡ Some r → OfInts r b
  multiple_ints k a s r b i h e = term_ints vars defs (linear a.parts a.rest) k s r b (when_true (are_ints vars defs b a.parts) (Some int) i) h e

  pub combined_ints : (a c s : Linear) (p q : ℤ) (b : List Kind) → OfInts a b → OfInts c b → combined a p c q ≡ Some s → OfInts s b
  combined_ints a c s p q b i j e =
      let u = bind_some (add_multiple p a (constant (pos 0))) (λ r. add_multiple q c r) s e in
      multiple_ints q c u.0 s b j (multiple_ints p a (constant (pos 0)) u.0 b i refl u.1) u.2

  form_of_term_ints : (d : Tree) (b : List Kind) → sort_of vars defs b d ≡ Some int → OfInts (sum_of d) b
  form_of_term_ints (num n) b s = refl
  form_of_term_ints (linear ps c) b s = (when_some (are_ints vars defs b ps) int int s).0
  form_of_term_ints d b s = one_more_int vars defs (pos 1) d no_parts b s refl

  fact_form : (z d : Tree) (a : Linear) (b : List Kind) → (is_zero z ≡ true → sort_of vars defs b d ≡ Some int) → linear_of (at_most z d) ≡ Some a → OfInts a b
  fact_form z d a b s e = let p = when_some (is_zero z) (sum_of d) a e in subst (λ x. OfInts x b) p.1 (form_of_term_ints d b (s p.0))

  -- a side of an equation with 0 is an integer
  beside_zero : (d z : Tree) (b : List Kind) → sort_of vars defs b (equal d z) ≡ Some boolean → is_zero z ≡ true → sort_of vars defs b d ≡ Some int
  beside_zero d z b s h = let p = parts_of_equal vars defs d z b boolean s in let q : Some int ≡ Some p.0 = subst (λ x. sort_of vars defs b x ≡ Some p.0) (zero_found z h) p.2 in p.1 ∙ sym q

  pub fact_ints : (f : Tree) (a : Linear) (b : List Kind) → sort_of vars defs b f ≡ Some boolean → linear_of f ≡ Some a → OfInts a b
  fact_ints (at_most z d) a b s e = fact_form z d a b (λ _. (parts_of_at_most vars defs z d b boolean s).1) e
  fact_ints (equal d z) a b s e = fact_form z d a b (beside_zero d z b s) e
  fact_ints f a b s e = absurd (cc)

  sum_ints : (ps : Parts) (c : ℤ) (b : List Kind) → sort_of vars defs b (sum_term ps c) ≡ Some int → are_ints vars defs b ps ≡ true
  sum_ints no_parts c b s = refl
  sum_ints (part k t no_parts) c b s = cond_has (λ u. sort_of vars defs b u ≡ Some int → are_ints vars defs b (part k t no_parts) ≡ true) (int_eq k (pos 1) && int_eq c (pos 0)) t (linear (part k t no_parts) c)
      (λ _ i. one_more_int vars defs k t no_parts b i refl) (λ _ i. (when_some (are_ints vars defs b (part k t no_parts)) int int i).0) s
  sum_ints (part k t (part j u ps)) c b s = (when_some (are_ints vars defs b (part k t (part j u ps))) int int s).0

  -- the form of an integer
  pub form_ints : (a : Linear) (b : List Kind) → sort_of vars defs b (term_of a) ≡ Some int → OfInts a b
  form_ints a b s = sum_ints a.parts a.rest b s

  -- a fact combined from formulas is a formula
  pub combined_sort : (f g : Tree) (a c s : Linear) (p q : ℤ) (b : List Kind) → sort_of vars defs b f ≡ Some boolean → sort_of vars defs b g ≡ Some boolean → linear_of f ≡ Some a → linear_of g ≡ Some c → combined a p c q ≡ Some s → sort_of vars defs b (at_least_zero s) ≡ Some boolean
  combined_sort f g a c s p q b sf sg ea ec e = zero_at_most_sort vars defs (term_of s) b (sum_sort vars defs s.parts s.rest b (combined_ints a c s p q b (fact_ints f a b sf ea) (fact_ints g c b sg ec) e))
