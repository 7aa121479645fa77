-- A fact combined from facts that hold holds.
-- Here r is the value of a fact, g and h the values of its parts, x and y those of the forms.
use Rattle.std.proofs.Common.{◌≡◌, ◌∙◌, sym, ap, subst, ℕ, ◌*◌, ℤ, pos, negsuc, ◌+ℤ◌, ◌*ℤ◌, int_lt, int_le, true, ◌&&◌, IsTrue, Some, List, arith}
use Rattle.std.proofs.Math.IntN.{pos-*ℤ-pos}
use Rattle.std.proofs.lemmas.Int.{ints}
use Rattle.logic_core.proofs.Booleans.{both_true}
use Rattle.logic_core.specs.Tree.{Kind, int, boolean, Tree, equal, at_most}
use Rattle.logic_core.specs.Def.{Def}
use Rattle.logic_core.specs.Value.{Value, whole, flag, int_of, holds, same, are_of}
use Rattle.logic_core.specs.Valid.{calls_of}
use Rattle.logic_core.specs.Sorts.{sort_of}
use Rattle.logic_core.specs.Sum.{Linear, term_of}
use Rattle.logic_core.specs.Junction.{is_zero}
use Rattle.logic_core.specs.Combine.{sum_of, linear_of, combined, at_least_zero}
use Rattle.logic_core.proofs.Values.{HasOne}
use Rattle.logic_core.proofs.Kept.{Keeps, keeps, true_stable}
use Rattle.logic_core.proofs.Defined.{has_defined, keeps_defined}
use Rattle.logic_laws.specs.Assignment.{IsAssignment, ValueIs, HoldsThere}
use Rattle.logic_laws.proofs.Integers as Z
use Rattle.logic_laws.proofs.Options.{when_some}
use Rattle.logic_laws.proofs.SameValue.{same_equal, value_stable}
use Rattle.logic_laws.proofs.Gives.{Gives, said, gives}
use Rattle.logic_laws.proofs.ValueSorts.{CallsHaveSorts}
use Rattle.logic_laws.proofs.SumValues.{linear_gives}
use Rattle.logic_laws.proofs.FormulaValues.{zero_found, zero_at_most_gives}
use Rattle.logic_laws.proofs.Assigned.{call_sorts, holds_stable, is_value, value_is}
use Rattle.linear_certs.specs.Multiplier.{may_multiply}
use Rattle.linear_certs.proofs.CombinedSorts.{combined_ints, fact_ints, form_ints}
use Rattle.linear_certs.proofs.CombinedValues.{FormIs, combined_is, form_of_term_is, form_is}

-- what a linear fact says of the value of its form
abbrev Sign : Tree → ℤ → Type 0
Sign (at_most z d) x = int_le (pos 0) x ≡ true
Sign f x = x ≡ pos 0

natural_at_least_zero : (n : ℕ) → int_le (pos 0) (pos n) ≡ true
natural_at_least_zero n = grind (arith, ints)

product_at_least_zero : (p x : ℤ) → int_lt (pos 0) p ≡ true → int_le (pos 0) x ≡ true → int_le (pos 0) (p *ℤ x) ≡ true
product_at_least_zero (pos n) (pos m) h k = ap (int_le (pos 0)) (pos-*ℤ-pos n m) ∙ natural_at_least_zero (n * m)
product_at_least_zero (pos n) (negsuc m) h k = absurd (cc)
product_at_least_zero (negsuc n) x h k = absurd (cc)

zero_product : (p x : ℤ) → x ≡ pos 0 → int_le (pos 0) (p *ℤ x) ≡ true
zero_product p x e = ap (λ y. int_le (pos 0) (p *ℤ y)) e ∙ ap (int_le (pos 0)) (Z.times_nothing p)

sum_at_least_zero : (x y : ℤ) → int_le (pos 0) x ≡ true → int_le (pos 0) y ≡ true → int_le (pos 0) (x +ℤ y) ≡ true
sum_at_least_zero x y h k = grind (arith, ints)

-- a multiple that is taken is at least zero
multiple_at_least_zero : (f : Tree) (a : Linear) (p x : ℤ) → linear_of f ≡ Some a → may_multiply p f ≡ true → Sign f x → int_le (pos 0) (p *ℤ x) ≡ true
multiple_at_least_zero (at_most z d) a p x e h s = product_at_least_zero p x h s
multiple_at_least_zero (equal d z) a p x e h s = zero_product p x s
multiple_at_least_zero f a p x e h s = absurd (cc)

module _ (vars : List Kind) (defs : List Def) (frees : List Value) (assigned : IsAssignment vars defs frees) where
  -- the value of t is r
  abbrev Is : Tree → List Value → Value → Type 0
  Is t b r = Gives frees (calls_of frees defs) t b r

  has : (f : ℕ) (vs : List Value) → HasOne (calls_of frees defs f vs)
  has = has_defined frees defs

  keep : (f : ℕ) (vs : List Value) → Keeps (calls_of frees defs f vs)
  keep = keeps_defined frees defs

  sorts : CallsHaveSorts defs (calls_of frees defs)
  sorts = call_sorts vars defs frees assigned

  -- the value of a form is x
  abbrev Form : Linear → List Value → ℤ → Type 0
  Form a b x = FormIs vars defs frees (calls_of frees defs) has keep assigned.1 sorts a b x

  form_of : (d : Tree) (b : List Value) (v : Value) → Is d b v → Form (sum_of d) b (int_of v)
  form_of d b v g = form_of_term_is vars defs frees (calls_of frees defs) has keep assigned.1 sorts d b v g

  is_nothing : (z : Tree) (b : List Value) (v : Value) → is_zero z ≡ true → Is z b v → v ≡ whole (pos 0)
  is_nothing z b v h g = subst (λ x. Is x b v) (zero_found z h) g

  -- a linear fact that holds
  fact_says : (f : Tree) (a : Linear) (b : List Value) (r : Value) → linear_of f ≡ Some a → Is f b r → holds r ≡ true → (x : ℤ) × Form a b x × Sign f x
  fact_says (at_most z d) a b r e g h =
      let p = when_some (is_zero z) (sum_of d) a e in
      let n = is_nothing z b g.0 p.0 g.2 in
      (int_of g.1, subst (λ c. Form c b (int_of g.1)) p.1 (form_of d b g.1 g.3), ap (λ v. int_le (int_of v) (int_of g.1)) (sym n) ∙ ap holds (sym g.4) ∙ h)
  fact_says (equal d z) a b r e g h =
      let p = when_some (is_zero z) (sum_of d) a e in
      let n = is_nothing z b g.1 p.0 g.3 in
      (int_of g.0, subst (λ c. Form c b (int_of g.0)) p.1 (form_of d b g.0 g.2), ap int_of (same_equal g.0 (whole (pos 0)) (ap (same g.0) (sym n) ∙ ap holds (sym g.4) ∙ h)))
  fact_says f a b r e g h = absurd (cc)

  combination_holds : (f g : Tree) (a c s : Linear) (p q : ℤ) (bs : List Kind) (b : List Value) (r u : Value) → are_of bs b ≡ true → sort_of vars defs bs f ≡ Some boolean → sort_of vars defs bs g ≡ Some boolean
      → linear_of f ≡ Some a → linear_of g ≡ Some c → (may_multiply p f && may_multiply q g) ≡ true → combined a p c q ≡ Some s
      → Is f b r → holds r ≡ true → Is g b u → holds u ≡ true → HoldsThere frees defs (at_least_zero s) b
  combination_holds f g a c s p q bs b r u fit sf sg ea ec m e i h j k =
      let w = both_true (may_multiply p f) (may_multiply q g) m in
      let x = fact_says f a b r ea i h in
      let y = fact_says g c b u ec j k in
      let n = (p *ℤ x.0) +ℤ (q *ℤ y.0) in
      let t = combined_is vars defs frees (calls_of frees defs) has keep assigned.1 sorts a c s p q b x.0 y.0 x.1 y.1 e in
      let l = linear_gives vars defs frees (calls_of frees defs) has keep assigned.1 sorts s bs b n (combined_ints vars defs a c s p q bs (fact_ints vars defs f a bs sf ea) (fact_ints vars defs g c bs sg ec) e) fit t in
      let o = sum_at_least_zero (p *ℤ x.0) (q *ℤ y.0) (multiple_at_least_zero f a p x.0 ea w.0 x.2) (multiple_at_least_zero g c q y.0 ec w.1 y.2) in
      (said frees (calls_of frees defs) has keep (at_least_zero s) b (flag (int_le (pos 0) n)) (zero_at_most_gives vars defs frees (calls_of frees defs) has keep assigned.1 sorts (term_of s) b n l) (λ v. IsTrue (holds v)) (λ v. true_stable (holds v))).1 o

  holding : (f : Tree) (b : List Value) (r : Value) → Is f b r → HoldsThere frees defs f b → holds r ≡ true
  holding f b r i h = (said frees (calls_of frees defs) has keep f b r i (λ v. IsTrue (holds v)) (λ v. true_stable (holds v))).0 h

  pub combined_holds : (f g : Tree) (a c s : Linear) (p q : ℤ) (bs : List Kind) (b : List Value) → are_of bs b ≡ true → sort_of vars defs bs f ≡ Some boolean → sort_of vars defs bs g ≡ Some boolean
      → linear_of f ≡ Some a → linear_of g ≡ Some c → (may_multiply p f && may_multiply q g) ≡ true → combined a p c q ≡ Some s
      → HoldsThere frees defs f b → HoldsThere frees defs g b → HoldsThere frees defs (at_least_zero s) b
  combined_holds f g a c s p q bs b fit sf sg ea ec m e hf hg = holds_stable frees defs (at_least_zero s) b (λ none.
      gives frees (calls_of frees defs) has keep f b (λ r i. gives frees (calls_of frees defs) has keep g b (λ u j.
      none (combination_holds f g a c s p q bs b r u fit sf sg ea ec m e i (holding f b r i hf) j (holding g b u j hg)))))

  -- the value of a form's term
  term_is : (a : Linear) (b : List Value) (x : ℤ) (r : Value) → Is (term_of a) b r → ValueIs frees defs (term_of a) b (whole x) → Form a b x
  term_is a b x r i h = form_is vars defs frees (calls_of frees defs) has keep assigned.1 sorts a b x (subst (Is (term_of a) b) (is_value frees defs (term_of a) b r (whole x) i h) i)

  values_added : (bs : List Kind) (b : List Value) (a c s : Linear) (p q x y : ℤ) → are_of bs b ≡ true → sort_of vars defs bs (term_of a) ≡ Some int → sort_of vars defs bs (term_of c) ≡ Some int → combined a p c q ≡ Some s
      → ValueIs frees defs (term_of a) b (whole x) → ValueIs frees defs (term_of c) b (whole y) → (r u : Value) → Is (term_of a) b r → Is (term_of c) b u → ValueIs frees defs (term_of s) b (whole ((p *ℤ x) +ℤ (q *ℤ y)))
  values_added bs b a c s p q x y fit sa sc e va vc r u i j =
      let t = combined_is vars defs frees (calls_of frees defs) has keep assigned.1 sorts a c s p q b x y (term_is a b x r i va) (term_is c b y u j vc) e in
      value_is frees defs (term_of s) b (whole ((p *ℤ x) +ℤ (q *ℤ y)))
      (linear_gives vars defs frees (calls_of frees defs) has keep assigned.1 sorts s bs b ((p *ℤ x) +ℤ (q *ℤ y)) (combined_ints vars defs a c s p q bs (form_ints vars defs a bs sa) (form_ints vars defs c bs sc) e) fit t)

  pub combined_values : (bs : List Kind) (b : List Value) (a c s : Linear) (p q x y : ℤ) → are_of bs b ≡ true → sort_of vars defs bs (term_of a) ≡ Some int → sort_of vars defs bs (term_of c) ≡ Some int → combined a p c q ≡ Some s
      → ValueIs frees defs (term_of a) b (whole x) → ValueIs frees defs (term_of c) b (whole y) → ValueIs frees defs (term_of s) b (whole ((p *ℤ x) +ℤ (q *ℤ y)))
  combined_values bs b a c s p q x y fit sa sc e va vc = keeps frees (calls_of frees defs) keep (term_of s) b (λ v. v ≡ whole ((p *ℤ x) +ℤ (q *ℤ y))) (λ v. value_stable v (whole ((p *ℤ x) +ℤ (q *ℤ y)))) (λ none.
      gives frees (calls_of frees defs) has keep (term_of a) b (λ r i. gives frees (calls_of frees defs) has keep (term_of c) b (λ u j.
      none (values_added bs b a c s p q x y fit sa sc e va vc r u i j))))
