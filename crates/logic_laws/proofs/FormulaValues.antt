-- The normal form of junctions, negations, equations and choices keeps their values.
-- Here s and t are sorts, f that the values for the bound variables fit, g and h the values of the parts, e what the computation gives; p and q are its steps.
use Rattle.std.proofs.Common.{◌≡◌, ◌∙◌, refl, sym, ap, subst, ℕ, ℤ, pos, negsuc, ◌+ℤ◌, ◌*ℤ◌, int_le, int_eq, Bool, true, false, ◌&&◌, ◌||◌, not, cond, if◌then◌else◌, Some, option_map, IsTrue, List, ◌++◌, reverse, inl, inr}
use Rattle.std.proofs.lemmas.Bool.Decides.{Decides-int_eq}
use Rattle.logic_core.specs.Tree.{Kind, int, boolean, map, Tree, num, truth, choose, negation, all, some, equal, at_most, for_all, exists, Trees, no_trees, tree, Patterns}
use Rattle.logic_core.specs.Def.{Def}
use Rattle.logic_core.specs.Value.{Value, whole, flag, int_of, holds, same, are_of}
use Rattle.logic_core.specs.Meaning.{If, Holds}
use Rattle.logic_core.specs.Valid.{Calls}
use Rattle.logic_core.specs.Wide.{◌>>=◌}
use Rattle.logic_core.specs.Same.{same_term}
use Rattle.logic_core.specs.Sorts.{sort_of, are_formulas}
use Rattle.logic_core.specs.Sum.{affine, difference, in_order}
use Rattle.logic_core.specs.declared.junction.Connective.TheVariants.{And, Or}
use Rattle.logic_core.specs.Junction.{append, is_truth, has_truth, with_operand, operands, joined_or_alone, conjunction, disjunction, is_zero, negated, negated_each}
use Rattle.logic_core.specs.Normal.{choice, has_negative_lead, equals_zero, zero_at_most, equivalence_with, equivalence, equation_of, equation, inequality, quantified}
use Rattle.logic_core.proofs.Values.{HasOne}
use Rattle.logic_core.proofs.Kept.{Keeps, keeps, true_stable}
use Rattle.logic_core.proofs.SameTerm.{same_is_equal}
use Rattle.logic_laws.proofs.Integers as Z
use Rattle.logic_core.proofs.Booleans as B
use Rattle.logic_laws.proofs.Options.{some_has, bind_some, map_some, cond_has, cond_some}
use Rattle.logic_laws.proofs.SumSorts.{in_order_has, difference_sort}
use Rattle.logic_laws.proofs.FormulaSorts.{first_formula, parts_of_all, operands_formulas, negated_formulas, part_of_negation, parts_of_at_most, parts_of_quantifier}
use Rattle.logic_laws.proofs.SameValue.{equal_same, same_swap}
use Rattle.logic_laws.proofs.Tables.{of_int, of_boolean, are_of_bound, some_values, some_values_sort}
use Rattle.logic_laws.proofs.Gives.{Decided, AllHold, NoneHolds, Gives, GivesEvery, GivesAny, said, gives, gives_one}
use Rattle.logic_laws.proofs.ValueSorts.{CallsHaveSorts, gives_sort}
use Rattle.logic_laws.proofs.SumValues.{affine_gives, difference_gives}

pub truth_found : (c : Bool) (t : Tree) → is_truth c t ≡ true → t ≡ truth c
truth_found true (truth true) h = refl
truth_found true (truth false) h = absurd (cc)
truth_found false (truth true) h = absurd (cc)
truth_found false (truth false) h = refl
truth_found true t h = absurd (cc)
truth_found false t h = absurd (cc)

pub zero_found : (z : Tree) → is_zero z ≡ true → z ≡ num (pos 0)
zero_found (num n) h = ap num ((Decides-int_eq n (pos 0)).0 h)
zero_found z h = absurd (cc)

if_same : (c : Bool) (G : Type 0) → If c G G → G
if_same true G h = h
if_same false G h = h

if_cond : (c : Bool) (P : Tree → Type 0) (x y : Tree) → If c (P x) (P y) → P (cond c x y)
if_cond true P x y h = h
if_cond false P x y h = h

module _ (vars : List Kind) (defs : List Def) (frees : List Value) (calls : Calls) (has_call : (f : ℕ) (vs : List Value) → HasOne (calls f vs)) (keeps_call : (f : ℕ) (vs : List Value) → Keeps (calls f vs)) (fits : are_of vars frees ≡ true) (call_sorts : CallsHaveSorts defs calls) where
  -- a formula's value is a truth value
  pub is_flag : (t : Tree) (bs : List Kind) (b : List Value) (r : Value) → sort_of vars defs bs t ≡ Some boolean → are_of bs b ≡ true → Gives frees calls t b r → flag (holds r) ≡ r
  is_flag t bs b r s f g = let w = of_boolean r (gives_sort vars defs frees calls has_call fits call_sorts t bs b boolean r s f g) in ap (λ x. flag (holds x)) w.1 ∙ sym w.1

  append_every : (ts us : Trees) (b : List Value) (h g : Bool) → GivesEvery frees calls ts b h → GivesEvery frees calls us b g → GivesEvery frees calls (append ts us) b (h && g)
  append_every no_trees us b h g e k = subst (GivesEvery frees calls us b) (sym (ap (λ x. x && g) e)) k
  append_every (tree t ts) us b h g e k = (e.0, e.1 && g, e.2, append_every ts us b e.1 g e.3 k, ap (λ x. x && g) e.4 ∙ B.and_assoc (holds e.0) e.1 g)

  with_conjunct_gives : (t : Tree) (ts : Trees) (b : List Value) (v : Value) (g : Bool) → Gives frees calls t b v → GivesEvery frees calls ts b g → GivesEvery frees calls (with_operand And t ts) b (holds v && g)
  with_conjunct_gives (all us) ts b v g e k = subst (λ x. GivesEvery frees calls (append us ts) b (holds x && g)) (sym e.2) (append_every us ts b e.0 g e.1 k)
  with_conjunct_gives (truth true) ts b v g e k = subst (λ x. GivesEvery frees calls ts b (holds x && g)) (sym e) k
  with_conjunct_gives t ts b v g e k = (v, g, e, k, refl)

  pub conjuncts_gives : (ts : Trees) (b : List Value) (h : Bool) → GivesEvery frees calls ts b h → GivesEvery frees calls (operands And ts) b h
  conjuncts_gives no_trees b h e = e
  conjuncts_gives (tree t ts) b h e = subst (GivesEvery frees calls (with_operand And t (operands And ts)) b) (sym e.4) (with_conjunct_gives t (operands And ts) b e.0 e.1 e.2 (conjuncts_gives ts b e.1 e.3))

  false_found : (ts : Trees) (b : List Value) (h : Bool) → has_truth false ts ≡ true → GivesEvery frees calls ts b h → h ≡ false
  false_found no_trees b h e g = absurd (cc)
  false_found (tree t ts) b h e g = elim (B.one_is_true (is_truth false t) (has_truth false ts) e) [
    | inl p ↦ let q : g.0 ≡ flag false = subst (λ x. Gives frees calls x b g.0) (truth_found false t p) g.2 in g.4 ∙ ap (λ x. holds x && g.1) q
    | inr p ↦ g.4 ∙ ap (λ x. holds g.0 && x) (false_found ts b g.1 p g.3) ∙ B.and_false (holds g.0)
  ]

  all_of_gives : (ts : Trees) (bs : List Kind) (b : List Value) (h : Bool) → are_formulas vars defs bs ts ≡ true → are_of bs b ≡ true → GivesEvery frees calls ts b h → Gives frees calls (joined_or_alone And ts) b (flag h)
  all_of_gives no_trees bs b h s f g = ap flag g
  all_of_gives (tree t no_trees) bs b h s f g = subst (Gives frees calls t b) (sym (is_flag t bs b g.0 (first_formula vars defs t no_trees bs s).0 f g.2) ∙ ap flag (sym (B.and_true (holds g.0))) ∙ ap (λ x. flag (holds g.0 && x)) (sym g.3) ∙ ap flag (sym g.4)) g.2
  all_of_gives (tree t (tree u us)) bs b h s f g = (h, g, refl)

  pub conjunction_gives : (ts : Trees) (bs : List Kind) (b : List Value) (h : Bool) → are_formulas vars defs bs ts ≡ true → are_of bs b ≡ true → GivesEvery frees calls ts b h → Gives frees calls (conjunction ts) b (flag h)
  conjunction_gives ts bs b h s f g = cond_has (λ u. Gives frees calls u b (flag h)) (has_truth false (operands And ts)) (truth false) (joined_or_alone And (operands And ts))
      (λ e. ap flag (false_found (operands And ts) b h e (conjuncts_gives ts b h g))) (λ _. all_of_gives (operands And ts) bs b h (operands_formulas vars defs And ts bs s) f (conjuncts_gives ts b h g))

  append_any : (ts us : Trees) (b : List Value) (h g : Bool) → GivesAny frees calls ts b h → GivesAny frees calls us b g → GivesAny frees calls (append ts us) b (h || g)
  append_any no_trees us b h g e k = subst (GivesAny frees calls us b) (sym (ap (λ x. x || g) e)) k
  append_any (tree t ts) us b h g e k = (e.0, e.1 || g, e.2, append_any ts us b e.1 g e.3 k, ap (λ x. x || g) e.4 ∙ B.or_assoc (holds e.0) e.1 g)

  with_disjunct_gives : (t : Tree) (ts : Trees) (b : List Value) (v : Value) (g : Bool) → Gives frees calls t b v → GivesAny frees calls ts b g → GivesAny frees calls (with_operand Or t ts) b (holds v || g)
  with_disjunct_gives (some us) ts b v g e k = subst (λ x. GivesAny frees calls (append us ts) b (holds x || g)) (sym e.2) (append_any us ts b e.0 g e.1 k)
  with_disjunct_gives (truth false) ts b v g e k = subst (λ x. GivesAny frees calls ts b (holds x || g)) (sym e) k
  with_disjunct_gives t ts b v g e k = (v, g, e, k, refl)

  pub disjuncts_gives : (ts : Trees) (b : List Value) (h : Bool) → GivesAny frees calls ts b h → GivesAny frees calls (operands Or ts) b h
  disjuncts_gives no_trees b h e = e
  disjuncts_gives (tree t ts) b h e = subst (GivesAny frees calls (with_operand Or t (operands Or ts)) b) (sym e.4) (with_disjunct_gives t (operands Or ts) b e.0 e.1 e.2 (disjuncts_gives ts b e.1 e.3))

  true_found : (ts : Trees) (b : List Value) (h : Bool) → has_truth true ts ≡ true → GivesAny frees calls ts b h → h ≡ true
  true_found no_trees b h e g = absurd (cc)
  true_found (tree t ts) b h e g = elim (B.one_is_true (is_truth true t) (has_truth true ts) e) [
    | inl p ↦ let q : g.0 ≡ flag true = subst (λ x. Gives frees calls x b g.0) (truth_found true t p) g.2 in g.4 ∙ ap (λ x. holds x || g.1) q
    | inr p ↦ g.4 ∙ ap (λ x. holds g.0 || x) (true_found ts b g.1 p g.3) ∙ B.or_true (holds g.0)
  ]

  some_of_gives : (ts : Trees) (bs : List Kind) (b : List Value) (h : Bool) → are_formulas vars defs bs ts ≡ true → are_of bs b ≡ true → GivesAny frees calls ts b h → Gives frees calls (joined_or_alone Or ts) b (flag h)
  some_of_gives no_trees bs b h s f g = ap flag g
  some_of_gives (tree t no_trees) bs b h s f g = subst (Gives frees calls t b) (sym (is_flag t bs b g.0 (first_formula vars defs t no_trees bs s).0 f g.2) ∙ ap flag (sym (B.or_false (holds g.0))) ∙ ap (λ x. flag (holds g.0 || x)) (sym g.3) ∙ ap flag (sym g.4)) g.2
  some_of_gives (tree t (tree u us)) bs b h s f g = (h, g, refl)

  pub disjunction_gives : (ts : Trees) (bs : List Kind) (b : List Value) (h : Bool) → are_formulas vars defs bs ts ≡ true → are_of bs b ≡ true → GivesAny frees calls ts b h → Gives frees calls (disjunction ts) b (flag h)
  disjunction_gives ts bs b h s f g = cond_has (λ u. Gives frees calls u b (flag h)) (has_truth true (operands Or ts)) (truth true) (joined_or_alone Or (operands Or ts))
      (λ e. ap flag (true_found (operands Or ts) b h e (disjuncts_gives ts b h g))) (λ _. some_of_gives (operands Or ts) bs b h (operands_formulas vars defs Or ts bs s) f (disjuncts_gives ts b h g))

  -- a formula holds where its value is true
  pub holds_from : (t : Tree) (b : List Value) (v : Value) → Gives frees calls t b v → holds v ≡ true → Holds frees calls t b
  holds_from t b v g h = (said frees calls has_call keeps_call t b v g (λ u. IsTrue (holds u)) (λ u. true_stable (holds u))).1 h

  pub from_holds : (t : Tree) (b : List Value) (v : Value) → Gives frees calls t b v → Holds frees calls t b → holds v ≡ true
  from_holds t b v g h = (said frees calls has_call keeps_call t b v g (λ u. IsTrue (holds u)) (λ u. true_stable (holds u))).0 h

  pub holds_stable : (t : Tree) (b : List Value) → ((Holds frees calls t b → ⊥) → ⊥) → Holds frees calls t b
  holds_stable t b n = keeps frees calls keeps_call t b (λ u. IsTrue (holds u)) (λ u. true_stable (holds u)) n

  clash : (c : Bool) → c ≡ true → not c ≡ true → ⊥
  clash true p q = cc
  clash false p q = cc

  not_false : (c : Bool) → (not c ≡ true → ⊥) → c ≡ true
  not_false true n = refl
  not_false false n = absurd (n refl)

  not_true : (c : Bool) → (c ≡ true → ⊥) → not c ≡ true
  not_true true n = absurd (n refl)
  not_true false n = refl

  -- u is the Not of t there
  abbrev Opposite : Tree → Tree → List Value → Type 0
  Opposite t u b = (v : Value) → Gives frees calls t b v → Gives frees calls u b (flag (not (holds v)))

  not_both : (t u : Tree) (b : List Value) → Opposite t u b → Holds frees calls t b → Holds frees calls u b → ⊥
  not_both t u b o h k = gives frees calls has_call keeps_call t b (λ v g. clash (holds v) (from_holds t b v g h) (from_holds u b (flag (not (holds v))) (o v g) k))

  holds_unless : (t u : Tree) (b : List Value) → Opposite t u b → (Holds frees calls u b → ⊥) → Holds frees calls t b
  holds_unless t u b o n = holds_stable t b (λ k. gives frees calls has_call keeps_call t b (λ v g. k (holds_from t b v g (not_false (holds v) (λ h. n (holds_from u b (flag (not (holds v))) (o v g) h))))))

  fails_unless : (t u : Tree) (b : List Value) → Opposite t u b → (Holds frees calls t b → ⊥) → Holds frees calls u b
  fails_unless t u b o n = holds_stable u b (λ k. gives frees calls has_call keeps_call t b (λ v g. k (holds_from u b (flag (not (holds v))) (o v g) (not_true (holds v) (λ h. n (holds_from t b v g h))))))

  pub not_for_all_gives : (ss : List Kind) (t u : Tree) (b : List Value) (r : Value) → ((vs : List Value) → are_of ss vs ≡ true → Opposite t u (reverse vs ++ b)) → Decided (AllHold frees calls ss t b) r → Decided (¬ NoneHolds frees calls ss u b) (flag (not (holds r)))
  not_for_all_gives ss t u b r o (inl a) = inr ((λ n. n (λ vs f. not_both t u (reverse vs ++ b) (o vs f) (a.0 vs f))), ap (λ x. flag (not (holds x))) a.1)
  not_for_all_gives ss t u b r o (inr a) = inl ((λ n. a.0 (λ vs f. holds_unless t u (reverse vs ++ b) (o vs f) (n vs f))), ap (λ x. flag (not (holds x))) a.1)

  pub not_exists_gives : (ss : List Kind) (t u : Tree) (b : List Value) (r : Value) → ((vs : List Value) → are_of ss vs ≡ true → Opposite t u (reverse vs ++ b)) → Decided (¬ NoneHolds frees calls ss t b) r → Decided (AllHold frees calls ss u b) (flag (not (holds r)))
  not_exists_gives ss t u b r o (inl a) = inr ((λ n. a.0 (λ vs f h. not_both t u (reverse vs ++ b) (o vs f) h (n vs f))), ap (λ x. flag (not (holds x))) a.1)
  not_exists_gives ss t u b r o (inr a) = inl ((λ vs f. fails_unless t u (reverse vs ++ b) (o vs f) (λ h. a.0 (λ none. none vs f h))), ap (λ x. flag (not (holds x))) a.1)

  not_at_most_gives : (z d u : Tree) (bs : List Kind) (b : List Value) (r : Value) → sort_of vars defs bs (at_most z d) ≡ Some boolean → are_of bs b ≡ true → negated (at_most z d) ≡ Some u → Gives frees calls (at_most z d) b r → Gives frees calls u b (flag (not (holds r)))
  not_at_most_gives z d u bs b r s f e g = cond_some (λ x. Gives frees calls x b (flag (not (holds r)))) (is_zero z) (option_map (λ e. at_most z e) (affine (negsuc 0) d (negsuc 0))) (Some (negation (at_most z d))) u e
      (λ i q. let p = map_some (λ e. at_most z e) (affine (negsuc 0) d (negsuc 0)) u q in
      let w : g.0 ≡ whole (pos 0) = subst (λ x. Gives frees calls x b g.0) (zero_found z i) g.2 in
      subst (λ x. Gives frees calls x b (flag (not (holds r)))) p.2 (
        g.0,
        whole ((negsuc 0 *ℤ int_of g.1) +ℤ negsuc 0),
        g.2,
        affine_gives vars defs frees calls has_call keeps_call fits call_sorts (negsuc 0) d (negsuc 0) p.0 bs b g.1 (parts_of_at_most vars defs z d bs boolean s).1 f g.3 p.1,
        ap (λ x. flag (not (holds x))) g.4 ∙ ap (λ x. flag (not (int_le (int_of x) (int_of g.1)))) w ∙ ap flag (sym (Z.not_at_least_zero (int_of g.1))) ∙ ap (λ x. flag (int_le (int_of x) ((negsuc 0 *ℤ int_of g.1) +ℤ negsuc 0))) (sym w),
      ))
      (λ _ q. some_has (λ x. Gives frees calls x b (flag (not (holds r)))) (negation (at_most z d)) u q (r, g, refl))

  mutual
    pub negated_gives : (t u : Tree) (bs : List Kind) (b : List Value) (r : Value) → sort_of vars defs bs t ≡ Some boolean → are_of bs b ≡ true → negated t ≡ Some u → Gives frees calls t b r → Gives frees calls u b (flag (not (holds r)))
    negated_gives (truth x) u bs b r s f e g = some_has (λ x. Gives frees calls x b (flag (not (holds r)))) (truth (not x)) u e (ap (λ x. flag (not (holds x))) g)
    negated_gives (negation t) u bs b r s f e g = some_has (λ x. Gives frees calls x b (flag (not (holds r)))) t u e
        (subst (Gives frees calls t b) (sym (is_flag t bs b g.0 (part_of_negation vars defs t bs boolean s) f g.1) ∙ ap flag (sym (B.not_not (holds g.0))) ∙ ap (λ x. flag (not (holds x))) (sym g.2)) g.1)
    negated_gives (all ts) u bs b r s f e g = let p = map_some disjunction (negated_each ts) u e in let i = parts_of_all vars defs ts bs s in
        subst (λ x. Gives frees calls x b (flag (not (holds r)))) p.2 (subst (Gives frees calls (disjunction p.0) b) (ap (λ x. flag (not (holds x))) (sym g.2))
        (disjunction_gives p.0 bs b (not g.0) (negated_formulas vars defs ts p.0 bs i p.1) f (negated_every ts p.0 bs b g.0 i f p.1 g.1)))
    negated_gives (some ts) u bs b r s f e g = let p = map_some conjunction (negated_each ts) u e in let i = parts_of_all vars defs ts bs s in
        subst (λ x. Gives frees calls x b (flag (not (holds r)))) p.2 (subst (Gives frees calls (conjunction p.0) b) (ap (λ x. flag (not (holds x))) (sym g.2))
        (conjunction_gives p.0 bs b (not g.0) (negated_formulas vars defs ts p.0 bs i p.1) f (negated_any ts p.0 bs b g.0 i f p.1 g.1)))
    negated_gives (at_most z d) u bs b r s f e g = not_at_most_gives z d u bs b r s f e g
    negated_gives (for_all ss ps t) u bs b r s f e g = let p = map_some (λ v. exists ss ps v) (negated t) u e in
        subst (λ x. Gives frees calls x b (flag (not (holds r)))) p.2 (not_for_all_gives ss t p.0 b r
        (λ vs h v i. negated_gives t p.0 (reverse ss ++ bs) (reverse vs ++ b) v (parts_of_quantifier vars defs ss ps t bs boolean s).1 (are_of_bound ss bs vs b h f) p.1 i) g)
    negated_gives (exists ss ps t) u bs b r s f e g = let p = map_some (λ v. for_all ss ps v) (negated t) u e in
        subst (λ x. Gives frees calls x b (flag (not (holds r)))) p.2 (not_exists_gives ss t p.0 b r
        (λ vs h v i. negated_gives t p.0 (reverse ss ++ bs) (reverse vs ++ b) v (parts_of_quantifier vars defs ss ps t bs boolean s).1 (are_of_bound ss bs vs b h f) p.1 i) g)
    negated_gives t u bs b r s f e g = some_has (λ x. Gives frees calls x b (flag (not (holds r)))) (negation t) u e (r, g, refl)

    pub negated_every : (ts us : Trees) (bs : List Kind) (b : List Value) (h : Bool) → are_formulas vars defs bs ts ≡ true → are_of bs b ≡ true → negated_each ts ≡ Some us → GivesEvery frees calls ts b h → GivesAny frees calls us b (not h)
    negated_every no_trees us bs b h s f e g = some_has (λ x. GivesAny frees calls x b (not h)) no_trees us e (ap not g)
    negated_every (tree t ts) us bs b h s f e g = let i = first_formula vars defs t ts bs s in
        let p = bind_some (negated t) (λ u. negated_each ts >>= λ vs. Some (tree u vs)) us e in
        let q = bind_some (negated_each ts) (λ vs. Some (tree p.0 vs)) us p.2 in
        some_has (λ x. GivesAny frees calls x b (not h)) (tree p.0 q.0) us q.2 (flag (not (holds g.0)), not g.1, negated_gives t p.0 bs b g.0 i.0 f p.1 g.2, negated_every ts q.0 bs b g.1 i.1 f q.1 g.3, ap not g.4 ∙ B.not_and (holds g.0) g.1)

    pub negated_any : (ts us : Trees) (bs : List Kind) (b : List Value) (h : Bool) → are_formulas vars defs bs ts ≡ true → are_of bs b ≡ true → negated_each ts ≡ Some us → GivesAny frees calls ts b h → GivesEvery frees calls us b (not h)
    negated_any no_trees us bs b h s f e g = some_has (λ x. GivesEvery frees calls x b (not h)) no_trees us e (ap not g)
    negated_any (tree t ts) us bs b h s f e g = let i = first_formula vars defs t ts bs s in
        let p = bind_some (negated t) (λ u. negated_each ts >>= λ vs. Some (tree u vs)) us e in
        let q = bind_some (negated_each ts) (λ vs. Some (tree p.0 vs)) us p.2 in
        some_has (λ x. GivesEvery frees calls x b (not h)) (tree p.0 q.0) us q.2 (flag (not (holds g.0)), not g.1, negated_gives t p.0 bs b g.0 i.0 f p.1 g.2, negated_any ts q.0 bs b g.1 i.1 f q.1 g.3, ap not g.4 ∙ B.not_or (holds g.0) g.1)

  zero_equation_gives : (d u : Tree) (bs : List Kind) (b : List Value) (m : ℤ) → sort_of vars defs bs d ≡ Some int → are_of bs b ≡ true → Gives frees calls d b (whole m) → option_map (λ e. equal e (num (pos 0))) (if has_negative_lead d then affine (negsuc 0) d (pos 0) else Some d) ≡ Some u → Gives frees calls u b (flag (int_eq m (pos 0)))
  zero_equation_gives d u bs b m s f g e =
      let p = map_some (λ e. equal e (num (pos 0))) (if has_negative_lead d then affine (negsuc 0) d (pos 0) else Some d) u e in
      subst (λ x. Gives frees calls x b (flag (int_eq m (pos 0)))) p.2
      (cond_some (λ x. Gives frees calls (equal x (num (pos 0))) b (flag (int_eq m (pos 0)))) (has_negative_lead d) (affine (negsuc 0) d (pos 0)) (Some d) p.0 p.1
      (λ _ q. (
        whole ((negsuc 0 *ℤ m) +ℤ pos 0),
        whole (pos 0),
        affine_gives vars defs frees calls has_call keeps_call fits call_sorts (negsuc 0) d (pos 0) p.0 bs b (whole m) s f g q,
        refl,
        ap flag (sym (Z.negative_zero m)) ∙ ap (λ x. flag (int_eq x (pos 0))) (sym (Z.plus_zero (negsuc 0 *ℤ m))),
      ))
      (λ _ q. some_has (λ x. Gives frees calls (equal x (num (pos 0))) b (flag (int_eq m (pos 0)))) d p.0 q (whole m, whole (pos 0), g, refl, refl)))

  pub equals_zero_gives : (d u : Tree) (bs : List Kind) (b : List Value) (m : ℤ) → sort_of vars defs bs d ≡ Some int → are_of bs b ≡ true → Gives frees calls d b (whole m) → equals_zero d ≡ Some u → Gives frees calls u b (flag (int_eq m (pos 0)))
  equals_zero_gives (num n) u bs b m s f g e = some_has (λ x. Gives frees calls x b (flag (int_eq m (pos 0)))) (truth (int_eq n (pos 0))) u e (ap (λ x. flag (int_eq (int_of x) (pos 0))) g)
  equals_zero_gives d u bs b m s f g e = zero_equation_gives d u bs b m s f g e

  pub ordered_equal_gives : (x y u : Tree) (b : List Value) (v w : Value) → Gives frees calls x b v → Gives frees calls y b w → Some (equal (in_order x y).0 (in_order x y).1) ≡ Some u → Gives frees calls u b (flag (same v w))
  ordered_equal_gives x y u b v w g h e = some_has (λ t. Gives frees calls t b (flag (same v w))) (equal (in_order x y).0 (in_order x y).1) u e
      (in_order_has (λ p. Gives frees calls (equal p.0 p.1) b (flag (same v w))) x y (v, w, g, h, refl) (w, v, h, g, ap flag (same_swap v w)))

  with_truth : (c d : Bool) (v : Value) → v ≡ flag d → (c ≡ true → flag (same (flag c) v) ≡ v) × (c ≡ false → flag (same (flag c) v) ≡ flag (not (holds v)))
  with_truth true d v e = ((λ _. ap (λ x. flag (same (flag true) x)) e ∙ sym e), (λ q. absurd (cc)))
  with_truth false d v e = ((λ q. absurd (cc)), (λ _. ap (λ x. flag (same (flag false) x)) e ∙ ap (λ x. flag (not (holds x))) (sym e)))

  side_gives : (c : Bool) (x u : Tree) (bs : List Kind) (b : List Value) (v : Value) → sort_of vars defs bs x ≡ Some boolean → are_of bs b ≡ true → Gives frees calls x b v → (if c then Some x else negated x) ≡ Some u → Gives frees calls u b (flag (same (flag c) v))
  side_gives c x u bs b v s f g e =
      let w = of_boolean v (gives_sort vars defs frees calls has_call fits call_sorts x bs b boolean v s f g) in
      let k = with_truth c w.0 v w.1 in
      cond_some (λ z. Gives frees calls z b (flag (same (flag c) v))) c (Some x) (negated x) u e
      (λ p q. some_has (λ z. Gives frees calls z b (flag (same (flag c) v))) x u q (subst (Gives frees calls x b) (sym (k.0 p)) g))
      (λ p q. subst (Gives frees calls u b) (sym (k.1 p)) (negated_gives x u bs b v s f q g))

  equivalence_with_gives : (y x u : Tree) (bs : List Kind) (b : List Value) (v w : Value) → sort_of vars defs bs x ≡ Some boolean → are_of bs b ≡ true → Gives frees calls x b v → Gives frees calls y b w → equivalence_with x y ≡ Some u → Gives frees calls u b (flag (same v w))
  equivalence_with_gives (truth c) x u bs b v w s f g h e = subst (Gives frees calls u b) (ap flag (same_swap (flag c) v) ∙ ap (λ z. flag (same v z)) (sym h)) (side_gives c x u bs b v s f g e)
  equivalence_with_gives y x u bs b v w s f g h e = ordered_equal_gives x y u b v w g h e

  pub equivalence_gives : (x y u : Tree) (bs : List Kind) (b : List Value) (v w : Value) → sort_of vars defs bs x ≡ Some boolean → sort_of vars defs bs y ≡ Some boolean → are_of bs b ≡ true → Gives frees calls x b v → Gives frees calls y b w → equivalence x y ≡ Some u → Gives frees calls u b (flag (same v w))
  equivalence_gives (truth c) y u bs b v w s t f g h e = subst (Gives frees calls u b) (ap (λ z. flag (same z w)) (sym g)) (side_gives c y u bs b w t f h e)
  equivalence_gives x y u bs b v w s t f g h e = equivalence_with_gives y x u bs b v w s f g h e

  pub equation_of_gives : (k : Kind) (x y u : Tree) (bs : List Kind) (b : List Value) (v w : Value) → sort_of vars defs bs x ≡ Some k → sort_of vars defs bs y ≡ Some k → are_of bs b ≡ true → Gives frees calls x b v → Gives frees calls y b w → equation_of (Some k) x y ≡ Some u → Gives frees calls u b (flag (same v w))
  equation_of_gives int x y u bs b v w s t f g h e =
      let p = bind_some (difference x y) (λ d. equals_zero d) u e in
      let i = of_int v (gives_sort vars defs frees calls has_call fits call_sorts x bs b int v s f g) in
      let j = of_int w (gives_sort vars defs frees calls has_call fits call_sorts y bs b int w t f h) in
      let d = difference_gives vars defs frees calls has_call keeps_call fits call_sorts x y p.0 bs b v w s t f g h p.1 in
      subst (Gives frees calls u b) (ap flag (Z.difference_zero (int_of v) (int_of w)) ∙ ap (λ z. flag (int_eq (int_of z) (int_of w))) i.1 ∙ ap (λ z. flag (int_eq i.0 (int_of z))) j.1 ∙ ap (λ z. flag (same z (whole j.0))) (sym i.1) ∙ ap (λ z. flag (same v z)) (sym j.1))
      (equals_zero_gives p.0 u bs b (int_of v +ℤ (negsuc 0 *ℤ int_of w)) (difference_sort vars defs x y p.0 bs s t p.1) f d p.2)
  equation_of_gives boolean x y u bs b v w s t f g h e = equivalence_gives x y u bs b v w s t f g h e
  equation_of_gives (map k) x y u bs b v w s t f g h e = ordered_equal_gives x y u b v w g h e

  pub equation_gives : (k : Kind) (x y u : Tree) (bs : List Kind) (b : List Value) (v w : Value) → sort_of vars defs bs x ≡ Some k → sort_of vars defs bs y ≡ Some k → are_of bs b ≡ true → Gives frees calls x b v → Gives frees calls y b w → equation (Some k) x y ≡ Some u → Gives frees calls u b (flag (same v w))
  equation_gives k x y u bs b v w s t f g h e = cond_some (λ z. Gives frees calls z b (flag (same v w))) (same_term x y) (Some (truth true)) (equation_of (Some k) x y) u e
      (λ p q. some_has (λ z. Gives frees calls z b (flag (same v w))) (truth true) u q (ap flag (equal_same v w (gives_one frees calls has_call keeps_call y b v w (subst (λ z. Gives frees calls z b v) (same_is_equal x y p) g) h))))
      (λ _ q. equation_of_gives k x y u bs b v w s t f g h q)

  pub zero_at_most_gives : (d : Tree) (b : List Value) (m : ℤ) → Gives frees calls d b (whole m) → Gives frees calls (zero_at_most d) b (flag (int_le (pos 0) m))
  zero_at_most_gives (num n) b m g = ap (λ x. flag (int_le (pos 0) (int_of x))) g
  zero_at_most_gives d b m g = (whole (pos 0), whole m, refl, g, refl)

  pub inequality_gives : (x y u : Tree) (bs : List Kind) (b : List Value) (v w : Value) → sort_of vars defs bs x ≡ Some int → sort_of vars defs bs y ≡ Some int → are_of bs b ≡ true → Gives frees calls x b v → Gives frees calls y b w → inequality x y ≡ Some u → Gives frees calls u b (flag (int_le (int_of v) (int_of w)))
  inequality_gives x y u bs b v w s t f g h e =
      let p = map_some zero_at_most (difference y x) u e in
      subst (λ z. Gives frees calls z b (flag (int_le (int_of v) (int_of w)))) p.2 (subst (Gives frees calls (zero_at_most p.0) b) (ap flag (Z.difference_at_least_zero (int_of v) (int_of w)))
      (zero_at_most_gives p.0 b (int_of w +ℤ (negsuc 0 *ℤ int_of v)) (difference_gives vars defs frees calls has_call keeps_call fits call_sorts y x p.0 bs b w v t s f h g p.1)))

  chosen_gives : (c x y : Tree) (b : List Value) (v r : Value) → Gives frees calls c b v → If (holds v) (Gives frees calls x b r) (Gives frees calls y b r) → Gives frees calls (if same_term x y then x else choose c x y) b r
  chosen_gives c x y b v r g h = cond_has (λ z. Gives frees calls z b r) (same_term x y) x (choose c x y)
      (λ p. if_same (holds v) (Gives frees calls x b r) (subst (λ z. If (holds v) (Gives frees calls x b r) (Gives frees calls z b r)) (sym (same_is_equal x y p)) h)) (λ _. (v, g, h))

  pub choice_gives : (c x y : Tree) (b : List Value) (v r : Value) → Gives frees calls c b v → If (holds v) (Gives frees calls x b r) (Gives frees calls y b r) → Gives frees calls (choice c x y) b r
  choice_gives (truth t) x y b v r g h = if_cond t (λ z. Gives frees calls z b r) x y (subst (λ z. If (holds z) (Gives frees calls x b r) (Gives frees calls y b r)) g h)
  choice_gives c x y b v r g h = chosen_gives c x y b v r g h

  for_all_truth : (c : Bool) (ss : List Kind) (b : List Value) (r : Value) → Decided (AllHold frees calls ss (truth c) b) r → r ≡ flag c
  for_all_truth true ss b r (inl a) = a.1
  for_all_truth true ss b r (inr a) = absurd (a.0 (λ vs f. refl))
  for_all_truth false ss b r (inl a) = absurd (let e : false ≡ true = a.0 (some_values ss) (some_values_sort ss) in (cc))
  for_all_truth false ss b r (inr a) = a.1

  exists_truth : (c : Bool) (ss : List Kind) (b : List Value) (r : Value) → Decided (¬ NoneHolds frees calls ss (truth c) b) r → r ≡ flag c
  exists_truth true ss b r (inl a) = a.1
  exists_truth true ss b r (inr a) = absurd (a.0 (λ n. n (some_values ss) (some_values_sort ss) refl))
  exists_truth false ss b r (inl a) = absurd (a.0 (λ vs f e. let q : false ≡ true = e in (cc)))
  exists_truth false ss b r (inr a) = a.1

  pub for_all_gives : (u : Tree) (ss : List Kind) (qs : Patterns) (b : List Value) (r : Value) → Decided (AllHold frees calls ss u b) r → Gives frees calls (quantified (λ v. for_all ss qs v) u) b r
  for_all_gives (truth c) ss qs b r g = for_all_truth c ss b r g
  for_all_gives u ss qs b r g = g

  pub exists_gives : (u : Tree) (ss : List Kind) (qs : Patterns) (b : List Value) (r : Value) → Decided (¬ NoneHolds frees calls ss u b) r → Gives frees calls (quantified (λ v. exists ss qs v) u) b r
  exists_gives (truth c) ss qs b r g = exists_truth c ss b r g
  exists_gives u ss qs b r g = g
