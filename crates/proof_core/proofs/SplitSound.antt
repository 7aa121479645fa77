-- Split is sound: of an And, into cases, and by a condition.
use Rattle.std.proofs.Common.{◌≡◌, ◌∙◌, refl, sym, ap, subst, ℕ, Bool, true, false, not, IsTrue, Some, List, [], ◌∷◌}
use Rattle.std.specs.Prelude.{All, is_some}
use Rattle.std.proofs.lemmas.List.Elements.{All-nil, All-cons, All-head, All-tail}
use Rattle.logic_core.specs.Tree.{Kind, boolean, Tree, choose, negation, all, some, equal, Trees, no_trees, tree}
use Rattle.logic_core.specs.Value.{Value, flag, holds, same, is_of, are_of}
use Rattle.logic_core.specs.Def.{Def}
use Rattle.logic_core.specs.Meaning.{If}
use Rattle.logic_core.specs.Wide.{◌>>=◌}
use Rattle.logic_core.specs.Sorts.{is, sort_of, are_formulas}
use Rattle.logic_core.specs.Subterm.{listed, replaced}
use Rattle.logic_laws.proofs.Options.{bind_some, when_some, when_true}
use Rattle.logic_laws.proofs.SortTests.{is_sort}
use Rattle.logic_laws.proofs.FormulaSorts.{first_formula, one_more_formula, parts_of_all, part_of_negation, negation_sort, parts_of_equal}
use Rattle.logic_laws.proofs.NormalSorts.{parts_of_choose}
use Rattle.logic_laws.proofs.Tables.{of_boolean}
use Rattle.logic_laws.proofs.SameValue.{same_equal, equal_same}
use Rattle.proof_core.specs.Context.{Context, fact, appended, appended_each, children, named}
use Rattle.proof_core.specs.Split.{stands_in, both, disjuncts, split, equal_cases, unequal_cases, cases, split_cases, conditions, split_condition}
use Rattle.proof_core.specs.Soundness.{IsSorted, IsUnsatisfiable, IsRefutedBy, SplitIsSound, CasesAreSound, ConditionIsSound}
use Rattle.logic_core.specs.WellSorted.{IsFormula}
use Rattle.proof_core.proofs.Closed.{HoldsIn, Has, has_one, value_holds, holds_by_value, value_sort, same_back}
use Rattle.proof_core.proofs.Conditions.{when_then, some_given, both_given, at_test}
use Rattle.proof_core.proofs.Junctions.{parts_hold, none_holds, both_hold}
use Rattle.proof_core.proofs.Appended.{appended_extends, each_extends, followed, one_more_child, children_extend, two_children, at_fact, All-two}
use Rattle.proof_core.proofs.Replacing.{replaced_formula, replaced_holds}

-- the parts of an And or Or are formulas
parts_formulas : (vars : List Kind) (defs : List Def) (ts : Trees) → are_formulas vars defs [] ts ≡ true → All (IsFormula vars defs) (listed ts)
parts_formulas vars defs no_trees h = All-nil (IsFormula vars defs)
parts_formulas vars defs (tree t ts) h = let f = first_formula vars defs t ts [] h in All-cons (IsFormula vars defs) t (listed ts) f.0 (parts_formulas vars defs ts f.1)

-- split of an And
split_at : (defs : List Def) (c d : Context) (f : ℕ) (t : Tree) → IsSorted defs c → fact c f ≡ Some t → split defs c t ≡ Some d → IsSorted defs d × (IsUnsatisfiable defs d → IsUnsatisfiable defs c)
split_at defs c d f (all ts) s k e =
    let formula : IsFormula c.vars defs (all ts) = at_fact (IsFormula c.vars defs) c.facts f (all ts) k s.facts in
    let parts = parts_formulas c.vars defs ts (parts_of_all c.vars defs ts [] formula) in
    followed defs c (listed ts) d (each_extends defs (listed ts) c d s parts e)
    (λ frees fit hold. parts_hold defs frees ts (at_fact (HoldsIn defs frees) c.facts f (all ts) k hold))
split_at defs c d f t s k e = absurd (cc)

pub split_is_sound : SplitIsSound
split_is_sound f defs c d s e = let p = bind_some (fact c f) (λ t. split defs c t) d e in split_at defs c d f p.0 s p.1 p.2

-- split into cases: they are formulas, of which one holds where the fact does
module _ (vars : List Kind) (defs : List Def) where
  both_formula : (s t : Tree) → IsFormula vars defs s → IsFormula vars defs t → IsFormula vars defs (both s t)
  both_formula s t p q = when_true (are_formulas vars defs [] (tree s (tree t no_trees))) (Some boolean) (one_more_formula vars defs s (tree t no_trees) [] p (one_more_formula vars defs t no_trees [] q refl))

  -- the sides of an Eq of which one is a formula
  sides_formulas : (p q : Tree) → IsFormula vars defs (equal p q) → is boolean (sort_of vars defs [] p) ≡ true → IsFormula vars defs p × IsFormula vars defs q
  sides_formulas p q formula b =
      let side : IsFormula vars defs p = is_sort boolean (sort_of vars defs [] p) b in
      let k = parts_of_equal vars defs p q [] boolean formula in
      let kind : k.0 ≡ boolean = cc (k.1, side) in
      (side, subst (λ j. sort_of vars defs [] q ≡ Some j) kind k.2)

boolean_value : (v w : Value) → IsTrue (is_of boolean v) → IsTrue (is_of boolean w) → holds v ≡ holds w → v ≡ w
boolean_value v w h k e = let p = of_boolean v h in let q = of_boolean w k in p.1 ∙ ap flag (sym (ap holds p.1) ∙ e ∙ ap holds q.1) ∙ sym q.1

module _ (defs : List Def) (c : Context) (s : IsSorted defs c) where
  -- formulas of which one holds where the formula does
  abbrev AreCases : Tree → Tree → List Tree → Type 0
  AreCases g t ts = All (IsFormula c.vars defs) (t ∷ ts) × ((frees : List Value) → IsTrue (are_of c.vars frees) → HoldsIn defs frees g → All (λ u. ¬ HoldsIn defs frees u) (t ∷ ts) → ⊥)

  disjuncts_are_cases : (ts : Trees) (p : Tree × List Tree) → IsFormula c.vars defs (some ts) → disjuncts ts ≡ Some p → AreCases (some ts) p.0 p.1
  disjuncts_are_cases no_trees p formula e = absurd (cc)
  disjuncts_are_cases (tree t ts) p formula e = let is_p : (t, listed ts) ≡ p = cc in
      subst (λ (q : Tree × List Tree). AreCases (some (tree t ts)) q.0 q.1) is_p
      (parts_formulas c.vars defs (tree t ts) (parts_of_all c.vars defs (tree t ts) [] formula), λ frees fit hold none. none_holds defs frees (tree t ts) none hold)

  negated_formula : (t : Tree) → IsFormula c.vars defs t → IsFormula c.vars defs (negation t)
  negated_formula t h = negation_sort c.vars defs t [] h

  module _ (frees : List Value) (fit : IsTrue (are_of c.vars frees)) where
    not_by_value : (t : Tree) (v : Value) → Has defs frees t v → holds v ≡ false → HoldsIn defs frees (negation t)
    not_by_value t v g e = holds_by_value defs frees (negation t) (flag (not (holds v))) (v, g, refl) (ap not e)

    equal_hold : (p q : Tree) → HoldsIn defs frees (equal p q) → ¬ HoldsIn defs frees (both p q) → ¬ HoldsIn defs frees (both (negation p) (negation q)) → ⊥
    equal_hold p q hold no_both no_neither = has_one defs frees p (λ v g. has_one defs frees q (λ w h.
        let one : v ≡ w = same_equal v w (value_holds defs frees (equal p q) (flag (same v w)) (v, w, g, h, refl) hold) in
        at_test (holds v)
        (λ t. no_both (both_hold defs frees p q (holds_by_value defs frees p v g t) (holds_by_value defs frees q w h (sym (ap holds one) ∙ t))))
        (λ f. no_neither (both_hold defs frees (negation p) (negation q) (not_by_value p v g f) (not_by_value q w h (sym (ap holds one) ∙ f))))))

    -- of unequal truth values one is true and the other false
    other_false : (v w : Value) → (holds v ≡ holds w → ⊥) → holds v ≡ true → holds w ≡ false
    other_false v w apart t = at_test (holds w) (λ u. absurd (apart (t ∙ sym u))) (λ f. f)

    other_true : (v w : Value) → (holds v ≡ holds w → ⊥) → holds v ≡ false → holds w ≡ true
    other_true v w apart f = at_test (holds w) (λ t. t) (λ u. absurd (apart (f ∙ sym u)))

    unequal_hold : (p q : Tree) → IsFormula c.vars defs p → IsFormula c.vars defs q → HoldsIn defs frees (negation (equal p q)) → ¬ HoldsIn defs frees (both p (negation q)) → ¬ HoldsIn defs frees (both (negation p) q) → ⊥
    unequal_hold p q sp sq hold no_first no_second = has_one defs frees p (λ v g. has_one defs frees q (λ w h.
        let untrue : not (same v w) ≡ true = value_holds defs frees (negation (equal p q)) (flag (not (same v w))) (flag (same v w), (v, w, g, h, refl), refl) hold in
        let v_sort = value_sort c.vars defs s.definitions frees fit p boolean v sp g in
        let w_sort = value_sort c.vars defs s.definitions frees fit q boolean w sq h in
        let apart : holds v ≡ holds w → ⊥ = (λ e. let t : same v w ≡ true = equal_same v w (boolean_value v w v_sort w_sort e) in absurd (cc)) in
        at_test (holds v)
        (λ t. no_first (both_hold defs frees p (negation q) (holds_by_value defs frees p v g t) (not_by_value q w h (other_false v w apart t))))
        (λ f. no_second (both_hold defs frees (negation p) q (not_by_value p v g f) (holds_by_value defs frees q w h (other_true v w apart f))))))

  equal_are_cases : (p q : Tree) (ts : Tree × List Tree) → IsFormula c.vars defs (equal p q) → equal_cases defs c p q ≡ Some ts → AreCases (equal p q) ts.0 ts.1
  equal_are_cases p q ts formula e =
      let w = when_some (is boolean (named defs c p)) (both p q, both (negation p) (negation q) ∷ []) ts e in
      let sides = sides_formulas c.vars defs p q formula w.0 in
      subst (λ (us : Tree × List Tree). AreCases (equal p q) us.0 us.1) w.1 (
        All-two (IsFormula c.vars defs) (both p q) (both (negation p) (negation q)) (both_formula c.vars defs p q sides.0 sides.1) (both_formula c.vars defs (negation p) (negation q) (negated_formula p sides.0) (negated_formula q sides.1)),
        λ frees fit hold none. equal_hold frees fit p q hold (All-head (λ u. ¬ HoldsIn defs frees u) (both p q) (both (negation p) (negation q) ∷ []) none)
            (All-head (λ u. ¬ HoldsIn defs frees u) (both (negation p) (negation q)) [] (All-tail (λ u. ¬ HoldsIn defs frees u) (both p q) (both (negation p) (negation q) ∷ []) none)),
      )

  unequal_are_cases : (t : Tree) (ts : Tree × List Tree) → IsFormula c.vars defs (negation t) → unequal_cases defs c t ≡ Some ts → AreCases (negation t) ts.0 ts.1
  unequal_are_cases (equal p q) ts formula e =
      let w = when_some (is boolean (named defs c p)) (both p (negation q), both (negation p) q ∷ []) ts e in
      let sides = sides_formulas c.vars defs p q (part_of_negation c.vars defs (equal p q) [] boolean formula) w.0 in
      subst (λ (us : Tree × List Tree). AreCases (negation (equal p q)) us.0 us.1) w.1 (
        All-two (IsFormula c.vars defs) (both p (negation q)) (both (negation p) q) (both_formula c.vars defs p (negation q) sides.0 (negated_formula q sides.1)) (both_formula c.vars defs (negation p) q (negated_formula p sides.0) sides.1),
        λ frees fit hold none. unequal_hold frees fit p q sides.0 sides.1 hold (All-head (λ u. ¬ HoldsIn defs frees u) (both p (negation q)) (both (negation p) q ∷ []) none)
            (All-head (λ u. ¬ HoldsIn defs frees u) (both (negation p) q) [] (All-tail (λ u. ¬ HoldsIn defs frees u) (both p (negation q)) (both (negation p) q ∷ []) none)),
      )
  unequal_are_cases t ts formula e = absurd (cc)

  are_cases : (t : Tree) (ts : Tree × List Tree) → IsFormula c.vars defs t → cases defs c t ≡ Some ts → AreCases t ts.0 ts.1
  are_cases (some us) ts formula e = disjuncts_are_cases us ts formula e
  are_cases (equal p q) ts formula e = equal_are_cases p q ts formula e
  are_cases (negation t) ts formula e = unequal_are_cases t ts formula e
  are_cases t ts formula e = absurd (cc)

pub cases_are_sound : CasesAreSound
cases_are_sound f defs c d ds s e =
    let p = bind_some (fact c f) (λ t. split_cases defs c t) (d, ds) e in
    let q = bind_some (cases defs c p.0) (λ ts. appended defs c ts.0 >>= λ d. children defs c ts.1 >>= λ ds. Some (d, ds)) (d, ds) p.2 in
    let t = (q.0).0 in
    let ts = (q.0).1 in
    let b = both_given (appended defs c t) (children defs c ts) d ds q.2 in
    let formula : IsFormula c.vars defs p.0 = at_fact (IsFormula c.vars defs) c.facts f p.0 p.1 s.facts in
    let sound = are_cases defs c s p.0 q.0 formula q.1 in
    let first = appended_extends defs c d t s (All-head (IsFormula c.vars defs) t ts sound.0) b.0 in
    let child = one_more_child defs c d t ts ds first (children_extend defs ts c ds s (All-tail (IsFormula c.vars defs) t ts sound.0) b.1) in
    (child.0, λ unsat frees fit hold. sound.1 frees fit (at_fact (HoldsIn defs frees) c.facts f p.0 p.1 hold) (child.1 unsat frees fit hold))

-- split by a condition
if_true : (b : Bool) (A B : Type 0) → b ≡ true → A → If b A B
if_true true A B e a = a
if_true false A B e a = absurd (cc)

if_false : (b : Bool) (A B : Type 0) → b ≡ false → B → If b A B
if_false true A B e a = absurd (cc)
if_false false A B e a = a

condition_at : (defs : List Def) (c d e : Context) (f : ℕ) (g t : Tree) (k : Kind) (p : List Tree × List Tree) → IsSorted defs c → fact c f ≡ Some g → named defs c t ≡ Some k → conditions g t ≡ Some p → appended_each defs c p.0 ≡ Some d → appended_each defs c p.1 ≡ Some e → IsRefutedBy defs c (d ∷ e ∷ [])
condition_at defs c d e f g (choose u x y) k p s at sort is_p held failed =
    let t = choose u x y in
    let w = when_some (stands_in t g) (u ∷ replaced t x g ∷ [], negation u ∷ replaced t y g ∷ []) p is_p in
    let first : appended_each defs c (u ∷ replaced t x g ∷ []) ≡ Some d = subst (λ (q : List Tree × List Tree). appended_each defs c q.0 ≡ Some d) (sym w.1) held in
    let second : appended_each defs c (negation u ∷ replaced t y g ∷ []) ≡ Some e = subst (λ (q : List Tree × List Tree). appended_each defs c q.1 ≡ Some e) (sym w.1) failed in
    let parts = parts_of_choose c.vars defs u x y [] k sort in
    two_children defs c d e (u ∷ replaced t x g ∷ []) (negation u ∷ replaced t y g ∷ [])
    (each_extends defs (u ∷ replaced t x g ∷ []) c d s (All-two (IsFormula c.vars defs) u (replaced t x g) parts.0 (replaced_formula defs c s f g at t x k sort parts.1)) first)
    (each_extends defs (negation u ∷ replaced t y g ∷ []) c e s (All-two (IsFormula c.vars defs) (negation u) (replaced t y g) (negation_sort c.vars defs u [] parts.0) (replaced_formula defs c s f g at t y k sort parts.2)) second)
    (λ frees fit hold n m. has_one defs frees u (λ v h. at_test (holds v)
    (λ b. n (All-two (HoldsIn defs frees) u (replaced t x g) (holds_by_value defs frees u v h b)
    (replaced_holds defs c s f g at t x k sort parts.1 frees fit (same_back defs frees t x (λ r i. (v, h, if_true (holds v) (Has defs frees x r) (Has defs frees y r) b i))) hold)))
    (λ b. m (All-two (HoldsIn defs frees) (negation u) (replaced t y g) (holds_by_value defs frees (negation u) (flag (not (holds v))) (v, h, refl) (ap not b))
    (replaced_holds defs c s f g at t y k sort parts.2 frees fit (same_back defs frees t y (λ r i. (v, h, if_false (holds v) (Has defs frees x r) (Has defs frees y r) b i))) hold)))))
condition_at defs c d e f g t k p s at sort is_p held failed = absurd (cc)

pub condition_is_sound : ConditionIsSound
condition_is_sound f t defs c d e s h =
    let p = bind_some (fact c f) (λ u. split_condition defs c u t) (d, e) h in
    let w = when_then (is_some (named defs c t)) (conditions p.0 t >>= λ q. appended_each defs c q.0 >>= λ d. appended_each defs c q.1 >>= λ e. Some (d, e)) (d, e) p.2 in
    let sort = some_given (named defs c t) w.0 in
    let q = bind_some (conditions p.0 t) (λ q. appended_each defs c q.0 >>= λ d. appended_each defs c q.1 >>= λ e. Some (d, e)) (d, e) w.1 in
    let b = both_given (appended_each defs c (q.0).0) (appended_each defs c (q.0).1) d e q.2 in
    condition_at defs c d e f p.0 t sort.0 q.0 s p.1 sort.1 q.1 b.0 b.1
