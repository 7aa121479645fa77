-- Closed terms over an assignment: their values, and the laws of terms on which the rules stand.
use Rattle.std.proofs.Common.{◌≡◌, ◌↔◌, refl, ℕ, true, IsTrue, Some, List, []}
use Rattle.std.specs.Prelude.{All, slice_get}
use Rattle.logic_core.specs.Tree.{Kind, boolean, Tree, call, negation, Trees}
use Rattle.logic_core.specs.Value.{Value, holds, is_of, are_of}
use Rattle.logic_core.specs.Def.{Def}
use Rattle.logic_core.specs.Meaning.{Said, With, Holds}
use Rattle.logic_core.specs.Valid.{calls_of}
use Rattle.logic_core.specs.Sorts.{sort_of, are, bodies_sorted}
use Rattle.logic_core.specs.Normal.{normal}
use Rattle.logic_core.specs.Junction.{negated}
use Rattle.logic_core.specs.Subterm.{replaced, listed}
use Rattle.logic_core.specs.Substitute.{substitute}
use Rattle.logic_core.proofs.Kept.{Stable, Keeps, true_stable, keeps}
use Rattle.logic_core.proofs.Defined.{has_defined, keeps_defined}
use Rattle.logic_core.proofs.Replaced.{Same}
use Rattle.logic_laws.proofs.Gives.{Gives, Says, gives, said}
use Rattle.logic_laws.proofs.ValueSorts.{CallsHaveSorts, gives_sort}
use Rattle.logic_laws.proofs.NormalSorts.{normal_sort as normal_sort_law}
use Rattle.logic_laws.proofs.DefinedSorts.{defined_sorts}
use Rattle.logic_laws.proofs.ReplacedSorts.{replaced_sort as replaced_sort_law}
use Rattle.logic_laws.proofs.Bodies.{body_sort as definition_sort}
use Rattle.logic_laws.proofs.SubstitutedValues.{substituted_sort}
use Rattle.logic_laws.proofs.Assigned.{same_normal, same_negated, same_with_replaced, same_call}

module _ (defs : List Def) (frees : List Value) where
  -- what is said of the value of a closed term
  abbrev pub Of : Tree → Said → Type 0
  Of t P = With frees (calls_of frees defs) t [] P

  -- a closed formula holds
  abbrev pub HoldsIn : Tree → Type 0
  HoldsIn t = Holds frees (calls_of frees defs) t []

  abbrev pub AllHold : List Tree → Type 0
  AllHold ts = All HoldsIn ts

  -- a closed term has the value v
  abbrev pub Has : Tree → Value → Type 0
  Has t v = Gives frees (calls_of frees defs) t [] v

  -- where a contradiction is to be shown, each has one
  pub has_one : (t : Tree) → ((v : Value) → Has t v → ⊥) → ⊥
  has_one t go = gives frees (calls_of frees defs) (has_defined frees defs) (keeps_defined frees defs) t [] go

  pub keep : (t : Tree) → Keeps (Of t)
  keep t = keeps frees (calls_of frees defs) (keeps_defined frees defs) t []

  pub says : (t : Tree) (v : Value) → Has t v → Says (Of t) v
  says t v h = said frees (calls_of frees defs) (has_defined frees defs) (keeps_defined frees defs) t [] v h

  -- a formula holds where its value is true
  pub value_holds : (t : Tree) (v : Value) → Has t v → HoldsIn t → IsTrue (holds v)
  value_holds t v h = (says t v h (λ w. IsTrue (holds w)) (λ w. true_stable (holds w))).0

  pub holds_by_value : (t : Tree) (v : Value) → Has t v → IsTrue (holds v) → HoldsIn t
  holds_by_value t v h = (says t v h (λ w. IsTrue (holds w)) (λ w. true_stable (holds w))).1

  pub holds_stable : (t : Tree) → Stable (HoldsIn t)
  holds_stable t = keep t (λ w. IsTrue (holds w)) (λ w. true_stable (holds w))

  -- terms of one value
  pub same_by_value : (t u : Tree) → (((v : Value) → Has t v → Has u v → ⊥) → ⊥) → Same (Of t) (Of u)
  same_by_value t u f P s = (
    (λ m. keep u P s (λ none. f (λ v g h. none ((says u v h P s).1 ((says t v g P s).0 m))))),
    (λ m. keep t P s (λ none. f (λ v g h. none ((says t v g P s).1 ((says u v h P s).0 m))))),
  )

  -- t has each value that u has
  pub same_back : (t u : Tree) → ((v : Value) → Has u v → Has t v) → Same (Of t) (Of u)
  same_back t u f = same_by_value t u (λ go. has_one u (λ v g. go v (f v g) g))

  -- what is said of two terms alike holds of both
  pub same_holds : (t u : Tree) → Same (Of t) (Of u) → HoldsIn t ↔ HoldsIn u
  same_holds t u e = e (λ w. IsTrue (holds w)) (λ w. true_stable (holds w))

module _ (vars : List Kind) (defs : List Def) (bodies : IsTrue (bodies_sorted vars [] defs)) where
  pub normal_sort : (t u : Tree) (k : Kind) → sort_of vars defs [] t ≡ Some k → normal vars defs [] t ≡ Some u → sort_of vars defs [] u ≡ Some k
  normal_sort t u k s n = normal_sort_law vars defs t u [] k n s

  pub replaced_sort : (old new t : Tree) (j k : Kind) → sort_of vars defs [] old ≡ Some j → sort_of vars defs [] new ≡ Some j → sort_of vars defs [] t ≡ Some k → sort_of vars defs [] (replaced old new t) ≡ Some k
  replaced_sort old new t j k s r h = replaced_sort_law vars defs old new t [] j k s r h

  -- the body of a definition with arguments for its parameters
  pub body_sort : (n : ℕ) (d : Def) (ts : Trees) → slice_get defs n ≡ Some d → are vars defs [] d.params ts ≡ true → sort_of vars defs [] (substitute d.body (listed ts)) ≡ Some d.sort
  body_sort n d ts g sorts = substituted_sort vars defs d.params ts d.body d.sort sorts (definition_sort vars defs n d bodies g)

  module _ (frees : List Value) (fit : IsTrue (are_of vars frees)) where
    pub call_sorts : CallsHaveSorts defs (calls_of frees defs)
    call_sorts = defined_sorts vars frees fit defs bodies

    -- the value of a term is of its sort
    pub value_sort : (t : Tree) (k : Kind) (v : Value) → sort_of vars defs [] t ≡ Some k → Has defs frees t v → IsTrue (is_of k v)
    value_sort t k v s h = gives_sort vars defs frees (calls_of frees defs) (has_defined frees defs) fit call_sorts t [] [] k v s refl h

    pub normal_value : (t u : Tree) (k : Kind) → sort_of vars defs [] t ≡ Some k → normal vars defs [] t ≡ Some u → Same (Of defs frees t) (Of defs frees u)
    normal_value t u k s n = same_normal vars defs frees (bodies, fit) t u [] [] k refl s n

    pub negated_value : (t u : Tree) → sort_of vars defs [] t ≡ Some boolean → negated t ≡ Some u → Same (Of defs frees (negation t)) (Of defs frees u)
    negated_value t u s n = same_negated vars defs frees (bodies, fit) t u [] [] refl s n

    pub replaced_value : (old new t : Tree) (j k : Kind) → sort_of vars defs [] old ≡ Some j → sort_of vars defs [] new ≡ Some j → Same (Of defs frees old) (Of defs frees new) → sort_of vars defs [] t ≡ Some k → Same (Of defs frees t) (Of defs frees (replaced old new t))
    replaced_value old new t j k s r e h = same_with_replaced vars defs frees (bodies, fit) old new t [] j s r e

    pub called_value : (n : ℕ) (d : Def) (ts : Trees) → slice_get defs n ≡ Some d → are vars defs [] d.params ts ≡ true → Same (Of defs frees (call n ts)) (Of defs frees (substitute d.body (listed ts)))
    called_value n d ts g sorts = same_call vars defs frees (bodies, fit) n d ts g sorts
