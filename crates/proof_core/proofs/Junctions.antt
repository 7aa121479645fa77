-- When an And, an Or and a Not hold.
use Rattle.std.proofs.Common.{◌∙◌, refl, sym, ap, Bool, true, false, ◌&&◌, ◌||◌, not, IsTrue, List, []}
use Rattle.std.specs.Prelude.{All}
use Rattle.std.proofs.lemmas.List.Elements.{All-nil, All-cons, All-head, All-tail}
use Rattle.logic_core.proofs.Booleans.{both_true, all_true}
use Rattle.logic_core.specs.Tree.{Tree, Trees, no_trees, tree, negation, all, some}
use Rattle.logic_core.specs.Subterm.{listed}
use Rattle.logic_core.specs.Value.{Value, flag, holds}
use Rattle.logic_core.specs.Def.{Def}
use Rattle.logic_core.specs.Valid.{calls_of}
use Rattle.logic_core.proofs.Kept.{Stable}
use Rattle.logic_laws.proofs.Gives.{GivesEvery, GivesAny}
use Rattle.proof_core.specs.Split.{both}
use Rattle.proof_core.proofs.Closed.{HoldsIn, AllHold, has_one, value_holds, holds_by_value, holds_stable}

pub neither : (a b : Bool) → IsTrue (a || b) → (IsTrue a → ⊥) → (IsTrue b → ⊥) → ⊥
neither true b h no_a no_b = no_a refl
neither false b h no_a no_b = no_b h

by_contradiction : (b : Bool) → (IsTrue b → ⊥) → (IsTrue (not b) → ⊥) → ⊥
by_contradiction true no_yes no_not = no_yes refl
by_contradiction false no_yes no_not = no_not refl

all_stable : {A : Type 0} (P : A → Type 0) (xs : List A) → ((x : A) → Stable (P x)) → Stable (All P xs)
all_stable P xs s h k x l = s _ (λ none. h (λ every. none (every k x l)))

module _ (defs : List Def) (frees : List Value) where
  every_part : (ts : Trees) (h : Bool) → GivesEvery frees (calls_of frees defs) ts [] h → IsTrue h → AllHold defs frees (listed ts)
  every_part no_trees h g e = All-nil (HoldsIn defs frees)
  every_part (tree t ts) h g e = let p = both_true (holds g.0) g.1 (sym g.4 ∙ e) in
      All-cons (HoldsIn defs frees) t (listed ts) (holds_by_value defs frees t g.0 g.2 p.0) (every_part ts g.1 g.3 p.1)

  -- the parts of an And that holds
  pub parts_hold : (ts : Trees) → HoldsIn defs frees (all ts) → AllHold defs frees (listed ts)
  parts_hold ts h = all_stable (HoldsIn defs frees) (listed ts) (holds_stable defs frees)
      (λ none. has_one defs frees (all ts) (λ v g. none (every_part ts g.0 g.1 (sym (ap holds g.2) ∙ value_holds defs frees (all ts) v g h))))

  no_part : (ts : Trees) (h : Bool) → GivesAny frees (calls_of frees defs) ts [] h → All (λ t. ¬ HoldsIn defs frees t) (listed ts) → IsTrue h → ⊥
  no_part no_trees h g untrue e = cc
  no_part (tree t ts) h g untrue e = neither (holds g.0) g.1 (sym g.4 ∙ e)
      (λ k. All-head (λ u. ¬ HoldsIn defs frees u) t (listed ts) untrue (holds_by_value defs frees t g.0 g.2 k))
      (λ k. no_part ts g.1 g.3 (All-tail (λ u. ¬ HoldsIn defs frees u) t (listed ts) untrue) k)

  -- an Or none of whose parts holds
  pub none_holds : (ts : Trees) → All (λ t. ¬ HoldsIn defs frees t) (listed ts) → ¬ HoldsIn defs frees (some ts)
  none_holds ts untrue h = has_one defs frees (some ts) (λ v g. no_part ts g.0 g.1 untrue (sym (ap holds g.2) ∙ value_holds defs frees (some ts) v g h))

  -- an And of two formulas that hold
  pub both_hold : (s t : Tree) → HoldsIn defs frees s → HoldsIn defs frees t → HoldsIn defs frees (both s t)
  both_hold s t hs ht = holds_stable defs frees (both s t) (λ none. has_one defs frees s (λ v g. has_one defs frees t (λ w h.
      let one = value_holds defs frees s v g hs in
      let other = all_true (holds w) true (value_holds defs frees t w h ht) refl in
      none (holds_by_value defs frees (both s t) (flag (holds v && (holds w && true))) (holds v && (holds w && true), (v, holds w && true, g, (w, true, h, refl, refl), refl), refl) (all_true (holds v) (holds w && true) one other)))))

  -- a formula that doesn't hold has a Not that holds
  pub not_holds : (t : Tree) → ¬ HoldsIn defs frees t → HoldsIn defs frees (negation t)
  not_holds t untrue = holds_stable defs frees (negation t) (λ none. has_one defs frees t (λ v g.
      by_contradiction (holds v) (λ k. untrue (holds_by_value defs frees t v g k)) (λ k. none (holds_by_value defs frees (negation t) (flag (not (holds v))) (v, g, refl) k))))

  -- no formula holds beside its Not
  pub not_both : (t : Tree) → HoldsIn defs frees t → HoldsIn defs frees (negation t) → ⊥
  not_both t h n = has_one defs frees t (λ v g. both (holds v) (value_holds defs frees t v g h) (value_holds defs frees (negation t) (flag (not (holds v))) (v, g, refl) n))
    where
      both : (b : Bool) → IsTrue b → IsTrue (not b) → ⊥
      both true p q = cc
      both false p q = cc
