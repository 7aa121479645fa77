-- The laws in an assignment over well-sorted definitions, for everything that can be shown by contradiction.
use Rattle.std.proofs.Common.{◌≡◌, ◌∙◌, ◌↔◌, refl, sym, subst, ℕ, true, false, Some, IsTrue, List, [], ◌∷◌, ◌++◌, reverse, slice_get, append-nil}
use Rattle.std.specs.List.{AllZip}
use Rattle.logic_core.specs.Tree.{Kind, boolean, Tree, call, negation, for_all, exists, Trees, no_trees, tree, Patterns}
use Rattle.logic_core.specs.Def.{Def}
use Rattle.logic_core.specs.Value.{Value, holds, is_of, are_of}
use Rattle.logic_core.specs.Meaning.{Said, With, WithEach}
use Rattle.logic_core.specs.Valid.{calls_of}
use Rattle.logic_core.specs.Sorts.{sort_of, are}
use Rattle.logic_core.specs.Subterm.{replaced, listed}
use Rattle.logic_core.specs.Substitute.{substitute}
use Rattle.logic_core.specs.Junction.{negated}
use Rattle.logic_core.specs.Normal.{normal}
use Rattle.logic_core.specs.Tighten.{tighten}
use Rattle.logic_core.proofs.Values.{HasOne}
use Rattle.logic_core.proofs.Kept.{Stable, Keeps, keeps, keeps_each, true_stable}
use Rattle.logic_core.proofs.Defined.{has_defined, keeps_defined}
use Rattle.logic_core.proofs.Replaced.{Same}
use Rattle.logic_laws.specs.Assignment.{IsAssignment, ValueHas, ValueIs, HaveSameValue, HoldsThere}
use Rattle.logic_laws.proofs.SameValue.{value_stable}
use Rattle.logic_laws.proofs.Tables.{are_of_append}
use Rattle.logic_laws.proofs.Gives.{Gives, GivesEach, Says, said, said_each, gives, gives_each, same_values}
use Rattle.logic_laws.proofs.SortFrame.{within_more}
use Rattle.logic_laws.proofs.Bodies.{bodies_over}
use Rattle.logic_laws.proofs.ValueSorts.{CallsHaveSorts, give_sorts}
use Rattle.logic_laws.proofs.DefinedSorts.{value_sort, defined_sorts}
use Rattle.logic_laws.proofs.FormulaValues.{negated_gives}
use Rattle.logic_laws.proofs.NormalValues.{normal_gives}
use Rattle.logic_laws.proofs.Tightened.{tighten_gives}
use Rattle.logic_laws.proofs.ValueFrame.{agree_itself, agree_none, agree_more, same_over}
use Rattle.logic_laws.proofs.Unfolding.{same_unfolded, same_calls_over}
use Rattle.logic_laws.proofs.SubstitutedValues.{same_substituted}
use Rattle.logic_laws.proofs.ReplacedValues.{same_replaced}

module _ (frees : List Value) (defs : List Def) where
  -- what is said of t
  abbrev Of : Tree → List Value → Said → Type 0
  Of t b P = With frees (calls_of frees defs) t b P

  -- the value of t is r
  abbrev Is : Tree → List Value → Value → Type 0
  Is t b r = Gives frees (calls_of frees defs) t b r

  has : (f : ℕ) (vs : List Value) → HasOne (calls_of frees defs f vs)
  has = has_defined frees defs

  keep : (f : ℕ) (vs : List Value) → Keeps (calls_of frees defs f vs)
  keep = keeps_defined frees defs

  kept : (t : Tree) (b : List Value) → Keeps (Of t b)
  kept t b = keeps frees (calls_of frees defs) keep t b

  -- what is said of t is what is said of its value
  says : (t : Tree) (b : List Value) (r : Value) → Is t b r → Says (Of t b) r
  says t b r g = said frees (calls_of frees defs) has keep t b r g

  -- where a contradiction is to be shown, t has a value
  some_value : (t : Tree) (b : List Value) → ((r : Value) → Is t b r → ⊥) → ⊥
  some_value t b go = gives frees (calls_of frees defs) has keep t b go

  pub same_by : (t u : Tree) (b b' : List Value) → ((r : Value) → Is t b r → Is u b' r) → Same (Of t b) (Of u b')
  same_by t u b b' f = same_values frees (calls_of frees defs) has keep frees (calls_of frees defs) has keep t u b b' f

  -- from what both say: one value, and one truth
  pub one_value : (t u : Tree) (b : List Value) → Same (Of t b) (Of u b) → HaveSameValue frees defs t u b
  one_value t u b s w = s (λ v. v ≡ w) (λ v. value_stable v w)

  pub one_truth : (t u : Tree) (b : List Value) → Same (Of t b) (Of u b) → HoldsThere frees defs t b ↔ HoldsThere frees defs u b
  one_truth t u b s = s (λ v. IsTrue (holds v)) (λ v. true_stable (holds v))

  pub holds_stable : (t : Tree) (b : List Value) → Stable (HoldsThere frees defs t b)
  holds_stable t b = kept t b (λ v. IsTrue (holds v)) (λ v. true_stable (holds v))

  pub value_is : (t : Tree) (b : List Value) (r : Value) → Is t b r → ValueIs frees defs t b r
  value_is t b r g = (says t b r g (λ v. v ≡ r) (λ v. value_stable v r)).1 refl

  pub is_value : (t : Tree) (b : List Value) (r w : Value) → Is t b r → ValueIs frees defs t b w → r ≡ w
  is_value t b r w g h = (says t b r g (λ v. v ≡ w) (λ v. value_stable v w)).0 h

  pub value_exists : (t : Tree) (b : List Value) → ((w : Value) → ValueIs frees defs t b w → ⊥) → ⊥
  value_exists t b none = some_value t b (λ r g. none r (value_is t b r g))

  pub value_unique : (t : Tree) (b : List Value) (v w : Value) → ValueIs frees defs t b v → ValueIs frees defs t b w → v ≡ w
  value_unique t b v w h g = value_stable v w (λ none. some_value t b (λ r i. none (sym (is_value t b r v i h) ∙ is_value t b r w i g)))

  -- terms of one value say the same
  pub same_from_one_value : (t u : Tree) (b : List Value) → HaveSameValue frees defs t u b → Same (Of t b) (Of u b)
  same_from_one_value t u b one P s = (
    (λ h. kept u b P s (λ none. shared (λ v g k. none ((says u b v k P s).1 ((says t b v g P s).0 h))))),
    (λ h. kept t b P s (λ none. shared (λ v g k. none ((says t b v g P s).1 ((says u b v k P s).0 h))))),
  )
    where
      shared : ((v : Value) → Is t b v → Is u b v → ⊥) → ⊥
      shared go = some_value t b (λ v g. some_value u b (λ w k. go v g (subst (Is u b) (is_value u b w v k ((one v).0 (value_is t b v g))) k)))

  -- where a contradiction is to be shown, terms with these values have them
  each_value : (ts : Trees) (b vs : List Value) → AllZip (λ t v. ValueIs frees defs t b v) (listed ts) vs → (GivesEach frees (calls_of frees defs) ts b vs → ⊥) → ⊥
  each_value no_trees b [] h go = go refl
  each_value (tree t ts) b (v ∷ vs) h go = some_value t b (λ r g. each_value ts b vs h.1 (λ gs. go (v, vs, subst (Is t b) (is_value t b r v g h.0) g, gs, refl)))
  each_value no_trees b (v ∷ vs) h go = absurd h
  each_value (tree t ts) b [] h go = absurd h

  -- at the values of the terms the body has the value that it has with the terms
  pub substituted_value : (vars : List Kind) (ss : List Kind) (body : Tree) (ts : Trees) (vs : List Value) → are vars defs [] ss ts ≡ true → AllZip (λ t v. ValueIs frees defs t [] v) (listed ts) vs → (w : Value) → ValueIs frees defs body (reverse vs) w ↔ ValueIs frees defs (substitute body (listed ts)) [] w
  substituted_value vars ss body ts vs s values w = (
    (λ h. kept (substitute body (listed ts)) [] (λ v. v ≡ w) (λ v. value_stable v w) (λ none. each_value ts [] vs values (λ g. none ((put g).0 h)))),
    (λ h. kept body (reverse vs) (λ v. v ≡ w) (λ v. value_stable v w) (λ none. each_value ts [] vs values (λ g. none ((put g).1 h)))),
  )
    where
      put : GivesEach frees (calls_of frees defs) ts [] vs → ValueIs frees defs body (reverse vs) w ↔ ValueIs frees defs (substitute body (listed ts)) [] w
      put g = same_substituted vars defs frees (calls_of frees defs) has keep ss ts vs body s g (λ v. v ≡ w) (λ v. value_stable v w)

  -- where an Exists holds, its body doesn't fail for all values of its sorts
  pub witness_exists : (ss : List Kind) (ps : Patterns) (body : Tree) → HoldsThere frees defs (exists ss ps body) [] → ((vs : List Value) → are_of ss vs ≡ true → HoldsThere frees defs body (reverse vs) → ⊥) → ⊥
  witness_exists ss ps body h go =
      let untrue : false ≡ true = h.1 (λ some. some (λ vs fit g. go vs fit (subst (HoldsThere frees defs body) (append-nil (reverse vs)) g))) in cc

module _ (vars : List Kind) (defs : List Def) (frees : List Value) (assigned : IsAssignment vars defs frees) where
  abbrev says_of : Tree → List Value → Said → Type 0
  says_of t b P = With frees (calls_of frees defs) t b P

  pub call_sorts : CallsHaveSorts defs (calls_of frees defs)
  call_sorts = defined_sorts vars frees assigned.1 defs assigned.0

  -- the value of a well-sorted term is of its sort
  pub sorted_value : (t : Tree) (bs : List Kind) (b : List Value) (k : Kind) → are_of bs b ≡ true → sort_of vars defs bs t ≡ Some k → ValueHas frees defs t b (λ v. IsTrue (is_of k v))
  sorted_value t bs b k fit s = value_sort vars frees assigned.1 defs (calls_of frees defs) (has frees defs) (keep frees defs) call_sorts t bs b k s fit

  -- a term and its normal form say the same
  pub same_normal : (t u : Tree) (bs : List Kind) (b : List Value) (k : Kind) → are_of bs b ≡ true → sort_of vars defs bs t ≡ Some k → normal vars defs bs t ≡ Some u → Same (says_of t b) (says_of u b)
  same_normal t u bs b k fit s e = same_by frees defs t u b b (λ r g. normal_gives vars defs frees (calls_of frees defs) (has frees defs) (keep frees defs) assigned.1 call_sorts t u bs b k r e s fit g)

  -- the Not of a formula and its normal Not say the same
  pub same_negated : (t u : Tree) (bs : List Kind) (b : List Value) → are_of bs b ≡ true → sort_of vars defs bs t ≡ Some boolean → negated t ≡ Some u → Same (says_of (negation t) b) (says_of u b)
  same_negated t u bs b fit s e = same_by frees defs (negation t) u b b
      (λ r g. subst (Is frees defs u b) (sym g.2) (negated_gives vars defs frees (calls_of frees defs) (has frees defs) (keep frees defs) assigned.1 call_sorts t u bs b g.0 s fit e g.1))

  -- a formula and its tightened form say the same
  pub same_tightened : (t : Tree) (bs : List Kind) (b : List Value) → are_of bs b ≡ true → sort_of vars defs bs t ≡ Some boolean → Same (says_of t b) (says_of (tighten t) b)
  same_tightened t bs b fit s = same_by frees defs t (tighten t) b b (λ r g. tighten_gives vars defs frees (calls_of frees defs) (has frees defs) (keep frees defs) assigned.1 call_sorts t bs b r s fit g)

  -- a closed term says the same under binders
  pub same_closed : (t : Tree) (b b' : List Value) (k : Kind) → sort_of vars defs [] t ≡ Some k → Same (says_of t b) (says_of t b')
  same_closed t b b' k s = same_over vars defs frees (calls_of frees defs) (has frees defs) (keep frees defs) frees (calls_of frees defs) (has frees defs) (keep frees defs) (agree_itself vars frees) (λ f d vs r e h. h) t [] b b' k (agree_none b b') s

  -- where two closed terms of one sort say the same, a term says the same with the one replaced by the other
  pub same_with_replaced : (old new t : Tree) (b : List Value) (j : Kind) → sort_of vars defs [] old ≡ Some j → sort_of vars defs [] new ≡ Some j → Same (says_of old []) (says_of new []) → Same (says_of t b) (says_of (replaced old new t) b)
  same_with_replaced old new t b j so sn e = same_replaced frees (calls_of frees defs) (has frees defs) (keep frees defs) vars defs old new t b j so sn e

  -- a call without arguments says what its body says
  pub same_called : (f : ℕ) (d : Def) (b : List Value) → slice_get defs f ≡ Some d → Same (says_of (call f no_trees) b) (says_of d.body [])
  same_called f d b e = same_unfolded frees vars defs assigned.0 f d e []

  -- a call says what its body says with the arguments put in
  pub same_call : (f : ℕ) (d : Def) (ts : Trees) → slice_get defs f ≡ Some d → are vars defs [] d.params ts ≡ true → Same (says_of (call f ts) []) (says_of (substitute d.body (listed ts)) [])
  same_call f d ts e sorts P s = (
    (λ h. kept frees defs (substitute d.body (listed ts)) [] P s (λ none. arguments (λ vs g. none ((body vs g).0 ((each vs g).0 h))))),
    (λ h. keeps_each frees (calls_of frees defs) (keep frees defs) ts [] (λ vs. calls_of frees defs f vs P) (λ vs. keep frees defs f vs P s) (λ none. arguments (λ vs g. none ((each vs g).1 ((body vs g).1 h))))),
  )
    where
      arguments : ((vs : List Value) → GivesEach frees (calls_of frees defs) ts [] vs → ⊥) → ⊥
      arguments go = gives_each frees (calls_of frees defs) (has frees defs) (keep frees defs) ts [] go

      each : (vs : List Value) → GivesEach frees (calls_of frees defs) ts [] vs → WithEach frees (calls_of frees defs) ts [] (λ ws. calls_of frees defs f ws P) ↔ calls_of frees defs f vs P
      each vs g = said_each frees (calls_of frees defs) (has frees defs) (keep frees defs) ts [] vs g (λ ws. calls_of frees defs f ws P) (λ ws. keep frees defs f ws P s)

      body : (vs : List Value) → GivesEach frees (calls_of frees defs) ts [] vs → calls_of frees defs f vs P ↔ With frees (calls_of frees defs) (substitute d.body (listed ts)) [] P
      body vs g =
          let called = same_unfolded frees vars defs assigned.0 f d e vs P s in
          let put = same_substituted vars defs frees (calls_of frees defs) (has frees defs) (keep frees defs) d.params ts vs d.body sorts g P s in
          ((λ h. put.0 (called.0 h)), (λ h. called.1 (put.1 h)))

  -- where a ForAll holds, so does its body with closed terms of its sorts
  pub instance_holds : (ss : List Kind) (ps : Patterns) (body : Tree) (ts : Trees) → sort_of vars defs (reverse ss) body ≡ Some boolean → are vars defs [] ss ts ≡ true → HoldsThere frees defs (for_all ss ps body) [] → HoldsThere frees defs (substitute body (listed ts)) []
  instance_holds ss ps body ts s sorts h = holds_stable frees defs (substitute body (listed ts)) [] (λ none. gives_each frees (calls_of frees defs) (has frees defs) (keep frees defs) ts [] (λ vs g.
      let fit : are_of ss vs ≡ true = give_sorts vars defs frees (calls_of frees defs) (has frees defs) assigned.1 call_sorts ts [] [] ss vs sorts refl g in
      let put = same_substituted vars defs frees (calls_of frees defs) (has frees defs) (keep frees defs) ss ts vs body sorts g (λ v. IsTrue (holds v)) (λ v. true_stable (holds v)) in
      let untrue : false ≡ true = h.1 (λ every. none (put.0 (subst (HoldsThere frees defs body) (append-nil (reverse vs)) (every vs fit)))) in cc))

  -- more variables, and values for them
  pub assignment_more : (ks : List Kind) (vs : List Value) → are_of ks vs ≡ true → IsAssignment (vars ++ ks) defs (frees ++ vs)
  assignment_more ks vs fit = (bodies_over vars (vars ++ ks) defs (within_more vars ks) assigned.0, are_of_append vars ks frees vs assigned.1 fit)

  -- a term over the variables before says the same
  pub same_more : (vs : List Value) (t : Tree) (bs : List Kind) (b : List Value) (k : Kind) → sort_of vars defs bs t ≡ Some k → Same (says_of t b) (With (frees ++ vs) (calls_of (frees ++ vs) defs) t b)
  same_more vs t bs b k s = same_over vars defs frees (calls_of frees defs) (has frees defs) (keep frees defs) (frees ++ vs) (calls_of (frees ++ vs) defs) (has (frees ++ vs) defs) (keep (frees ++ vs) defs)
      (agree_more vars frees vs assigned.1) (same_calls_over vars frees (frees ++ vs) (agree_more vars frees vs assigned.1) defs assigned.0) t bs b b k (agree_itself bs b) s
