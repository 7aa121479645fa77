-- Rules that are rare: they pass where no fact has their shape, and go through trees over a store that went on.
use Rattle.std.specs.Prelude.{◌≡◌, refl, ℕ, ◌+◌, Bool, true, false, ◌||◌, is_some, Option, Some, None, Result, List, [], ◌∷◌, length, map, find}
use Rattle.std.specs.List.{list_any, AllByRecursion}
use Rattle.std.proofs.Common.{sym, subst, ◌∙◌}
use Rattle.logic_core.specs.declared.fault.NormalFault.{NormalFault}
use Rattle.logic_core.specs.Tree.{Kind, map as map_kind, Tree, negation, equal}
use Rattle.logic_core.specs.Def.{Def}
use Rattle.logic_core.specs.Sorts.{sort_of}
use Rattle.logic_core.specs.Subterm.{outside}
use Rattle.term_bank.specs.Numbered.{at}
use Rattle.tableau_branch.specs.Branch.{Fact, Branch, Attempt, none, unless_wide, At, first_from, oldest}
use Rattle.tableau_branch.specs.Move.{Move}
use Rattle.tableau_branch.specs.Shapes.{is_choice}
use Rattle.theory_rules.specs.Condition.{Choice, as_choice, first_some, first_choice, condition_at, condition}
use Rattle.theory_rules.specs.Differ.{of_maps, unequal_in, unequal_maps, differ_at, differ}
use Rattle.theory_rules.proofs.FirstChoice.{choice_is}
use Rattle.numbered_terms.specs.Stored.{Numbered, Grows}
use Rattle.numbered_branches.specs.Applied.{TriesAt}
use Rattle.numbered_branches.specs.Branches.{NumberedFact, NumberedBranch, fact_at, branch_at, IsFactBelow, IsBranchOver}
use Rattle.numbered_branches.specs.Standing.{IsBranchAt}
use Rattle.numbered_branches.specs.declared.played.Attempt as tried
use Rattle.numbered_branches.proofs.Changing.{branch_more}
use Rattle.numbered_facts.specs.Sorted.{is_map}
use Rattle.clause_search.specs.Rare.{has_choice, are_maps, are_unequal_maps}

nothing : {A : Type 0} (o : Option A) → is_some o ≡ false → o ≡ None
nothing None h = refl
nothing (Some a) h = absurd (cc)

-- nothing is found where no fact passes the test
module _ {A : Type 0} (ts : List Tree) (found : Fact → Option A) (p : NumberedFact → Bool) (finds : (f : NumberedFact) → p f ≡ false → found (fact_at ts f) ≡ None) where
  none_from : (n : ℕ) (fs : List NumberedFact) → list_any p fs ≡ false → first_from found n (map (fact_at ts) fs) ≡ None
  none_from n [] h = refl
  none_from n (f ∷ fs) h = by (p f) refl h (none_from (n + 1) fs)
    where
      by : (b : Bool) → p f ≡ b → (b || list_any p fs) ≡ false → (list_any p fs ≡ false → first_from found (n + 1) (map (fact_at ts) fs) ≡ None) → first_from found n (fact_at ts f ∷ map (fact_at ts) fs) ≡ None
      by true e k r = absurd (cc)
      by false e k r = subst (λ (o : Option A). ◌≡◌ {A = Option (At A)} (elim o [ None ↦ first_from found (n + 1) (map (fact_at ts) fs) | Some a ↦ Some (record { at = n; fact = fact_at ts f; what = a }) ]) None) (sym (finds f e)) (r k)

module _ (defs : List Def) (b : Branch) where
  condition_none : (o : Option (At Choice)) → o ≡ None → ◌≡◌ {A = Attempt Move} (elim o [ None ↦ none | Some a ↦ unless_wide (condition_at defs b a) ]) none
  condition_none None h = refl
  condition_none (Some a) h = absurd (cc)

  differ_none : (o : Option (At (Tree × Tree))) → o ≡ None → ◌≡◌ {A = Attempt Move} (elim o [ None ↦ none | Some a ↦ unless_wide (differ_at defs b a) ]) none
  differ_none None h = refl
  differ_none (Some a) h = absurd (cc)

  maps_not : (x y : Tree) (k : Option Kind) → is_map k ≡ false → of_maps x y k ≡ None
  maps_not x y (Some (map_kind k)) h = absurd (cc)
  maps_not x y k h = refl

  sides_not : (t : Tree) → are_maps b.vars defs t ≡ false → unequal_in defs b (negation t) ≡ None
  sides_not (equal x y) h = maps_not x y (sort_of b.vars defs [] x) h
  sides_not t h = refl

  equal_maps : (t : Tree) → are_unequal_maps b.vars defs t ≡ false → unequal_in defs b t ≡ None
  equal_maps (negation t) h = sides_not t h
  equal_maps t h = refl

no_choice : (us : List Tree) → is_some (find is_choice us) ≡ false → first_some as_choice us ≡ None
no_choice us h = choice_is us None (sym (nothing (find is_choice us) h))

-- where no fact has the shape, the rule can't be applied
module _ (ts : List Tree) (defs : List Def) (b : NumberedBranch) where
  pub condition_passes : list_any (λ (f : NumberedFact). has_choice (at ts f.term)) b.facts ≡ false → condition defs (branch_at ts b) ≡ none
  condition_passes h = condition_none defs (branch_at ts b) (oldest first_choice (branch_at ts b)) (none_from ts first_choice (λ (f : NumberedFact). has_choice (at ts f.term)) (λ f e. no_choice (outside (at ts f.term)) e) 0 b.facts h)

  pub differ_passes : (vars : List Kind) → vars ≡ b.vars → list_any (λ (f : NumberedFact). are_unequal_maps vars defs (at ts f.term)) b.facts ≡ false → differ defs (branch_at ts b) ≡ none
  differ_passes vars e h = differ_none defs (branch_at ts b) (oldest (unequal_maps defs (branch_at ts b)) (branch_at ts b))
      (none_from ts (unequal_maps defs (branch_at ts b)) (λ (f : NumberedFact). are_unequal_maps b.vars defs (at ts f.term)) (λ f k. equal_maps defs (branch_at ts b) (at ts f.term) k) 0 b.facts
      (subst (λ (vs : List Kind). list_any (λ (f : NumberedFact). are_unequal_maps vs defs (at ts f.term)) b.facts ≡ false) e h))

-- over a store that went on
module _ (n m : Numbered) (grows : Grows n m) (b : NumberedBranch) (over : IsBranchOver n.terms b) where
  pub over_later : IsBranchOver m.terms b
  over_later = (branch_more n.terms m.terms grows.terms b over).0

  pub passes_later : IsBranchAt m.terms b (branch_at n.terms b)
  passes_later = branch_more n.terms m.terms grows.terms b over

  pub tries_later : (us : List Tree) (does : List Def → Branch → Attempt Move) (r : Result tried.Attempt NormalFault) → TriesAt us (branch_at m.terms b) r (does m.defs (branch_at m.terms b)) → TriesAt us (branch_at n.terms b) r (does n.defs (branch_at n.terms b))
  tries_later us does r h = subst (λ (p : List Def × Branch). TriesAt us p.1 r (does p.0 p.1)) (λ i. (grows.defs i, passes_later.1 i)) h

-- facts as a slice, over the terms that the store shows
module _ (ts ws : List Tree) (shown : ws ≡ ts) (fs gs : List NumberedFact) (sliced : gs ≡ fs) where
  pub facts_shown : AllByRecursion (IsFactBelow (length ts)) fs → AllByRecursion (IsFactBelow (length ws)) gs
  facts_shown h = subst (λ (p : List Tree × List NumberedFact). AllByRecursion (IsFactBelow (length p.0)) p.1) (λ i. (sym shown i, sym sliced i)) h

  pub none_shown : (test : Tree → Bool) (b : Bool) → b ≡ list_any (λ (f : NumberedFact). test (at ws f.term)) gs → b ≡ false → list_any (λ (f : NumberedFact). test (at ts f.term)) fs ≡ false
  none_shown test b h lacks = (λ i. list_any (λ (f : NumberedFact). test (at (sym shown i) f.term)) (sym sliced i)) ∙ sym h ∙ lacks
