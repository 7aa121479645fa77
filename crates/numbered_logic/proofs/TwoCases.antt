-- The cases of an Eq of Bool, and of one that isn't, by number.
use Rattle.std.proofs.Common.{◌≡◌, refl, sym, ap, subst, ◌∙◌, ℕ, ◌<◌, Bool, true, false, Vec, Option, Some, None, option_map, List, [], ◌∷◌, map, length}
use Rattle.std.specs.List.{AllByRecursion}
use Rattle.std.specs.Prelude.{is_none}
use Rattle.std.specs.declared.alloc.Global.{Global}
use Rattle.logic_core.specs.Tree.{Kind, boolean, Tree, negation, equal}
use Rattle.logic_core.specs.Def.{Def}
use Rattle.logic_core.specs.Sorts.{is, sort_of}
use Rattle.logic_core.specs.Wide.{when}
use Rattle.logic_core.specs.View.{trees_of}
use Rattle.proof_core.specs.Split.{both, disjuncts, equal_cases, unequal_cases, cases}
use Rattle.term_bank.specs.Numbered.{at}
use Rattle.tableau_branch.specs.Branch.{context_of}
use Rattle.tableau_branch.specs.Oriented.{left_side}
use Rattle.logic_rules.specs.Splitting.{cases_of}
use Rattle.logic_rules.proofs.Listed.{listed_trees}
use Rattle.numbered_terms.specs.At.{IsAt}
use Rattle.numbered_terms.specs.Stored.{Numbered, Grows}
use Rattle.numbered_facts.specs.Answers.{StandsFor, AreAt}
use Rattle.numbered_branches.specs.Branches.{NumberedFact, fact_at, IsFactBelow}
use Rattle.numbered_logic.specs.Forms.{branch_over, AreSome, at_least_one}
use Rattle.numbered_logic.proofs.Later.{below_later, at_later}

abbrev pub listed : Option (Tree × List Tree) → Option (List Tree)
listed o = option_map (λ c. c.0 ∷ c.1) o

module _ (defs : List Def) (vars : List Kind) (p q : Tree) where
  pub equal_none : (b : Bool) → b ≡ is boolean (sort_of vars defs [] p) → b ≡ false → listed (equal_cases defs (context_of (branch_over vars)) p q) ≡ None
  equal_none b e h = ap (λ x. listed (when x (Some (both p q, both (negation p) (negation q) ∷ [])))) (sym e ∙ h)

  pub equal_some : (b : Bool) → b ≡ is boolean (sort_of vars defs [] p) → b ≡ true → listed (equal_cases defs (context_of (branch_over vars)) p q) ≡ Some (both p q ∷ both (negation p) (negation q) ∷ [])
  equal_some b e h = ap (λ x. listed (when x (Some (both p q, both (negation p) (negation q) ∷ [])))) (sym e ∙ h)

  pub unequal_none : (b : Bool) → b ≡ is boolean (sort_of vars defs [] p) → b ≡ false → listed (unequal_cases defs (context_of (branch_over vars)) (equal p q)) ≡ None
  unequal_none b e h = ap (λ x. listed (when x (Some (both p (negation q), both (negation p) q ∷ [])))) (sym e ∙ h)

  pub unequal_some : (b : Bool) → b ≡ is boolean (sort_of vars defs [] p) → b ≡ true → listed (unequal_cases defs (context_of (branch_over vars)) (equal p q)) ≡ Some (both p (negation q) ∷ both (negation p) q ∷ [])
  unequal_some b e h = ap (λ x. listed (when x (Some (both p (negation q), both (negation p) q ∷ [])))) (sym e ∙ h)

-- the terms of two numbers, and of their Nots, in the store in which cases are made
module _ (n m o : Numbered) (g : Grows n m) (h : Grows m o) (p q no_p no_q : ℕ) (lp : p < length n.terms) (lq : q < length n.terms) (is_p : IsAt o.terms no_p (negation (at m.terms p))) (is_q : IsAt o.terms no_q (negation (at m.terms q))) where
  to_the_end : (i : ℕ) → i < length n.terms → at o.terms i ≡ at n.terms i
  to_the_end i l = at_later m o i h (below_later n m i g l) ∙ at_later n m i g l

  no_p_is : at o.terms no_p ≡ negation (at n.terms p)
  no_p_is = is_p.1 ∙ ap negation (at_later n m p g lp)

  no_q_is : at o.terms no_q ≡ negation (at n.terms q)
  no_q_is = is_q.1 ∙ ap negation (at_later n m q g lq)

  pub equal_made : both (at o.terms p) (at o.terms q) ∷ both (at o.terms no_p) (at o.terms no_q) ∷ [] ≡ both (at n.terms p) (at n.terms q) ∷ both (negation (at n.terms p)) (negation (at n.terms q)) ∷ []
  equal_made = λ k. both (to_the_end p lp k) (to_the_end q lq k) ∷ both (no_p_is k) (no_q_is k) ∷ []

  pub unequal_made : both (at o.terms p) (at o.terms no_q) ∷ both (at o.terms no_p) (at o.terms q) ∷ [] ≡ both (at n.terms p) (negation (at n.terms q)) ∷ both (negation (at n.terms p)) (at n.terms q) ∷ []
  unequal_made = λ k. both (to_the_end p lp k) (no_q_is k) ∷ both (no_p_is k) (to_the_end q lq k) ∷ []

pub are_some : (us : List Tree) (v : Vec ℕ Global) (o : Option (List Tree)) (ws ts : List Tree) → AreAt us v.items ws → ws ≡ ts → o ≡ Some ts → AreSome us (Some v) o
are_some us v o ws ts h e f = (h.0, f ∙ ap Some (sym (h.1 ∙ e)))

-- the cases of a fact that isn't oriented, by the number of its formula and its left side
module _ (n m : Numbered) (g : Grows n m) (f : NumberedFact) (low : IsFactBelow (length n.terms) f) (id : ℕ) (is_id : id ≡ f.term) (left : Option ℕ) (tells : StandsFor m.terms left (left_side n.vars n.defs (at n.terms id))) where
  abbrev all_cases : Option (List Tree)
  all_cases = listed (cases n.defs (context_of (branch_over n.vars)) (at n.terms f.term))

  abbrev tells_as : Option ℕ → Type 0
  tells_as o = StandsFor m.terms o (left_side n.vars n.defs (at n.terms id))

  by_left : (p : Option Tree) → left_side n.vars n.defs (at n.terms id) ≡ p → cases_of n.defs (branch_over n.vars) (fact_at n.terms f) ≡ when (is_none p) all_cases
  by_left p e = ap (λ l. when (is_none l) all_cases) (sym (ap (λ i. left_side n.vars n.defs (at n.terms i)) is_id) ∙ e)

  pub no_cases : (i : ℕ) → left ≡ Some i → cases_of n.defs (branch_over n.vars) (fact_at n.terms f) ≡ None
  no_cases i is = by_left (Some (at m.terms i)) (subst tells_as is tells).1

  same_term : at m.terms id ≡ at n.terms f.term
  same_term = ap (at m.terms) is_id ∙ at_later n m f.term g low

  pub its_cases : (us : List Tree) (v : Option (Vec ℕ Global)) → left ≡ None → AreSome us v (listed (cases m.defs (context_of (branch_over m.vars)) (at m.terms id))) → AreSome us v (cases_of n.defs (branch_over n.vars) (fact_at n.terms f))
  its_cases us v none h = subst (AreSome us v) ((λ k. listed (cases (g.defs k) (context_of (branch_over (g.vars k))) (same_term k))) ∙ sym (by_left None (subst tells_as none tells))) h

-- the parts of an Or
pub or_cases : (ts : List Tree) (is : List ℕ) (o : Option (Vec ℕ Global)) → AllByRecursion (λ i. i < length ts) is → option_map (λ (v : Vec ℕ Global). v.items) o ≡ at_least_one is
    → AreSome ts o (listed (disjuncts (trees_of (map (at ts) is))))
or_cases ts [] None low e = refl
or_cases ts [] (Some v) low e = absurd (cc)
or_cases ts (i ∷ is) None low e = absurd (cc)
or_cases ts (i ∷ is) (Some v) low e = let same : v.items ≡ i ∷ is = cc in
    (subst (AllByRecursion (λ j. j < length ts)) (sym same) low, ap (λ us. Some (at ts i ∷ us)) (listed_trees (map (at ts) is)) ∙ ap (λ js. Some (map (at ts) js)) (sym same))
