-- Rules by what was found in the facts of a branch by number, in a store that grows.
use Rattle.std.proofs.Common.{◌≡◌, sym, ap, ◌∙◌, Option, Some, List, map}
use Rattle.logic_core.specs.Tree.{Tree}
use Rattle.tableau_branch.specs.Branch.{Attempt, gives, unless_wide}
use Rattle.tableau_branch.specs.Move.{Move}
use Rattle.theory_rules.specs.Condition.{first_some}
use Rattle.theory_rules.specs.Past.{first_access, past_by, past}
use Rattle.theory_rules.specs.ReadsBack.{after_attempt, replaced_back, back_in_parts}
use Rattle.numbered_terms.specs.Stored.{Numbered, Grows}
use Rattle.numbered_branches.specs.Branches.{NumberedFact, NumberedBranch, fact_at, branch_at, IsBranchOver}
use Rattle.numbered_branches.proofs.Changing.{branch_more}
use Rattle.numbered_theory.proofs.Reading.{past_of, past_is, reads_over, backs}
use Rattle.numbered_theory.proofs.ReadsTried.{from_facts}

module _ (n : Numbered) (code : NumberedBranch) (fs : List NumberedFact) (is : fs ≡ code.facts) where
  -- back, by the first Read at constant distance
  pub back_is : (x : Attempt (Tree × Tree)) → n.vars ≡ code.vars → from_facts n fs ≡ x
      → back_in_parts n.defs (branch_at n.terms code) ≡ after_attempt x (λ p. unless_wide (replaced_back n.defs (branch_at n.terms code) p.0 p.1))
  back_is x vars h = backs n.defs (branch_at n.terms code) x (reads_over n.defs (branch_at n.terms code) n.vars x vars (ap (from_facts n) (sym is) ∙ h))

  -- past, by the first Read of a Write
  pub past_found : (o : Option Tree) → first_some first_access (map (fact_at n.terms) fs) ≡ o → past n.defs (branch_at n.terms code) ≡ past_of n.defs (branch_at n.terms code) o
  past_found o h = past_is n.defs (branch_at n.terms code) o (ap (λ (gs : List NumberedFact). first_some first_access (map (fact_at n.terms) gs)) (sym is) ∙ h)

  module _ (m : Numbered) (g : Grows n m) (over : IsBranchOver n.terms code) where
    pub back_moves : (r : Tree × Tree) (o : Option Move) → n.vars ≡ code.vars → from_facts n fs ≡ gives r → replaced_back m.defs (branch_at m.terms code) r.0 r.1 ≡ o → back_in_parts n.defs (branch_at n.terms code) ≡ unless_wide o
    back_moves r o vars h k =
        let same = branch_more n.terms m.terms g.terms code over in
        let here : replaced_back m.defs (branch_at m.terms code) r.0 r.1 ≡ replaced_back n.defs (branch_at n.terms code) r.0 r.1 = λ j. replaced_back (g.defs j) (same.1 j) r.0 r.1 in
        back_is (gives r) vars h ∙ ap unless_wide (sym here ∙ k)

    pub past_moves : (t : Tree) (o : Option Move) → first_some first_access (map (fact_at n.terms) fs) ≡ Some t → past_by m.defs (branch_at m.terms code) t ≡ o → past n.defs (branch_at n.terms code) ≡ unless_wide o
    past_moves t o h k =
        let same = branch_more n.terms m.terms g.terms code over in
        let here : past_by m.defs (branch_at m.terms code) t ≡ past_by n.defs (branch_at n.terms code) t = λ j. past_by (g.defs j) (same.1 j) t in
        past_found (Some t) h ∙ ap unless_wide (sym here ∙ k)
