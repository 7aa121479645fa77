-- The rule combine by number, by its first combination.
use Rattle.std.proofs.Common.{◌≡◌, sym, ap, ◌∙◌, List, []}
use Rattle.tableau_branch.specs.Branch.{Branch, Attempt, gives}
use Rattle.tableau_branch.specs.Move.{Move}
use Rattle.theory_rules.specs.Combining as combining
use Rattle.theory_rules.specs.Combining.{entries, combined_by, combine}
use Rattle.numbered_terms.specs.Stored.{Numbered, Grows}
use Rattle.numbered_branches.specs.Branches.{NumberedBranch, branch_at, IsBranchOver}
use Rattle.numbered_branches.proofs.Changing.{branch_more}
use Rattle.numbered_theory.specs.Entries.{entries_at, AreEntriesAt}
use Rattle.numbered_theory.specs.declared.entries.Entry.{Entry}
use Rattle.numbered_facts.proofs.Growing.{then}
use Rattle.numbered_theory.proofs.Pairing.{made_of, combines}
use Rattle.numbered_theory.proofs.PairsTried.{all_pairs}

module _ (n m : Numbered) (code : NumberedBranch) (es fs : List Entry) (is : fs ≡ es) (are : AreEntriesAt m.terms es (entries n.defs (branch_at n.terms code))) where
  pub combine_is : (x : Attempt combining.Combined) → all_pairs m fs ≡ x → combine n.defs (branch_at n.terms code) ≡ made_of n.defs (branch_at n.terms code) x
  combine_is x h = combines n.defs (branch_at n.terms code) (entries_at m.terms es) x are.1 (ap (all_pairs m) (sym is) ∙ h)

  pub combine_gives : (v : Numbered) → Grows n m → Grows m v → IsBranchOver n.terms code → (c : combining.Combined) (y : Move) → all_pairs m fs ≡ gives c → y ≡ combined_by [] (branch_at v.terms code) c → combine n.defs (branch_at n.terms code) ≡ gives y
  combine_gives v g h over c y found made = combine_is (gives c) found ∙ ap gives (sym (made ∙ ap (λ (b : Branch). combined_by [] b c) (branch_more n.terms v.terms (then n m v g h).terms code over).1))
