-- The oldest fact with a Read of a Write, by number, in a store that grows.
use Rattle.std.proofs.Common.{◌≡◌, sym, ap, ◌∙◌, ℕ, ◌+◌, ◌<◌, Option, Some, None, List, map, find, length, drop, get_or}
use Rattle.std.specs.List.{AllByRecursion}
use Rattle.logic_core.specs.Tree.{Tree}
use Rattle.logic_core.specs.Subterm.{outside}
use Rattle.tableau_branch.specs.Shapes.{is_access}
use Rattle.term_bank.specs.Numbered.{at}
use Rattle.theory_rules.specs.Condition.{first_some}
use Rattle.theory_rules.specs.Past.{first_access}
use Rattle.numbered_terms.specs.Stored.{Numbered, Grows}
use Rattle.numbered_branches.specs.Branches.{NumberedFact, fact_at, IsFactBelow}
use Rattle.numbered_branches.proofs.Listing.{all_at}
use Rattle.numbered_branches.proofs.Growing.{stays}
use Rattle.numbered_theory.proofs.Loops.{some_passed, some_taken}

abbrev pub first_in : Numbered → List NumberedFact → Option Tree
first_in n fs = first_some first_access (map (fact_at n.terms) fs)

module _ (n m : Numbered) (g : Grows n m) (fs : List NumberedFact) (i : ℕ) (f : NumberedFact) (h : AllByRecursion (IsFactBelow (length n.terms)) fs) (l : i < length fs) (e : f ≡ get_or fs i f) (t : ℕ) (is : t ≡ f.term) where
  same : find is_access (outside (at m.terms t)) ≡ find is_access (outside (at n.terms f.term))
  same = ap (λ (j : ℕ). find is_access (outside (at m.terms j))) is ∙ ap (λ (u : Tree). find is_access (outside u)) (stays n m f.term g (all_at (IsFactBelow (length n.terms)) fs i f h l e))

  pub access_passed : find is_access (outside (at m.terms t)) ≡ None → first_in n (drop i fs) ≡ first_in n fs → first_in n (drop (i + 1) fs) ≡ first_in n fs
  access_passed here so_far = some_passed first_access (fact_at n.terms) fs i f (first_in n fs) l e (sym same ∙ here) so_far

  pub access_taken : (u : Tree) → find is_access (outside (at m.terms t)) ≡ Some u → first_in n (drop i fs) ≡ first_in n fs → first_in n fs ≡ Some u
  access_taken u here so_far = some_taken first_access (fact_at n.terms) fs i f (first_in n fs) l e u (sym same ∙ here) so_far
