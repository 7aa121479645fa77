-- The oldest fact in which something is found, one fact of numbers after another.
use Rattle.std.proofs.Common.{◌≡◌, ap, ◌∙◌, ℕ, ◌+◌, ◌<◌, ◌≤◌, Option, Some, None, List, map, length, drop, get_or}
use Rattle.std.proofs.lemmas.List.{at_drop_all}
use Rattle.logic_core.specs.Tree.{Tree}
use Rattle.tableau_branch.specs.Branch.{Fact, At, first_from}
use Rattle.tableau_branch.proofs.Lists.{drop_item}
use Rattle.numbered_branches.specs.Branches.{NumberedFact, fact_at}

module _ {A : Type 0} (test : Fact → Option A) (ts : List Tree) (fs : List NumberedFact) (i : ℕ) where
  abbrev pub first_of : List NumberedFact → Option (At A)
  first_of gs = first_from test i (map (fact_at ts) gs)

  abbrev gone_on : Fact → List Fact → Option A → Option (At A)
  gone_on f gs o = elim o [ None ↦ first_from test (i + 1) gs | Some a ↦ Some (record { at = i; fact = f; what = a }) ]

  -- nothing is found in the fact at the place: it is found later
  pub found_later : (f : NumberedFact) → i < length fs → f ≡ get_or fs i f → test (fact_at ts f) ≡ None → first_of (drop i fs) ≡ first_from test (i + 1) (map (fact_at ts) (drop (i + 1) fs))
  found_later f l e none = ap first_of (drop_item fs i f l e) ∙ ap (gone_on (fact_at ts f) (map (fact_at ts) (drop (i + 1) fs))) none

  -- it is found there
  pub found_here : (f : NumberedFact) (a : A) → i < length fs → f ≡ get_or fs i f → test (fact_at ts f) ≡ Some a → first_of (drop i fs) ≡ Some (record { at = i; fact = fact_at ts f; what = a })
  found_here f a l e found = ap first_of (drop_item fs i f l e) ∙ ap (gone_on (fact_at ts f) (map (fact_at ts) (drop (i + 1) fs))) found

  -- it is found nowhere
  pub found_nowhere : length fs ≤ i → first_of (drop i fs) ≡ None
  found_nowhere l = at_drop_all first_of fs i l
