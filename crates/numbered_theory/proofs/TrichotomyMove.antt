-- The rule trichotomy by number: the number that is decided, and its three branches, in a store that grows.
use Rattle.std.proofs.Common.{◌≡◌, sym, ap, ◌∙◌, ℕ, List, [], ◌∷◌, map, length}
use Rattle.logic_core.specs.Tree.{Tree}
use Rattle.tableau_branch.specs.Branch.{Branch, At, Attempt, gives, first_attempt}
use Rattle.tableau_branch.specs.Cases.{case}
use Rattle.tableau_branch.specs.Move.{Move}
use Rattle.term_bank.specs.Numbered.{at}
use Rattle.theory_rules.specs.ReadsBack.{after_attempt}
use Rattle.theory_rules.specs.Trichotomy.{decided_by}
use Rattle.theory_rules.specs.Ways.{open_at, outer_of, trichotomy_in_parts}
use Rattle.numbered_terms.specs.Stored.{Numbered, Grows}
use Rattle.numbered_branches.specs.Branches.{NumberedFact, NumberedBranch, NumberedMade, fact_at, branch_at, IsBranchOver}
use Rattle.numbered_branches.specs.Moves.{decides}
use Rattle.numbered_branches.specs.Standing.{IsBranchAt, IsMadeAt, IsMoveAt}
use Rattle.numbered_branches.proofs.Changing.{branch_more}
use Rattle.numbered_theory.specs.Places.{place_at, ways_at, IsPlaceBelow, AreWaysBelow, ArePlacesAt}
use Rattle.numbered_theory.specs.Sums.{undecided_places}
use Rattle.numbered_theory.specs.declared.undecided.Place.{Place}
use Rattle.numbered_theory.specs.declared.trichotomy.Ways.{Ways}
use Rattle.numbered_theory.proofs.Deciding.{made_later, decides_so, place_stays}
use Rattle.numbered_facts.proofs.Growing.{then}
use Rattle.numbered_branches.proofs.Growing.{stays, below}
use Rattle.numbered_theory.proofs.OpenTried.{open_from}

module _ (n : Numbered) (code : NumberedBranch) (fs : List NumberedFact) (ps qs : List Place) (is : fs ≡ code.facts) (same : qs ≡ ps) (are : ArePlacesAt n.terms ps (undecided_places (map (fact_at n.terms) fs))) where
  abbrev b : Branch
  b = branch_at n.terms code

  places_are : undecided_places (map (fact_at n.terms) code.facts) ≡ map (place_at n.terms) qs
  places_are = sym (ap (map (place_at n.terms)) same ∙ are.1 ∙ ap (λ (gs : List NumberedFact). undecided_places (map (fact_at n.terms) gs)) is)

  -- the rule by the first number with open ways
  pub parts_are : (x : Attempt (At Tree × List Tree)) → open_from n code qs ≡ x → trichotomy_in_parts n.defs b ≡ after_attempt x (λ (p : At Tree × List Tree). gives (decided_by b p.0 p.1))
  parts_are x h = ap (λ (y : Attempt (At Tree × List Tree)). after_attempt y (λ (p : At Tree × List Tree). gives (decided_by b p.0 p.1))) (ap (first_attempt (open_at n.defs b)) places_are ∙ h)

  pub parts_give : (m : Numbered) → Grows n m → IsBranchOver n.terms code → (a : At Tree) (ws : List Tree) (y : Move) → open_from n code qs ≡ gives (a, ws) → y ≡ decided_by (branch_at m.terms code) a ws → trichotomy_in_parts n.defs b ≡ gives y
  parts_give m g over a ws y found made = parts_are (gives (a, ws)) found ∙ ap gives (sym (made ∙ ap (λ (c : Branch). decided_by c a ws) (branch_more n.terms m.terms g.terms code over).1))

-- the three branches in the last store
pub decided_is : (n u w v : Numbered) → Grows n u → Grows u w → Grows w v → (code : NumberedBranch) (p : Place) (ws : Ways) (x y z : NumberedMade) (ms : List NumberedMade) → ms ≡ x ∷ y ∷ z ∷ []
    → IsBranchOver n.terms code → IsPlaceBelow (length n.terms) p → AreWaysBelow (length n.terms) ws
    → IsMadeAt u.terms x (case (outer_of (branch_at n.terms code) (place_at n.terms p)) (at n.terms ws.below)) → IsMadeAt w.terms y (case (branch_at u.terms code) (at u.terms ws.zero))
    → IsMadeAt v.terms z (case (outer_of (branch_at w.terms code) (place_at w.terms p)) (at w.terms ws.above))
    → IsMoveAt v.terms (record { ending = decides p.what; made = ms }) (decided_by (branch_at n.terms code) (place_at n.terms p) (ways_at n.terms ws))
decided_is n u w v g h k code p ws x y z ms is over place low is_x is_y is_z =
    let B = branch_at n.terms code in let far = then n u v g (then u w v h k) in let to_w = then n u w g h in
    let O = outer_of B (place_at n.terms p) in
    let last : branch_at w.terms code ≡ B = (branch_more n.terms w.terms to_w.terms code over).1 in
    let again : place_at w.terms p ≡ place_at n.terms p = place_stays n w to_w p place in
    let mid : branch_at u.terms code ≡ B = (branch_more n.terms u.terms g.terms code over).1 in
    decides_so v.terms B (place_at n.terms p) p.what x y z (at n.terms ws.below) (at n.terms ws.zero) (at n.terms ws.above) ms is (below n v p.what far place.what) (stays n v p.what far place.what)
    (made_later u v x (case O (at n.terms ws.below)) (then u w v h k) is_x)
    (made_later w v y (case B (at n.terms ws.zero)) k (is_y.0, is_y.1 ∙ (λ j. case (mid j) (stays n u ws.zero g low.zero j))))
    (is_z.0, is_z.1 ∙ (λ j. case (outer_of (last j) (again j)) (stays n w ws.above to_w low.above j)))

-- what is made of a branch that stands for another
pub case_made : (ts vs : List Tree) (code : NumberedBranch) (b : Branch) (way : ℕ) (x : NumberedMade) → IsBranchAt ts code b → IsMadeAt vs x (case (branch_at ts code) (at ts way)) → IsMadeAt vs x (case b (at ts way))
case_made ts vs code b way x is made = (made.0, made.1 ∙ ap (λ (c : Branch). case c (at ts way)) is.1)
