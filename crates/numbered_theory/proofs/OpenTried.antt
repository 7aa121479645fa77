-- Undecided numbers that are tried one after another, in a store that grows.
use Rattle.std.proofs.Common.{◌≡◌, sym, ap, ◌∙◌, ℕ, ◌+◌, ◌<◌, List, ◌∷◌, map, length, drop, get_or}
use Rattle.std.specs.List.{AllByRecursion}
use Rattle.logic_core.specs.Tree.{Tree}
use Rattle.term_bank.specs.Numbered.{at}
use Rattle.tableau_branch.specs.Branch.{At, Attempt, none, leaves, gives, first_attempt}
use Rattle.theory_rules.specs.ReadsBack.{after_attempt}
use Rattle.theory_rules.specs.Ways.{open_ways, open_at}
use Rattle.theory_rules.proofs.Attempting.{or_else, first_is}
use Rattle.numbered_terms.specs.Stored.{Numbered, Grows}
use Rattle.numbered_branches.specs.Branches.{NumberedBranch, branch_at, IsBranchOver}
use Rattle.numbered_branches.proofs.Changing.{branch_more}
use Rattle.numbered_theory.specs.Places.{place_at, ways_at, IsPlaceBelow}
use Rattle.numbered_theory.specs.declared.undecided.Place.{Place}
use Rattle.numbered_theory.specs.declared.trichotomy.Ways.{Ways}
use Rattle.numbered_theory.proofs.Deciding.{place_stays, place_later}
use Rattle.numbered_branches.proofs.Listing.{all_at}
use Rattle.numbered_facts.proofs.Growing.{then}
use Rattle.numbered_branches.proofs.Growing.{stays}
use Rattle.numbered_theory.proofs.Loops.{passed, taken}

-- what comes of one number, and of these places
abbrev pub ways_of : Numbered → NumberedBranch → ℕ → Attempt (List Tree)
ways_of n code d = open_ways n.defs (branch_at n.terms code) (at n.terms d)

abbrev pub open_from : Numbered → NumberedBranch → List Place → Attempt (At Tree × List Tree)
open_from n code ps = first_attempt (open_at n.defs (branch_at n.terms code)) (map (place_at n.terms) ps)

abbrev one_place : Numbered → NumberedBranch → Place → Attempt (At Tree × List Tree)
one_place n code p = open_at n.defs (branch_at n.terms code) (place_at n.terms p)

with_place : (n : Numbered) (code : NumberedBranch) (p : Place) (x : Attempt (List Tree)) → ways_of n code p.what ≡ x → one_place n code p ≡ after_attempt x (λ (ts : List Tree). gives (place_at n.terms p, ts))
with_place n code p x h = ap (λ (y : Attempt (List Tree)). after_attempt y (λ (ts : List Tree). gives (place_at n.terms p, ts))) h

module _ (n m : Numbered) (g : Grows n m) (code : NumberedBranch) (over : IsBranchOver n.terms code) (ps : List Place) (i : ℕ) (p : Place) (h : AllByRecursion (IsPlaceBelow (length n.terms)) ps) (l : i < length ps) (e : p ≡ get_or ps i p) where
  low : IsPlaceBelow (length n.terms) p
  low = all_at (IsPlaceBelow (length n.terms)) ps i p h l e

  ways_same : ways_of m code p.what ≡ ways_of n code p.what
  ways_same = λ k. open_ways (g.defs k) ((branch_more n.terms m.terms g.terms code over).1 k) (stays n m p.what g low.what k)

  step : (q : Place) (qs : List Place) → open_from n code (q ∷ qs) ≡ or_else (one_place n code q) (open_from n code qs)
  step q qs = first_is (open_at n.defs (branch_at n.terms code)) (place_at n.terms q) (map (place_at n.terms) qs)

  -- the next one is passed over
  pub open_passed : ways_of m code p.what ≡ none → open_from n code (drop i ps) ≡ open_from n code ps → open_from n code (drop (i + 1) ps) ≡ open_from n code ps
  open_passed here so_far = passed (open_from n code) (one_place n code) step ps i p (open_from n code ps) l e (with_place n code p none (sym ways_same ∙ here)) so_far

  -- a number leaves 128 bits
  pub open_wide : ways_of m code p.what ≡ leaves → open_from n code (drop i ps) ≡ open_from n code ps → open_from n code ps ≡ leaves
  open_wide here so_far = taken (open_from n code) (one_place n code) step ps i p (open_from n code ps) leaves l e tt (with_place n code p leaves (sym ways_same ∙ here)) so_far

  -- it has open ways
  pub open_found : (v : Numbered) (w : Ways) → Grows m v → ways_of m code p.what ≡ gives (ways_at v.terms w) → open_from n code (drop i ps) ≡ open_from n code ps
      → IsPlaceBelow (length v.terms) p × (open_from n code ps ≡ gives (place_at v.terms p, ways_at v.terms w))
  open_found v w d here so_far =
      let far = then n m v g d in
      let it : open_from n code ps ≡ gives (place_at n.terms p, ways_at v.terms w) = taken (open_from n code) (one_place n code) step ps i p (open_from n code ps) (gives (place_at n.terms p, ways_at v.terms w)) l e tt
      (with_place n code p (gives (ways_at v.terms w)) (sym ways_same ∙ here)) so_far in
      (place_later n v far p low, it ∙ ap (λ (q : At Tree). gives (q, ways_at v.terms w)) (sym (place_stays n v far p low)))
