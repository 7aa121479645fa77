use Rattle.std.proofs.Common.{◌≡◌, drop, map}
use Rattle.tableau_branch.specs.Branch.{first_attempt}
use Rattle.numbered_terms.specs.Stored.{Grows}
use Rattle.numbered_branches.specs.Branches.{branch_at}
use Rattle.theory_rules.specs.Ways.{open_at}
use Rattle.numbered_theory.specs.Places.{place_at}
use Rattle.numbered_theory.proofs.trichotomy.first_open.Given as goal

abbrev pub invariant-loop-place : goal.invariant-loop-place
invariant-loop-place l = record {
  grows : Grows l.fn.store l.store;
  first : first_attempt (open_at l.fn.store.defs (branch_at l.fn.store.terms l.branch)) (map (place_at l.fn.store.terms) (drop l.place-index l.places)) ≡ first_attempt (open_at l.fn.store.defs (branch_at l.fn.store.terms l.branch)) (map (place_at l.fn.store.terms) l.places);
}
