use Rattle.std.proofs.Common.{◌≡◌, reverse, vec_len}
use Rattle.tableau_branch.specs.Branch.{first_attempt}
use Rattle.theory_rules.specs.Ways.{open_at}
use Rattle.plain_search.proofs.trichotomy.first_open.Given as goal

abbrev pub invariant-loop-place : goal.invariant-loop-place
invariant-loop-place l = first_attempt (open_at l.defs l.branch) (reverse l.places.items) ≡ first_attempt (open_at l.defs l.branch) l.fn.places.items

abbrev pub decreases-loop-place : goal.decreases-loop-place
decreases-loop-place l = vec_len l.places
