use Rattle.std.proofs.Common.{◌≡◌, drop}
use Rattle.tableau_branch.specs.Branch.{first_attempt}
use Rattle.theory_rules.specs.ReadsBack.{moved_back}
use Rattle.plain_search.proofs.back.first_read_back.Given as goal

abbrev pub invariant-loop-access : goal.invariant-loop-access
invariant-loop-access l = first_attempt (moved_back l.defs l.branch) (drop l.access-index l.accesses) ≡ first_attempt (moved_back l.defs l.branch) l.accesses
