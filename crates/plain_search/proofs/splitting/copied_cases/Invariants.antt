use Rattle.std.proofs.Common.{◌≡◌, ◌++◌, map, reverse, vec_len}
use Rattle.tableau_branch.specs.Cases.{case}
use Rattle.plain_search.proofs.splitting.copied_cases.Given as goal

abbrev pub invariant-loop-term : goal.invariant-loop-term
invariant-loop-term l = l.made.items ++ map (case l.branch) (reverse l.terms.items) ≡ map (case l.branch) l.fn.terms.items

abbrev pub decreases-loop-term : goal.decreases-loop-term
decreases-loop-term l = vec_len l.terms
