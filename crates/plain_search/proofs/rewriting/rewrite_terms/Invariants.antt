use Rattle.std.proofs.Common.{◌≡◌, ◌++◌, Some, reverse, vec_len}
use Rattle.logic_core.specs.Wide.{◌>>=◌}
use Rattle.tableau_branch.specs.Branch.{each}
use Rattle.logic_rules.specs.Rewriting.{rewritten_within}
use Rattle.logic_rules.specs.View.{bare}
use Rattle.plain_search.proofs.rewriting.rewrite_terms.Given as goal

abbrev pub invariant-loop-term : goal.invariant-loop-term
invariant-loop-term l = (each (rewritten_within l.defs (bare l.defs l.left l.right l.vars) l.left l.right) (reverse l.terms.items) >>= λ ts. Some (l.rewritten.items ++ ts)) ≡ each (rewritten_within l.defs (bare l.defs l.left l.right l.vars) l.left l.right) l.fn.terms.items

abbrev pub decreases-loop-term : goal.decreases-loop-term
decreases-loop-term l = vec_len l.terms
