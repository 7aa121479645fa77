use Rattle.std.proofs.Common.{◌≡◌, ◌++◌, Some, reverse, vec_len}
use Rattle.logic_core.specs.Wide.{◌>>=◌}
use Rattle.tableau_branch.specs.Branch.{each}
use Rattle.logic_rules.specs.Rewriting.{rewritten_mark}
use Rattle.logic_rules.specs.View.{bare}
use Rattle.plain_search.proofs.rewriting.rewrite_marks.Given as goal

abbrev pub invariant-loop-mark : goal.invariant-loop-mark
invariant-loop-mark l = (each (rewritten_mark l.defs (bare l.defs l.left l.right l.vars) l.left l.right) (reverse l.marks.items) >>= λ ts. Some (l.rewritten.items ++ ts)) ≡ each (rewritten_mark l.defs (bare l.defs l.left l.right l.vars) l.left l.right) l.fn.marks.items

abbrev pub decreases-loop-mark : goal.decreases-loop-mark
decreases-loop-mark l = vec_len l.marks
