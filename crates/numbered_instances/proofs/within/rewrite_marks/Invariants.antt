use Rattle.std.proofs.Common.{◌≡◌, ◌++◌, Some, map, drop}
use Rattle.std.specs.List.{AllByRecursion}
use Rattle.logic_core.specs.Wide.{◌>>=◌}
use Rattle.tableau_branch.specs.Branch.{each}
use Rattle.logic_rules.specs.Rewriting.{rewritten_mark}
use Rattle.logic_rules.specs.View.{bare}
use Rattle.term_bank.specs.Numbered.{at}
use Rattle.numbered_terms.specs.Stored.{Grows}
use Rattle.numbered_branches.specs.Branches.{IsMarkOver, mark_at}
use Rattle.numbered_instances.proofs.within.rewrite_marks.Given as goal

abbrev pub invariant-loop-mark : goal.invariant-loop-mark
invariant-loop-mark l = let ts = l.fn.store.terms in let left = at ts l.left in let right = at ts l.right in record {
  grows : Grows l.fn.store l.store;
  made : (each (rewritten_mark l.fn.store.defs (bare l.fn.store.defs left right l.fn.store.vars) left right) (map (mark_at ts) (drop l.mark-index l.marks)) >>= λ us. Some (map (mark_at l.store.terms) l.rewritten.items ++ us)) ≡ each (rewritten_mark l.fn.store.defs (bare l.fn.store.defs left right l.fn.store.vars) left right) (map (mark_at ts) l.marks);
  over : AllByRecursion (IsMarkOver l.store.terms) l.rewritten.items;
}
