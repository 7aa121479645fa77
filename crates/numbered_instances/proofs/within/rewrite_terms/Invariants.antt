use Rattle.std.proofs.Common.{◌≡◌, ◌<◌, ◌++◌, Some, length, drop}
use Rattle.std.specs.List.{AllByRecursion}
use Rattle.logic_core.specs.Wide.{◌>>=◌}
use Rattle.tableau_branch.specs.Branch.{each}
use Rattle.logic_rules.specs.Rewriting.{rewritten_within}
use Rattle.logic_rules.specs.View.{bare}
use Rattle.term_bank.specs.Numbered.{at}
use Rattle.numbered_terms.specs.Lists.{terms_at}
use Rattle.numbered_terms.specs.Stored.{Grows}
use Rattle.numbered_instances.proofs.within.rewrite_terms.Given as goal

abbrev pub invariant-loop-term : goal.invariant-loop-term
invariant-loop-term l = let ts = l.fn.store.terms in let left = at ts l.left in let right = at ts l.right in record {
  grows : Grows l.fn.store l.store;
  made : (each (rewritten_within l.fn.store.defs (bare l.fn.store.defs left right l.fn.store.vars) left right) (terms_at ts (drop l.term-index l.terms)) >>= λ us. Some (terms_at l.store.terms l.rewritten.items ++ us)) ≡ each (rewritten_within l.fn.store.defs (bare l.fn.store.defs left right l.fn.store.vars) left right) (terms_at ts l.terms);
  within : AllByRecursion (λ i. i < length l.store.terms) l.rewritten.items;
}
