use Rattle.std.proofs.Common.{◌≡◌, map, drop}
use Rattle.std.specs.List.{list_any}
use Rattle.tableau_branch.specs.Replacing.{rewrites}
use Rattle.term_bank.specs.Numbered.{at}
use Rattle.numbered_terms.specs.Stored.{Grows}
use Rattle.numbered_branches.specs.Branches.{fact_at}
use Rattle.numbered_instances.proofs.lefts.occurs_in_another.Given as goal

abbrev pub invariant-loop-other : goal.invariant-loop-other
invariant-loop-other l = record {
  grows : Grows l.fn.store l.store;
  same : list_any (rewrites l.number (at l.fn.store.terms l.left)) (map (fact_at l.fn.store.terms) (drop l.other-index l.facts)) ≡ list_any (rewrites l.number (at l.fn.store.terms l.left)) (map (fact_at l.fn.store.terms) l.facts);
}
