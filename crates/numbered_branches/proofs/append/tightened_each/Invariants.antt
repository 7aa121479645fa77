use Rattle.std.proofs.Common.{◌≡◌, ◌+◌, ◌++◌, map, length, drop}
use Rattle.std.specs.List.{AllByRecursion}
use Rattle.term_bank.specs.Numbered.{at}
use Rattle.tableau_branch.specs.Change.{tightened_each, with_steps}
use Rattle.numbered_terms.specs.Stored.{Grows}
use Rattle.numbered_branches.specs.Branches.{IsFactBelow, IsMadeOver, fact_at, made_at}
use Rattle.numbered_branches.proofs.append.tightened_each.Given as goal

abbrev pub invariant-loop-term : goal.invariant-loop-term
invariant-loop-term l = record {
  grows : Grows l.fn.store l.store;
  over : IsMadeOver l.store.terms l.made;
  below : AllByRecursion (IsFactBelow (length l.store.terms)) l.facts.items;
  number : l.number ≡ l.fn.number + l.term-index;
  facts : map (fact_at l.store.terms) l.facts.items ++ (tightened_each l.number l.made.branch.next (map (at l.fn.store.terms) (drop l.term-index l.terms))).facts ≡ (tightened_each l.fn.number l.fn.made.branch.next (map (at l.fn.store.terms) l.terms)).facts;
  made : (let r = tightened_each l.number l.made.branch.next (map (at l.fn.store.terms) (drop l.term-index l.terms)) in with_steps r.steps r.next (made_at l.store.terms l.made)) ≡ (let r = tightened_each l.fn.number l.fn.made.branch.next (map (at l.fn.store.terms) l.terms) in with_steps r.steps r.next (made_at l.fn.store.terms l.fn.made));
}
