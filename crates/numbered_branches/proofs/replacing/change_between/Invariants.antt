use Rattle.std.proofs.Common.{◌≡◌, ◌≤◌, map, drop}
use Rattle.numbered_terms.specs.Stored.{Grows}
use Rattle.numbered_branches.specs.Branches.{IsMadeOver, fact_at}
use Rattle.numbered_branches.specs.Replacing.{changed_on}
use Rattle.numbered_branches.proofs.replacing.change_between.Given as goal

abbrev pub invariant-loop : goal.invariant-loop
invariant-loop l = record {
  grows : Grows l.fn.store l.store;
  made : IsMadeOver l.store.terms l.made;
  vars : l.store.vars ≡ l.made.branch.vars;
  rest : changed_on l.store l.replacing l.made l.at ≡ changed_on l.fn.store l.replacing l.fn.made 0;
  behind : drop l.at (map (fact_at l.store.terms) l.made.branch.facts) ≡ drop l.counter (map (fact_at l.fn.store.terms) l.fn.made.branch.facts);
  order : l.counter ≤ l.until;
}
