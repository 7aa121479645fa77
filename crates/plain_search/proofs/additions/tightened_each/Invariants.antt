use Rattle.std.proofs.Common.{◌≡◌, ◌+◌, ◌++◌, ◌-◌, ◌^◌, ◌≤◌, reverse, vec_len}
use Rattle.tableau_branch.specs.Change.{tightened_each, with_steps}
use Rattle.plain_search.proofs.additions.tightened_each.Given as goal

abbrev pub invariant-loop-term : goal.invariant-loop-term
invariant-loop-term l = record {
  facts : l.facts.items ++ (tightened_each l.number l.made.branch.next (reverse l.terms.items)).facts ≡ (tightened_each l.fn.number l.fn.made.branch.next l.fn.terms.items).facts;
  made : (let r = tightened_each l.number l.made.branch.next (reverse l.terms.items) in with_steps r.steps r.next l.made) ≡ (let r = tightened_each l.fn.number l.fn.made.branch.next l.fn.terms.items in with_steps r.steps r.next l.fn.made);
  fits : l.number + vec_len l.terms ≤ 2 ^ 64 - 1;
}

abbrev pub decreases-loop-term : goal.decreases-loop-term
decreases-loop-term l = vec_len l.terms
