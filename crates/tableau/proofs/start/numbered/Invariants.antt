use Rattle.std.proofs.Common.{◌≡◌, ◌+◌, ◌++◌, reverse, vec_len}
use Rattle.tableau_branch.specs.Branch.{numbered}
use Rattle.tableau.proofs.start.numbered.Given as goal

abbrev pub invariant-loop-term : goal.invariant-loop-term
invariant-loop-term l = record {
  rest : l.facts.items ++ numbered l.number (reverse l.terms.items) ≡ numbered 0 l.fn.terms.items;
  count : l.number + vec_len l.terms ≡ vec_len l.fn.terms;
}

abbrev pub decreases-loop-term : goal.decreases-loop-term
decreases-loop-term l = vec_len l.terms
