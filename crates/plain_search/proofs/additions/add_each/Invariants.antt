use Rattle.std.proofs.Common.{◌≡◌, reverse, vec_len}
use Rattle.tableau_branch.specs.Change.{added_each}
use Rattle.plain_search.proofs.additions.add_each.Given as goal

abbrev pub invariant-loop-fact : goal.invariant-loop-fact
invariant-loop-fact l = added_each (reverse l.facts.items) l.made ≡ added_each l.fn.facts.items l.fn.made

abbrev pub decreases-loop-fact : goal.decreases-loop-fact
decreases-loop-fact l = vec_len l.facts
