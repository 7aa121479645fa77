use Rattle.std.proofs.Common.{◌≡◌, [], reverse, vec_len}
use Rattle.logic_rules.specs.Instantiating.{each_once}
use Rattle.plain_search.proofs.instantiating.each_once.Given as goal

abbrev pub invariant-loop-term : goal.invariant-loop-term
invariant-loop-term l = each_once l.seen.items (reverse l.terms.items) ≡ each_once [] l.fn.terms.items

abbrev pub decreases-loop-term : goal.decreases-loop-term
decreases-loop-term l = vec_len l.terms
