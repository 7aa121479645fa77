use Rattle.std.proofs.Common.{◌≡◌, find, map, reverse, vec_len}
use Rattle.logic_core.specs.View.{each_items}
use Rattle.logic_rules.specs.Instantiating.{is_unmarked}
use Rattle.plain_search.proofs.instantiating.first_unmarked.Given as goal

abbrev pub invariant-loop-tuple : goal.invariant-loop-tuple
invariant-loop-tuple l = find (is_unmarked l.branch) (map (λ ts. record { fact = l.fact; body = l.body; tuple = ts }) (each_items (reverse l.tuples.items))) ≡ find (is_unmarked l.branch) (map (λ ts. record { fact = l.fact; body = l.body; tuple = ts }) (each_items l.fn.tuples.items))

abbrev pub decreases-loop-tuple : goal.decreases-loop-tuple
decreases-loop-tuple l = vec_len l.tuples
