use Rattle.std.proofs.Common.{◌≡◌, ◌++◌, map, take}
use Rattle.bpl_scopes.specs.Shape.{kind_seen}
use Rattle.bpl_terms.specs.Terms.{sort_or_int}
use Rattle.bpl_terms.proofs.sorts.push_sorts.Given as goal

abbrev pub invariant-loop-name : goal.invariant-loop-name
invariant-loop-name l = l.sorts.items ≡ l.fn.sorts.items ++ map (λ n. sort_or_int (kind_seen l.shape)) (take l._name-index l.names)
