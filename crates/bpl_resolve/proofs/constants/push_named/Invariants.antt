use Rattle.std.proofs.Common.{◌≡◌, ◌++◌, take, map}
use Rattle.bpl_scopes.specs.Shape.{kind_seen}
use Rattle.bpl_terms.specs.Terms.{sort_or_int}
use Rattle.bpl_resolve.proofs.constants.push_named.Given as goal

abbrev pub invariant-loop-name : goal.invariant-loop-name
invariant-loop-name l = l.consts.items ≡ l.fn.consts.items ++ map (λ n. record { name = n.text; sort = sort_or_int (kind_seen l.sort) }) (take l.name-index l.names)
