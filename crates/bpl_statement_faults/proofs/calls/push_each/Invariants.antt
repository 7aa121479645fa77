use Rattle.std.proofs.Common.{◌≡◌, ◌++◌, take, map}
use Rattle.bpl_scopes.specs.Shape.{kind_seen}
use Rattle.bpl_scopes.specs.KnownSorts.{shapes_seen}
use Rattle.bpl_statement_faults.proofs.calls.push_each.Given as goal

abbrev pub invariant-loop-name : goal.invariant-loop-name
invariant-loop-name l = shapes_seen l.sorts.items ≡ shapes_seen l.fn.sorts.items ++ map (λ n. kind_seen l.sort) (take l._name-index l.names)
