use Rattle.std.proofs.Common.{◌≡◌, ◌++◌, map, drop, Some}
use Rattle.bpl_ast.specs.ExprView.{groups_of}
use Rattle.bpl_scopes.specs.Scopes.{names_of}
use Rattle.bpl_scopes.specs.Sorts.{sort_of_type}
use Rattle.bpl_scopes.specs.KnownSorts.{bounds_seen, hidden_seen}
use Rattle.bpl_faults.proofs.scope.bounds_of.Given as goal

abbrev pub invariant-loop-group : goal.invariant-loop-group
invariant-loop-group l = bounds_seen l.bounds.items ++ map (λ p. record { name = Some ((p.0).text); sort = sort_of_type l.types (hidden_seen l.hidden) p.1 }) (names_of (groups_of (drop l.group-index l.groups))) ≡ map (λ p. record { name = Some ((p.0).text); sort = sort_of_type l.types (hidden_seen l.hidden) p.1 }) (names_of (groups_of l.groups))
