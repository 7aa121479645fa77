use Rattle.std.proofs.Common.{◌≡◌, ◌++◌, take, map, false}
use Rattle.bpl_ast.specs.ExprView.{clause_of}
use Rattle.bpl_scopes.specs.Shape.{kind_seen}
use Rattle.bpl_faults.specs.ScopeView.{scope_seen}
use Rattle.bpl_terms.specs.Terms.{sort_or_int}
use Rattle.bpl_resolve.specs.Elaborate.{clause_term}
use Rattle.bpl_resolve.proofs.variables.push_named.Given as goal

abbrev pub invariant-loop-name : goal.invariant-loop-name
invariant-loop-name l = l.locals.items ≡ l.fn.locals.items ++ map (λ n. record { name = n.text; sort = sort_or_int (kind_seen l.sort); own = false; clause = clause_term (scope_seen l.scope) (clause_of l.condition) }) (take l.name-index l.names)
