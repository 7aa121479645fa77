use Rattle.std.proofs.Common.{◌≡◌, ◌++◌, drop, flat_map}
use Rattle.bpl_ast.specs.ExprView.{each_groups_of}
use Rattle.bpl_faults.specs.ScopeView.{scope_seen}
use Rattle.bpl_resolve.specs.Locals.{locals_in}
use Rattle.bpl_resolve.proofs.variables.each_locals_in.Given as goal

abbrev pub invariant-loop-declared : goal.invariant-loop-declared
invariant-loop-declared l = l.locals.items ++ flat_map (locals_in (scope_seen l.scope) l.names) (each_groups_of (drop l.declared-index l.groups)) ≡ flat_map (locals_in (scope_seen l.scope) l.names) (each_groups_of l.groups)
