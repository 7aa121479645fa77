use Rattle.std.proofs.Common.{◌≡◌, drop}
use Rattle.bpl_model.specs.TypedTest.{are_declared}
use Rattle.bpl_typing.proofs.statements.Scope.are_declared.Given as goal

abbrev pub invariant-loop-local : goal.invariant-loop-local
invariant-loop-local l = are_declared l.self.defs.now l.self.vars.now l.first (drop l.local-index l.locals) ≡ are_declared l.self.defs.now l.self.vars.now l.first l.locals
