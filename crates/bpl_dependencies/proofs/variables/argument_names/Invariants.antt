use Rattle.std.proofs.Common.{◌≡◌, ◌++◌, drop}
use Rattle.bpl_scopes.specs.Scopes.{texts_of}
use Rattle.bpl_scopes.specs.Functions.{argument_names}
use Rattle.bpl_dependencies.proofs.variables.argument_names.Given as goal

abbrev pub invariant-loop-argument : goal.invariant-loop-argument
invariant-loop-argument l = l.names ++ texts_of (argument_names (drop l.argument-index l.ins)) ≡ texts_of (argument_names l.ins)
