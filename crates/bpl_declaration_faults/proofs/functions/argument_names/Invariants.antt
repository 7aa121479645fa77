use Rattle.std.proofs.Common.{◌≡◌, ◌++◌, drop}
use Rattle.bpl_scopes.specs.Functions.{argument_names}
use Rattle.bpl_faults.specs.Arguments.{names_seen}
use Rattle.bpl_declaration_faults.proofs.functions.argument_names.Given as goal

abbrev pub invariant-loop-argument : goal.invariant-loop-argument
invariant-loop-argument l = names_seen l.names.items ++ argument_names (drop l.argument-index l.ins) ≡ argument_names l.ins
