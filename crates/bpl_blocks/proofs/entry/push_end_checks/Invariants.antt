use Rattle.std.proofs.Common.{◌≡◌, ◌++◌, map, drop}
use Rattle.flow_core.specs.Reader.{command_of}
use Rattle.bpl_model.specs.Contract.{end_checks}
use Rattle.bpl_blocks.proofs.entry.push_end_checks.Given as goal

-- the commands so far, and then those of the clauses that are ahead
abbrev pub invariant-loop-spec : goal.invariant-loop-spec
invariant-loop-spec l = l.commands.items ++ map command_of (end_checks (drop l.spec-index l.specs)) ≡ l.fn.commands.items ++ map command_of (end_checks l.specs)
