use Rattle.std.proofs.Common.{◌≡◌, ◌++◌, drop}
use Rattle.bpl_model.specs.Contract.{preconditions}
use Rattle.bpl_blocks.specs.Blocks.{assume_all}
use Rattle.bpl_blocks.proofs.entry.push_preconditions.Given as goal

-- the commands so far, and then those of the clauses that are ahead
abbrev pub invariant-loop-spec : goal.invariant-loop-spec
invariant-loop-spec l = l.commands.items ++ assume_all (preconditions (drop l.spec-index l.specs)) ≡ l.fn.commands.items ++ assume_all (preconditions l.specs)
