use Rattle.std.proofs.Common.{◌≡◌, ◌++◌, drop}
use Rattle.std.specs.Prelude.{filter_map}
use Rattle.bpl_model.specs.Module.{Local}
use Rattle.bpl_blocks.specs.Blocks.{assume_all}
use Rattle.bpl_blocks.proofs.entry.push_clauses.Given as goal

-- the commands so far, and then those of the variables that are ahead
abbrev pub invariant-loop-local : goal.invariant-loop-local
invariant-loop-local l =
    l.commands.items ++ assume_all (filter_map (λ (v : Local). v.clause) (drop l.local-index l.locals))
    ≡ l.fn.commands.items ++ assume_all (filter_map (λ (v : Local). v.clause) l.locals)
