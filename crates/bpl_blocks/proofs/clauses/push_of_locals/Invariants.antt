use Rattle.std.proofs.Common.{◌≡◌, ◌++◌, drop}
use Rattle.bpl_model.specs.Clauses.{clauses_of_locals}
use Rattle.bpl_blocks.proofs.clauses.push_of_locals.Given as goal

-- the clauses so far, and then those of the variables that are ahead
abbrev pub invariant-loop-local : goal.invariant-loop-local
invariant-loop-local l = l.clauses.items ++ clauses_of_locals (drop l.local-index l.locals) ≡ l.fn.clauses.items ++ clauses_of_locals l.locals
