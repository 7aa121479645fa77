use Rattle.std.proofs.Common.{length}
use Rattle.bpl_parse.proofs.Programs.{SoFar}
use Rattle.bpl_parse.proofs.program.declarations.Given as goal

abbrev pub invariant-loop-rest : goal.invariant-loop-rest
invariant-loop-rest l = SoFar l.fn.text l.fn.tokens l.found.items l.axioms l.rest

abbrev pub decreases-loop-rest : goal.decreases-loop-rest
decreases-loop-rest l = length l.rest
