use Rattle.std.proofs.Common.{◌≡◌, arith, drop-cons}
use Rattle.std.proofs.lemmas.Grind.{common_steps}
use Rattle.bpl_faults.proofs.KnownGroups.{known_next}
use Rattle.bpl_faults.proofs.scope.Scope.are_known.Goals as goal

pub loop-group-preserved : goal.loop-group-preserved
loop-group-preserved c = grind (arith, common_steps, known_next, drop-cons)

pub returns-then-not-branch : goal.returns-then-not-branch
returns-then-not-branch c = grind (arith, common_steps, known_next, drop-cons)
