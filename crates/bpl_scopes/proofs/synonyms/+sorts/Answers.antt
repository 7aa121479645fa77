use Rattle.std.proofs.Common.{arith}
use Rattle.std.proofs.lemmas.Grind.{common_steps}
use Rattle.bpl_scopes.proofs.TypeSteps.{not_alone}
use Rattle.bpl_scopes.proofs.synonyms.+sorts.Goals as goal

pub are_int_alone-returns-then-types-ne1 : goal.are_int_alone-returns-then-types-ne1
are_int_alone-returns-then-types-ne1 t c = grind (arith, common_steps, not_alone)
