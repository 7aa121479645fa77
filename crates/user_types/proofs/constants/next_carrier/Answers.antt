use Rattle.std.proofs.Common.{arith}
use Rattle.std.proofs.lemmas.Grind.{common_steps}
use Rattle.user_types.proofs.Listed.{counted_there, next_counted}
use Rattle.user_types.proofs.constants.next_carrier.Goals as goal

pub returns-clause-carrier : goal.returns-clause-carrier
returns-clause-carrier c = grind (arith, common_steps, counted_there)

pub returns-clause-counted : goal.returns-clause-counted
returns-clause-counted c = grind (arith, common_steps, counted_there, next_counted)
