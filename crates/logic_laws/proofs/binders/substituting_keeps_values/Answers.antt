use Rattle.logic_laws.proofs.Assigned.{substituted_value}
use Rattle.logic_laws.proofs.binders.substituting_keeps_values.Goals as goal

pub returns : goal.returns
returns c = λ vars defs frees ss body terms vs s values w. substituted_value frees defs vars ss body terms vs s values w
