use Rattle.rebuild_laws.proofs.BareProcedures.{same_procedures}
use Rattle.rebuild_laws.proofs.scopes.same_procedures_differ_in_places.Goals as goal

pub returns : goal.returns
returns c = same_procedures
