use Rattle.std.specs.Prelude.{refl}
use Rattle.rebuild_laws.proofs.ElseLists.{run_alike}
use Rattle.rebuild_laws.proofs.laws.else_lists_make_no_difference.Goals as goal

pub returns : goal.returns
returns c = record { executions = run_alike; blocks = λ clauses own last ls sc n cs at has_else had_else g ss ts. refl }
