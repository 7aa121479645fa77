-- An if is run alike with an else list and without.
use Rattle.std.specs.Prelude.{Bool}
use Rattle.flow_core.specs.State.{State}
use Rattle.bv_base.specs.declared.place.Place.{Place}
use Rattle.bpl_model.specs.Module.{Guard, if_else, Stmts, Proc, Module}
use Rattle.bpl_model.specs.Execution.{Outcome, Exec, then_taken, else_taken}

pub run_alike : (m : Module) (p : Proc) (σ : State) (at : Place) (has_else had_else : Bool) (g : Guard) (ss ts : Stmts) (o : Outcome)
    → Exec m p σ (if_else at has_else g ss ts) o → Exec m p σ (if_else at had_else g ss ts) o
run_alike m p σ at has_else had_else g ss ts o (then_taken h e) = then_taken h e
run_alike m p σ at has_else had_else g ss ts o (else_taken h e) = else_taken h e
