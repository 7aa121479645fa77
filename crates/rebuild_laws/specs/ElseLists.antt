-- Whether an else list stands behind a branch, or the if that an `else if` goes on with, makes no difference to what is run.
use Rattle.std.specs.Prelude.{◌≡◌, ℕ, Bool, List}
use Rattle.logic_core.specs.Tree.{Tree}
use Rattle.flow_core.specs.State.{State}
use Rattle.flow_core.specs.declared.command.Command.{Command}
use Rattle.bv_base.specs.declared.place.Place.{Place}
use Rattle.bpl_model.specs.Module.{Guard, if_else, Stmts, Name, Proc, Module}
use Rattle.bpl_model.specs.Execution.{Outcome, Exec}
use Rattle.bpl_blocks.specs.Blocks.{Scope, stmt_blocks}

-- an if with an else list has the executions and the blocks of the one without, and the other way round
pub record ElseListsMakeNoDifference : Type 0 where
  pub executions : (m : Module) (p : Proc) (σ : State) (at : Place) (has_else had_else : Bool) (g : Guard) (ss ts : Stmts) (o : Outcome)
      → Exec m p σ (if_else at has_else g ss ts) o → Exec m p σ (if_else at had_else g ss ts) o
  pub blocks : (clauses : List ℕ → List Tree) (own last : ℕ) (ls : List Name) (sc : List Scope) (n : ℕ) (cs : List Command) (at : Place) (has_else had_else : Bool) (g : Guard) (ss ts : Stmts)
      → stmt_blocks clauses own last ls sc n cs (if_else at has_else g ss ts) ≡ stmt_blocks clauses own last ls sc n cs (if_else at had_else g ss ts)
