-- What runs keep.
use Rattle.std.specs.Prelude.{IsTrue, List}
use Rattle.logic_core.specs.Tree.{Kind}
use Rattle.logic_core.specs.Value.{are_of}
use Rattle.logic_core.specs.Def.{Def}
use Rattle.flow_core.specs.State.{State}
use Rattle.flow_core.specs.Graph.{Graph}
use Rattle.flow_core.specs.Run.{Position, arrival, within, Run}

-- the state of a run at a position
abbrev pub state_in : Position → State
state_in (arrival kind b σ) = σ
state_in (within b cs σ) = σ

-- where each variable has a value of its sort, it still has one later in the run
abbrev pub RunsKeepSorts : Type 0
RunsKeepSorts =
    (defs : List Def) (sorts : List Kind) (g : Graph) (p q : Position) → Run defs sorts g p q
    → IsTrue (are_of sorts (state_in p)) → IsTrue (are_of sorts (state_in q))
