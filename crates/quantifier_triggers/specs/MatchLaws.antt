-- What the tuples of a trigger are.
use Rattle.std.specs.Prelude.{IsTrue, List, []}
use Rattle.std.specs.List.{All}
use Rattle.logic_core.specs.Tree.{Kind, Tree, Trees}
use Rattle.logic_core.specs.Def.{Def}
use Rattle.logic_core.specs.View.{trees_of}
use Rattle.logic_core.specs.Sorts.{are}
use Rattle.quantifier_triggers.specs.Match.{tuples}

-- each is a list of closed, well-sorted terms of the variables' sorts, as many as these
abbrev pub TuplesHaveSorts : Type 0
TuplesHaveSorts = (vars : List Kind) (defs : List Def) (trigger : Trees) (sorts : List Kind) (terms : List Tree)
    → All (λ ts. IsTrue (are vars defs [] sorts (trees_of ts))) (tuples vars defs trigger sorts terms)
