-- The rule past in steps: the two normal forms of a child, and the branch with which it begins.
use Rattle.std.specs.Prelude.{Option, Some, List}
use Rattle.logic_core.specs.Tree.{Tree, equal}
use Rattle.logic_core.specs.Def.{Def}
use Rattle.logic_core.specs.Wide.{◌>>=◌}
use Rattle.tableau_branch.specs.Branch.{Fact, Branch, normal_in}
use Rattle.tableau_branch.specs.Change.{Made, begun, appended_two, added}

-- the linear fact and the equation
abbrev pub pass_forms : List Def → Branch → Tree → Tree → Tree → Option (Tree × Tree)
pass_forms defs b t way u = normal_in defs b way >>= λ l. normal_in defs b (equal t u) >>= λ e. Some (l, e)

-- the branch with the linear fact, and the equation
abbrev pub pass_begun : Tree → Tree → Branch → Made × Fact
pass_begun l e b = let p = appended_two l e (begun b) in (added p.0 p.2, p.1)
