-- The branches of a node's children that begin with one fact each.
use Rattle.std.specs.Prelude.{[]}
use Rattle.logic_core.specs.Tree.{Tree}
use Rattle.tableau_branch.specs.Branch.{Branch}
use Rattle.tableau_branch.specs.Change.{Made, begun, appended_one, added}

-- the branch of a child, with one more fact
abbrev pub case : Branch → Tree → Made
case b t = let p = appended_one [] t (begun b) in added p.0 p.1
