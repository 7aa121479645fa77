-- The variables of a branch.
use Rattle.std.specs.Prelude.{List, ◌++◌}
use Rattle.logic_core.specs.Tree.{Kind}
use Rattle.tableau_branch.specs.Branch.{Branch}

-- more variables, with the next numbers
abbrev pub with_variables : List Kind → Branch → Branch
with_variables ks b = record b { vars = b.vars ++ ks }
