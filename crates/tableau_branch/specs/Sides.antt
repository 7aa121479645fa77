-- Which side of an equation is defined by the other one.
use Rattle.std.specs.Prelude.{Option, Some, None, if◌then◌else◌}
use Rattle.logic_core.specs.Tree.{Tree, equal}
use Rattle.tableau_branch.specs.Oriented.{defines}
use Rattle.tableau_branch.specs.declared.oriented.Side.{Side}
use Rattle.tableau_branch.specs.declared.oriented.Side.TheVariants.{First, Second}

abbrev pub at_side : Tree → Tree → Option Side → Option Tree
at_side a b None = None
at_side a b (Some First) = Some a
at_side a b (Some Second) = Some b

abbrev pub side_between : Tree → Tree → Option Side
side_between a b = if defines b a then Some Second else (if defines a b then Some First else None)

-- of a fact, where it is an equation
abbrev pub defined_side : Tree → Option Side
defined_side (equal a b) = side_between a b
defined_side t = None
