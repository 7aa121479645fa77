-- The terms outside quantifiers for which the rules look.
use Rattle.std.specs.Prelude.{Bool, true, false, is_some}
use Rattle.logic_core.specs.Tree.{Tree, choose, call}
use Rattle.proof_core.specs.Maps.{access}
use Rattle.tableau_branch.specs.Oriented.{is_application}
use Rattle.tableau_branch.specs.declared.outside.Shape.{Shape}
use Rattle.tableau_branch.specs.declared.outside.Shape.TheVariants.{Call, Choice, Access, Application}

abbrev pub is_call : Tree → Bool
is_call (call f ts) = true
is_call t = false

abbrev pub is_choice : Tree → Bool
is_choice (choose c x y) = true
is_choice t = false

-- whether it is a Read of a Write
abbrev pub is_access : Tree → Bool
is_access t = is_some (access t)

abbrev pub has_shape : Shape → Tree → Bool
has_shape Call t = is_call t
has_shape Choice t = is_choice t
has_shape Access t = is_access t
has_shape Application t = is_application t
