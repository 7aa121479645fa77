-- Shapes of facts to which rules that are rare can be applied.
use Rattle.std.specs.Prelude.{Bool, false, is_some, List, [], find}
use Rattle.logic_core.specs.Tree.{Kind, Tree, negation, equal}
use Rattle.logic_core.specs.Def.{Def}
use Rattle.logic_core.specs.Sorts.{sort_of}
use Rattle.logic_core.specs.Subterm.{outside}
use Rattle.tableau_branch.specs.Branch.{Branch, Attempt}
use Rattle.tableau_branch.specs.Move.{Move}
use Rattle.tableau_branch.specs.Shapes.{is_choice}
use Rattle.theory_rules.specs.Condition.{condition}
use Rattle.theory_rules.specs.Differ.{differ}
use Rattle.numbered_facts.specs.Sorted.{is_map}
use Rattle.clause_search.specs.declared.by_trees.Rare.{Rare}
use Rattle.clause_search.specs.declared.by_trees.Rare.TheVariants as rare

-- an If stands in it, outside quantifiers
abbrev pub has_choice : Tree → Bool
has_choice t = is_some (find is_choice (outside t))

-- a Not Eq of maps
module _ (vars : List Kind) (defs : List Def) where
  abbrev pub are_maps : Tree → Bool
  are_maps (equal x y) = is_map (sort_of vars defs [] x)
  are_maps t = false

  abbrev pub are_unequal_maps : Tree → Bool
  are_unequal_maps (negation t) = are_maps t
  are_unequal_maps t = false

-- the rules
abbrev pub rare_of : List Def → Rare → Branch → Attempt Move
rare_of defs rare.Condition = condition defs
rare_of defs rare.Differ = differ defs
