-- The rule differ: a Not Eq of maps is changed; the maps differ at an index, which is a new variable.
use Rattle.std.specs.Prelude.{Option, Some, None, List, [], ◌∷◌, length}
use Rattle.logic_core.specs.Tree.{Kind, int, map, Tree, free, read, negation, equal}
use Rattle.logic_core.specs.Def.{Def}
use Rattle.logic_core.specs.Wide.{◌>>=◌}
use Rattle.logic_core.specs.Sorts.{sort_of}
use Rattle.proof_core.specs.Proof.{by_differ}
use Rattle.tableau_branch.specs.Branch.{Fact, Branch, normal_in, Attempt, none, unless_wide, At, oldest}
use Rattle.tableau_branch.specs.Change.{begun, appended_one, changed_at}
use Rattle.tableau_branch.specs.Move.{Move, on_one}
use Rattle.tableau_branch.specs.Variables.{with_variables}

abbrev pub of_maps : Tree → Tree → Option Kind → Option (Tree × Tree)
of_maps x y (Some (map k)) = Some (x, y)
of_maps x y k = None

module _ (defs : List Def) where
  abbrev pub sides_of_maps : Branch → Tree → Option (Tree × Tree)
  sides_of_maps b (equal x y) = of_maps x y (sort_of b.vars defs [] x)
  sides_of_maps b t = None

  abbrev pub unequal_in : Branch → Tree → Option (Tree × Tree)
  unequal_in b (negation t) = sides_of_maps b t
  unequal_in b t = None

  -- the sides of a Not Eq of maps
  abbrev pub unequal_maps : Branch → Fact → Option (Tree × Tree)
  unequal_maps b f = unequal_in b f.term

  -- the fact is changed
  abbrev pub differ_at : Branch → At (Tree × Tree) → Option Move
  differ_at b a = let w = free (length b.vars) in let c = with_variables (int ∷ []) b in
      normal_in defs c (negation (equal (read (a.what).0 w) (read (a.what).1 w))) >>= λ t.
      let p = appended_one (by_differ (a.fact).number ∷ []) t (begun c) in Some (on_one (changed_at a.at p.0 p.1))

  abbrev pub differ : Branch → Attempt Move
  differ b = elim (oldest (unequal_maps b) b) [ None ↦ none | Some a ↦ unless_wide (differ_at b a) ]
