-- The rule skolem: an Exists goes; its instance with new variables is added.
use Rattle.std.specs.Prelude.{Option, Some, None, List, [], ◌∷◌}
use Rattle.logic_core.specs.Tree.{Kind, Tree, exists}
use Rattle.logic_core.specs.Def.{Def}
use Rattle.logic_core.specs.Wide.{◌>>=◌}
use Rattle.logic_core.specs.Substitute.{substitute}
use Rattle.proof_core.specs.Proof.{by_skolem}
use Rattle.proof_core.specs.Context.{new_variables}
use Rattle.tableau_branch.specs.Branch.{Fact, Branch, context_of, normal_in, Attempt, none, unless_wide, At, oldest, without}
use Rattle.tableau_branch.specs.Change.{begun, appended_one, added}
use Rattle.tableau_branch.specs.Move.{Move, on_one}
use Rattle.tableau_branch.specs.Variables.{with_variables}

-- the sorts of the variables of an Exists, and its body
abbrev pub body_of_exists : Tree → Option (List Kind × Tree)
body_of_exists (exists ss ps body) = Some (ss, body)
body_of_exists t = None

abbrev pub as_exists : Fact → Option (List Kind × Tree)
as_exists f = body_of_exists f.term

module _ (defs : List Def) where
  abbrev pub skolemized_at : Branch → At (List Kind × Tree) → Option Move
  skolemized_at b a = let c = with_variables (a.what).0 (without a.at b) in
      normal_in defs c (substitute (a.what).1 (new_variables (context_of b) (a.what).0)) >>= λ t.
      let p = appended_one (by_skolem (a.fact).number ∷ []) t (begun c) in Some (on_one (added p.0 p.1))

  abbrev pub skolem : Branch → Attempt Move
  skolem b = elim (oldest as_exists b) [ None ↦ none | Some a ↦ unless_wide (skolemized_at b a) ]
