-- The rule split: an Or, an Eq of Bool that isn't oriented, or a Not Eq of Bool goes; a branch is made for each child.
use Rattle.std.specs.Prelude.{Option, Some, None, is_none, List, ◌∷◌, map, option_map}
use Rattle.logic_core.specs.Tree.{Tree}
use Rattle.logic_core.specs.Def.{Def}
use Rattle.logic_core.specs.Wide.{◌>>=◌, when}
use Rattle.proof_core.specs.Split as proofs
use Rattle.tableau_branch.specs.Branch.{Fact, Branch, context_of, normal_in, each, Attempt, none, unless_wide, At, oldest, without}
use Rattle.tableau_branch.specs.Oriented.{left_side}
use Rattle.tableau_branch.specs.Move.{Move, forks}
use Rattle.tableau_branch.specs.Cases.{case}

module _ (defs : List Def) where
  -- of a fact that isn't oriented, as an Or and a Not Eq of Bool never is: the fact of each child
  abbrev pub cases_of : Branch → Fact → Option (List Tree)
  cases_of b f = when (is_none (left_side b.vars defs f.term)) (option_map (λ p. p.0 ∷ p.1) (proofs.cases defs (context_of b) f.term))

  -- the fact goes
  abbrev pub split_at : Branch → At (List Tree) → Option Move
  split_at b a = each (normal_in defs b) a.what >>= λ ts. Some (record { ending = forks (a.fact).number; made = map (case (without a.at b)) ts })

  abbrev pub split : Branch → Attempt Move
  split b = elim (oldest (cases_of b) b) [ None ↦ none | Some a ↦ unless_wide (split_at b a) ]
