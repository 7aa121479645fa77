-- The rule flatten: an And goes; its parts are added in order.
use Rattle.std.specs.Prelude.{Option, Some, None, List, [], ◌∷◌}
use Rattle.logic_core.specs.Tree.{Tree, all}
use Rattle.logic_core.specs.Def.{Def}
use Rattle.logic_core.specs.Wide.{◌>>=◌}
use Rattle.logic_core.specs.Subterm.{listed}
use Rattle.proof_core.specs.Proof.{Step, by_split}
use Rattle.tableau_branch.specs.Branch.{Fact, Branch, normal_in, each, Attempt, none, unless_wide, At, oldest, without}
use Rattle.tableau_branch.specs.Change.{begun, appended, added_each}
use Rattle.tableau_branch.specs.Move.{Move, on_one}

-- the parts of an And
abbrev pub conjuncts_of : Tree → Option (List Tree)
conjuncts_of (all ts) = Some (listed ts)
conjuncts_of t = None

abbrev pub as_all : Fact → Option (List Tree)
as_all f = conjuncts_of f.term

-- the facts that the node appends are added
abbrev pub adding_each : Step → List Tree → Branch → Move
adding_each s ts b = let p = appended (s ∷ []) ts (begun b) in on_one (added_each p.0 p.1)

module _ (defs : List Def) where
  -- an And goes; its parts are added in order
  abbrev pub flattened_at : Branch → At (List Tree) → Option Move
  flattened_at b a = each (normal_in defs b) a.what >>= λ ts. Some (adding_each (by_split (a.fact).number) ts (without a.at b))

  abbrev pub flatten : Branch → Attempt Move
  flatten b = elim (oldest as_all b) [ None ↦ none | Some a ↦ unless_wide (flattened_at b a) ]
