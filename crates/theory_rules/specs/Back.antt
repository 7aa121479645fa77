-- The rule back: a Read of a Write with constant distance in a fact is replaced in every fact in which it stands outside quantifiers.
use Rattle.std.specs.Prelude.{Option, Some, None, List, filter, flat_map}
use Rattle.logic_core.specs.Tree.{Tree}
use Rattle.logic_core.specs.Def.{Def}
use Rattle.logic_core.specs.Wide.{◌>>=◌}
use Rattle.logic_core.specs.Subterm.{outside, replaced}
use Rattle.proof_core.specs.Proof.{by_back}
use Rattle.proof_core.specs.Split.{stands_in}
use Rattle.proof_core.specs.Maps.{access, as_number, distance, read_at_distance}
use Rattle.tableau_branch.specs.Branch.{Fact, Branch, context_of, normal_in, Attempt, none, leaves, unless_wide, first_attempt}
use Rattle.tableau_branch.specs.Change.{begun, changed_each}
use Rattle.tableau_branch.specs.Move.{Move, on_one}
use Rattle.tableau_branch.specs.Shapes.{is_access}

-- the Reads of a Write that stand in a fact outside quantifiers, in preorder
abbrev pub accesses_in : Fact → List Tree
accesses_in f = filter is_access (outside f.term)

module _ (defs : List Def) where
  -- t is at constant distance: in every fact in which it stands outside quantifiers it becomes what it reads
  abbrev pub moved_back_by : Branch → Tree → Option Move
  moved_back_by b t = access t >>= λ a. read_at_distance defs (context_of b) a >>= λ u.
      changed_each (λ g. stands_in t g.term) (λ s. normal_in defs b (replaced t u s)) (λ g. by_back g.number t) (begun b) >>= λ m. Some (on_one m)

  -- where the distance is no Num the rule goes on to the next Read; where it leaves 128 bits the search is Wide
  abbrev pub back_at : Branch → Tree → Attempt Move
  back_at b t = elim (access t >>= λ a. distance defs (context_of b) a) [
    | None ↦ leaves
    | Some d ↦ elim (as_number d) [ None ↦ none | Some n ↦ unless_wide (moved_back_by b t) ]
  ]

  abbrev pub back : Branch → Attempt Move
  back b = first_attempt (back_at b) (flat_map accesses_in b.facts)
