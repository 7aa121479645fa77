-- The rule past: a Read of a Write in a fact, outside quantifiers: three branches, with the linear fact added and the Read replaced in every fact.
use Rattle.std.specs.Prelude.{Option, Some, None, List, [], ◌∷◌, find}
use Rattle.logic_core.specs.Tree.{Tree, equal}
use Rattle.logic_core.specs.Def.{Def}
use Rattle.logic_core.specs.Wide.{◌>>=◌}
use Rattle.logic_core.specs.Subterm.{occurs, outside, replaced}
use Rattle.proof_core.specs.Proof.{by_replace}
use Rattle.proof_core.specs.Says.{says}
use Rattle.proof_core.specs.Maps.{access, distance, before_write, below_zero, at_zero, above_zero}
use Rattle.tableau_branch.specs.Branch.{Fact, Branch, context_of, normal_in, Attempt, none, unless_wide, oldest}
use Rattle.tableau_branch.specs.Change.{Made, begun, appended_two, added, changed_each}
use Rattle.tableau_branch.specs.Move.{Move, passes}
use Rattle.tableau_branch.specs.Shapes.{is_access}

-- the first Read of a Write outside quantifiers, in preorder
abbrev pub first_access : Fact → Option Tree
first_access f = find is_access (outside f.term)

module _ (defs : List Def) where
  -- by an equation, which isn't kept, t is replaced in every fact
  abbrev pub replaced_by : Branch → Tree → Fact → Made → Option Made
  replaced_by b t e m = says e.term t >>= λ u. changed_each (λ g. occurs t g.term) (λ s. normal_in defs b (replaced t u s)) (λ g. by_replace g.number e.number t) m

  -- the branch in which a linear fact holds and t is u
  abbrev pub passed : Branch → Tree → Tree → Tree → Option Made
  passed b t way u = normal_in defs b way >>= λ l. normal_in defs b (equal t u) >>= λ e. let p = appended_two l e (begun b) in replaced_by b t p.1 (added p.0 p.2)

  -- d is below, at or above zero, and t is what the map held before, v, or what it held before
  abbrev pub three_passed : Branch → Tree → Tree → Tree → Tree → Option Move
  three_passed b t d before v = passed b t (below_zero d) before >>= λ below. passed b t (at_zero d) v >>= λ same. passed b t (above_zero d) before >>= λ above.
      Some (record { ending = passes t; made = below ∷ same ∷ above ∷ [] })

  -- of the distance x - y
  abbrev pub past_by : Branch → Tree → Option Move
  past_by b t = access t >>= λ a. distance defs (context_of b) a >>= λ d. three_passed b t d (before_write a) a.value

  abbrev pub past : Branch → Attempt Move
  past b = elim (oldest first_access b) [ None ↦ none | Some a ↦ unless_wide (past_by b a.what) ]
