-- The rule rewrite: by the oldest oriented fact whose left side occurs in another fact, the left side becomes the right one in all other facts, in the seen calls and in the marks.
use Rattle.std.specs.Prelude.{Option, Some, None, List, if◌then◌else◌}
use Rattle.std.specs.List.{list_any}
use Rattle.logic_core.specs.Tree.{Tree}
use Rattle.logic_core.specs.Def.{Def}
use Rattle.logic_core.specs.Wide.{◌>>=◌, when}
use Rattle.logic_core.specs.Subterm.{occurs, replaced}
use Rattle.proof_core.specs.Proof.{by_replace}
use Rattle.proof_core.specs.Says.{says}
use Rattle.tableau_branch.specs.Branch.{Fact, Mark, Branch, normal_in, each, Attempt, none, unless_wide, oldest}
use Rattle.tableau_branch.specs.Change.{Made, begun, changed_each}
use Rattle.tableau_branch.specs.Oriented.{left_side}
use Rattle.tableau_branch.specs.Move.{Move, on_one}
use Rattle.tableau_branch.specs.Replacing.{rewrites}

abbrev pub with_calls_and_marks : List Tree → List Mark → Made → Made
with_calls_and_marks calls marks m = record { branch = record (m.branch) { calls = calls; marks = marks }; steps = m.steps; size = m.size }

module _ (defs : List Def) where
  -- the left side of an oriented fact that occurs in another fact
  abbrev pub left_in_another : Branch → Fact → Option Tree
  left_in_another b f = left_side b.vars defs f.term >>= λ l. when (list_any (rewrites f.number l) b.facts) (Some l)

  -- l becomes r
  abbrev pub rewritten : Branch → Tree → Tree → Tree → Option Tree
  rewritten b l r t = normal_in defs b (replaced l r t)

  -- where it occurs
  abbrev pub rewritten_within : Branch → Tree → Tree → Tree → Option Tree
  rewritten_within b l r t = if occurs l t then rewritten b l r t else Some t

  abbrev pub rewritten_mark : Branch → Tree → Tree → Mark → Option Mark
  rewritten_mark b l r m = rewritten_within b l r m.fact >>= λ t. each (rewritten_within b l r) m.tuple >>= λ ts. Some (record { fact = t; tuple = ts })

  -- by the oldest oriented fact whose left side occurs in another fact: in all other facts, in the seen calls and in the marks
  abbrev pub rewritten_by : Branch → Fact → Tree → Option Move
  rewritten_by b f l = says f.term l >>= λ r.
      changed_each (rewrites f.number l) (rewritten b l r) (λ g. by_replace g.number f.number l) (begun b) >>= λ m.
      each (rewritten_within b l r) b.calls >>= λ calls. each (rewritten_mark b l r) b.marks >>= λ marks. Some (on_one (with_calls_and_marks calls marks m))

  abbrev pub rewrite : Branch → Attempt Move
  rewrite b = elim (oldest (left_in_another b) b) [ None ↦ none | Some a ↦ unless_wide (rewritten_by b a.fact a.what) ]
