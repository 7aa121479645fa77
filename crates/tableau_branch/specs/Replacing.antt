-- A term replaced in facts: in which of them, and by which node.
use Rattle.std.specs.Prelude.{ℕ, nat_eq, Bool, true, false, not, ◌&&◌, Option, Some, None, List, [], take, drop}
use Rattle.logic_core.specs.Tree.{Kind, Tree}
use Rattle.logic_core.specs.Def.{Def}
use Rattle.logic_core.specs.Wide.{◌>>=◌}
use Rattle.logic_core.specs.Normal.{normal}
use Rattle.logic_core.specs.Subterm.{occurs, replaced}
use Rattle.proof_core.specs.Proof.{Step, by_replace, by_back}
use Rattle.proof_core.specs.Split.{stands_in}
use Rattle.tableau_branch.specs.Branch.{Fact}
use Rattle.tableau_branch.specs.Change.{Made, emptied, changed_from, changed_each}
use Rattle.tableau_branch.specs.declared.changing.Ground.{Ground}
use Rattle.tableau_branch.specs.declared.changing.Ground.TheVariants as ground

-- whether g is another fact than that of this number, and l occurs in it
abbrev pub rewrites : ℕ → Tree → Fact → Bool
rewrites n l g = not (nat_eq n g.number) && occurs l g.term

-- on this ground, whether l is replaced in a fact, and by which node
abbrev pub picks_on : Ground → Tree → Fact → Bool
picks_on (ground.Fact n) l g = rewrites n l g
picks_on (ground.Equation n) l g = occurs l g.term
picks_on ground.Access l g = stands_in l g.term

abbrev pub node_on : Ground → Tree → Fact → Step
node_on (ground.Fact n) l g = by_replace g.number n l
node_on (ground.Equation n) l g = by_replace g.number n l
node_on ground.Access l g = by_back g.number l

module _ (defs : List Def) (ground : Ground) (l r : Tree) where
  -- the node and the normal form by which a fact is changed over these variables, None in it where l isn't replaced in the fact
  abbrev pub replaced_in : List Kind → Fact → Option (Option (Step × Tree))
  replaced_in vars f = elim (picks_on ground l f) [ false ↦ Some None | true ↦ (normal vars defs [] (replaced l r f.term) >>= λ t. Some (Some (node_on ground l f, t))) ]

  -- the facts from place k on changed, where those before it are done: l becomes r
  abbrev pub replaced_from : Made → ℕ → Option Made
  replaced_from m k = changed_from (picks_on ground l) (λ t. normal m.branch.vars defs [] (replaced l r t)) (node_on ground l) (take k m.branch.facts) (drop k m.branch.facts) (emptied m)

  abbrev pub replaced_each : Made → Option Made
  replaced_each m = changed_each (picks_on ground l) (λ t. normal m.branch.vars defs [] (replaced l r t)) (node_on ground l) m
