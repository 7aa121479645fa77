-- What the code of the rules gives: a pair of facts that closes, and seen calls and marks that are rewritten.
use Rattle.std.specs.Prelude.{ℕ, Option, Some, None, List, []}
use Rattle.logic_core.specs.Tree.{Kind, Tree}
use Rattle.logic_core.specs.Def.{Def}
use Rattle.logic_core.specs.Wide.{◌>>=◌}
use Rattle.tableau_branch.specs.Branch as branch
use Rattle.tableau_branch.specs.Change as change
use Rattle.tableau_branch.specs.Move as move
use Rattle.proof_core.specs.Proof.{by_replace}
use Rattle.tableau_branch.specs.Replacing.{rewrites}
use Rattle.logic_rules.specs.Rewriting.{rewritten, rewritten_within, rewritten_mark, with_calls_and_marks}

-- a close by facts of these numbers, where there is one
abbrev pub close_of : Option (ℕ × ℕ) → branch.Attempt move.Move
close_of None = branch.none
close_of (Some p) = branch.gives (record { ending = move.closes p.0 p.1; made = [] })

-- the facts rewritten by the fact f
abbrev pub facts_rewritten : List Def → branch.Fact → Tree → Tree → change.Made → Option change.Made
facts_rewritten defs f l r m = change.changed_each (rewrites f.number l) (rewritten defs m.branch l r) (λ g. by_replace g.number f.number l) m

-- the seen calls and the marks rewritten, over these variables
module _ (defs : List Def) (l r : Tree) where
  abbrev pub bare : List Kind → branch.Branch
  bare vars = record { facts = []; calls = []; marks = []; vars = vars; next = 0 }

  abbrev pub rest_over : List Kind → List Tree → List branch.Mark → change.Made → Option change.Made
  rest_over vars calls marks m = branch.each (rewritten_within defs (bare vars) l r) calls >>= λ ts. branch.each (rewritten_mark defs (bare vars) l r) marks >>= λ ns. Some (with_calls_and_marks ts ns m)

  abbrev pub rest_rewritten : change.Made → Option change.Made
  rest_rewritten m = rest_over m.branch.vars m.branch.calls m.branch.marks m
