-- The rule differ once the new variable is there.
use Rattle.std.specs.Prelude.{ℕ, Option, Some, List}
use Rattle.logic_core.specs.Tree.{Tree, free, read, negation, equal}
use Rattle.logic_core.specs.Def.{Def}
use Rattle.logic_core.specs.Wide.{◌>>=◌}
use Rattle.proof_core.specs.Proof.{by_differ}
use Rattle.tableau_branch.specs.Branch.{Branch, At, normal_in}
use Rattle.tableau_branch.specs.Move.{Move}
use Rattle.tableau_branch.specs.OneBranch.{changing}

-- the maps hold different values at the variable of this number
abbrev pub reads_differ : Tree × Tree → ℕ → Tree
reads_differ p n = negation (equal (read p.0 (free n)) (read p.1 (free n)))

abbrev pub differ_over : List Def → Branch → At (Tree × Tree) → ℕ → Option Move
differ_over defs b a n = normal_in defs b (reads_differ a.what n) >>= λ t. Some (changing a.at (by_differ (a.fact).number) t b)
