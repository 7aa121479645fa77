-- Moves that go on on one branch: one fact is added, or changed.
use Rattle.std.specs.Prelude.{ℕ, [], ◌∷◌}
use Rattle.logic_core.specs.Tree.{Tree}
use Rattle.proof_core.specs.Proof.{Step}
use Rattle.tableau_branch.specs.Branch.{Branch}
use Rattle.tableau_branch.specs.Change.{begun, appended_one, added, changed_at}
use Rattle.tableau_branch.specs.Move.{Move, on_one}

-- the fact that the node appends is added
abbrev pub adding : Step → Tree → Branch → Move
adding s t b = let p = appended_one (s ∷ []) t (begun b) in on_one (added p.0 p.1)

-- the fact at this place becomes the one that the node appends
abbrev pub changing : ℕ → Step → Tree → Branch → Move
changing n s t b = let p = appended_one (s ∷ []) t (begun b) in on_one (changed_at n p.0 p.1)
