-- The proofs that moves make, from the last one back.
use Rattle.std.specs.Prelude.{◌≡◌, refl, List, [], ◌∷◌, ◌++◌}
use Rattle.std.proofs.Common.{ap}
use Rattle.proof_core.specs.Proof.{Proof}
use Rattle.tableau_branch.specs.Move.{Played}
use Rattle.tableau.specs.Search.{joined, proofs_before}

-- the last move is the first to be joined
pub proofs_before_last : (ms : List Played) (m : Played) (ps : List Proof) → proofs_before (ms ++ m ∷ []) ps ≡ proofs_before ms (joined m ps)
proofs_before_last [] m ps = refl
proofs_before_last (n ∷ ms) m ps = ap (joined n) (proofs_before_last ms m ps)
