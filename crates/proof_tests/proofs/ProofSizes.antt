-- Sizes of proofs, computed.
use Rattle.std.specs.Prelude.{◌≡◌, refl, List, [], ◌∷◌, map as each}
use Rattle.logic_core.specs.Tree.{free, call, no_trees}
use Rattle.proof_core.specs.Proof.{Step, by_split, by_replace, by_unfold, Proof, proof, by_close, by_cases, by_condition, by_past, no_proofs, one_proof, proof_nodes}

-- so many steps, and a close
abbrev close : List Step → Proof
close ss = proof ss (by_close 0 1)

abbrev step : Step
step = by_split 0

-- two steps, and a split with a close after no step, one step and three steps
abbrev three_cases : Proof
three_cases = proof (by_unfold 0 (call 0 no_trees) ∷ by_replace 1 2 (free 0) ∷ [])
    (by_cases 1 (close []) (one_proof (close (step ∷ [])) (one_proof (close (step ∷ step ∷ step ∷ [])) no_proofs)))

-- each step and each end is a node
sizes : each proof_nodes (close [] ∷ close (step ∷ step ∷ step ∷ []) ∷ three_cases
    ∷ proof [] (by_condition 0 (free 0) (close (step ∷ [])) (close (step ∷ step ∷ [])))
    ∷ proof [] (by_past (free 0) (close []) (close (step ∷ [])) (close (step ∷ step ∷ []))) ∷ [])
    ≡ 1 ∷ 4 ∷ 10 ∷ 6 ∷ 7 ∷ []
sizes = refl
