-- Proofs: a list of steps, and then an end, which closes the branch or has a proof for each child. Facts go by their numbers.
use Rattle.std.specs.Prelude.{ℕ, ◌+◌, ℤ, List, length}
use Rattle.logic_core.specs.Tree.{Tree}

-- a node that appends facts
pub data Step : Type 0 where
  by_split : ℕ → Step
  by_instantiate : ℕ → List Tree → Step
  by_skolem : ℕ → Step
  by_replace : ℕ → ℕ → Tree → Step
  by_unfold : ℕ → Tree → Step
  by_back : ℕ → Tree → Step
  by_differ : ℕ → Step
  by_combine : ℕ → ℤ → ℕ → ℤ → Step
  by_tighten : ℕ → Step

mutual
  pub data Proof : Type 0 where
    proof : List Step → End → Proof

  -- a close of two facts, or a node with children: a split of a fact into cases, of which there is at least one, a split by a condition in two, and past and trichotomy in three
  pub data End : Type 0 where
    by_close : ℕ → ℕ → End
    by_cases : ℕ → Proof → Proofs → End
    by_condition : ℕ → Tree → Proof → Proof → End
    by_past : Tree → Proof → Proof → Proof → End
    by_trichotomy : Tree → Proof → Proof → Proof → End

  pub data Proofs : Type 0 where
    no_proofs : Proofs
    one_proof : Proof → Proofs → Proofs

-- the number of nodes: the steps and the ends
abbrev mutual
  pub proof_nodes : Proof → ℕ
  proof_nodes (proof ss e) = length ss + end_nodes e

  pub end_nodes : End → ℕ
  end_nodes (by_close f g) = 1
  end_nodes (by_cases f p ps) = proof_nodes p + proofs_nodes ps + 1
  end_nodes (by_condition f t p q) = proof_nodes p + proof_nodes q + 1
  end_nodes (by_past t p q r) = proof_nodes p + proof_nodes q + proof_nodes r + 1
  end_nodes (by_trichotomy t p q r) = proof_nodes p + proof_nodes q + proof_nodes r + 1

  pub proofs_nodes : Proofs → ℕ
  proofs_nodes no_proofs = 0
  proofs_nodes (one_proof p ps) = proof_nodes p + proofs_nodes ps
