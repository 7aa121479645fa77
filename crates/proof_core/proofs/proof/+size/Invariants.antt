use Rattle.std.proofs.Common.{◌≡◌, ◌+◌, ◌-◌, ◌*◌, ◌^◌, ◌≤◌, drop}
use Rattle.logic_core.specs.Size.{capped}
use Rattle.proof_core.specs.Proof.{proof_nodes, end_nodes, proofs_nodes}
use Rattle.proof_core.specs.View.{proofs_of}
use Rattle.proof_core.specs.ProofView.{end_of}
use Rattle.proof_core.proofs.proof.+size.Given as goal

abbrev pub decreases-Proof::size : goal.decreases-Proof::size
decreases-Proof::size l = 3 * proof_nodes l.self.now + 1

abbrev pub decreases-End::size : goal.decreases-End::size
decreases-End::size l = 3 * end_nodes (end_of l.self.now)

abbrev pub decreases-proofs_size : goal.decreases-proofs_size
decreases-proofs_size l = 3 * proofs_nodes (proofs_of l.proofs.now) + 2

-- the nodes so far and those of what is left are those of all
abbrev pub invariant-proofs_size-loop-proof : goal.invariant-proofs_size-loop-proof
invariant-proofs_size-loop-proof l = record {
  sum : capped (l.total + proofs_nodes (proofs_of (drop l.proof-index l.proofs))) ≡ capped (proofs_nodes (proofs_of l.proofs));
  less : 3 * proofs_nodes (proofs_of (drop l.proof-index l.proofs)) ≤ 3 * proofs_nodes (proofs_of l.proofs);
  fits : l.total ≤ 2 ^ 64 - 1;
}
