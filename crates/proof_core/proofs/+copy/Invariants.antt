use Rattle.std.proofs.Common.{◌≡◌, ◌+◌, ◌*◌, ◌≤◌, drop, take}
use Rattle.proof_core.specs.Proof.{proof_nodes, end_nodes, proofs_nodes}
use Rattle.proof_core.specs.View.{proofs_of}
use Rattle.proof_core.specs.ProofView.{end_of}
use Rattle.proof_core.proofs.+copy.Given as goal

abbrev pub decreases-proof::Proof::copy : goal.decreases-proof::Proof::copy
decreases-proof::Proof::copy l = 5 * proof_nodes l.self.now + 1

abbrev pub decreases-copy::copy_end : goal.decreases-copy::copy_end
decreases-copy::copy_end l = 5 * end_nodes (end_of l.end.now)

abbrev pub decreases-copy::copy_cases : goal.decreases-copy::copy_cases
decreases-copy::copy_cases l = 5 * (proof_nodes l.first.now + proofs_nodes (proofs_of l.others.now)) + 4

abbrev pub decreases-copy::copy_condition : goal.decreases-copy::copy_condition
decreases-copy::copy_condition l = 5 * (proof_nodes l.yes.now + proof_nodes l.no.now) + 4

abbrev pub decreases-copy::copy_past : goal.decreases-copy::copy_past
decreases-copy::copy_past l = 5 * (proof_nodes l.below.now + proof_nodes l.same.now + proof_nodes l.above.now) + 4

abbrev pub decreases-copy::copy_trichotomy : goal.decreases-copy::copy_trichotomy
decreases-copy::copy_trichotomy l = 5 * (proof_nodes l.below.now + proof_nodes l.same.now + proof_nodes l.above.now) + 4

abbrev pub decreases-copy::copy_boxed : goal.decreases-copy::copy_boxed
decreases-copy::copy_boxed l = 5 * proof_nodes l.proof.now + 2

abbrev pub decreases-copy::copy_proofs : goal.decreases-copy::copy_proofs
decreases-copy::copy_proofs l = 5 * proofs_nodes (proofs_of l.proofs.now) + 3

abbrev pub invariant-copy::copy_proofs-loop-proof : goal.invariant-copy::copy_proofs-loop-proof
invariant-copy::copy_proofs-loop-proof l = record {
  same : l.copies.items ≡ take l.proof-index l.proofs;
  less : proofs_nodes (proofs_of (drop l.proof-index l.proofs)) ≤ proofs_nodes (proofs_of l.proofs);
}
