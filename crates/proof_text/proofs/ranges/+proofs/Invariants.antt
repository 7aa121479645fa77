use Rattle.std.proofs.Common.{◌≡◌, ◌+◌, ◌*◌, ◌≤◌, drop}
use Rattle.proof_core.specs.Proof.{proof_nodes, end_nodes, proofs_nodes}
use Rattle.proof_core.specs.View.{proofs_of}
use Rattle.proof_core.specs.ProofView.{end_of}
use Rattle.proof_text.specs.Reading.{proofs_fit}
use Rattle.proof_text.proofs.ranges.+proofs.Given as goal

abbrev pub decreases-proof_fits : goal.decreases-proof_fits
decreases-proof_fits l = 3 * proof_nodes l.proof.now + 1

abbrev pub decreases-end_fits : goal.decreases-end_fits
decreases-end_fits l = 3 * end_nodes (end_of l.end.now)

abbrev pub decreases-proofs_fit : goal.decreases-proofs_fit
decreases-proofs_fit l = 3 * proofs_nodes (proofs_of l.proofs.now) + 2

abbrev pub decreases-condition_fits : goal.decreases-condition_fits
decreases-condition_fits l = 3 * (proof_nodes l.yes.now + proof_nodes l.no.now) + 2

abbrev pub decreases-three_fit : goal.decreases-three_fit
decreases-three_fit l = 3 * (proof_nodes l.below.now + proof_nodes l.same.now + proof_nodes l.above.now) + 2

-- all fit where those that are left do
abbrev pub invariant-proofs_fit-loop-proof : goal.invariant-proofs_fit-loop-proof
invariant-proofs_fit-loop-proof l = record {
  same : proofs_fit (proofs_of (drop l.proof-index l.proofs)) ≡ proofs_fit (proofs_of l.proofs);
  less : proofs_nodes (proofs_of (drop l.proof-index l.proofs)) ≤ proofs_nodes (proofs_of l.proofs);
}
