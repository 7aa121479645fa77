use Rattle.std.proofs.Common.{◌≡◌, ◌+◌, ◌*◌, ◌≤◌, ◌++◌, drop}
use Rattle.proof_core.specs.Proof.{proof_nodes, end_nodes, proofs_nodes}
use Rattle.proof_core.specs.View.{proofs_of}
use Rattle.proof_core.specs.ProofView.{end_of}
use Rattle.proof_text.specs.Text.{children_text}
use Rattle.proof_text.proofs.writing.+write.Given as goal

abbrev pub decreases-put_proof : goal.decreases-put_proof
decreases-put_proof l = 5 * proof_nodes l.proof.now + 1

abbrev pub decreases-put_child : goal.decreases-put_child
decreases-put_child l = 5 * proof_nodes l.proof.now + 2

abbrev pub decreases-put_children : goal.decreases-put_children
decreases-put_children l = 5 * proofs_nodes (proofs_of l.proofs.now) + 3

abbrev pub decreases-put_cases : goal.decreases-put_cases
decreases-put_cases l = 5 * (proof_nodes l.first.now + proofs_nodes (proofs_of l.others.now)) + 4

abbrev pub decreases-put_condition : goal.decreases-put_condition
decreases-put_condition l = 5 * (proof_nodes l.yes.now + proof_nodes l.no.now) + 4

abbrev pub decreases-put_three_ways : goal.decreases-put_three_ways
decreases-put_three_ways l = 5 * (proof_nodes l.below.now + proof_nodes l.same.now + proof_nodes l.above.now) + 4

abbrev pub decreases-put_end : goal.decreases-put_end
decreases-put_end l = 5 * end_nodes (end_of l.end.now)

-- what is written, and then the texts of the rest, are the texts of all
abbrev pub invariant-put_children-loop-proof : goal.invariant-put_children-loop-proof
invariant-put_children-loop-proof l = record {
  same : l.out.items ++ children_text (proofs_of (drop l.proof-index l.proofs)) ≡ l.fn.out.items ++ children_text (proofs_of l.proofs);
  less : proofs_nodes (proofs_of (drop l.proof-index l.proofs)) ≤ proofs_nodes (proofs_of l.proofs);
}
