use Rattle.std.proofs.Common.{◌≡◌, ◌+◌, ◌*◌, ◌≤◌, drop, map}
use Rattle.proof_core.specs.Proof.{proof_nodes, end_nodes, proofs_nodes}
use Rattle.proof_core.specs.View.{proofs_of}
use Rattle.proof_core.specs.ProofView.{end_of}
use Rattle.proof_core.specs.Context.{with_fact}
use Rattle.proof_core.specs.Verdict.{judged_each}
use Rattle.proof_check.proofs.walk.+judge.Given as goal

abbrev pub decreases-judge : goal.decreases-judge
decreases-judge l = 5 * proof_nodes l.proof.now + 1

abbrev pub decreases-judge_end : goal.decreases-judge_end
decreases-judge_end l = 5 * end_nodes (end_of l.end.now)

abbrev pub decreases-judge_cases : goal.decreases-judge_cases
decreases-judge_cases l = 5 * (proof_nodes l.first.now + proofs_nodes (proofs_of l.others.now)) + 4

abbrev pub decreases-judge_condition : goal.decreases-judge_condition
decreases-judge_condition l = 5 * (proof_nodes l.yes.now + proof_nodes l.no.now) + 4

abbrev pub decreases-judge_past : goal.decreases-judge_past
decreases-judge_past l = 5 * (proof_nodes l.below.now + proof_nodes l.same.now + proof_nodes l.above.now) + 4

abbrev pub decreases-judge_trichotomy : goal.decreases-judge_trichotomy
decreases-judge_trichotomy l = 5 * (proof_nodes l.below.now + proof_nodes l.same.now + proof_nodes l.above.now) + 4

abbrev pub decreases-judge_child : goal.decreases-judge_child
decreases-judge_child l = 5 * proof_nodes l.proof.now + 2

abbrev pub decreases-judge_signs : goal.decreases-judge_signs
decreases-judge_signs l = 5 * (proof_nodes l.below.now + proof_nodes l.same.now + proof_nodes l.above.now) + 3

abbrev pub decreases-judge_each : goal.decreases-judge_each
decreases-judge_each l = 5 * proofs_nodes (proofs_of l.proofs.now) + 3

-- what is left to judge gives what all gave
abbrev pub invariant-judge_each-loop-i : goal.invariant-judge_each-loop-i
invariant-judge_each-loop-i l = record {
  left : judged_each l.defs l.node (map (λ t. with_fact l.fn.context t) (drop l.i l.facts)) (proofs_of (drop l.i l.proofs)) ≡ judged_each l.defs l.fn.node (map (λ t. with_fact l.fn.context t) l.facts) (proofs_of l.proofs);
  same : l.context ≡ l.fn.context;
  less : proofs_nodes (proofs_of (drop l.i l.proofs)) ≤ proofs_nodes (proofs_of l.proofs);
}
