-- A proof inside a proof is smaller.
use Rattle.std.specs.Prelude.{◌+◌, ◌≤◌, max, List, [], ◌∷◌, length}
use Rattle.std.proofs.Common.{arith}
use Rattle.proof_core.specs.Proof as tree
use Rattle.proof_core.specs.Proof.{proof_nodes, end_nodes, proofs_nodes}
use Rattle.proof_core.specs.View.{steps_of, proofs_of}
use Rattle.proof_core.specs.ProofView.{end_of}
use Rattle.proof_core.specs.declared.proof.Step.{Step}
use Rattle.proof_core.specs.declared.proof.End.{End}
use Rattle.proof_core.specs.declared.proof.End.TheVariants.{Close, Cases, Condition, Past, Trichotomy}
use denote.Param.Weighed.{most}
use Rattle.proof_core.specs.declared.proof.Proof.TheDeep.{deep-End}

most_proofs : (ps : List tree.Proof) → most (λ y. proof_nodes y + 1) ps ≤ proofs_nodes (proofs_of ps) + 1
most_proofs [] = omega arith
most_proofs (p ∷ ps) = omega (arith, most_proofs ps)

end_falls : (e : End) → max (deep-End e) 0 ≤ end_nodes (end_of e)
end_falls (Close f g) = omega arith
end_falls (Cases f p ps) = omega (arith, most_proofs ps.items)
end_falls (Condition f t p q) = omega arith
end_falls (Past t p q r) = omega arith
end_falls (Trichotomy t p q r) = omega arith

pub proof_falls : (ss : List Step) (e : End) → max (deep-End e) 0 ≤ length (steps_of ss) + end_nodes (end_of e)
proof_falls ss e = omega (arith, end_falls e)
