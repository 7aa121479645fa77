-- What steps and lists of proofs stand for.
use Rattle.std.specs.Prelude.{map, List, [], ◌∷◌}
use Rattle.proof_core.specs.Proof as tree
use Rattle.proof_core.specs.Proof.{by_split, by_instantiate, by_skolem, by_replace, by_unfold, by_back, by_differ, by_combine, by_tighten, Proofs, no_proofs, one_proof}
use Rattle.proof_core.specs.declared.proof.Step.{Step}
use Rattle.proof_core.specs.declared.proof.Step.TheVariants.{Split, Instantiate, Skolem, Replace, Unfold, Back, Differ, Combine, Tighten}

abbrev pub step_of : Step → tree.Step
step_of (Split f) = by_split f
step_of (Instantiate f ts) = by_instantiate f ts.items
step_of (Skolem f) = by_skolem f
step_of (Replace f g t) = by_replace f g t
step_of (Unfold f t) = by_unfold f t
step_of (Back f t) = by_back f t
step_of (Differ f) = by_differ f
step_of (Combine f p g q) = by_combine f p g q
step_of (Tighten f) = by_tighten f

abbrev pub steps_of : List Step → List tree.Step
steps_of ss = map step_of ss

abbrev pub proofs_of : List tree.Proof → Proofs
proofs_of [] = no_proofs
proofs_of (p ∷ ps) = one_proof p (proofs_of ps)
