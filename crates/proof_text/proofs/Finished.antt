-- Whether a term may end.
use Rattle.std.proofs.Common.{◌≡◌, true, false, Option, None, Some, refl}
use Rattle.logic_core.specs.Tree.{Tree}
use Rattle.proof_text.specs.TermStates.{present}

pub absent : (o : Option Tree) → present o ≡ false → o ≡ None
absent None e = refl
absent (Some t) e = absurd (cc)

pub not_absent : (o : Option Tree) → present o ≡ true → None ≡ o → ⊥
not_absent None e h = cc
not_absent (Some t) e h = cc
