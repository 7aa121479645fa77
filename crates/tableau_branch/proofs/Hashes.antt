-- Terms of two hashes.
use Rattle.std.specs.Prelude.{◌≡◌, ◌≢◌, ℕ, Bool, true, false, refl}
use Rattle.std.proofs.Common.{ap, sym, ◌∙◌}
use Rattle.logic_core.specs.Tree.{Tree}
use Rattle.logic_core.specs.Same.{same_term}
use Rattle.logic_core.proofs.SameTerm.{same_is_equal}
use Rattle.term_bank.specs.Hash.{hash_of}

-- they are never the same
pub other_hash : (t u : Tree) (m n : ℕ) → m ≡ hash_of t → n ≡ hash_of u → m ≢ n → same_term t u ≡ false
other_hash t u m n of_t of_u other = at_answer (same_term t u) refl
  where
    at_answer : (b : Bool) → same_term t u ≡ b → b ≡ false
    at_answer true e = let same : m ≡ n = of_t ∙ ap hash_of (same_is_equal t u e) ∙ sym of_u in absurd (other same)
    at_answer false e = refl
