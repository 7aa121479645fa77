-- What is written piece by piece.
use Rattle.std.proofs.Common.{◌≡◌, ℕ, suc, ◌+◌, ◌*◌, List, ◌++◌, sym, ap, ◌∙◌, append_assoc, arith}
use Rattle.request_text.specs.Generated.{next_state, state_after, drawn, procedure_text, generate}

pub behind : (xs ys zs : List ℕ) → xs ++ (ys ++ zs) ≡ (xs ++ ys) ++ zs
behind xs ys zs = sym (append_assoc xs ys zs)

-- one piece more
pub further : (old pieces piece so_far all : List ℕ) → so_far ≡ old ++ pieces → all ≡ so_far ++ piece → all ≡ old ++ (pieces ++ piece)
further old pieces piece so_far all a b = b ∙ (ap (λ l. l ++ piece) a ∙ append_assoc old pieces piece)

-- two draws more
pub two_more : (seed k : ℕ) → state_after seed (2 * (k + 1)) ≡ next_state (next_state (state_after seed (2 * k)))
two_more seed k = let e : 2 * (k + 1) ≡ suc (suc (2 * k)) = omega arith in ap (state_after seed) e

pub one_more : (seed k : ℕ) → generate seed (k + 1) ≡ generate seed k ++ procedure_text k (drawn (next_state (state_after seed (2 * k)))) (drawn (next_state (next_state (state_after seed (2 * k)))))
one_more seed k = let e : k + 1 ≡ suc k = omega arith in ap (generate seed) e
