-- One more number of a range.
use Rattle.std.specs.Prelude.{◌≡◌, ℕ, zero, suc, ◌+◌, [], ◌∷◌, ◌++◌}
use Rattle.std.specs.List.{range_with_len}
use Rattle.std.proofs.Common.{arith, ap, ◌∙◌}

pub range_more : (a n : ℕ) → range_with_len a (n + 1) ≡ range_with_len a n ++ (a + n) ∷ []
range_more a zero = let e : 0 + 1 ≡ suc 0 = omega arith in let f : a ≡ a + 0 = omega arith in ap (range_with_len a) e ∙ (λ i. f i ∷ [])
range_more a (suc n) = let e : suc n + 1 ≡ suc (n + 1) = omega arith in let f : a + 1 + n ≡ a + suc n = omega arith in ap (range_with_len a) e ∙ (λ i. a ∷ (range_more (a + 1) n ∙ (λ j. range_with_len (a + 1) n ++ f j ∷ [])) i)
