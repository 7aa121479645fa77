-- Sorts of maps to maps.
use Rattle.std.proofs.Common.{◌≡◌, ℕ, zero, suc, ◌+◌, ◌-◌, ◌<◌, refl, ap, sym, ◌∙◌, arith}
use Rattle.logic_core.specs.Tree.{Kind, map}
use Rattle.proof_text.specs.TermStates.{nested}

pub nested_more : (m : ℕ) (k : Kind) → nested (m + 1) k ≡ nested m (map k)
nested_more zero k = refl
nested_more (suc m) k = let e : suc m + 1 ≡ suc (m + 1) = omega arith in ap (λ n. nested n k) e ∙ ap map (nested_more m k)

-- one map more inside, and one fewer to come
pub nested_less : (m : ℕ) (k : Kind) → 0 < m → nested (m - 1) (map k) ≡ nested m k
nested_less m k l = let e : m - 1 + 1 ≡ m = omega arith in sym (nested_more (m - 1) k) ∙ ap (λ n. nested n k) e

pub nested_none : (m : ℕ) (k : Kind) → m ≡ 0 → nested m k ≡ k
nested_none m k e = ap (λ n. nested n k) e
