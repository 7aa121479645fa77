-- One map more around a sort.
use Rattle.std.proofs.Common.{◌≡◌, ap, ℕ, ◌+◌, add-one}
use Rattle.logic_core.specs.Tree.{Kind, map}
use Rattle.bpl_scopes.specs.Shape.{nested}

pub nested_more : (n : ℕ) (k : Kind) → nested (n + 1) k ≡ map (nested n k)
nested_more n k = ap (λ m. nested m k) (add-one n)
