-- Lists made item by item.
use Rattle.std.proofs.Common.{◌≡◌, refl, ap, List, [], ◌∷◌}
use Rattle.logic_core.specs.Tree.{Tree}
use Rattle.logic_core.specs.Before.{before}

-- in front of nothing
pub list_before_none : (ts : List Tree) → before (λ t us. t ∷ us) ts [] ≡ ts
list_before_none [] = refl
list_before_none (t ∷ ts) = ap (λ us. t ∷ us) (list_before_none ts)
