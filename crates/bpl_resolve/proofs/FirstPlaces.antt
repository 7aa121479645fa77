-- A name stands first at a place within the list.
use Rattle.std.proofs.Common.{◌≡◌, refl, ℕ, suc, ◌<◌, arith, Bool, true, false, List, [], ◌∷◌, length, Option, Some, None}
use Rattle.std.specs.Prelude.{bytes_eq, cond, option_map}
use Rattle.bpl_scopes.specs.Positions.{first_at}
use Rattle.bpl_scopes.specs.Scopes.{Text}

pub first_within : (n : Text) (os : List Text) (k : ℕ) → first_at n os ≡ Some k → k < length os
first_within n [] k e = cc
first_within n (o ∷ os) k e = by (bytes_eq n o) (first_at n os) (λ j q. first_within n os j q) e
  where
    by : (r : Bool) (f : Option ℕ) → ((j : ℕ) → f ≡ Some j → j < length os) → cond r (Some 0) (option_map suc f) ≡ Some k → k < length (o ∷ os)
    by true f h z = let u : 0 ≡ k = cc in omega (arith, u)
    by false None h z = cc
    by false (Some j) h z = let u : suc j ≡ k = cc in let v = h j refl in omega (arith, u, v)
