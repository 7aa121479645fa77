-- Lines that are the same once they are ended.
use Rattle.std.proofs.Common.{◌≡◌, ℕ, List, [], ◌∷◌}
use Rattle.bv_base.specs.Text.{ended}

pub same_line : (xs ys : List ℕ) → ended xs ≡ ended ys → xs ≡ ys
same_line [] [] e = cc
same_line [] (y ∷ []) e = absurd (cc)
same_line [] (y ∷ z ∷ ys) e = absurd (cc)
same_line (x ∷ []) [] e = absurd (cc)
same_line (x ∷ w ∷ xs) [] e = absurd (cc)
same_line (x ∷ xs) (y ∷ ys) e =
    let rest : xs ≡ ys = same_line xs ys (cc) in
    let first : x ≡ y = cc in
    cc
