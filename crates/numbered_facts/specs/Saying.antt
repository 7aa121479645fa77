-- Atoms of sums over numbers, and terms by their coefficients.
use Rattle.std.specs.Prelude.{ℕ, ℤ, pos, negsuc, nat_eq, cond, Option, Some, None, List, [], ◌∷◌, if◌then◌else◌}
use Rattle.std.specs.Ordering.{int_eq}
use Rattle.logic_core.specs.Tree.{Tree, num}
use Rattle.logic_core.specs.Same.{same_term}
use Rattle.logic_core.specs.Sum.{affine}

-- the coefficient of a number
abbrev pub coefficient_of : ℕ → List (ℤ × ℕ) → Option ℤ
coefficient_of i [] = None
coefficient_of i (p ∷ ps) = cond (nat_eq i p.1) (Some p.0) (coefficient_of i ps)

-- the atoms but for the first of this number
abbrev pub without : ℕ → List (ℤ × ℕ) → List (ℤ × ℕ)
without i [] = []
without i (p ∷ ps) = cond (nat_eq i p.1) ps (p ∷ without i ps)

-- the term to which `k * t + rest = 0` makes t equal, where k is 1 or -1
abbrev pub solved_by : ℤ → Tree → Option Tree
solved_by k rest = if int_eq k (pos 1) then affine (negsuc 0) rest (pos 0) else (if int_eq k (negsuc 0) then Some rest else None)

-- the term to which `d = 0` makes t equal, where d is no sum
abbrev pub solved_alone : Tree → Tree → Option Tree
solved_alone d t = if same_term t d then Some (num (pos 0)) else None
