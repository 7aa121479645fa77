-- Sums over numbers as they are tightened.
use Rattle.std.specs.Prelude.{ℕ, ℤ, pos, Option, Some, None, List, [], ◌∷◌, map, unsigned_abs}
use Rattle.logic_core.specs.Tree.{Tree, linear, equal}
use Rattle.logic_core.specs.Wide.{when}
use Rattle.logic_core.specs.Sum.{Linear, constant}
use Rattle.logic_core.specs.Junction.{is_zero}
use Rattle.logic_core.specs.Tighten.{gcd, parts_gcd, floor_div, divided}

-- the greatest common divisor of the coefficients
abbrev pub atoms_gcd : List (ℤ × ℕ) → ℕ
atoms_gcd [] = 0
atoms_gcd (p ∷ ps) = gcd (atoms_gcd ps) (unsigned_abs p.0)

abbrev pub divided_atoms : ℕ → List (ℤ × ℕ) → List (ℤ × ℕ)
divided_atoms g ps = map (λ (p : ℤ × ℕ). (floor_div p.0 g, p.1)) ps

-- of a Sum's coefficients, and else 0
abbrev pub divisor_of : Tree → ℕ
divisor_of (linear ps c) = parts_gcd ps
divisor_of t = 0

-- the constant of a Sum, and else 0
abbrev pub constant_of : Tree → ℤ
constant_of (linear ps c) = c
constant_of t = pos 0

-- a Sum whose coefficients and constant are divided, and else no sum
abbrev pub quotient_of : ℕ → Tree → Linear
quotient_of g (linear ps c) = record { parts = divided g ps; rest = floor_div c g }
quotient_of g t = constant (pos 0)

-- d of Eq(d, 0)
abbrev pub equation_side : Tree → Option Tree
equation_side (equal d z) = when (is_zero z) (Some d)
equation_side t = None
