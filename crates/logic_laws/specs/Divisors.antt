-- Divisors, and the greatest common divisor of a sum's coefficients.
use Rattle.std.specs.Prelude.{◌≡◌, ℕ, ◌*◌, ℤ, pos, ◌*ℤ◌}
use Rattle.logic_core.specs.Tree.{Parts, no_parts, part}
use Rattle.logic_core.specs.Tighten.{parts_gcd}

-- d divides n
abbrev pub Divides : ℕ → ℕ → Type 0
Divides d n = (q : ℕ) × (n ≡ d * q)

-- the natural number g divides the integer k
abbrev pub DividesInt : ℕ → ℤ → Type 0
DividesInt g k = (q : ℤ) × (k ≡ pos g *ℤ q)

-- and each coefficient
abbrev pub DividesParts : ℕ → Parts → Type 0
DividesParts g no_parts = Unit {0}
DividesParts g (part k t ps) = DividesInt g k × DividesParts g ps

-- it divides each coefficient, and what divides each of them divides it
abbrev pub PartsGcdIsGreatest : Type 0
PartsGcdIsGreatest = (ps : Parts) → DividesParts (parts_gcd ps) ps × ((d : ℕ) → DividesParts d ps → Divides d (parts_gcd ps))
