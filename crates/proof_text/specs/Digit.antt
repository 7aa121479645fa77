-- Reading numbers digit by digit: no number but 0 begins with 0, and none leaves its type.
use Rattle.std.specs.Prelude.{ℕ, ◌+◌, ◌-◌, ◌*◌, nat_lt, ℤ, pos, negsuc, Bool, true, if◌then◌else◌, Option, None, Some}
use Rattle.logic_core.specs.Wide.{fits, ◌>>=◌, when}
use Rattle.proof_text.specs.Reading.{is_number}

-- the value of a decimal digit
abbrev pub digit : ℕ → Option ℕ
digit c = if nat_lt c 48 then None else (if nat_lt c 58 then Some (c - 48) else None)

-- the number with one more digit behind it
abbrev pub grown : ℕ → ℕ → ℕ
grown v d = 10 * v + d

abbrev pub grown_integer : ℤ → ℕ → ℤ
grown_integer (pos n) d = pos (10 * n + d)
grown_integer (negsuc n) d = negsuc (10 * n + 9 + d)

abbrev pub is_positive : ℕ → Bool
is_positive n = nat_lt 0 n

-- a number that another digit may follow
abbrev pub goes_on : ℤ → Bool
goes_on (pos n) = is_positive n
goes_on (negsuc n) = true

abbrev pub more_number : ℕ → ℕ → Option ℕ
more_number v c = digit c >>= (λ d. when (is_positive v) (when (is_number (grown v d)) (Some (grown v d))))

abbrev pub more_integer : ℤ → ℕ → Option ℤ
more_integer n c = digit c >>= (λ d. when (goes_on n) (when (fits (grown_integer n d)) (Some (grown_integer n d))))

-- the first digit behind a minus
abbrev pub first_negative : ℕ → Option ℤ
first_negative c = digit c >>= (λ d. when (is_positive d) (Some (negsuc (d - 1))))
