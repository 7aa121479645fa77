-- The limits on texts.
use Rattle.std.specs.Prelude.{ℕ, ◌^◌}

-- so many brackets, operands of prefix signs, `if` expressions and ranges of map types may lie in one another
abbrev pub nestings : ℕ
nestings = 200

-- numbers end below it
abbrev pub number_end : ℕ
number_end = 2 ^ 127
