-- The limit on kept answers.
use Rattle.std.specs.Prelude.{ℕ}

-- the keys of kept answers that are absent have so many bytes together at most
abbrev pub absent_limit : ℕ
absent_limit = 67_108_864
