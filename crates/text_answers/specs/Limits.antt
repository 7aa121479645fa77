-- How much of its input a command takes that is no session.
use Rattle.std.specs.Prelude.{ℕ}

-- so many bytes at most
abbrev pub program_total : ℕ
program_total = 16_777_216
