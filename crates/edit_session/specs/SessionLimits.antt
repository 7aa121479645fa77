-- How much of its input a session takes.
use Rattle.std.specs.Prelude.{ℕ}

-- so many bytes at most
abbrev pub session_total : ℕ
session_total = 4_294_967_296
