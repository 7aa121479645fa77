-- The line that every goal has an accepted proof.
use Rattle.std.specs.Prelude.{ℕ, List, codes}

abbrev pub accepted_line : List ℕ
accepted_line = codes "accepted"
