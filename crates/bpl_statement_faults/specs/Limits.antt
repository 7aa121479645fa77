-- The limit on the labels of a body.
use Rattle.std.specs.Prelude.{ℕ}

-- gotos name so many labels of a body at most
abbrev pub label_limit : ℕ
label_limit = 500
