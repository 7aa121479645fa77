-- Bound variables and binders of terms.
use Rattle.std.specs.Prelude.{ℕ, Option, Some, None, length}
use Rattle.logic_core.specs.Tree.{Tree, bound, for_all, exists}

-- the number of a bound variable
abbrev pub as_bound : Tree → Option ℕ
as_bound (bound v) = Some v
as_bound t = None

-- how many variables the term binds
abbrev pub binders : Tree → ℕ
binders (for_all ss ps t) = length ss
binders (exists ss ps t) = length ss
binders t = 0
