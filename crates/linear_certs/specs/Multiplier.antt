-- The numbers by which a linear fact may be multiplied.
use Rattle.std.specs.Prelude.{ℤ, pos, int_lt, Bool, not}
use Rattle.std.specs.Ordering.{int_eq}
use Rattle.logic_core.specs.Tree.{Tree, at_most}

-- an inequality by a positive one, and an equation by every one but zero
abbrev pub may_multiply : ℤ → Tree → Bool
may_multiply p (at_most z d) = int_lt (pos 0) p
may_multiply p t = not (int_eq p (pos 0))
