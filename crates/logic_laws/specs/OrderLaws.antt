-- The order of terms is total.
use Rattle.std.specs.Prelude.{◌≡◌, ◌↔◌}
use Rattle.std.specs.Cmp.{IsTotalOrder}
use Rattle.std.specs.declared.cmp.Ordering.TheVariants.{Equal}
use Rattle.logic_core.specs.Tree.{Tree}
use Rattle.logic_core.specs.Order.{order}

-- turned round it answers the reverse, it is transitive, and exactly equal terms are equal in it
abbrev pub OrderIsTotal : Type 0
OrderIsTotal = IsTotalOrder order × ((x y : Tree) → order x y ≡ Equal ↔ x ≡ y)
