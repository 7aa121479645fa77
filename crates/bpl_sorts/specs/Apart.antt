-- The sort by which a type is told apart: carriers of the k-th user type, from 0, are read as one map more than k, one in another, over the truth values.
use Rattle.std.specs.Prelude.{ℕ, zero, suc}
use Rattle.logic_core.specs.Tree.{Kind, int, boolean, map}
use Rattle.bpl_sorts.specs.Types.{Ty, integers, truths, carriers, maps}

abbrev pub deep : ℕ → Kind
deep zero = boolean
deep (suc k) = map (deep k)

abbrev pub apart : Ty → Kind
apart integers = int
apart truths = boolean
apart (carriers k) = deep (suc k)
apart (maps t) = map (apart t)
