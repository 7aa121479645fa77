-- The sort of a Read.
use Rattle.std.specs.Prelude.{◌≡◌, refl, Bool, true, false, ◌&&◌, Option, Some, None}
use Rattle.std.proofs.Common.{sym}
use Rattle.logic_core.specs.Tree.{Kind, int}
use Rattle.logic_core.specs.Same.{same_kind, is_some_and}
use Rattle.logic_core.specs.Sorts.{is, range, read_sort}
use Rattle.logic_core.specs.Wide.{◌>>=◌, when}
use Rattle.logic_core.proofs.Booleans.{and_true, and_false}

-- it is k where the map holds k, and the index is an integer
pub read_is : (k : Kind) (m i : Option Kind) → is k (read_sort m i) ≡ (is_some_and m (λ s. is k (range s)) && is int i)
read_is k None i = refl
read_is k (Some s) i = held (range s)
  where
    fits : (r : Kind) (b : Bool) → is k (when b (Some r)) ≡ (same_kind r k && b)
    fits r true = sym (and_true (same_kind r k))
    fits r false = sym (and_false (same_kind r k))

    held : (o : Option Kind) → is k (o >>= λ r. when (is int i) (Some r)) ≡ (is k o && is int i)
    held None = refl
    held (Some r) = fits r (is int i)
