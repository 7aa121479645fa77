-- The tests of sorts are right.
use Rattle.std.proofs.Common.{◌≡◌, ap, subst, true, Option, Some, None}
use Rattle.logic_core.specs.Tree.{Kind}
use Rattle.logic_core.specs.Same.{same_kind}
use Rattle.logic_core.specs.Sorts.{is}
use Rattle.logic_core.proofs.SameTerm.{same_sort, self_sort}

-- the sort that the test finds is the one
pub is_sort : (k : Kind) (s : Option Kind) → is k s ≡ true → s ≡ Some k
is_sort k None h = absurd (cc)
is_sort k (Some j) h = ap Some (same_sort j k h)

pub sort_is : (k : Kind) (s : Option Kind) → s ≡ Some k → is k s ≡ true
sort_is k None h = absurd (cc)
sort_is k (Some j) h = let e : j ≡ k = cc in subst (λ i. same_kind j i ≡ true) e (self_sort j)
