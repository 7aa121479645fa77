-- When two sorts under maps are one.
use Rattle.std.proofs.Common.{◌≡◌, refl, ap, sym, ◌∙◌, ℕ, zero, suc, true, false, ◌-◌, Some, None, true≢false, arith}
use Rattle.logic_terms.specs.Tree.{Kind, int, boolean, map}
use Rattle.logic_terms.specs.Same.{same_kind}
use Rattle.logic_terms.specs.Sorts.{range}
use Rattle.bpl_scopes.specs.declared.shape.Base.{Base}
use Rattle.bpl_scopes.specs.declared.shape.Base.TheVariants.{Int, Bool as Truth}
use Rattle.bpl_scopes.specs.Shape.{nested, base_of, same_base}

same_bases : (a b : Base) → same_base a b ≡ same_kind (base_of a) (base_of b)
same_bases Int Int = refl
same_bases Int Truth = refl
same_bases Truth Int = refl
same_bases Truth Truth = refl

pub same_nested : (m n : ℕ) (a b : Base) → m ≡ n → same_kind (nested m (base_of a)) (nested n (base_of b)) ≡ same_base a b
same_nested m n a b e = ap (λ k. same_kind (nested m (base_of a)) (nested k (base_of b))) (sym e) ∙ under m a b
  where
    under : (k : ℕ) (c d : Base) → same_kind (nested k (base_of c)) (nested k (base_of d)) ≡ same_base c d
    under zero c d = sym (same_bases c d)
    under (suc k) c d = under k c d

map_is_no_base : (k : Kind) (b : Base) → same_kind (map k) (base_of b) ≡ false
map_is_no_base k Int = refl
map_is_no_base k Truth = refl

base_is_no_map : (k : Kind) (b : Base) → same_kind (base_of b) (map k) ≡ false
base_is_no_map k Int = refl
base_is_no_map k Truth = refl

pub other_nested : (m n : ℕ) (a b : Base) → (m ≡ n → ⊥) → same_kind (nested m (base_of a)) (nested n (base_of b)) ≡ false
other_nested zero zero a b h = absurd (h refl)
other_nested zero (suc n) a b h = base_is_no_map (nested n (base_of b)) a
other_nested (suc m) zero a b h = map_is_no_base (nested m (base_of a)) b
other_nested (suc m) (suc n) a b h = other_nested m n a b (λ e. h (ap suc e))

pub no_range : (m : ℕ) (b : Base) → m ≡ 0 → range (nested m (base_of b)) ≡ None
no_range zero Int e = refl
no_range zero Truth e = refl
no_range (suc m) b e = absurd (omega arith)

pub range_nested : (m : ℕ) (b : Base) → (m ≡ 0 → ⊥) → range (nested m (base_of b)) ≡ Some (nested (m - 1) (base_of b))
range_nested zero b h = absurd (h refl)
range_nested (suc m) b h = ap (λ n. Some (nested n (base_of b))) (omega arith)

-- sorts that are the same by the test are one
pub one_sort : (j k : Kind) → same_kind j k ≡ true → j ≡ k
one_sort int int e = refl
one_sort int boolean e = absurd (true≢false (sym e))
one_sort int (map k) e = absurd (true≢false (sym e))
one_sort boolean int e = absurd (true≢false (sym e))
one_sort boolean boolean e = refl
one_sort boolean (map k) e = absurd (true≢false (sym e))
one_sort (map j) int e = absurd (true≢false (sym e))
one_sort (map j) boolean e = absurd (true≢false (sym e))
one_sort (map j) (map k) e = ap map (one_sort j k e)
