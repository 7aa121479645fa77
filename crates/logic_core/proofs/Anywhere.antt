-- A test on some item of a list.
use Rattle.std.proofs.Common.{◌≡◌, refl, ◌||◌, Bool, true, List, ◌++◌}
use Rattle.std.specs.List.{list_any}
use Rattle.std.proofs.lemmas.List.Folds.{list_any-append}
use Rattle.logic_terms.specs.Tree.{Tree, num, truth, free, bound, linear, mul, read, write, choose, call, negation, all, some, equal, at_most, for_all, exists}
use Rattle.logic_core.specs.Subterm.{outside}

pub any_append : {X : Type 0} (p : X → Bool) (xs ys : List X) → list_any p (xs ++ ys) ≡ (list_any p xs || list_any p ys)
any_append p xs ys = list_any-append p xs ys

-- a term is the first of those that stand in it outside quantifiers
pub picked_outside : (p : Tree → Bool) (t : Tree) → p t ≡ true → list_any p (outside t) ≡ true
picked_outside p (num n) h = rw h refl
picked_outside p (truth b) h = rw h refl
picked_outside p (free v) h = rw h refl
picked_outside p (bound v) h = rw h refl
picked_outside p (linear ps c) h = rw h refl
picked_outside p (mul x y) h = rw h refl
picked_outside p (read x y) h = rw h refl
picked_outside p (write x y z) h = rw h refl
picked_outside p (choose x y z) h = rw h refl
picked_outside p (call f ts) h = rw h refl
picked_outside p (negation x) h = rw h refl
picked_outside p (all ts) h = rw h refl
picked_outside p (some ts) h = rw h refl
picked_outside p (equal x y) h = rw h refl
picked_outside p (at_most x y) h = rw h refl
picked_outside p (for_all ss ps t) h = rw h refl
picked_outside p (exists ss ps t) h = rw h refl
