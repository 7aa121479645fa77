-- What a test picks occurs, and what stands for a node replaces it as a whole.
use Rattle.std.specs.Prelude.{◌≡◌, refl, ℕ, Bool, true, Option, Some, List}
use Rattle.logic_terms.specs.Tree.{Kind, Tree, num, truth, free, bound, linear, mul, read, write, choose, call, negation, all, some, equal, at_most, for_all, exists}
use Rattle.logic_core.specs.Traversed.{traversed}
use Rattle.logic_core.specs.Subterm.{has}

module _ (picks : Tree → Bool) where
  pub picked_has : (t : Tree) → picks t ≡ true → has picks t ≡ true
  picked_has (num n) h = rw h refl
  picked_has (truth b) h = rw h refl
  picked_has (free v) h = rw h refl
  picked_has (bound v) h = rw h refl
  picked_has (linear ps c) h = rw h refl
  picked_has (mul x y) h = rw h refl
  picked_has (read x y) h = rw h refl
  picked_has (write x y z) h = rw h refl
  picked_has (choose x y z) h = rw h refl
  picked_has (call f ts) h = rw h refl
  picked_has (negation x) h = rw h refl
  picked_has (all ts) h = rw h refl
  picked_has (some ts) h = rw h refl
  picked_has (equal x y) h = rw h refl
  picked_has (at_most x y) h = rw h refl
  picked_has (for_all ss ps t) h = rw h refl
  picked_has (exists ss ps t) h = rw h refl

module _ (stands : ℕ → Tree → Option Tree) (under : ℕ → List Kind → ℕ) (number : ℕ → ℕ) where
  pub stands_whole : (d : ℕ) (t u : Tree) → stands d t ≡ Some u → traversed stands under number d t ≡ u
  stands_whole d (num n) u h = rw h refl
  stands_whole d (truth b) u h = rw h refl
  stands_whole d (free v) u h = rw h refl
  stands_whole d (bound v) u h = rw h refl
  stands_whole d (linear ps c) u h = rw h refl
  stands_whole d (mul x y) u h = rw h refl
  stands_whole d (read x y) u h = rw h refl
  stands_whole d (write x y z) u h = rw h refl
  stands_whole d (choose x y z) u h = rw h refl
  stands_whole d (call f ts) u h = rw h refl
  stands_whole d (negation x) u h = rw h refl
  stands_whole d (all ts) u h = rw h refl
  stands_whole d (some ts) u h = rw h refl
  stands_whole d (equal x y) u h = rw h refl
  stands_whole d (at_most x y) u h = rw h refl
  stands_whole d (for_all ss ps t) u h = rw h refl
  stands_whole d (exists ss ps t) u h = rw h refl
