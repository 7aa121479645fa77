-- A walk over a term keeps its value, where what stands for a node has the node's value, and bound variables that are left have the values that they had.
-- Here d is the depth, b and b' are the values of the bound variables before and after, q that they belong together there, g the values of the parts.
use Rattle.std.proofs.Common.{◌≡◌, ◌∙◌, refl, ℕ, ℤ, Bool, true, IsTrue, List, ◌++◌, reverse, Option, Some, None, unwrap_or}
use Rattle.std.specs.Option.{IfSome}
use Rattle.logic_core.specs.Tree.{Kind, Tree, num, truth, free, bound, linear, mul, read, write, choose, call, negation, all, some, equal, at_most, for_all, exists, Trees, no_trees, tree, Parts, no_parts, part}
use Rattle.logic_core.specs.Value.{Value, holds, are_of, at}
use Rattle.logic_core.specs.Meaning.{Holds}
use Rattle.logic_core.specs.Valid.{Calls}
use Rattle.logic_core.specs.Traversed.{traversed, traversed_each, traversed_parts, traversed_patterns, kept}
use Rattle.logic_core.proofs.Values.{HasOne}
use Rattle.logic_core.proofs.Kept.{Keeps, true_stable}
use Rattle.logic_laws.proofs.Gives.{decided_every, decided_some, if_map, Gives, GivesEach, GivesEvery, GivesAny, GivesSum, same_values}

module _ (frees : List Value) (calls : Calls) (has_call : (f : ℕ) (vs : List Value) → HasOne (calls f vs)) (keeps_call : (f : ℕ) (vs : List Value) → Keeps (calls f vs))
    (stands : ℕ → Tree → Option Tree) (under : ℕ → List Kind → ℕ)
    (Reach : ℕ → List Value → List Value → Type 0)
    (reach_under : (d : ℕ) (b b' : List Value) (ss : List Kind) (vs : List Value) → are_of ss vs ≡ true → Reach d b b' → Reach (under d ss) (reverse vs ++ b) (reverse vs ++ b'))
    (new_gives : (t : Tree) (d : ℕ) (b b' : List Value) (r : Value) → Reach d b b' → Gives frees calls t b r → IfSome (stands d t) (λ u. Gives frees calls u b' r))
    (bound_left : (v d : ℕ) (b b' : List Value) → Reach d b b' → stands d (bound v) ≡ None → at b v ≡ at b' v) where
  abbrev go : ℕ → Tree → Tree
  go d t = traversed stands under kept d t

  node : (t u : Tree) (d : ℕ) (b b' : List Value) (r : Value) → Reach d b b' → Gives frees calls t b r → (stands d t ≡ None → Gives frees calls u b' r) → Gives frees calls (unwrap_or (stands d t) u) b' r
  node t u d b b' r q g left = by_what (stands d t) (new_gives t d b b' r q g) left
    where
      by_what : (o : Option Tree) → IfSome o (λ x. Gives frees calls x b' r) → (o ≡ None → Gives frees calls u b' r) → Gives frees calls (unwrap_or o u) b' r
      by_what None f left = left refl
      by_what (Some x) f left = f

  holds_too : (t u : Tree) (b b' : List Value) → ((r : Value) → Gives frees calls t b r → Gives frees calls u b' r) → (Holds frees calls t b → Holds frees calls u b') × (Holds frees calls u b' → Holds frees calls t b)
  holds_too t u b b' f = same_values frees calls has_call keeps_call frees calls has_call keeps_call t u b b' f (λ v. IsTrue (holds v)) (λ v. true_stable (holds v))

  mutual
    pub traversed_gives : (t : Tree) (d : ℕ) (b b' : List Value) (r : Value) → Reach d b b' → Gives frees calls t b r → Gives frees calls (traversed stands under kept d t) b' r
    traversed_gives (num n) d b b' r q g = node (num n) (num n) d b b' r q g (λ e. g)
    traversed_gives (truth x) d b b' r q g = node (truth x) (truth x) d b b' r q g (λ e. g)
    traversed_gives (free v) d b b' r q g = node (free v) (free v) d b b' r q g (λ e. g)
    traversed_gives (bound v) d b b' r q g = node (bound v) (bound v) d b b' r q g (λ e. g ∙ bound_left v d b b' q e)
    traversed_gives (linear ps c) d b b' r q g = node (linear ps c) (linear (traversed_parts stands under kept d ps) c) d b b' r q g (λ e. (g.0, sum_left ps d b b' g.0 q g.1, g.2))
    traversed_gives (mul x y) d b b' r q g = node (mul x y) (mul (go d x) (go d y)) d b b' r q g (λ e. (g.0, g.1, traversed_gives x d b b' g.0 q g.2, traversed_gives y d b b' g.1 q g.3, g.4))
    traversed_gives (read x y) d b b' r q g = node (read x y) (read (go d x) (go d y)) d b b' r q g (λ e. (g.0, g.1, traversed_gives x d b b' g.0 q g.2, traversed_gives y d b b' g.1 q g.3, g.4))
    traversed_gives (write x y z) d b b' r q g = node (write x y z) (write (go d x) (go d y) (go d z)) d b b' r q g (λ e. (g.0, g.1, g.2, traversed_gives x d b b' g.0 q g.3, traversed_gives y d b b' g.1 q g.4, traversed_gives z d b b' g.2 q g.5, g.6))
    traversed_gives (choose x y z) d b b' r q g = node (choose x y z) (choose (go d x) (go d y) (go d z)) d b b' r q g (λ e. (g.0, traversed_gives x d b b' g.0 q g.1, if_map (holds g.0) (Gives frees calls y b r) (Gives frees calls z b r) (Gives frees calls (go d y) b' r) (Gives frees calls (go d z) b' r) (traversed_gives y d b b' r q) (traversed_gives z d b b' r q) g.2))
    traversed_gives (call f ts) d b b' r q g = node (call f ts) (call f (traversed_each stands under kept d ts)) d b b' r q g (λ e. (g.0, each_left ts d b b' g.0 q g.1, g.2))
    traversed_gives (negation x) d b b' r q g = node (negation x) (negation (go d x)) d b b' r q g (λ e. (g.0, traversed_gives x d b b' g.0 q g.1, g.2))
    traversed_gives (all ts) d b b' r q g = node (all ts) (all (traversed_each stands under kept d ts)) d b b' r q g (λ e. (g.0, every_left ts d b b' g.0 q g.1, g.2))
    traversed_gives (some ts) d b b' r q g = node (some ts) (some (traversed_each stands under kept d ts)) d b b' r q g (λ e. (g.0, any_left ts d b b' g.0 q g.1, g.2))
    traversed_gives (equal x y) d b b' r q g = node (equal x y) (equal (go d x) (go d y)) d b b' r q g (λ e. (g.0, g.1, traversed_gives x d b b' g.0 q g.2, traversed_gives y d b b' g.1 q g.3, g.4))
    traversed_gives (at_most x y) d b b' r q g = node (at_most x y) (at_most (go d x) (go d y)) d b b' r q g (λ e. (g.0, g.1, traversed_gives x d b b' g.0 q g.2, traversed_gives y d b b' g.1 q g.3, g.4))
    traversed_gives (for_all ss ps t) d b b' r q g = node (for_all ss ps t) (for_all ss (traversed_patterns stands under kept (under d ss) ps) (go (under d ss) t)) d b b' r q g (λ e. decided_every ss (λ vs. Holds frees calls t (reverse vs ++ b)) (λ vs. Holds frees calls (go (under d ss) t) (reverse vs ++ b')) r
        (λ vs h. holds_too t (go (under d ss) t) (reverse vs ++ b) (reverse vs ++ b') (λ v. traversed_gives t (under d ss) (reverse vs ++ b) (reverse vs ++ b') v (reach_under d b b' ss vs h q))) g)
    traversed_gives (exists ss ps t) d b b' r q g = node (exists ss ps t) (exists ss (traversed_patterns stands under kept (under d ss) ps) (go (under d ss) t)) d b b' r q g (λ e. decided_some ss (λ vs. Holds frees calls t (reverse vs ++ b)) (λ vs. Holds frees calls (go (under d ss) t) (reverse vs ++ b')) r
        (λ vs h. holds_too t (go (under d ss) t) (reverse vs ++ b) (reverse vs ++ b') (λ v. traversed_gives t (under d ss) (reverse vs ++ b) (reverse vs ++ b') v (reach_under d b b' ss vs h q))) g)

    each_left : (ts : Trees) (d : ℕ) (b b' : List Value) (vs : List Value) → Reach d b b' → GivesEach frees calls ts b vs → GivesEach frees calls (traversed_each stands under kept d ts) b' vs
    each_left no_trees d b b' vs q g = g
    each_left (tree t ts) d b b' vs q g = (g.0, g.1, traversed_gives t d b b' g.0 q g.2, each_left ts d b b' g.1 q g.3, g.4)

    every_left : (ts : Trees) (d : ℕ) (b b' : List Value) (h : Bool) → Reach d b b' → GivesEvery frees calls ts b h → GivesEvery frees calls (traversed_each stands under kept d ts) b' h
    every_left no_trees d b b' h q g = g
    every_left (tree t ts) d b b' h q g = (g.0, g.1, traversed_gives t d b b' g.0 q g.2, every_left ts d b b' g.1 q g.3, g.4)

    any_left : (ts : Trees) (d : ℕ) (b b' : List Value) (h : Bool) → Reach d b b' → GivesAny frees calls ts b h → GivesAny frees calls (traversed_each stands under kept d ts) b' h
    any_left no_trees d b b' h q g = g
    any_left (tree t ts) d b b' h q g = (g.0, g.1, traversed_gives t d b b' g.0 q g.2, any_left ts d b b' g.1 q g.3, g.4)

    sum_left : (ps : Parts) (d : ℕ) (b b' : List Value) (n : ℤ) → Reach d b b' → GivesSum frees calls ps b n → GivesSum frees calls (traversed_parts stands under kept d ps) b' n
    sum_left no_parts d b b' n q g = g
    sum_left (part k t ps) d b b' n q g = (g.0, g.1, traversed_gives t d b b' g.0 q g.2, sum_left ps d b b' g.1 q g.3, g.4)
