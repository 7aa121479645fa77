-- Chosen triggers change no term's meaning.
use Rattle.std.specs.Prelude.{◌≡◌, ◌+ℤ◌, ◌*ℤ◌, pos, int_le, ◌&&◌, ◌||◌, true, false, not, IsTrue, List, [], ◌∷◌, ◌++◌, reverse}
use Rattle.logic_core.specs.Tree.{Tree, num, truth, free, bound, linear, mul, read, write, choose, call, negation, all, some, equal, at_most, for_all, exists, Trees, no_trees, tree, Parts, no_parts, part}
use Rattle.logic_core.specs.Value.{Value, whole, flag, int_of, holds, same, look, put, are_of, at}
use Rattle.logic_core.specs.Def.{Def}
use Rattle.logic_core.specs.Meaning.{Either, If, With, WithEach, WithEvery, WithAny, WithSum}
use Rattle.logic_core.specs.Valid.{Calls}
use Rattle.quantifier_triggers.specs.Choice.{with_triggers, each_with_triggers, parts_with_triggers}

-- over two ways to call that are the same
module _ (defs : List Def) (frees : List Value) (calls calls' : Calls) (same_calls : calls ≡ calls') where
  mutual
    pub same_meaning : (t : Tree) → With frees calls t ≡ With frees calls' (with_triggers defs t)
    same_meaning (num n) = λ j b P. P (whole n)
    same_meaning (truth x) = λ j b P. P (flag x)
    same_meaning (free v) = λ j b P. P (at frees v)
    same_meaning (bound v) = λ j b P. P (at b v)
    same_meaning (linear ps c) = λ j b P. same_sum ps j b (λ n. P (whole (n +ℤ c)))
    same_meaning (mul x y) = λ j b P. same_meaning x j b (λ v. same_meaning y j b (λ w. P (whole (int_of v *ℤ int_of w))))
    same_meaning (read m i) = λ j b P. same_meaning m j b (λ v. same_meaning i j b (λ w. P (look v (int_of w))))
    same_meaning (write m i x) = λ j b P. same_meaning m j b (λ v. same_meaning i j b (λ w. same_meaning x j b (λ u. P (put v (int_of w) u))))
    same_meaning (choose c x y) = λ j b P. same_meaning c j b (λ v. If (holds v) (same_meaning x j b P) (same_meaning y j b P))
    same_meaning (call f ts) = λ j b P. same_each ts j b (λ vs. same_calls j f vs P)
    same_meaning (negation x) = λ j b P. same_meaning x j b (λ v. P (flag (not (holds v))))
    same_meaning (all ts) = λ j b P. same_every ts j b (λ h. P (flag h))
    same_meaning (some ts) = λ j b P. same_any ts j b (λ h. P (flag h))
    same_meaning (equal x y) = λ j b P. same_meaning x j b (λ v. same_meaning y j b (λ w. P (flag (same v w))))
    same_meaning (at_most x y) = λ j b P. same_meaning x j b (λ v. same_meaning y j b (λ w. P (flag (int_le (int_of v) (int_of w)))))
    same_meaning (for_all ss ps t) = λ j b P. Either ((vs : List Value) → IsTrue (are_of ss vs) → same_meaning t j (reverse vs ++ b) (λ v. IsTrue (holds v))) P
    same_meaning (exists ss ps t) = λ j b P. Either (¬ ((vs : List Value) → IsTrue (are_of ss vs) → ¬ same_meaning t j (reverse vs ++ b) (λ v. IsTrue (holds v)))) P

    pub same_each : (ts : Trees) → WithEach frees calls ts ≡ WithEach frees calls' (each_with_triggers defs ts)
    same_each no_trees = λ j b P. P []
    same_each (tree t ts) = λ j b P. same_meaning t j b (λ v. same_each ts j b (λ vs. P (v ∷ vs)))

    pub same_every : (ts : Trees) → WithEvery frees calls ts ≡ WithEvery frees calls' (each_with_triggers defs ts)
    same_every no_trees = λ j b P. P true
    same_every (tree t ts) = λ j b P. same_meaning t j b (λ v. same_every ts j b (λ h. P (holds v && h)))

    pub same_any : (ts : Trees) → WithAny frees calls ts ≡ WithAny frees calls' (each_with_triggers defs ts)
    same_any no_trees = λ j b P. P false
    same_any (tree t ts) = λ j b P. same_meaning t j b (λ v. same_any ts j b (λ h. P (holds v || h)))

    pub same_sum : (ps : Parts) → WithSum frees calls ps ≡ WithSum frees calls' (parts_with_triggers defs ps)
    same_sum no_parts = λ j b P. P (pos 0)
    same_sum (part k t ps) = λ j b P. same_meaning t j b (λ v. same_sum ps j b (λ n. P ((k *ℤ int_of v) +ℤ n)))
