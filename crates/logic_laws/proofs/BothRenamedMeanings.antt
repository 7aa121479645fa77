-- A renamed term means what the term means, where the new variables have the values of the old ones and the new calls are the old ones.
use Rattle.std.specs.Prelude.{◌≡◌, refl, ℕ, ◌+ℤ◌, ◌*ℤ◌, int_le, not, ◌&&◌, ◌||◌, IsTrue, List, ◌∷◌, ◌++◌, reverse}
use Rattle.logic_core.specs.Tree.{Tree, num, truth, free, bound, linear, mul, read, write, choose, call, negation, all, some, equal, at_most, for_all, exists, Trees, no_trees, tree, Parts, no_parts, part}
use Rattle.logic_core.specs.Value.{Value, whole, flag, int_of, holds, same, look, put, are_of, at}
use Rattle.logic_core.specs.Meaning.{Either, If, With, WithEach, WithEvery, WithAny, WithSum}
use Rattle.logic_core.specs.Valid.{Calls}
use Rattle.logic_core.specs.Renamed.{both_renamed, each_both_renamed, parts_both_renamed, EachHas, EachInTrees, EachInParts}

module _ (new_def new_var : ℕ → ℕ) (frees frees' : List Value) (calls calls' : Calls) (V C : ℕ → Type 0)
    (same_frees : (v : ℕ) → V v → at frees' (new_var v) ≡ at frees v) (same_calls : (f : ℕ) → C f → calls' (new_def f) ≡ calls f) where
  mutual
    pub same_meaning : (t : Tree) → EachHas V C t → With frees' calls' (both_renamed new_def new_var t) ≡ With frees calls t
    same_meaning (num n) h = refl
    same_meaning (truth x) h = refl
    same_meaning (free v) h = λ j b P. P (same_frees v h j)
    same_meaning (bound v) h = refl
    same_meaning (linear ps c) h = λ j b P. same_sum ps h j b (λ n. P (whole (n +ℤ c)))
    same_meaning (mul x y) h = λ j b P. same_meaning x h.0 j b (λ v. same_meaning y h.1 j b (λ w. P (whole (int_of v *ℤ int_of w))))
    same_meaning (read m i) h = λ j b P. same_meaning m h.0 j b (λ v. same_meaning i h.1 j b (λ w. P (look v (int_of w))))
    same_meaning (write m i x) h = λ j b P. same_meaning m h.0 j b (λ v. same_meaning i h.1 j b (λ w. same_meaning x h.2 j b (λ u. P (put v (int_of w) u))))
    same_meaning (choose c x y) h = λ j b P. same_meaning c h.0 j b (λ v. If (holds v) (same_meaning x h.1 j b P) (same_meaning y h.2 j b P))
    same_meaning (call f ts) h = λ j b P. same_each ts h.1 j b (λ vs. same_calls f h.0 j vs P)
    same_meaning (negation x) h = λ j b P. same_meaning x h j b (λ v. P (flag (not (holds v))))
    same_meaning (all ts) h = λ j b P. same_every ts h j b (λ v. P (flag v))
    same_meaning (some ts) h = λ j b P. same_any ts h j b (λ v. P (flag v))
    same_meaning (equal x y) h = λ j b P. same_meaning x h.0 j b (λ v. same_meaning y h.1 j b (λ w. P (flag (same v w))))
    same_meaning (at_most x y) h = λ j b P. same_meaning x h.0 j b (λ v. same_meaning y h.1 j b (λ w. P (flag (int_le (int_of v) (int_of w)))))
    same_meaning (for_all ss ps t) h = λ j b P. Either ((vs : List Value) → IsTrue (are_of ss vs) → same_meaning t h.1 j (reverse vs ++ b) (λ v. IsTrue (holds v))) P
    same_meaning (exists ss ps t) h = λ j b P. Either (¬ ((vs : List Value) → IsTrue (are_of ss vs) → ¬ same_meaning t h.1 j (reverse vs ++ b) (λ v. IsTrue (holds v)))) P

    same_each : (ts : Trees) → EachInTrees V C ts → WithEach frees' calls' (each_both_renamed new_def new_var ts) ≡ WithEach frees calls ts
    same_each no_trees h = refl
    same_each (tree t ts) h = λ j b P. same_meaning t h.0 j b (λ v. same_each ts h.1 j b (λ vs. P (v ∷ vs)))

    same_every : (ts : Trees) → EachInTrees V C ts → WithEvery frees' calls' (each_both_renamed new_def new_var ts) ≡ WithEvery frees calls ts
    same_every no_trees h = refl
    same_every (tree t ts) h = λ j b P. same_meaning t h.0 j b (λ v. same_every ts h.1 j b (λ u. P (holds v && u)))

    same_any : (ts : Trees) → EachInTrees V C ts → WithAny frees' calls' (each_both_renamed new_def new_var ts) ≡ WithAny frees calls ts
    same_any no_trees h = refl
    same_any (tree t ts) h = λ j b P. same_meaning t h.0 j b (λ v. same_any ts h.1 j b (λ u. P (holds v || u)))

    same_sum : (ps : Parts) → EachInParts V C ps → WithSum frees' calls' (parts_both_renamed new_def new_var ps) ≡ WithSum frees calls ps
    same_sum no_parts h = refl
    same_sum (part k t ps) h = λ j b P. same_meaning t h.0 j b (λ v. same_sum ps h.1 j b (λ n. P ((k *ℤ int_of v) +ℤ n)))
