-- The numbers of a list that stand in a falling one, sorted and each once, are those of the falling one, turned round, that stand in the list.
use Rattle.std.specs.Prelude.{◌≡◌, refl, ℕ, ◌<◌, ◌≤◌, eqb, Bool, true, false, cond, List, [], ◌∷◌, ◌++◌, filter, reverse, Contains, ◌==◌}
use Rattle.std.specs.List.{AllByRecursion, dedup, list_any}
use Rattle.std.specs.List.Sorted.{IsPermutation, IsSorted, IsStrictlySortedBy}
use Rattle.std.specs.Ordering.{nat_cmp}
use Rattle.std.specs.Cmp.{nat_cmp_is}
use Rattle.std.specs.declared.cmp.Ordering.TheVariants.{Less, Equal, Greater}
use Rattle.std.proofs.Common.{arith, ◌∙◌}
use Rattle.std.proofs.lemmas.Bool.{cases_order}
use Rattle.std.proofs.lemmas.List.{reverse-append}
use Rattle.std.proofs.lemmas.List.Kept.{Contains-dedup_nat, Contains-from_dedup}
use Rattle.std.proofs.lemmas.List.Sorted.{Contains-permutation, IsPermutation-sym}
use Rattle.std.proofs.lemmas.Map.Keys.{IsStrictlyIncreasing-dedup, sorted_from_strictly_increasing}
use mathlib.Core.Path.{subst, sym}
use mathlib.Core.Logic.{inl, inr}
use Rattle.block_wp.specs.Numbers.{Falling}
use Rattle.block_wp.proofs.Junctions.{In}
use Rattle.block_wp.proofs.Reaching.{is_among, contained}
use Rattle.block_wp.proofs.Breaks.{in_reverse, in_filter}
use Rattle.block_wp.proofs.EquationsSorted.{from_among, to_contains, out_reverse}

-- each number is below those after it
abbrev Rising : List ℕ → Type 0
Rising [] = Unit {0}
Rising (x ∷ xs) = AllByRecursion (λ y. x < y) xs × Rising xs

above_all : (x y : ℕ) (xs : List ℕ) → AllByRecursion (λ z. x < z) xs → In y xs → x < y
above_all x y [] h there = absurd there
above_all x y (z ∷ xs) h (inl e) = omega (h.0, e, arith)
above_all x y (z ∷ xs) h (inr there) = above_all x y xs h.1 there

-- rising lists of the same numbers are equal
at_least : (x y : ℕ) (ys : List ℕ) → AllByRecursion (λ z. y < z) ys → In x (y ∷ ys) → y ≤ x
at_least x y ys h (inl e) = omega (e, arith)
at_least x y ys h (inr there) = let k : y < x = above_all y x ys h there in omega (k, arith)

only_rest : (x y z : ℕ) (xs ys : List ℕ) → x ≡ y → AllByRecursion (λ w. x < w) xs → In z xs → In z (y ∷ ys) → In z ys
only_rest x y z xs ys same h there (inl e) = let k : x < z = above_all x z xs h there in absurd (omega (k, e, same, arith))
only_rest x y z xs ys same h there (inr rest) = rest

same_rising : (xs ys : List ℕ) → Rising xs → Rising ys → ((x : ℕ) → In x xs → In x ys) → ((x : ℕ) → In x ys → In x xs) → xs ≡ ys
same_rising [] [] r s f g = refl
same_rising [] (y ∷ ys) r s f g = absurd (g y (inl refl))
same_rising (x ∷ xs) [] r s f g = absurd (f x (inl refl))
same_rising (x ∷ xs) (y ∷ ys) r s f g =
    let low = at_least x y ys s.0 (f x (inl refl)) in
    let high = at_least y x xs r.0 (g y (inl refl)) in
    let first : x ≡ y = omega (low, high, arith) in
    let rest : xs ≡ ys = same_rising xs ys r.1 s.1 (λ z h. only_rest x y z xs ys first r.0 h (f z (inr h))) (λ z h. only_rest y x z ys xs (sym first) s.0 h (g z (inr h))) in
    λ j. first j ∷ rest j

-- a falling list turned round rises, and so does what passes of a rising one
all_push : (y : ℕ) (xs : List ℕ) (x : ℕ) → AllByRecursion (λ z. y < z) xs → y < x → AllByRecursion (λ z. y < z) (xs ++ x ∷ [])
all_push y [] x h k = (k, tt)
all_push y (z ∷ xs) x h k = (h.0, all_push y xs x h.1 k)

rising_push : (xs : List ℕ) (x : ℕ) → Rising xs → AllByRecursion (λ y. y < x) xs → Rising (xs ++ x ∷ [])
rising_push [] x r h = (tt, tt)
rising_push (y ∷ xs) x r h = (all_push y xs x r.0 h.0, rising_push xs x r.1 h.1)

each_below : (x : ℕ) (xs : List ℕ) → ((y : ℕ) → In y xs → y < x) → AllByRecursion (λ y. y < x) xs
each_below x [] f = tt
each_below x (y ∷ xs) f = (f y (inl refl), each_below x xs (λ z h. f z (inr h)))

below_of : (x y : ℕ) (xs : List ℕ) → AllByRecursion (λ z. z < x) xs → In y xs → y < x
below_of x y [] h there = absurd there
below_of x y (z ∷ xs) h (inl e) = omega (h.0, e, arith)
below_of x y (z ∷ xs) h (inr there) = below_of x y xs h.1 there

turned_rises : (xs : List ℕ) → Falling xs → Rising (reverse xs)
turned_rises [] h = tt
turned_rises (x ∷ xs) h = subst Rising (sym (reverse-append (x ∷ []) xs)) (rising_push (reverse xs) x (turned_rises xs h.1) (each_below x (reverse xs) (λ y there. below_of x y xs h.0 (out_reverse y xs there))))

all_filter : (p : ℕ → Bool) (x : ℕ) (xs : List ℕ) → AllByRecursion (λ y. x < y) xs → AllByRecursion (λ y. x < y) (filter p xs)
all_filter p x [] h = tt
all_filter p x (y ∷ xs) h = by_test (p y) (all_filter p x xs h.1)
  where
    by_test : (t : Bool) → AllByRecursion (λ y. x < y) (filter p xs) → AllByRecursion (λ y. x < y) (cond t (y ∷ filter p xs) (filter p xs))
    by_test true k = (h.0, k)
    by_test false k = k

rising_filter : (p : ℕ → Bool) (xs : List ℕ) → Rising xs → Rising (filter p xs)
rising_filter p [] r = tt
rising_filter p (x ∷ xs) r = by_test (p x) (rising_filter p xs r.1)
  where
    by_test : (t : Bool) → Rising (filter p xs) → Rising (cond t (x ∷ filter p xs) (filter p xs))
    by_test true k = (all_filter p x xs r.0, k)
    by_test false k = k

out_filter : (p : ℕ → Bool) (x : ℕ) (xs : List ℕ) → In x (filter p xs) → In x xs × (p x ≡ true)
out_filter p x [] h = absurd h
out_filter p x (y ∷ xs) h = by_test (p y) refl h (out_filter p x xs)
  where
    by_test : (t : Bool) → p y ≡ t → In x (cond t (y ∷ filter p xs) (filter p xs)) → (In x (filter p xs) → In x xs × (p x ≡ true)) → In x (y ∷ xs) × (p x ≡ true)
    by_test true e (inl same) f = (inl same, subst (λ z. p z ≡ true) same e)
    by_test true e (inr k) f = let r = f k in (inr r.0, r.1)
    by_test false e k f = let r = f k in (inr r.0, r.1)

-- increasing numbers rise
less_from : (x y : ℕ) → nat_cmp x y ≡ Less → x < y
less_from x y e = elim (cases_order x y) [
  | inl same ↦ absurd (let q : Equal ≡ nat_cmp x y = nat_cmp_is x y Equal same in let d : Equal ≡ Less = q ∙ e in cc)
  | inr (inl less) ↦ less
  | inr (inr more) ↦ absurd (let q : Greater ≡ nat_cmp x y = nat_cmp_is x y Greater more in let d : Greater ≡ Less = q ∙ e in cc)
]

all_above : (x : ℕ) (xs : List ℕ) → AllByRecursion (λ y. nat_cmp x y ≡ Less) xs → AllByRecursion (λ y. x < y) xs
all_above x [] h = tt
all_above x (y ∷ xs) h = (less_from x y h.0, all_above x xs h.1)

from_sorted : (xs : List ℕ) → IsStrictlySortedBy nat_cmp xs → Rising xs
unfolding IsStrictlySortedBy
from_sorted [] h = tt
from_sorted (x ∷ xs) h = (all_above x xs h.0, from_sorted xs h.1)

to_in : (x : ℕ) (xs : List ℕ) → Contains xs x → In x xs
to_in x xs c = contained xs x c.0 c.1 c.2

pub sorted_once : (blocks next those sorted : List ℕ) → Falling blocks → those ≡ filter (λ x. list_any (λ y. y == x) blocks) next → IsPermutation those sorted → IsSorted nat_cmp sorted → dedup eqb sorted ≡ filter (λ x. list_any (λ y. y == x) next) (reverse blocks)
sorted_once blocks next those sorted falls is perm rises = same_rising (dedup eqb sorted) (filter (λ x. list_any (λ y. y == x) next) (reverse blocks)) (from_sorted (dedup eqb sorted) (sorted_from_strictly_increasing (dedup eqb sorted) (IsStrictlyIncreasing-dedup sorted rises))) (rising_filter (λ x. list_any (λ y. y == x) next) (reverse blocks) (turned_rises blocks falls)) there back
  where
    there : (x : ℕ) → In x (dedup eqb sorted) → In x (filter (λ x. list_any (λ y. y == x) next) (reverse blocks))
    there x h =
        let c = Contains-from_dedup eqb sorted x (to_contains x (dedup eqb sorted) h) in
        let d = Contains-permutation sorted those x (IsPermutation-sym those sorted perm) c in
        let r = out_filter (λ x. list_any (λ y. y == x) blocks) x next (subst (In x) is (to_in x those d)) in
        in_filter (λ x. list_any (λ y. y == x) next) x (is_among next x r.0) (reverse blocks) (in_reverse x blocks (from_among x blocks r.1))

    back : (x : ℕ) → In x (filter (λ x. list_any (λ y. y == x) next) (reverse blocks)) → In x (dedup eqb sorted)
    back x h =
        let r = out_filter (λ x. list_any (λ y. y == x) next) x (reverse blocks) h in
        let mine = in_filter (λ x. list_any (λ y. y == x) blocks) x (is_among blocks x (out_reverse x blocks r.0)) next (from_among x next r.1) in
        let c = Contains-permutation those sorted x perm (to_contains x those (subst (In x) (sym is) mine)) in
        to_in x (dedup eqb sorted) (Contains-dedup_nat sorted x c)
