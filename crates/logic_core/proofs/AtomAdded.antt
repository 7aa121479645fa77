-- Where an atom joins the parts of a sum: past the parts before it.
use Rattle.std.proofs.Common.{◌≡◌, ◌∙◌, refl, sym, ap, ℕ, ◌+◌, ◌<◌, ◌≤◌, ℤ, Option, Some, None, option_map, List, [], ◌∷◌, ◌++◌, length, get_or, take, drop}
use Rattle.std.proofs.lemmas.List.{at_drop_more, at_drop_all, take_more}
use Rattle.std.specs.declared.cmp.Ordering.TheVariants.{Less, Equal, Greater}
use Rattle.logic_terms.specs.Tree.{Tree, Parts, no_parts, part}
use Rattle.logic_core.specs.Order.{order}
use Rattle.logic_core.specs.View.{parts_of}
use Rattle.logic_core.specs.Before.{before, part_before}
use Rattle.logic_terms.specs.Wide.{checked_add}
use Rattle.logic_core.specs.Sum.{with_part, add_atom}
use Rattle.logic_core.proofs.Made.{before_push}

-- the sum is that of the parts from the i-th on, with those before the i-th in front
abbrev pub Past : ℤ → Tree → List (ℤ × Tree) → ℕ → Type 0
Past k t xs i = add_atom k t (parts_of xs) ≡ option_map (before part_before (take i xs)) (add_atom k t (parts_of (drop i xs)))

same_option : {A : Type 0} (o : Option A) → option_map (λ a. a) o ≡ o
same_option None = refl
same_option (Some a) = refl

-- at first
pub past_none : (k : ℤ) (t : Tree) (xs : List (ℤ × Tree)) → Past k t xs 0
past_none k t xs = sym (same_option (add_atom k t (parts_of xs)))

-- the i-th part
here : (k : ℤ) (t : Tree) (xs : List (ℤ × Tree)) (i : ℕ) (x : ℤ × Tree) → i < length xs → x ≡ get_or xs i x → add_atom k t (parts_of (drop i xs)) ≡ add_atom k t (part x.0 x.1 (parts_of (drop (i + 1) xs)))
here k t xs i x within is = at_drop_more (λ ys. add_atom k t (parts_of ys)) xs i x within ∙ ap (λ y. add_atom k t (part y.0 y.1 (parts_of (drop (i + 1) xs)))) (sym is)

pushed : (ps : List (ℤ × Tree)) (p : ℤ × Tree) (o : Option Parts) → option_map (before part_before ps) (option_map (λ qs. part p.0 p.1 qs) o) ≡ option_map (before part_before (ps ++ p ∷ [])) o
pushed ps p None = refl
pushed ps p (Some qs) = ap Some (sym (before_push part_before ps p qs))

mapped : {A B C : Type 0} (f : B → C) (g : A → B) (o : Option A) → option_map f (option_map g o) ≡ option_map (λ a. f (g a)) o
mapped f g None = refl
mapped f g (Some a) = refl

-- a greater part stays in front
pub past_more : (k : ℤ) (t : Tree) (xs : List (ℤ × Tree)) (i : ℕ) (x : ℤ × Tree) → i < length xs → x ≡ get_or xs i x → Less ≡ order t x.1 → Past k t xs i → Past k t xs (i + 1)
past_more k t xs i x within is less past = past ∙ ap (option_map (before part_before (take i xs))) (here k t xs i x within is) ∙ rw (← less, add_atom) (pushed (take i xs) x (add_atom k t (parts_of (drop (i + 1) xs))) ∙ ap (λ ps. option_map (before part_before ps) (add_atom k t (parts_of (drop (i + 1) xs)))) (sym (take_more xs i x within ∙ ap (λ y. take i xs ++ y ∷ []) (sym is))))

-- an equal part joins
pub past_equal : (k : ℤ) (t : Tree) (xs : List (ℤ × Tree)) (i : ℕ) (x : ℤ × Tree) → i < length xs → x ≡ get_or xs i x → Equal ≡ order t x.1 → Past k t xs i
    → add_atom k t (parts_of xs) ≡ option_map (λ n. before part_before (take i xs) (with_part n x.1 (parts_of (drop (i + 1) xs)))) (checked_add x.0 k)
past_equal k t xs i x within is equal past = past ∙ ap (option_map (before part_before (take i xs))) (here k t xs i x within is) ∙ rw (← equal, add_atom) (mapped (before part_before (take i xs)) (λ n. with_part n x.1 (parts_of (drop (i + 1) xs))) (checked_add x.0 k))

-- before a smaller part the atom stands
pub past_greater : (k : ℤ) (t : Tree) (xs : List (ℤ × Tree)) (i : ℕ) (x : ℤ × Tree) → i < length xs → x ≡ get_or xs i x → Greater ≡ order t x.1 → Past k t xs i
    → add_atom k t (parts_of xs) ≡ Some (before part_before (take i xs) (with_part k t (parts_of (drop i xs))))
past_greater k t xs i x within is greater past =
    let joins : add_atom k t (part x.0 x.1 (parts_of (drop (i + 1) xs))) ≡ Some (with_part k t (part x.0 x.1 (parts_of (drop (i + 1) xs)))) = rw (← greater, add_atom) refl in
    let there : parts_of (drop i xs) ≡ part x.0 x.1 (parts_of (drop (i + 1) xs)) = at_drop_more parts_of xs i x within ∙ ap (λ y. part y.0 y.1 (parts_of (drop (i + 1) xs))) (sym is) in
    past ∙ rw there (ap (option_map (before part_before (take i xs))) joins)

-- and at the end
pub past_all : (k : ℤ) (t : Tree) (xs : List (ℤ × Tree)) (i : ℕ) → length xs ≤ i → Past k t xs i
    → add_atom k t (parts_of xs) ≡ Some (before part_before (take i xs) (with_part k t (parts_of (drop i xs))))
past_all k t xs i all past =
    let there : parts_of (drop i xs) ≡ no_parts = at_drop_all parts_of xs i all in
    past ∙ rw there refl
