-- Parts put in, taken out and changed.
use Rattle.std.proofs.Common.{◌≡◌, ◌∙◌, refl, sym, ap, ℕ, ◌+◌, ◌<◌, suc, ℤ, pos, false, List, [], ◌∷◌, ◌++◌, length, take, drop, set, inl, inr, add-one}
use Rattle.std.proofs.lemmas.List.{take-append-drop, set_split}
use Rattle.std.proofs.lemmas.Bool.{cases_Bool}
use Rattle.std.proofs.lemmas.Bool.Decides.{Decides-int_eq}
use Rattle.std.specs.Ordering.{int_eq}
use Rattle.logic_terms.specs.Tree.{Tree, part}
use Rattle.logic_core.specs.View.{parts_of}
use Rattle.logic_core.specs.Before.{before, part_before}
use Rattle.logic_core.specs.Sum.{with_part}

pub parts_of-append : (ps qs : List (ℤ × Tree)) → parts_of (ps ++ qs) ≡ before part_before ps (parts_of qs)
parts_of-append [] qs = refl
parts_of-append (p ∷ ps) qs = ap (part p.0 p.1) (parts_of-append ps qs)

not_zero : (k : ℤ) → (k ≡ pos 0 → ⊥) → int_eq k (pos 0) ≡ false
not_zero k other = elim (cases_Bool (int_eq k (pos 0))) [ inl e ↦ absurd (other ((Decides-int_eq k (pos 0)).0 e)) | inr e ↦ e ]

-- a part whose coefficient is zero isn't put in
pub not_put : (xs : List (ℤ × Tree)) (i : ℕ) (k : ℤ) (t : Tree) → k ≡ pos 0 → parts_of xs ≡ before part_before (take i xs) (with_part k t (parts_of (drop i xs)))
not_put xs i k t zero = rw zero (ap parts_of (sym (take-append-drop i xs)) ∙ parts_of-append (take i xs) (drop i xs))

-- any other is
pub put : (xs : List (ℤ × Tree)) (i : ℕ) (k j : ℤ) (t : Tree) → (k ≡ pos 0 → ⊥) → j ≡ k → parts_of (take i xs ++ (j, t) ∷ drop i xs) ≡ before part_before (take i xs) (with_part k t (parts_of (drop i xs)))
put xs i k j t other is = rw (not_zero k other, is) (parts_of-append (take i xs) ((k, t) ∷ drop i xs))

-- a part whose coefficient becomes zero is taken out
pub taken_out : (xs : List (ℤ × Tree)) (i : ℕ) (k : ℤ) (t : Tree) → k ≡ pos 0 → parts_of (take i xs ++ drop (suc i) xs) ≡ before part_before (take i xs) (with_part k t (parts_of (drop (i + 1) xs)))
taken_out xs i k t zero = rw (zero, add-one) (parts_of-append (take i xs) (drop (suc i) xs))

-- any other is changed
pub changed : (xs : List (ℤ × Tree)) (i : ℕ) (k j : ℤ) (t : Tree) → i < length xs → (k ≡ pos 0 → ⊥) → j ≡ k → parts_of (set xs i (j, t)) ≡ before part_before (take i xs) (with_part k t (parts_of (drop (i + 1) xs)))
changed xs i k j t within other is = rw (not_zero k other, is, add-one) (ap parts_of (set_split xs i (k, t) within) ∙ parts_of-append (take i xs) ((k, t) ∷ drop (suc i) xs))
