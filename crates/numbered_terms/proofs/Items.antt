-- Items of lists of numbers that are below a number.
use Rattle.std.proofs.Common.{◌≡◌, sym, subst, ℕ, ℤ, Vec, zero, suc, ◌+◌, ◌<◌, ◌≤◌, List, [], ◌∷◌, length, take, get_or, arith}
use Rattle.std.specs.List.{AllByRecursion}
use Rattle.std.specs.declared.alloc.Global.{Global}
use Rattle.std.proofs.lemmas.List.{take_more, take_all}
use Rattle.logic_core.proofs.Mentioned.{all_left, all_right}
use Rattle.logic_core.proofs.EachOf.{every_append}
use Rattle.term_bank.specs.Node.{in_lists}
use Rattle.numbered_terms.specs.Lists.{AtomsBelow}

pub item_at : (P : ℕ → Type 0) (xs : List ℕ) (i d : ℕ) → AllByRecursion P xs → i < length xs → P (get_or xs i d)
item_at P [] i d h l = absurd (omega (arith, l))
item_at P (x ∷ xs) zero d h l = h.0
item_at P (x ∷ xs) (suc i) d h l = item_at P xs i d h.1 (omega (arith, l))

pub item_below : (n : ℕ) (xs : List ℕ) (i x : ℕ) → AllByRecursion (λ j. j < n) xs → i < length xs → x ≡ get_or xs i x → x < n
item_below n xs i x h l e = subst (λ y. y < n) (sym e) (item_at (λ j. j < n) xs i x h l)

pub atom_at : (n : ℕ) (ps : List (ℤ × ℕ)) (i : ℕ) (d : ℤ × ℕ) → AtomsBelow n ps → i < length ps → (get_or ps i d).1 < n
atom_at n [] i d h l = absurd (omega (arith, l))
atom_at n (p ∷ ps) zero d h l = h.0
atom_at n (p ∷ ps) (suc i) d h l = atom_at n ps i d h.1 (omega (arith, l))

pub atom_below : (n : ℕ) (ps : List (ℤ × ℕ)) (i : ℕ) (p : ℤ × ℕ) → AtomsBelow n ps → i < length ps → p ≡ get_or ps i p → p.1 < n
atom_below n ps i p h l e = subst (λ (q : ℤ × ℕ). q.1 < n) (sym e) (atom_at n ps i p h l)

pub row_at : (n : ℕ) (ws : List (Vec ℕ Global)) (i : ℕ) (d : Vec ℕ Global) → AllByRecursion (λ j. j < n) (in_lists ws) → i < length ws → AllByRecursion (λ j. j < n) (get_or ws i d).items
row_at n [] i d h l = absurd (omega (arith, l))
row_at n (w ∷ ws) zero d h l = all_left (λ j. j < n) w.items (in_lists ws) h
row_at n (w ∷ ws) (suc i) d h l = row_at n ws i d (all_right (λ j. j < n) w.items (in_lists ws) h) (omega (arith, l))

pub row_below : (n : ℕ) (ws : List (Vec ℕ Global)) (i : ℕ) (w : Vec ℕ Global) → AllByRecursion (λ j. j < n) (in_lists ws) → i < length ws → w ≡ get_or ws i w → AllByRecursion (λ j. j < n) w.items
row_below n ws i w h l e = subst (λ (v : Vec ℕ Global). AllByRecursion (λ j. j < n) v.items) (sym e) (row_at n ws i w h l)

-- below a lower number is below a higher one
pub all_lower : (m n : ℕ) (xs : List ℕ) → m ≤ n → AllByRecursion (λ j. j < m) xs → AllByRecursion (λ j. j < n) xs
all_lower m n [] l h = tt
all_lower m n (x ∷ xs) l h = (omega (arith, l, h.0), all_lower m n xs l h.1)

-- what holds of the items so far, and of one more
pub one_more : (P : ℕ → Type 0) (xs : List ℕ) (i x : ℕ) → i < length xs → x ≡ get_or xs i x → AllByRecursion P (take i xs) → P x → AllByRecursion P (take (i + 1) xs)
one_more P xs i x l e h p = subst (AllByRecursion P) (sym (take_more xs i x l)) (every_append P (take i xs) (get_or xs i x ∷ []) h (subst P e p, tt))

-- and at the end
pub all_done : (P : ℕ → Type 0) (xs : List ℕ) (i : ℕ) → length xs ≤ i → AllByRecursion P (take i xs) → AllByRecursion P xs
all_done P xs i l h = subst (AllByRecursion P) (take_all i xs l) h
