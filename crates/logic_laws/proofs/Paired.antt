-- Two lists whose elements are paired by a relation.
use Rattle.std.proofs.Common.{Option, None, ◌≡◌, refl, sym, ap, subst, ℕ, zero, suc, Some, List, [], ◌∷◌, ◌++◌, reverse, slice_get, length}
use mathlib.Core.List.{reverse-cons}

module _ {A B : Type 0} (R : A → B → Type 0) where
  abbrev pub Paired : List A → List B → Type 0
  Paired [] [] = Unit {0}
  Paired (x ∷ xs) (y ∷ ys) = R x y × Paired xs ys
  Paired [] (y ∷ ys) = ⊥
  Paired (x ∷ xs) [] = ⊥

  paired_append : (xs xs' : List A) (ys ys' : List B) → Paired xs ys → Paired xs' ys' → Paired (xs ++ xs') (ys ++ ys')
  paired_append [] xs' [] ys' p q = q
  paired_append (x ∷ xs) xs' (y ∷ ys) ys' p q = (p.0, paired_append xs xs' ys ys' p.1 q)
  paired_append [] xs' (y ∷ ys) ys' p q = absurd p
  paired_append (x ∷ xs) xs' [] ys' p q = absurd p

  pub paired_reverse : (xs : List A) (ys : List B) → Paired xs ys → Paired (reverse xs) (reverse ys)
  paired_reverse [] [] p = tt
  paired_reverse (x ∷ xs) (y ∷ ys) p =
      subst (λ zs. Paired zs (reverse (y ∷ ys))) (sym (reverse-cons x xs)) (subst (λ zs. Paired (reverse xs ++ x ∷ []) zs) (sym (reverse-cons y ys))
      (paired_append (reverse xs) (x ∷ []) (reverse ys) (y ∷ []) (paired_reverse xs ys p.1) (p.0, tt)))
  paired_reverse [] (y ∷ ys) p = absurd p
  paired_reverse (x ∷ xs) [] p = absurd p

  -- at each place both lists have elements, and these are partners, or both end before it
  abbrev pub AtPlace : Option A → Option B → Type 0
  AtPlace (Some x) (Some y) = R x y
  AtPlace None None = Unit {0}
  AtPlace (Some x) None = ⊥
  AtPlace None (Some y) = ⊥

  pub at_place : (xs : List A) (ys : List B) (n : ℕ) → Paired xs ys → AtPlace (slice_get xs n) (slice_get ys n)
  at_place [] [] n p = tt
  at_place (x ∷ xs) (y ∷ ys) zero p = p.0
  at_place (x ∷ xs) (y ∷ ys) (suc n) p = at_place xs ys n p.1
  at_place [] (y ∷ ys) n p = absurd p
  at_place (x ∷ xs) [] n p = absurd p

  pub paired_length : (xs : List A) (ys : List B) → Paired xs ys → length xs ≡ length ys
  paired_length [] [] p = refl
  paired_length (x ∷ xs) (y ∷ ys) p = ap suc (paired_length xs ys p.1)
  paired_length [] (y ∷ ys) p = absurd p
  paired_length (x ∷ xs) [] p = absurd p
