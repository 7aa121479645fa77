-- Lists made item by item.
use Rattle.std.proofs.Common.{◌≡◌, refl, sym, ap, subst, ◌∙◌, ℕ, zero, suc, ◌+◌, ◌<◌, ◌≤◌, List, [], ◌∷◌, ◌++◌, map, length, take, get_or, arith}
use Rattle.std.specs.List.{AllByRecursion}
use Rattle.std.proofs.lemmas.List.{map-append, take_more, take_all}

-- what is so of all is so of each
pub all_at : {A : Type 0} (P : A → Type 0) (xs : List A) (i : ℕ) (x : A) → AllByRecursion P xs → i < length xs → x ≡ get_or xs i x → P x
all_at P [] i x h l e = absurd (omega (arith, l))
all_at P (y ∷ ys) zero x h l e = subst P (sym e) h.0
all_at P (y ∷ ys) (suc i) x h l e = all_at P ys i x h.1 (omega (arith, l)) e

pub seen_at : {A B : Type 0} (P : B → Type 0) (f : A → B) (xs : List A) (i : ℕ) (x : A) → AllByRecursion P (map f xs) → i < length xs → x ≡ get_or xs i x → P (f x)
seen_at P f [] i x h l e = absurd (omega (arith, l))
seen_at P f (y ∷ ys) zero x h l e = subst (λ z. P (f z)) (sym e) h.0
seen_at P f (y ∷ ys) (suc i) x h l e = seen_at P f ys i x h.1 (omega (arith, l)) e

pub map_twice : {A B C : Type 0} (g : B → C) (f : A → B) (xs : List A) → map g (map f xs) ≡ map (λ x. g (f x)) xs
map_twice g f [] = refl
map_twice g f (x ∷ xs) = ap (λ ys. g (f x) ∷ ys) (map_twice g f xs)

-- seen items: one more, and all
module _ {A B C : Type 0} (seen : C → B) (f : A → B) where
  pub seen_next : (xs : List A) (i : ℕ) (x : A) (ys zs : List C) (y : C) → i < length xs → x ≡ get_or xs i x → map seen ys ≡ map f (take i xs) → seen y ≡ f x → zs ≡ ys ++ y ∷ [] → map seen zs ≡ map f (take (i + 1) xs)
  seen_next xs i x ys zs y l e h p q = ap (map seen) q ∙ map-append seen ys (y ∷ []) ∙ (λ k. h k ++ p k ∷ []) ∙ ap (λ z. map f (take i xs) ++ f z ∷ []) e ∙ sym (map-append f (take i xs) (get_or xs i x ∷ [])) ∙ ap (map f) (sym (take_more xs i x l))

  pub seen_all : (xs : List A) (i : ℕ) (ys : List C) → length xs ≤ i → map seen ys ≡ map f (take i xs) → map seen ys ≡ map f xs
  seen_all xs i ys l h = h ∙ ap (map f) (take_all i xs l)

module _ {A B : Type 0} (f : A → B) where
  pub map_next : (xs : List A) (i : ℕ) (x : A) (ys zs : List B) (y : B) → i < length xs → x ≡ get_or xs i x → ys ≡ map f (take i xs) → y ≡ f x → zs ≡ ys ++ y ∷ [] → zs ≡ map f (take (i + 1) xs)
  map_next xs i x ys zs y l e h p q = q ∙ (λ k. h k ++ p k ∷ []) ∙ ap (λ z. map f (take i xs) ++ f z ∷ []) e ∙ sym (map-append f (take i xs) (get_or xs i x ∷ [])) ∙ ap (map f) (sym (take_more xs i x l))

  pub map_end : (xs : List A) (i : ℕ) (ys : List B) → length xs ≤ i → ys ≡ map f (take i xs) → ys ≡ map f xs
  map_end xs i ys l h = h ∙ ap (map f) (take_all i xs l)
