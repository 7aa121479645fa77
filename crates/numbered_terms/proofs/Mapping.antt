-- Lists made item by item in a loop: what is made so far is that of the items so far.
use Rattle.std.proofs.Common.{◌≡◌, ◌∙◌, sym, ap, ℕ, ◌+◌, ◌<◌, List, [], ◌∷◌, ◌++◌, map, length, get_or, take}
use Rattle.std.proofs.lemmas.List.{map-append, map_more}

-- one item more
pub map_next : {A B : Type 0} (f : A → B) (xs : List A) (made made' : List B) (i : ℕ) (x : A) (y : B) → i < length xs → x ≡ get_or xs i x → made' ≡ made ++ y ∷ [] → made ≡ map f (take i xs) → y ≡ f x → made' ≡ map f (take (i + 1) xs)
map_next f xs made made' i x y within is pushed so_far gives =
    pushed ∙ ap (λ zs. zs ++ y ∷ []) so_far ∙ ap (λ z. map f (take i xs) ++ z ∷ []) (gives ∙ ap f is) ∙ sym (map_more f xs i x within)

-- the same of what the items that are made stand for
pub map_next_over : {A B C : Type 0} (g : B → C) (f : A → C) (xs : List A) (made made' : List B) (i : ℕ) (x : A) (y : B) → i < length xs → x ≡ get_or xs i x → made' ≡ made ++ y ∷ [] → map g made ≡ map f (take i xs) → g y ≡ f x → map g made' ≡ map f (take (i + 1) xs)
map_next_over g f xs made made' i x y within is pushed so_far gives =
    map_next f xs (map g made) (map g made') i x (g y) within is (ap (map g) pushed ∙ map-append g made (y ∷ [])) so_far gives
