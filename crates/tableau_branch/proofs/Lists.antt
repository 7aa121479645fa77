-- What is found in lists that stand one after another.
use Rattle.std.specs.Prelude.{◌≡◌, ℕ, ◌+◌, ◌<◌, Bool, Option, Some, List, [], ◌∷◌, ◌++◌, find, filter, length, take, drop, slice_get}
use Rattle.std.specs.Option.{option_or}
use Rattle.std.proofs.Common.{get_or, ap, sym, ◌∙◌}
use Rattle.std.proofs.lemmas.List.{drop_more, take_more}
use Rattle.std.proofs.lemmas.Option.{slice_get_within, get_or_from_slice_get}
use Rattle.std.proofs.lemmas.List.Elements.{filter-append}
use Rattle.std.proofs.lemmas.List.Folds.{find-append}

-- the rest of a list begins with the item that a loop reads
pub drop_item : {A : Type 0} (xs : List A) (i : ℕ) (x : A) → i < length xs → x ≡ get_or xs i x → drop i xs ≡ x ∷ drop (i + 1) xs
drop_item xs i x h is = drop_more xs i x h ∙ ap (λ y. y ∷ drop (i + 1) xs) (sym is)

-- and the items before the next one end with it
pub take_item : {A : Type 0} (xs : List A) (i : ℕ) (x : A) → i < length xs → x ≡ get_or xs i x → take (i + 1) xs ≡ take i xs ++ x ∷ []
take_item xs i x h is = take_more xs i x h ∙ ap (λ y. take i xs ++ y ∷ []) (sym is)

-- the same of an item that is got
pub drop_got : {A : Type 0} (xs : List A) (i : ℕ) (x : A) → slice_get xs i ≡ Some x → drop i xs ≡ x ∷ drop (i + 1) xs
drop_got xs i x h = drop_item xs i x (slice_get_within xs i x h) (sym (get_or_from_slice_get xs i x x h))

pub take_got : {A : Type 0} (xs : List A) (i : ℕ) (x : A) → slice_get xs i ≡ Some x → take (i + 1) xs ≡ take i xs ++ x ∷ []
take_got xs i x h = take_item xs i x (slice_get_within xs i x h) (sym (get_or_from_slice_get xs i x x h))

-- what is found in a list is found first, and otherwise what is found in the list after it
pub find_append : {A : Type 0} (p : A → Bool) (xs ys : List A) → find p (xs ++ ys) ≡ option_or (find p xs) (find p ys)
find_append p xs ys = find-append p xs ys

-- what is kept of both
pub filter_append : {A : Type 0} (p : A → Bool) (xs ys : List A) → filter p (xs ++ ys) ≡ filter p xs ++ filter p ys
filter_append p xs ys = filter-append p xs ys

pub found_first : {A : Type 0} (p : A → Bool) (xs ys : List A) (o : Option A) → o ≡ find p xs → option_or o (find p ys) ≡ find p (xs ++ ys)
found_first p xs ys o h = ap (λ q. option_or q (find p ys)) h ∙ sym (find-append p xs ys)
