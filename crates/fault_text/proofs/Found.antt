-- The first item that passes a test, in what is left of a list.
use Rattle.std.proofs.Common.{◌≡◌, ℕ, ◌+◌, ◌<◌, ◌≤◌, Bool, true, false, cond, List, length, get_or, drop, Some, None, sym, ap, ◌∙◌}
use Rattle.std.specs.Prelude.{find}
use Rattle.std.proofs.lemmas.List.{at_drop_more, at_drop_all}

next_of : {A : Type 0} (p : A → Bool) (xs : List A) (i : ℕ) (x : A) → i < length xs → x ≡ get_or xs i x → find p (drop i xs) ≡ cond (p x) (Some x) (find p (drop (i + 1) xs))
next_of p xs i x lt is = at_drop_more (find p) xs i x lt ∙ ap (λ y. cond (p y) (Some y) (find p (drop (i + 1) xs))) (sym is)

-- it passes, and is the first
pub found_here : {A : Type 0} (p : A → Bool) (xs : List A) (i : ℕ) (x : A) → i < length xs → x ≡ get_or xs i x → p x ≡ true
    → find p (drop i xs) ≡ find p xs → find p xs ≡ Some x
found_here p xs i x lt is passes same = sym same ∙ next_of p xs i x lt is ∙ ap (λ b. cond b (Some x) (find p (drop (i + 1) xs))) passes

-- it doesn't, and the first is among those behind it
pub found_later : {A : Type 0} (p : A → Bool) (xs : List A) (i : ℕ) (x : A) → i < length xs → x ≡ get_or xs i x → p x ≡ false
    → find p (drop i xs) ≡ find p xs → find p (drop (i + 1) xs) ≡ find p xs
found_later p xs i x lt is fails same = sym (next_of p xs i x lt is ∙ ap (λ b. cond b (Some x) (find p (drop (i + 1) xs))) fails) ∙ same

pub found_nowhere : {A : Type 0} (p : A → Bool) (xs : List A) (i : ℕ) → length xs ≤ i → find p (drop i xs) ≡ find p xs → find p xs ≡ None
found_nowhere p xs i past same = sym same ∙ at_drop_all (find p) xs i past
