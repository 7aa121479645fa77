-- Whether names are new behind others.
use Rattle.std.proofs.Common.{◌≡◌, Bool, true, false, not, ◌&&◌, List, [], ◌∷◌, ◌++◌, bytes_eq, refl, ap, sym, ◌∙◌, append_assoc}
use Rattle.std.specs.List.{list_any}
use Rattle.std.proofs.lemmas.List.{append-nil}
use Rattle.request_text.specs.Request.{Text}
use Rattle.request_text.specs.Reading.{are_new}

and_assoc : (a b c : Bool) → ((a && b) && c) ≡ (a && (b && c))
and_assoc true b c = refl
and_assoc false b c = refl

both_new : (seen xs ys : List Text) → are_new seen (xs ++ ys) ≡ (are_new seen xs && are_new (seen ++ xs) ys)
both_new seen [] ys = ap (λ s. are_new s ys) (sym (append-nil seen))
both_new seen (x ∷ xs) ys =
    let new = not (list_any (bytes_eq x) seen) in
    ap (λ b. new && b) (both_new (seen ++ x ∷ []) xs ys ∙ ap (λ s. are_new (seen ++ x ∷ []) xs && are_new s ys) (append_assoc seen (x ∷ []) xs))
    ∙ sym (and_assoc new (are_new (seen ++ x ∷ []) xs) (are_new (seen ++ x ∷ xs) ys))

pub new_behind : (seen xs ys : List Text) → are_new seen xs ≡ true → are_new seen (xs ++ ys) ≡ are_new (seen ++ xs) ys
new_behind seen xs ys e = both_new seen xs ys ∙ ap (λ b. b && are_new (seen ++ xs) ys) e

pub old_among : (seen xs ys : List Text) → are_new seen xs ≡ false → are_new seen (xs ++ ys) ≡ false
old_among seen xs ys e = both_new seen xs ys ∙ ap (λ b. b && are_new (seen ++ xs) ys) e
