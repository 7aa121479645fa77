-- Lists that are taken apart from their ends.
use Rattle.std.specs.Prelude.{◌≡◌, List, [], ◌∷◌, ◌++◌, reverse}
use Rattle.std.proofs.Common.{ap, sym, ◌∙◌}
use Rattle.std.proofs.lemmas.List.{reverse-append, reverse-reverse}

-- the last item of the reversed list is the first one
pub first_of_reversed : {A : Type 0} (xs ys : List A) (x : A) → reverse xs ≡ ys ++ x ∷ [] → xs ≡ x ∷ reverse ys
first_of_reversed xs ys x h = sym (reverse-reverse xs) ∙ ap reverse h ∙ reverse-append ys (x ∷ [])
