-- What is gathered of items one after another.
use Rattle.std.proofs.Common.{◌≡◌, Option, None, Some, option_map, List, [], ◌∷◌, ◌++◌, refl, ap, sym, append_assoc}
use Rattle.std.proofs.lemmas.List.{append-nil}
use Rattle.request_text.specs.Reading.{with_rest}

module _ {A : Type 0} where
  pub with_none : (o : Option (List A)) → with_rest [] o ≡ o
  with_none None = refl
  with_none (Some rest) = refl

  pub with_one : (all : List A) (a : A) (o : Option (List A)) → with_rest all (option_map (λ rest. a ∷ rest) o) ≡ with_rest (all ++ a ∷ []) o
  with_one all a None = refl
  with_one all a (Some rest) = ap Some (sym (append_assoc all (a ∷ []) rest))

  pub with_end : (all : List A) → with_rest all (Some []) ≡ Some all
  with_end all = ap Some (append-nil all)
