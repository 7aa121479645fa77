-- Some text is this one where this one is some text.
use Rattle.std.specs.Prelude.{◌≡◌, ◌||◌, ℕ, List, [], ◌∷◌, bytes_eq}
use Rattle.std.specs.List.{list_any}
use Rattle.std.proofs.Common.{refl}
use Rattle.bv_base.specs.Text.{is_among}
use Rattle.bv_base.proofs.EitherWay.{either_way}

pub some_is : (texts : List (List ℕ)) (t : List ℕ) → list_any (λ s. bytes_eq s t) texts ≡ is_among texts t
some_is [] t = refl
some_is (s ∷ texts) t = λ j. either_way s t j || some_is texts t j
