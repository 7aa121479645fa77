-- What is among names that have been seen.
use Rattle.std.proofs.Common.{◌≡◌, ℕ, Bool, ◌||◌, List, [], ◌∷◌, refl}
use Rattle.std.specs.Borrow.{Bor}
use Rattle.std.specs.List.{list_any}
use Rattle.request_text.specs.Names.{names_seen}

pub any_seen : (t : List ℕ → Bool) (ks : List (Bor (List ℕ))) → list_any (λ k. t k.now) ks ≡ list_any t (names_seen ks)
any_seen t [] = refl
any_seen t (k ∷ ks) = λ i. t k.now || any_seen t ks i
