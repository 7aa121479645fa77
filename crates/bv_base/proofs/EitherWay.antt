-- Which of two texts is compared with the other is all one.
use Rattle.std.specs.Prelude.{◌≡◌, ℕ, List, bytes_eq}
use Rattle.std.proofs.Common.{sym}
use Rattle.std.proofs.lemmas.Bool.Decides.{same_from_decides}
use Rattle.std.proofs.lemmas.Slice.Eq.{bytes_eq-Decides}

pub either_way : (s t : List ℕ) → bytes_eq s t ≡ bytes_eq t s
either_way s t =
    same_from_decides (bytes_eq s t) (bytes_eq t s) (bytes_eq-Decides s t)
    (λ e. sym ((bytes_eq-Decides t s).0 e), λ e. (bytes_eq-Decides t s).1 (sym e))
