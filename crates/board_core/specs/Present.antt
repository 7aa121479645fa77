-- Keys that are present, as borrowed bytes, and the sizes of those that aren't.
use Rattle.std.specs.Prelude.{ℕ, Bool, not, List, filter, length, bytes_eq}
use Rattle.std.specs.Borrow.{Bor}
use Rattle.std.specs.List.{list_any, sum_by}
use Rattle.board_core.specs.Kept.{Key}

abbrev pub is_present : List (Bor Key) → Key → Bool
is_present ks k = list_any (λ j. bytes_eq k j.now) ks

-- how many bytes the entries' keys have that are not present
abbrev pub absent_size : {V W : Type 0} → (V → Key) → List (Bor Key) → List (V × W) → ℕ
absent_size bytes ks es = sum_by (λ e. length (bytes e.0)) (filter (λ e. not (is_present ks (bytes e.0))) es)
