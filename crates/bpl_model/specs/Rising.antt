-- The numbers of a list that lie in a range, in rising order.
use Rattle.std.specs.Prelude.{ℕ, ◌==◌, List, filter}
use Rattle.std.specs.List.{list_any, range_with_len}

-- from low on, up to count of them, each once
abbrev pub inside : ℕ → ℕ → List ℕ → List ℕ
inside low count xs = filter (λ v. list_any (λ x. x == v) xs) (range_with_len low count)
