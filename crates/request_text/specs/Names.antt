-- Names that have been seen, as a set keeps them.
use Rattle.std.specs.Prelude.{ℕ, List, map}
use Rattle.std.specs.Borrow.{Bor}

abbrev pub names_seen : List (Bor (List ℕ)) → List (List ℕ)
names_seen ns = map (λ n. n.now) ns
