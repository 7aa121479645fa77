-- Where a name stands first, and what stands beside it in a list of the same length.
use Rattle.std.specs.Prelude.{◌≡◌, ℕ, List, map, Option, Some, None, slice_get, bytes_eq}
use Rattle.std.specs.Borrow.{Bor}
use Rattle.std.specs.Map.{lookup}
pub use Rattle.bpl_scopes.specs.Scopes.{first_at}

abbrev pub or_other : {A : Type 0} → Option A → A → A
or_other None d = d
or_other (Some a) d = a

-- what stands at a position, where there is one
abbrev pub beside : {A : Type 0} → A → List A → Option ℕ → A
beside d xs None = d
beside d xs (Some i) = or_other (slice_get xs i) d

-- what stands where the name stands first, and d where it doesn't stand
abbrev pub at_name : {A : Type 0} → A → List (List ℕ) → List A → List ℕ → A
at_name d ns xs n = beside d xs (first_at n ns)

abbrev pub names_seen : List (Bor (List ℕ)) → List (List ℕ)
names_seen ns = map (λ n. n.now) ns

-- each name is kept with the position at which it stands first
abbrev pub HasFirst : List (Bor (List ℕ) × ℕ) → List (List ℕ) → Type 0
HasFirst es ns = (n : List ℕ) → lookup (λ k. bytes_eq n k.now) es ≡ first_at n ns
