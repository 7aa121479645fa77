-- A stack of labels as a list, the top first, how often each label stands in it, the labels of a statement, and those that are let through.
use Rattle.std.specs.Prelude.{◌≡◌, ℕ, zero, suc, Bool, true, false, cond, List, [], ◌∷◌, map, reverse, Option, Some, None, bytes_eq}
use Rattle.std.specs.Borrow.{Bor}
use Rattle.std.specs.Map.{lookup}
use Rattle.bpl_ast.specs.Place.{Name}
use Rattle.bpl_ast.specs.Statement.{Stmt, stmt}
use Rattle.bpl_scopes.specs.Positions.{or_other}

abbrev pub stack_seen : List (Bor (List ℕ)) → List (List ℕ)
stack_seen ls = map (λ l. l.now) (reverse ls)

abbrev pub occurrences : List ℕ → List (List ℕ) → ℕ
occurrences n [] = 0
occurrences n (m ∷ ms) = cond (bytes_eq n m) (suc (occurrences n ms)) (occurrences n ms)

-- each label is kept with how often it stands there, and one that doesn't stand there perhaps with 0
abbrev pub AreCounted : List (Bor (List ℕ) × ℕ) → List (List ℕ) → Type 0
AreCounted es ls = (n : List ℕ) → or_other (lookup (λ k. bytes_eq n k.now) es) 0 ≡ occurrences n ls

abbrev pub own_labels : Stmt → List Name
own_labels (stmt ls p a) = ls

-- how many named labels more are let through behind a label
abbrev pub let_through : ℕ → Bool → Option ℕ
let_through k false = Some k
let_through zero true = None
let_through (suc k) true = Some k
