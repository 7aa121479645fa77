-- What is known of a search among the numbers of one hash, from the last to the first.
use Rattle.std.specs.Prelude.{◌≡◌, ℕ, suc, ◌<◌, ◌≤◌, List, length, Option, Some, None}
use Rattle.logic_core.specs.Tree.{Tree}
use Rattle.term_bank.specs.Numbered.{at}
use Rattle.term_bank.specs.Hash.{hash_of}

abbrev pub NotBefore : Option ℕ → ℕ → Type 0
NotBefore None j = ⊥
NotBefore (Some i) j = j ≤ i

-- the next candidate has the term's hash, and the term stands nowhere behind it
pub record IsCandidate (ts : List Tree) (t : Tree) (o : Option ℕ) : Type 0 where
  pub here : (i : ℕ) → o ≡ Some i → (i < length ts) × (hash_of (at ts i) ≡ hash_of t)
  pub earlier : (j : ℕ) → j < length ts → at ts j ≡ t → NotBefore o j

-- how many numbers may follow
abbrev pub followers : Option ℕ → ℕ
followers None = 0
followers (Some i) = suc i
