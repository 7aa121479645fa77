-- What a table of terms stands for, and what holds of it.
use Rattle.std.specs.Prelude.{◌≡◌, ℕ, ◌<◌, Some, List, map, length, slice_index_or}
use Rattle.std.specs.List.{All, AllByRecursion}
use Rattle.logic_core.specs.Tree.{Tree}
use Rattle.term_bank.specs.Numbered.{at, number_of}
use Rattle.term_bank.specs.Node.{tree_over, numbers_in}
use Rattle.term_bank.specs.Hash.{hash_of}
use Rattle.term_bank.specs.declared.node.Node.{Node}
use Rattle.term_bank.specs.declared.table.Entry.{Entry}
use Rattle.term_bank.specs.declared.table.Table.TheInside.{Inside}
use Rattle.term_bank.specs.Tabled.{Tabled}

-- the terms of the entries, each at its place
abbrev pub terms_at : List Tree → List Entry → List Tree
terms_at places es = map (λ (e : Entry). at places e.place) es

abbrev pub tabled : Inside → Tabled
tabled a = record { terms = terms_at a.places a.entries.items; standing = a.places }

-- the node of a number is one of its term, over the terms of lower numbers
abbrev pub IsNodeAt : List Tree → ℕ → Node → Type 0
IsNodeAt ts i n = (tree_over (at ts) n ≡ at ts i) × AllByRecursion (λ j. j < i) (numbers_in n)

-- each entry has its place and its node; no term has two numbers; each hash is that of the term
pub record IsTable (places : List Tree) (es : List Entry) (hashes : List ℕ) : Type 0 where
  pub within : All (λ (e : Entry). e.place < length places) es
  pub built : (i : ℕ) (d : Entry) → i < length es → IsNodeAt (terms_at places es) i (slice_index_or es i d).node
  pub apart : (i : ℕ) → i < length es → number_of (terms_at places es) (at (terms_at places es) i) ≡ Some i
  pub hashed : hashes ≡ map hash_of (terms_at places es)

abbrev pub IsKept : Inside → Type 0
IsKept a = IsTable a.places a.entries.items a.index
