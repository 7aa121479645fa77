-- In how many of some facts each atom occurs, by number.
use Rattle.std.specs.Prelude.{◌≡◌, ℕ, ◌+◌, ◌-◌, ◌<◌, nat_eq, Bool, false, ◌&&◌, ◌||◌, cond, List, [], ◌∷◌, length, get_or}
use Rattle.std.specs.List.{list_any, AllByRecursion}
use Rattle.logic_core.specs.Tree.{Tree}
use Rattle.logic_core.specs.Subterm.{occurs}
use Rattle.term_bank.specs.Numbered.{at, Begins}
use Rattle.numbered_terms.specs.Stored.{AreStored}
use Rattle.numbered_facts.specs.Atoms.{is_atom}
use Rattle.numbered_instances.specs.declared.shared.Shared.{Shared}

abbrev pub in_one : Tree → List Tree → Bool
in_one l fs = list_any (occurs l) fs

abbrev pub in_two : Tree → List Tree → Bool
in_two l [] = false
in_two l (f ∷ fs) = (occurs l f && in_one l fs) || in_two l fs

-- how often the number stands there
abbrev pub times : ℕ → List ℕ → ℕ
times j [] = 0
times j (i ∷ is) = cond (nat_eq j i) 1 0 + times j is

-- whether the term of the first number is an atom that occurs in that of the second
abbrev pub has_atom : List Tree → ℕ → ℕ → Bool
has_atom ts j i = is_atom (at ts j) && occurs (at ts j) (at ts i)

-- how many of the facts of these numbers have it
abbrev pub facts_with : (ℕ → ℕ → Bool) → ℕ → List ℕ → ℕ
facts_with has j [] = 0
facts_with has j (i ∷ is) = cond (has j i) 1 0 + facts_with has j is

abbrev pub AreCounted : (ℕ → ℕ → Bool) → List ℕ → List ℕ → Type 0
AreCounted has is counts = (j : ℕ) → get_or counts j 0 ≡ facts_with has j is

-- over these terms, and over all terms that begin with them
module _ (ts : List Tree) where
  abbrev pub AreShared : List ℕ → List ℕ → Type 0
  AreShared is counts = (us : List Tree) → Begins ts us → AreStored us → AreCounted (has_atom us) is counts

  -- one more of each atom of the fact, and one less
  abbrev pub IsOneMore : ℕ → List ℕ → List ℕ → Type 0
  IsOneMore i old new = (us : List Tree) → Begins ts us → AreStored us → (j : ℕ) → get_or new j 0 ≡ get_or old j 0 + cond (has_atom us j i) 1 0

  abbrev pub IsOneLess : ℕ → List ℕ → List ℕ → Type 0
  IsOneLess i old new = (us : List Tree) → Begins ts us → AreStored us → (j : ℕ) → get_or new j 0 ≡ get_or old j 0 - cond (has_atom us j i) 1 0

  -- the facts that are listed are of these terms, and their atoms are counted
  abbrev pub IsCounted : Shared → Type 0
  IsCounted s = AllByRecursion (λ i. i < length ts) s.listed.items × AreShared s.listed.items s.counts.items
