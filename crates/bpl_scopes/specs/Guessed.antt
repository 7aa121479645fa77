-- Sorts of synonyms that are right as far as they are there.
use Rattle.std.specs.Prelude.{◌≡◌, ◌⊎◌, ℕ, List, [], ◌∷◌, map, Option, None, Some, slice_get, slice_set, ⊤}
use Rattle.logic_terms.specs.Tree.{Kind}
use Rattle.bpl_scopes.specs.Scopes.{Table, Entry}
use Rattle.bpl_scopes.specs.Sorts.{sort_after}
use Rattle.bpl_scopes.specs.KnownSorts.{known_sort}

-- each of the sorts is not there yet, or is that of the others
abbrev pub IsUnder : List (Option Kind) → List (Option Kind) → Type 0
IsUnder [] [] = ⊤
IsUnder [] (j ∷ js) = ⊥
IsUnder (k ∷ ks) [] = ⊥
IsUnder (k ∷ ks) (j ∷ js) = ((k ≡ None) ⊎ (k ≡ j)) × IsUnder ks js

-- the sorts after one synonym more
abbrev pub next_sorts : Table → List (Option Kind) → List (Option Kind)
next_sorts t ks = map (λ (e : Entry). sort_after t (known_sort t ks) e.name) t

-- the entry at this position, if there is one, takes its sort by those of the others
abbrev pub put_sort : Table → List (Option Kind) → ℕ → List (Option Kind)
put_sort t ks p = elim (slice_get t p) [ None ↦ ks | Some e ↦ slice_set ks p (sort_after t (known_sort t ks) e.name) ]
