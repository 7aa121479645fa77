-- The terms of a quantifier's body that may stand in its trigger.
use Rattle.std.specs.Prelude.{ℕ, nat_eq, nat_lt, Bool, true, false, not, ◌&&◌, List, [], ◌∷◌, ◌++◌, slice_get, filter, filter_map, flat_map, fold, Option, Some, None, if◌then◌else◌}
use Rattle.std.specs.List.{list_any, list_all, range_with_len}
use Rattle.logic_core.specs.Tree.{Tree, num, truth, free, bound, read, call}
use Rattle.logic_core.specs.Def.{Def}
use Rattle.logic_core.specs.Same.{same_term}
use Rattle.logic_core.specs.Subterm.{outside}

abbrev pub is_simple : Tree → Bool
is_simple (num n) = true
is_simple (truth b) = true
is_simple (free v) = true
is_simple (bound v) = true
is_simple (read m i) = true
is_simple (call f ts) = true
is_simple t = false

-- reads, applications, variables and literals alone
abbrev pub is_built : Tree → Bool
is_built t = list_all is_simple (outside t)

abbrev pub bound_number : Tree → Option ℕ
bound_number (bound v) = Some v
bound_number t = None

-- the bound variables that a term mentions outside its quantifiers, as often as they stand there
abbrev pub bound_numbers : Tree → List ℕ
bound_numbers t = filter_map bound_number (outside t)

-- one of a quantifier's n variables is among these, and all of them are
abbrev pub touches : ℕ → List ℕ → Bool
touches n vs = list_any (λ v. nat_lt v n) vs

abbrev pub covers : ℕ → List ℕ → Bool
covers n vs = list_all (λ v. list_any (nat_eq v) vs) (range_with_len 0 n)

abbrev pub is_plain : Option Def → Bool
is_plain None = false
is_plain (Some d) = not d.logical

-- a term that is in the list already doesn't join it
abbrev pub joined : List Tree → Tree → List Tree
joined ts t = if list_any (same_term t) ts then ts else ts ++ t ∷ []

abbrev pub once : List Tree → List Tree
once ts = fold joined [] ts

-- a read, or an application of a plain function
abbrev pub is_read_or_call : List Def → Tree → Bool
is_read_or_call defs (read m i) = true
is_read_or_call defs (call f ts) = is_plain (slice_get defs f)
is_read_or_call defs t = false

-- over the definitions, and the number of the quantifier's variables
module _ (defs : List Def) (n : ℕ) where
  abbrev pub is_candidate : Tree → Bool
  is_candidate t = is_read_or_call defs t && (is_built t && touches n (bound_numbers t))

  -- in preorder, each once, and none from inside an inner quantifier
  abbrev pub candidates : Tree → List Tree
  candidates body = once (filter is_candidate (outside body))

-- the bound variables that these terms mention together
abbrev pub mentioned_by : List Tree → List ℕ
mentioned_by ts = flat_map bound_numbers ts
