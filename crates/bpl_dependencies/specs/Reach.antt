-- What names lead to by their edges, as positions in the table.
use Rattle.std.specs.Prelude.{◌≡◌, ℕ, zero, suc, Bool, false, ◌||◌, List, map, filter, Vec, bytes_eq, Option, Some, [], ◌∷◌}
use Rattle.std.specs.declared.alloc.Global.{Global}
use Rattle.std.specs.List.{list_any}
use Rattle.bpl_scopes.specs.Positions.{first_at}
use Rattle.bpl_scopes.specs.Scopes.{Text, Entry, Table, entity_of}
use Rattle.bpl_scopes.specs.KnownSorts.{names_in}
use Rattle.bpl_scopes.specs.Functions.{next_names, has_quantifier, function_in, is_function, is_synonym}

abbrev pub next_of : Table → Text → List Text
next_of t n = next_names t (entity_of t n)

-- a name passes a test, or leads to one that does in fewer than k steps
abbrev pub reaches : Table → (Text → Bool) → ℕ → Text → Bool
reaches t p zero n = false
reaches t p (suc k) n = p n || list_any (reaches t p k) (next_of t n)

abbrev pub flags_at : Table → (Text → Bool) → List Bool
flags_at t p = map (λ (e : Entry). p e.name) t

-- the position at which a name stands first
abbrev pub first_position : Table → Text → Option ℕ
first_position t n = first_at n (names_in t)

-- where the functions among names stand first
unfoldable pub functions_among : Table → List Text → List (Option ℕ)
functions_among t ns = map (first_position t) (filter (λ n. is_function (entity_of t n)) ns)

-- where the name stands first, if it is a function
unfoldable pub function_alone : Table → Text → List (Option ℕ)
function_alone t n = functions_among t (n ∷ [])

-- where the synonyms among names stand first
unfoldable pub synonyms_among : Table → List Text → List (Option ℕ)
synonyms_among t ns = map (first_position t) (filter (λ n. is_synonym (entity_of t n)) ns)

-- where the name stands first, if it is a synonym
unfoldable pub synonym_alone : Table → Text → List (Option ℕ)
synonym_alone t n = synonyms_among t (n ∷ [])

abbrev pub edges_seen : List (Vec ℕ Global) → List (List ℕ)
edges_seen vs = map (λ v. v.items) vs

-- the edges of each entry are the positions at which the names stand first to which its name leads
abbrev pub AreEdges : Table → List (List ℕ) → Type 0
AreEdges t es = map (map Some) es ≡ map (λ (e : Entry). map (first_position t) (next_of t e.name)) t

abbrev pub is_quantified_at : Table → Text → Bool
is_quantified_at t n = has_quantifier (function_in (entity_of t n))

-- the name leads to that one in one step
abbrev pub leads_at_once : Table → Text → Text → Bool
leads_at_once t m n = list_any (λ c. bytes_eq c m) (next_of t n)
