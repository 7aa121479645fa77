-- The sorts of synonyms, kept beside the entries of the table, and the names that are no types.
use Rattle.std.specs.Prelude.{ℕ, List, ◌++◌, map, Option, None, option_map}
use Rattle.logic_terms.specs.Tree.{Kind}
use Rattle.bv_base.specs.Text.{is_among}
use Rattle.bpl_scopes.specs.Positions.{at_name}
use Rattle.bpl_scopes.specs.Scopes.{Text, Table, Entry, BoundVar, bound_names}
pub use Rattle.bpl_scopes.specs.Scopes.{names_in}
use Rattle.bpl_scopes.specs.Sorts.{unless_hidden, synonym_sort}
use Rattle.bpl_scopes.specs.Shape.{kind_seen}
use Rattle.bpl_scopes.specs.declared.shape.Shape.{Shape}
use Rattle.bpl_scopes.specs.declared.hidden.Bound.{Bound}
use Rattle.bpl_scopes.specs.declared.hidden.Hidden.{Hidden}

abbrev pub known_sort : Table → List (Option Kind) → Text → Option Kind
known_sort t ks n = at_name None (names_in t) ks n

abbrev pub sorts_at : Table → ℕ → List (Option Kind)
sorts_at t k = map (λ (e : Entry). synonym_sort t k e.name) t

abbrev pub shapes_seen : List (Option Shape) → List (Option Kind)
shapes_seen ss = map kind_seen ss

abbrev pub bound_seen : Bound → BoundVar
bound_seen b = record { name = option_map (λ n. n.now) b.name; sort = kind_seen b.sort }

abbrev pub bounds_seen : List Bound → List BoundVar
bounds_seen bs = map bound_seen bs

-- bound variables, and then names
abbrev pub hidden_seen : Hidden → List Text
hidden_seen h = bound_names (bounds_seen h.bounds.now) ++ h.names.now

-- the sort of a name that no variable hides
abbrev pub sort_unless : List Text → Table → List (Option Kind) → Text → Option Kind
sort_unless hidden t ks n = unless_hidden (is_among hidden n) (known_sort t ks n)
