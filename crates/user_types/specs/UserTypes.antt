-- User types, and the types that stand for one through synonyms. A user type is told by the place of its name in the table.
use Rattle.std.specs.Prelude.{ℕ, zero, suc, length, Option, Some, None}
use Rattle.bpl_ast.specs.Place.{Ty, integer, boolean, named, map_type}
use Rattle.bpl_scopes.specs.Scopes.{Text, Entity, a_constant, a_global, a_function, a_synonym, a_procedure, Table, names_in, first_at, entity_of}

-- of a type, by the user types of names
abbrev pub user_in : (Text → Option ℕ) → Ty → Option ℕ
user_in f (integer p) = None
user_in f (boolean p) = None
user_in f (named p n) = f n.text
user_in f (map_type p ps ds r) = None

-- of a name that stands there in the table, by what it is declared as
abbrev pub user_by : (Text → Option ℕ) → Option ℕ → Option Entity → Option ℕ
user_by f place None = None
user_by f place (Some (a_constant k t)) = None
user_by f place (Some (a_global k t)) = None
user_by f place (Some (a_function h)) = None
user_by f place (Some (a_synonym None)) = place
user_by f place (Some (a_synonym (Some s))) = user_in f s
user_by f place (Some (a_procedure k c)) = None

-- of a name, where fewer than k synonyms lead to the user type; a synonym that leads to itself stands for none
abbrev pub user_after : Table → ℕ → Text → Option ℕ
user_after t zero n = None
user_after t (suc k) n = user_by (user_after t k) (first_at n (names_in t)) (entity_of t n)

abbrev pub user_of : Table → Ty → Option ℕ
user_of t s = user_in (user_after t (length t)) s
