-- The type for which a written type stands, through synonyms. User types are numbered from 0, in the order of the text.
use Rattle.std.specs.Prelude.{ℕ, zero, suc, ◌+◌, List, [], ◌∷◌, length, cond, bytes_eq, Option, Some, None}
use Rattle.bpl_ast.specs.Place.{Ty as Written, integer, boolean, named, map_type}
use Rattle.bpl_ast.specs.Statement.{Decl}
use Rattle.bpl_scopes.specs.Scopes.{Text, Entity, a_constant, a_global, a_function, a_synonym, a_procedure, Table, table_of, entity_of}
use Rattle.bpl_sorts.specs.Types.{Ty, integers, truths, carriers, maps}

abbrev pub users_in : Entity → ℕ
users_in (a_constant k t) = 0
users_in (a_global k t) = 0
users_in (a_function h) = 0
users_in (a_synonym None) = 1
users_in (a_synonym (Some s)) = 0
users_in (a_procedure k c) = 0

-- how many user types stand before the name
abbrev pub number_of : Table → Text → ℕ
number_of [] n = 0
number_of (e ∷ t) n = cond (bytes_eq e.name n) 0 (users_in e.entity + number_of t n)

-- by the types of names
abbrev pub type_in : (Text → Ty) → Written → Ty
type_in f (integer p) = integers
type_in f (boolean p) = truths
type_in f (named p n) = f n.text
type_in f (map_type p ps ds r) = maps (type_in f r)

-- of a name that has this number among user types, by what it is declared as; what is no type counts as the integers
abbrev pub type_by : (Text → Ty) → ℕ → Option Entity → Ty
type_by f k None = integers
type_by f k (Some (a_constant j t)) = integers
type_by f k (Some (a_global j t)) = integers
type_by f k (Some (a_function h)) = integers
type_by f k (Some (a_synonym None)) = carriers k
type_by f k (Some (a_synonym (Some s))) = type_in f s
type_by f k (Some (a_procedure j c)) = integers

-- of a name to which fewer than m synonyms lead
abbrev pub type_after : Table → ℕ → Text → Ty
type_after t zero n = integers
type_after t (suc m) n = type_by (type_after t m) (number_of t n) (entity_of t n)

-- over this table
abbrev pub type_over : Table → Written → Ty
type_over t w = type_in (type_after t (length t)) w

-- in these declarations
abbrev pub type_of : List Decl → Written → Ty
type_of ds w = type_over (table_of ds) w

-- how many user types stand before each name, and before the end, where k stand before the first
abbrev pub users_before : ℕ → Table → List ℕ
users_before k [] = k ∷ []
users_before k (e ∷ t) = k ∷ users_before (k + users_in e.entity) t
