-- Declarations without user types: `type T;` becomes `type T = int;`, `unique` goes away on constants of user types, and axioms at the end say which carrier each of these is.
use Rattle.std.specs.Prelude.{ℕ, zero, suc, nat_eq, cond, List, [], ◌∷◌, ◌++◌, map, flat_map, Option, Some, None}
use Rattle.bv_base.specs.declared.place.Place.{Place}
use Rattle.bpl_ast.specs.Place.{Name, Ty, integer, boolean, map_type, no_tys, ty}
use Rattle.bpl_ast.specs.Tree.{eq, expr, number, variable, related}
use Rattle.bpl_ast.specs.Statement.{DeclBody, constant, function, axiom_of, variables, synonym, procedure, implementation, Decl, name_of, axioms_with}
use Rattle.bpl_scopes.specs.Scopes.{Table, table_of}
use Rattle.user_types.specs.UserTypes.{user_of}

-- ---- the program's own declarations

-- how many user types there are with this declaration
abbrev pub users_with : ℕ → DeclBody → ℕ
users_with k (synonym n None) = suc k
users_with k (synonym n (Some s)) = k
users_with k (constant u ns s) = k
users_with k (function n ps ins t x) = k
users_with k (axiom_of x) = k
users_with k (variables gs) = k
users_with k (procedure n ps s ss b) = k
users_with k (implementation n ps s b) = k

-- `unique` stays on constants of other types
abbrev pub kept_unique : Option ℕ → Option Place → Option Place
kept_unique None u = u
kept_unique (Some i) u = None

-- over what stands for the k-th user type, counted from 1
module _ (stands : ℕ → Place → Ty) where
  abbrev pub replaced_body : Table → ℕ → DeclBody → DeclBody
  replaced_body t k (constant u ns s) = constant (kept_unique (user_of t s) u) ns s
  replaced_body t k (synonym n None) = synonym n (Some (stands k n.at))
  replaced_body t k (synonym n (Some s)) = synonym n (Some s)
  replaced_body t k (function n ps ins r x) = function n ps ins r x
  replaced_body t k (axiom_of x) = axiom_of x
  replaced_body t k (variables gs) = variables gs
  replaced_body t k (procedure n ps s ss b) = procedure n ps s ss b
  replaced_body t k (implementation n ps s b) = implementation n ps s b

  -- where k user types stand before
  abbrev pub replaced_from : Table → ℕ → List Decl → List Decl
  replaced_from t k [] = []
  replaced_from t k (d ∷ ds) = record d { body = replaced_body t (users_with k d.body) d.body } ∷ replaced_from t (users_with k d.body) ds

  abbrev pub replaced : List Decl → List Decl
  replaced ds = replaced_from (table_of ds) 0 ds

-- ---- the carriers of unique constants

-- a unique constant of a user type
abbrev pub Unique : Type 0
Unique = ℕ × Name

abbrev pub uniques_of : Option Place → Option ℕ → List Name → List Unique
uniques_of None user ns = []
uniques_of (Some p) None ns = []
uniques_of (Some p) (Some i) ns = map (λ (n : Name). (i, n)) ns

abbrev pub uniques_in : Table → DeclBody → List Unique
uniques_in t (constant u ns s) = uniques_of u (user_of t s) ns
uniques_in t (function n ps ins r x) = []
uniques_in t (axiom_of x) = []
uniques_in t (variables gs) = []
uniques_in t (synonym n s) = []
uniques_in t (procedure n ps s ss b) = []
uniques_in t (implementation n ps s b) = []

-- in the order of the text
abbrev pub uniques : Table → List Decl → List Unique
uniques t ds = flat_map (λ (d : Decl). uniques_in t d.body) ds

-- it has no bytes in the text
abbrev pub carrier_axiom : ℕ → Name → ℕ → Decl
carrier_axiom k n c = record {
  name = name_of k (axiom_of (expr n.at (related eq (expr n.at (variable n)) (expr n.at (number c)))));
  start = 0;
  finish = 0;
  source = [];
  body = axiom_of (expr n.at (related eq (expr n.at (variable n)) (expr n.at (number c))));
}

-- one more of a user type
abbrev pub one_more : (ℕ → ℕ) → ℕ → ℕ → ℕ
one_more count i j = cond (nat_eq j i) (suc (count j)) (count j)

-- the carriers of a user type are 0, 1, 2 and so on, in the order of its constants: so many of each stand before, and so many axioms
abbrev pub axioms_from : (ℕ → ℕ) → ℕ → List Unique → List Decl
axioms_from count k [] = []
axioms_from count k (u ∷ us) = carrier_axiom k u.1 (count u.0) ∷ axioms_from (one_more count u.0) (suc k) us

abbrev pub axioms_after : ℕ → List Decl → ℕ
axioms_after k [] = k
axioms_after k (d ∷ ds) = axioms_after (axioms_with k d.body) ds

abbrev pub carrier_axioms : List Decl → List Decl
carrier_axioms ds = axioms_from (λ i. 0) (axioms_after 0 ds) (uniques (table_of ds) ds)

-- ---- the two readings

abbrev pub as_integers : ℕ → Place → Ty
as_integers k p = integer p

abbrev pub erased : List Decl → List Decl
erased ds = replaced as_integers ds ++ carrier_axioms ds

-- so many maps, one in another, over the truth values
abbrev pub maps_over : ℕ → Place → Ty
maps_over zero p = boolean p
maps_over (suc k) p = map_type p None (ty (integer p) no_tys) (maps_over k p)

-- Each user type stands for another number of maps. Where the erased declarations have no fault, types that differ in a user type alone are told apart by their sorts here, and all others as there.
abbrev pub told_apart : List Decl → List Decl
told_apart ds = replaced maps_over ds
