-- What is declared under which name, and what a name stands for in an expression.
use Rattle.std.specs.Prelude.{ℕ, suc, ◌+◌, Bool, true, false, cond, List, [], ◌∷◌, ◌++◌, map, flat_map, length, find, bytes_eq, Option, Some, None, option_map}
use Rattle.logic_terms.specs.Tree.{Kind}
use Rattle.bpl_ast.specs.Place.{Name, Ty}
use Rattle.bpl_ast.specs.Tree.{Expr, Groups, no_groups, group}
use Rattle.bpl_ast.specs.Statement.{Spec, requires, ensures, modifies, Signature, Argument, DeclBody, constant, function, axiom_of, variables, synonym, procedure, implementation, Decl}
use Rattle.bpl_scopes.specs.declared.part.Part.{Part}
use Rattle.bpl_scopes.specs.declared.part.Part.TheVariants.{Axiom as in_axiom, Function as in_function, Requires as in_requires, Ensures as in_ensures, Body as in_body, ClauseOfGlobal as in_clause_of_global, ClauseOfIn as in_clause_of_in, ClauseOfOut as in_clause_of_out, ClauseOfLocal as in_clause_of_local}
use Rattle.bpl_scopes.specs.declared.part.Role.{Role}
use Rattle.bpl_scopes.specs.declared.part.Role.TheVariants.{In as in_parameter, Out as out_parameter, Local as local_variable}

abbrev pub Text : Type 0
Text = List ℕ

-- what a function is declared with
pub record Heading : Type 0 where
  pub ins : List Argument
  pub result : Ty
  pub value : Option Expr

-- what a procedure's declaration tells other declarations: its parameters and results, and the names in `modifies`
pub record Contract : Type 0 where
  pub signature : Signature
  pub modified : List Text

-- constants, global variables and procedures are numbered each for themselves, in the order of the text
pub data Entity : Type 0 where
  a_constant : ℕ → Ty → Entity
  a_global : ℕ → Ty → Entity
  a_function : Heading → Entity
  a_synonym : Option Ty → Entity
  a_procedure : ℕ → Contract → Entity

-- a declared name, the position of its declaration, and what it is
pub record Entry : Type 0 where
  pub name : Text
  pub decl : ℕ
  pub entity : Entity

-- the one name space, in the order of the text
abbrev pub Table : Type 0
Table = List Entry

-- the names of groups, in order, each with the type of its group
abbrev pub typed_names : List Name → Ty → List (Name × Ty)
typed_names ns t = map (λ (n : Name). (n, t)) ns

abbrev pub names_of : Groups → List (Name × Ty)
names_of no_groups = []
names_of (group ns t c gs) = typed_names ns t ++ names_of gs

abbrev pub only_names : List (Name × Ty) → List Name
only_names ps = map (λ p. p.0) ps

abbrev pub texts_of : List Name → List Text
texts_of ns = map (λ (n : Name). n.text) ns

-- the names in a `modifies`
abbrev pub spec_names : Spec → List Name
spec_names (requires p f x) = []
spec_names (ensures p f x) = []
spec_names (modifies p ns) = ns

-- a procedure with these clauses
abbrev pub contract_with : Signature → List Spec → Contract
contract_with g ss = record { signature = g; modified = texts_of (flat_map spec_names ss) }

-- the names of parameters
abbrev pub signature_names : Signature → List Name
signature_names g = only_names (names_of g.ins ++ names_of g.outs)

-- the names that a declaration declares
abbrev pub declared_names : DeclBody → List Name
declared_names (constant u ns t) = ns
declared_names (function n ps ins t x) = n ∷ []
declared_names (axiom_of x) = []
declared_names (variables gs) = only_names (names_of gs)
declared_names (synonym n t) = n ∷ []
declared_names (procedure n ps s ss b) = n ∷ []
declared_names (implementation n ps s b) = []

-- how many constants, global variables and procedures stand before
pub record Counts : Type 0 where
  pub constants : ℕ
  pub globals : ℕ
  pub procedures : ℕ

abbrev pub counts_with : Counts → DeclBody → Counts
counts_with c (constant u ns t) = record c { constants = c.constants + length ns }
counts_with c (function n ps ins t x) = c
counts_with c (axiom_of x) = c
counts_with c (variables gs) = record c { globals = c.globals + length (names_of gs) }
counts_with c (synonym n t) = c
counts_with c (procedure n ps s ss b) = record c { procedures = c.procedures + 1 }
counts_with c (implementation n ps s b) = c

-- entries for names with types, numbered from k on
abbrev pub entries_from : (ℕ → Ty → Entity) → ℕ → ℕ → List (Name × Ty) → Table
entries_from what d k [] = []
entries_from what d k (p ∷ ps) = record { name = (p.0).text; decl = d; entity = what k p.1 } ∷ entries_from what d (k + 1) ps

-- the entries of declaration d
abbrev pub entries_of : Counts → ℕ → DeclBody → Table
entries_of c d (constant u ns t) = entries_from a_constant d c.constants (typed_names ns t)
entries_of c d (function n ps ins t x) = record { name = n.text; decl = d; entity = a_function (record { ins = ins; result = t; value = x }) } ∷ []
entries_of c d (axiom_of x) = []
entries_of c d (variables gs) = entries_from a_global d c.globals (names_of gs)
entries_of c d (synonym n t) = record { name = n.text; decl = d; entity = a_synonym t } ∷ []
entries_of c d (procedure n ps s ss b) = record { name = n.text; decl = d; entity = a_procedure c.procedures (contract_with s ss) } ∷ []
entries_of c d (implementation n ps s b) = []

abbrev pub entries_after : Counts → ℕ → List Decl → Table
entries_after c d [] = []
entries_after c d (x ∷ xs) = entries_of c d x.body ++ entries_after (counts_with c x.body) (d + 1) xs

abbrev pub no_counts : Counts
no_counts = record { constants = 0; globals = 0; procedures = 0 }

abbrev pub table_of : List Decl → Table
table_of ds = entries_after no_counts 0 ds

abbrev pub counts_after : Counts → List Decl → Counts
counts_after c [] = c
counts_after c (x ∷ xs) = counts_after (counts_with c x.body) xs

abbrev pub names_in : Table → List Text
names_in t = map (λ (e : Entry). e.name) t

-- where a name stands first among names
abbrev pub first_at : Text → List Text → Option ℕ
first_at n [] = None
first_at n (m ∷ ms) = cond (bytes_eq n m) (Some 0) (option_map suc (first_at n ms))

-- what the name is, outside all procedures; of several declarations the first counts
abbrev pub entry_of : Table → Text → Option Entry
entry_of t n = find (λ (e : Entry). bytes_eq e.name n) t

unfoldable pub entity_of : Table → Text → Option Entity
entity_of t n = option_map (λ (e : Entry). e.entity) (entry_of t n)

-- a parameter or local; it has no sort where its type has a fault
pub record Var : Type 0 where
  pub name : Text
  pub role : Role
  pub number : ℕ
  pub sort : Option Kind

-- a bound variable, or a parameter of a function, which may have no name
pub record BoundVar : Type 0 where
  pub name : Option Text
  pub sort : Option Kind

-- parameters and locals hide what is declared, and bound variables hide both; the innermost bound variable stands first
pub record Scope : Type 0 where
  pub table : Table
  pub counts : Counts
  pub part : Part
  pub vars : List Var
  pub bounds : List BoundVar

pub data Meaning : Type 0 where
  bound_to : ℕ → Option Kind → Meaning
  stands_for : Var → Meaning
  declared_as : Entity → Meaning
  nothing : Meaning

abbrev pub has_name : Text → Option Text → Bool
has_name n None = false
has_name n (Some m) = bytes_eq n m

-- all but the out-parameters
abbrev pub unless_out : Var → Meaning
unless_out v = elim v.role [ in_parameter ↦ stands_for v | out_parameter ↦ nothing | local_variable ↦ stands_for v ]

-- an out-parameter is no name of a `requires`, and none of an in-parameter's clause
abbrev pub var_in : Part → Var → Meaning
var_in in_requires v = unless_out v
var_in in_clause_of_in v = unless_out v
var_in in_axiom v = stands_for v
var_in in_function v = stands_for v
var_in in_ensures v = stands_for v
var_in in_body v = stands_for v
var_in in_clause_of_global v = stands_for v
var_in in_clause_of_out v = stands_for v
var_in in_clause_of_local v = stands_for v

abbrev pub var_of : List Var → Text → Option Var
var_of vs n = find (λ (v : Var). bytes_eq v.name n) vs

-- of what is declared, the clause of a global or parameter names constants, functions and globals; no other name stands for anything there
abbrev pub unless_other : Entity → Meaning
unless_other (a_constant k t) = declared_as (a_constant k t)
unless_other (a_global k t) = declared_as (a_global k t)
unless_other (a_function h) = declared_as (a_function h)
unless_other (a_synonym t) = nothing
unless_other (a_procedure k c) = nothing

abbrev pub entity_in : Part → Entity → Meaning
entity_in in_axiom e = declared_as e
entity_in in_function e = declared_as e
entity_in in_requires e = declared_as e
entity_in in_ensures e = declared_as e
entity_in in_body e = declared_as e
entity_in in_clause_of_global e = unless_other e
entity_in in_clause_of_in e = unless_other e
entity_in in_clause_of_out e = unless_other e
entity_in in_clause_of_local e = declared_as e

abbrev pub declared_meaning : Part → Option Entity → Meaning
declared_meaning where_it_is None = nothing
declared_meaning where_it_is (Some e) = entity_in where_it_is e

abbrev pub free_meaning : Scope → Text → Option Var → Meaning
free_meaning s n (Some v) = var_in s.part v
free_meaning s n None = declared_meaning s.part (entity_of s.table n)

-- the first bound variable of that name, counted from k on
abbrev pub bound_meaning : ℕ → List BoundVar → Text → Meaning → Meaning
bound_meaning k [] n otherwise = otherwise
bound_meaning k (b ∷ bs) n otherwise = elim (has_name n b.name) [ true ↦ bound_to k b.sort | false ↦ bound_meaning (k + 1) bs n otherwise ]

unfoldable pub meaning : Scope → Text → Meaning
meaning s n = bound_meaning 0 s.bounds n (free_meaning s n (var_of s.vars n))

-- the names of which a type may not speak, since variables hide them
abbrev pub bound_names : List BoundVar → List Text
bound_names [] = []
bound_names (b ∷ bs) = elim b.name [ None ↦ bound_names bs | Some n ↦ n ∷ bound_names bs ]

abbrev pub hidden_in : Scope → List Text
hidden_in s = bound_names s.bounds ++ map (λ (v : Var). v.name) s.vars
