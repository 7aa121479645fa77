-- The faults of a name in an expression, by what it stands for.
use Rattle.std.specs.Prelude.{ℕ, Bool, true, false, ◌&&◌, not, nat_eq, List, [], ◌++◌, length, Option, Some, None}
use Rattle.bv_base.specs.declared.place.Place.{Place}
use Rattle.logic_terms.specs.Tree.{Kind}
use Rattle.logic_terms.specs.Same.{same_kind}
use Rattle.bpl_scopes.specs.declared.fault.TypeKind.TheVariants.{Unknown as unknown, Kind as wrong_kind, Sort as wrong_sort, Arity as arity, QuantifierHere as quantifier_here, OldHere as old_here}
use Rattle.bpl_scopes.specs.declared.fault.Fault.{Fault}
use Rattle.bpl_scopes.specs.Fault.{fault, unless, if_so}
use Rattle.bpl_scopes.specs.declared.part.Part.{Part}
use Rattle.bpl_scopes.specs.declared.part.Part.TheVariants.{Axiom as in_axiom, Function as in_function, Requires as in_requires, Ensures as in_ensures, Body as in_body, ClauseOfGlobal as in_clause_of_global, ClauseOfIn as in_clause_of_in, ClauseOfOut as in_clause_of_out, ClauseOfLocal as in_clause_of_local}
use Rattle.bpl_scopes.specs.Scopes.{Text, Heading, Entity, a_constant, a_global, a_function, a_synonym, a_procedure, Scope, Meaning, bound_to, stands_for, declared_as, nothing}
use Rattle.bpl_scopes.specs.Sorts.{reads_globals}
use Rattle.bpl_scopes.specs.Functions.{is_logical}

-- a name that stands as a variable; a global variable doesn't in a function or axiom
abbrev pub entity_faults : Part → Entity → Place → List Fault
entity_faults where_it_is (a_constant k t) p = []
entity_faults where_it_is (a_global k t) p = unless (reads_globals where_it_is) wrong_kind p
entity_faults where_it_is (a_function h) p = fault wrong_kind p
entity_faults where_it_is (a_synonym t) p = fault wrong_kind p
entity_faults where_it_is (a_procedure k c) p = fault wrong_kind p

abbrev pub variable_faults : Part → Meaning → Place → List Fault
variable_faults where_it_is (bound_to i k) p = []
variable_faults where_it_is (stands_for v) p = []
variable_faults where_it_is (declared_as e) p = entity_faults where_it_is e p
variable_faults where_it_is nothing p = fault unknown p

-- a name that is applied to so many arguments; a logical function is applied in formula positions alone
abbrev pub function_faults : Scope → Bool → Text → Heading → ℕ → Place → List Fault
function_faults s is_formula n h arguments p = unless (nat_eq (length h.ins) arguments) arity p ++ if_so (not is_formula && is_logical s.table n) quantifier_here p

abbrev pub application_faults : Scope → Bool → Text → Meaning → ℕ → Place → List Fault
application_faults s is_formula n (bound_to i k) arguments p = fault wrong_kind p
application_faults s is_formula n (stands_for v) arguments p = fault wrong_kind p
application_faults s is_formula n (declared_as (a_function h)) arguments p = function_faults s is_formula n h arguments p
application_faults s is_formula n (declared_as (a_constant k t)) arguments p = fault wrong_kind p
application_faults s is_formula n (declared_as (a_global k t)) arguments p = fault wrong_kind p
application_faults s is_formula n (declared_as (a_synonym t)) arguments p = fault wrong_kind p
application_faults s is_formula n (declared_as (a_procedure k c)) arguments p = fault wrong_kind p
application_faults s is_formula n nothing arguments p = fault unknown p

-- `old` stands in bodies and `ensures`, and in no where clause
abbrev pub reads_entry : Part → Bool
reads_entry in_axiom = false
reads_entry in_function = false
reads_entry in_requires = false
reads_entry in_ensures = true
reads_entry in_body = true
reads_entry in_clause_of_global = false
reads_entry in_clause_of_in = false
reads_entry in_clause_of_out = false
reads_entry in_clause_of_local = false

abbrev pub old_faults : Part → Place → List Fault
old_faults where_it_is p = unless (reads_entry where_it_is) old_here p

-- an operand that has a sort has to have that one
abbrev pub sort_faults : Kind → Option Kind → Place → List Fault
sort_faults k None p = []
sort_faults k (Some j) p = unless (same_kind j k) wrong_sort p

-- the same, where it has to have the sort of something that may have none
abbrev pub same_sort_faults : Option Kind → Option Kind → Place → List Fault
same_sort_faults None j p = []
same_sort_faults (Some k) j p = sort_faults k j p

-- what is read or written has to be a map
abbrev pub map_faults : Option Kind → Place → List Fault
map_faults None p = []
map_faults (Some Kind.int) p = fault wrong_sort p
map_faults (Some Kind.boolean) p = fault wrong_sort p
map_faults (Some (Kind.map r)) p = []

-- the sort of its entries
abbrev pub entry_sort : Option Kind → Option Kind
entry_sort (Some (Kind.map r)) = Some r
entry_sort m = None
