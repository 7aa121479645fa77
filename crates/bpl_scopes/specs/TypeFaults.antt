-- The faults of a type: names that are no types, type parameters, domains other than the one type `int`.
use Rattle.std.specs.Prelude.{Bool, true, false, List, [], ◌++◌, Option, Some, None}
use Rattle.bv_base.specs.declared.place.Place.{Place}
use Rattle.bpl_ast.specs.Place.{Name, Params, Ty, integer, boolean, named, map_type, Tys, no_tys, ty}
use Rattle.bpl_ast.specs.Tree.{Clause, no_clause, clause, Groups, no_groups, group}
use Rattle.bpl_scopes.specs.declared.fault.TypeKind.TheVariants.{Unknown as unknown, Kind as wrong_kind, Unbuilt as unbuilt}
use Rattle.bpl_scopes.specs.declared.fault.Construct.TheVariants.{Polymorphic as polymorphic, Domain as domain, WhereWord as where_word}
use Rattle.bpl_scopes.specs.declared.fault.Fault.{Fault}
use Rattle.bv_base.specs.Text.{is_among}
use Rattle.bpl_scopes.specs.Fault.{fault, unless}
use Rattle.bpl_scopes.specs.Scopes.{Text, Entity, a_constant, a_global, a_function, a_synonym, a_procedure, Table, entity_of}
use Rattle.bpl_scopes.specs.Sorts.{is_int_alone, sorts_of_types}

-- a name that stands as a type, where no variable hides it
abbrev pub type_name_faults : Option Entity → Place → List Fault
type_name_faults None p = fault unknown p
type_name_faults (Some (a_synonym t)) p = []
type_name_faults (Some (a_constant k t)) p = fault wrong_kind p
type_name_faults (Some (a_global k t)) p = fault wrong_kind p
type_name_faults (Some (a_function h)) p = fault wrong_kind p
type_name_faults (Some (a_procedure k c)) p = fault wrong_kind p

-- type parameters
abbrev pub params_faults : Option Params → List Fault
params_faults None = []
params_faults (Some ps) = fault (unbuilt polymorphic) ps.at

-- the place of the first token of a type, and of the first of several
abbrev pub place_of_type : Ty → Place
place_of_type (integer p) = p
place_of_type (boolean p) = p
place_of_type (named p n) = p
place_of_type (map_type p ps ds r) = p

-- no text spells a map without a domain, which begins there
abbrev pub domain_faults : Bool → Place → Tys → List Fault
domain_faults is_int p no_tys = fault (unbuilt domain) p
domain_faults is_int p (ty d ds) = unless is_int (unbuilt domain) (place_of_type d)

-- a name that stands as a type where variables hide these names
abbrev pub name_faults : Table → List Text → Name → List Fault
name_faults t hidden n = elim (is_among hidden n.text) [ true ↦ fault wrong_kind n.at | false ↦ type_name_faults (entity_of t n.text) n.at ]

module _ (t : Table) (hidden : List Text) where
  abbrev mutual
    pub type_faults : Ty → List Fault
    type_faults (integer p) = []
    type_faults (boolean p) = []
    type_faults (named p n) = name_faults t hidden n
    type_faults (map_type p ps ds r) = params_faults ps ++ (domain_faults (is_int_alone (sorts_of_types t hidden ds)) p ds ++ (types_faults ds ++ type_faults r))

    pub types_faults : Tys → List Fault
    types_faults no_tys = []
    types_faults (ty s ss) = type_faults s ++ types_faults ss

  abbrev pub group_type_faults : Groups → List Fault
  group_type_faults no_groups = []
  group_type_faults (group ns s c gs) = type_faults s ++ group_type_faults gs

-- the word `where` where it isn't built: in a quantifier's group and in an implementation's parameters
abbrev pub where_faults : Clause → List Fault
where_faults no_clause = []
where_faults (clause p x) = fault (unbuilt where_word) p

abbrev pub group_where_faults : Groups → List Fault
group_where_faults no_groups = []
group_where_faults (group ns s c gs) = where_faults c ++ group_where_faults gs
