-- The types of what a program declares: of constants and global variables, of functions, and of the variables of procedures.
use Rattle.std.specs.Prelude.{List, [], ◌∷◌, map, flat_map, Option, Some, None}
use Rattle.bpl_ast.specs.Place.{Name, Ty as Written}
use Rattle.bpl_ast.specs.Statement.{Argument, Signature, DeclBody, constant, function, axiom_of, variables, synonym, procedure, implementation, Decl}
use Rattle.bpl_scopes.specs.Scopes.{Text, Heading, Table, names_of, table_of, entity_of}
use Rattle.bpl_scopes.specs.Functions.{function_in, in_number_order}
use Rattle.bpl_declaration_faults.specs.Variables.{locals_of}
use Rattle.bpl_resolve.specs.Elaborate.{Implemented, or_else, own_body, implementation_of}
use Rattle.bpl_sorts.specs.Types.{Ty, integers, Head}
use Rattle.bpl_sorts.specs.TypeNames.{type_over}
use Rattle.user_types.specs.Erased.{erased}

-- the parameters and locals of a procedure
pub record ProcTypes : Type 0 where
  pub ins : List Ty
  pub outs : List Ty
  pub locals : List Ty

pub record Types : Type 0 where
  pub consts : List Ty
  pub globals : List Ty
  pub functions : List Head
  pub procs : List ProcTypes

-- by what the names of types stand for in this table
module _ (t : Table) where
  -- of names with their types
  abbrev pub types_named : List (Name × Written) → List Ty
  types_named ps = map (λ (p : Name × Written). type_over t p.1) ps

  abbrev pub const_types_in : DeclBody → List Ty
  const_types_in (constant u ns s) = map (λ (n : Name). type_over t s) ns
  const_types_in (function n ps ins r x) = []
  const_types_in (axiom_of x) = []
  const_types_in (variables gs) = []
  const_types_in (synonym n s) = []
  const_types_in (procedure n ps g ss b) = []
  const_types_in (implementation n ps g b) = []

  abbrev pub global_types_in : DeclBody → List Ty
  global_types_in (variables gs) = types_named (names_of gs)
  global_types_in (constant u ns s) = []
  global_types_in (function n ps ins r x) = []
  global_types_in (axiom_of x) = []
  global_types_in (synonym n s) = []
  global_types_in (procedure n ps g ss b) = []
  global_types_in (implementation n ps g b) = []

  abbrev pub head_of : Option Heading → Head
  head_of None = ([], integers)
  head_of (Some h) = (map (λ (a : Argument). type_over t a.type) h.ins, type_over t h.result)

  -- locals are those of the body, which may stand in an `implementation`
  abbrev pub local_types : Option Implemented → List Ty
  local_types None = []
  local_types (Some i) = types_named (locals_of i.1.locals)

  abbrev pub proc_types : Signature → Option Implemented → ProcTypes
  proc_types g i = record { ins = types_named (names_of g.ins); outs = types_named (names_of g.outs); locals = local_types i }

  -- by the bodies of implementations under the names of procedures
  abbrev pub proc_types_in : (Text → Option Implemented) → DeclBody → List ProcTypes
  proc_types_in bodies (procedure n ps g ss b) = proc_types g (or_else (own_body g b) (bodies n.text)) ∷ []
  proc_types_in bodies (constant u ns s) = []
  proc_types_in bodies (function n ps ins r x) = []
  proc_types_in bodies (axiom_of x) = []
  proc_types_in bodies (variables gs) = []
  proc_types_in bodies (synonym n s) = []
  proc_types_in bodies (implementation n ps g b) = []

  -- each in the order of its numbers
  abbrev pub types_over : List Decl → Types
  types_over ds = record {
    consts = flat_map (λ (d : Decl). const_types_in d.body) ds;
    globals = flat_map (λ (d : Decl). global_types_in d.body) ds;
    functions = map (λ (n : Text). head_of (function_in (entity_of (table_of ds) n))) (in_number_order (table_of ds));
    procs = flat_map (λ (d : Decl). proc_types_in (implementation_of ds) d.body) ds;
  }

-- the erased declarations keep the numbers
abbrev pub declared_types : List Decl → Types
declared_types ds = types_over (table_of ds) (erased ds)
