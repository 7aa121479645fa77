-- The variables of a procedure with their numbers, and the scopes of its contract and body.
use Rattle.std.specs.Prelude.{ℕ, ◌+◌, List, [], ◌∷◌, ◌++◌, map, length, flat_map, reverse, Some, None}
use Rattle.bpl_ast.specs.Place.{Name, Ty}
use Rattle.bpl_ast.specs.Tree.{Groups}
use Rattle.bpl_ast.specs.Statement.{Argument, Signature}
use Rattle.bpl_scopes.specs.declared.part.Part.{Part}
use Rattle.bpl_scopes.specs.declared.part.Part.TheVariants.{Function as in_function}
use Rattle.bpl_scopes.specs.declared.part.Role.{Role}
use Rattle.bpl_scopes.specs.declared.part.Role.TheVariants.{In as in_parameter, Out as out_parameter, Local as local_variable}
use Rattle.bpl_scopes.specs.Scopes.{Text, Table, Counts, names_of, only_names, texts_of, signature_names, Var, BoundVar, Scope}
use Rattle.bpl_scopes.specs.Sorts.{sort_of_type}

-- names with their types as variables of one role, numbered from k on, where some names are no types
abbrev pub vars_from : Table → List Text → Role → ℕ → List (Name × Ty) → List Var
vars_from t hidden r k [] = []
vars_from t hidden r k (p ∷ ps) = record { name = (p.0).text; role = r; number = k; sort = sort_of_type t hidden p.1 } ∷ vars_from t hidden r (k + 1) ps

-- constants, globals and their entry values have the lower numbers
abbrev pub first_parameter : Counts → ℕ
first_parameter c = c.constants + (c.globals + c.globals)

abbrev pub locals_of : List Groups → List (Name × Ty)
locals_of vs = flat_map names_of vs

-- the names that are no types in a body's variables
abbrev pub names_in_body : Signature → List Groups → List Name
names_in_body g vs = signature_names g ++ only_names (locals_of vs)

module _ (t : Table) (c : Counts) (g : Signature) where
  abbrev pub in_vars : List Var
  in_vars = vars_from t (texts_of (signature_names g)) in_parameter (first_parameter c) (names_of g.ins)

  abbrev pub out_vars : List Var
  out_vars = vars_from t (texts_of (signature_names g)) out_parameter (first_parameter c + length (names_of g.ins)) (names_of g.outs)

  abbrev pub parameters : List Var
  parameters = in_vars ++ out_vars

  abbrev pub local_vars : List Groups → List Var
  local_vars vs = vars_from t (texts_of (names_in_body g vs)) local_variable (first_parameter c + (length (names_of g.ins) + length (names_of g.outs))) (locals_of vs)

  abbrev pub body_vars : List Groups → List Var
  body_vars vs = parameters ++ local_vars vs

abbrev pub scope_of : Table → Counts → Part → List Var → Scope
scope_of t c part vs = record { table = t; counts = c; part = part; vars = vs; bounds = [] }

-- the parameters of a function, the last of which has the number 0 among bound variables
abbrev pub bound_argument : Table → Argument → BoundVar
bound_argument t a = record { name = elim a.name [ None ↦ None | Some n ↦ Some n.text ]; sort = sort_of_type t [] a.type }

abbrev pub function_scope : Table → Counts → List Argument → Scope
function_scope t c ins = record { table = t; counts = c; part = in_function; vars = []; bounds = reverse (map (bound_argument t) ins) }
