-- What the code's variables stand for.
use Rattle.std.specs.Prelude.{◌≡◌, ℕ, List, map, Option, Some, None, option_map, slice_get}
use Rattle.bpl_scopes.specs.Scopes.{Text, Var as variable}
use Rattle.bpl_scopes.specs.Shape.{kind_seen}
use Rattle.bpl_faults.specs.declared.vars.Var.{Var}

abbrev pub var_seen : Var → variable
var_seen v = record { name = v.name.now; role = v.role; number = v.number; sort = kind_seen v.sort }

abbrev pub vars_seen : List Var → List variable
vars_seen vs = map var_seen vs

-- the variable at a position, where there is one
abbrev pub looked_var : List Var → Option ℕ → Option variable
looked_var vs None = None
looked_var vs (Some i) = option_map var_seen (slice_get vs i)

-- the names are those of the variables, in order
abbrev pub AreNamed : List Text → List variable → Type 0
AreNamed ns vs = ns ≡ map (λ v. v.name) vs
