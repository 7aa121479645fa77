-- Where the declarations of functions stand, in the order of the functions' numbers.
use Rattle.std.specs.Prelude.{ℕ, ◌+◌, List, [], ◌∷◌, length, set, replicate, Option, Some, None}
use Rattle.bpl_ast.specs.Statement.{DeclBody, function, Decl}
use Rattle.bpl_model.specs.Module.{Function}
use Rattle.bpl_scopes.specs.Positions.{first_at}
use Rattle.bpl_scopes.specs.Scopes.{Text, Table, Counts, entity_of}
use Rattle.bpl_scopes.specs.Functions.{function_in}
use Rattle.bpl_resolve.specs.Elaborate.{function_def}

-- the function that a declaration declares
abbrev pub function_name : DeclBody → Option Text
function_name (function n ps ins t x) = Some n.text
function_name d = None

abbrev pub put_at : ℕ → Option ℕ → List ℕ → List ℕ
put_at i None places = places
put_at i (Some k) places = set places k i

-- the position i for the function of that name, in this order
abbrev pub place : List Text → ℕ → Option Text → List ℕ → List ℕ
place order i None places = places
place order i (Some n) places = put_at i (first_at n order) places

abbrev pub places_from : List Text → ℕ → List Decl → List ℕ → List ℕ
places_from order i [] places = places
places_from order i (d ∷ ds) places = places_from order (i + 1) ds (place order i (function_name d.body) places)

-- a position beyond the declarations stands where no function of the name is declared
abbrev pub places : List Text → List Decl → List ℕ
places order ds = places_from order 0 ds (replicate (length order) (length ds))

module _ (t : Table) (c : Counts) where
  abbrev pub named_function : Option Text → List Function
  named_function None = []
  named_function (Some n) = function_def t c n (function_in (entity_of t n))

  -- the function of the declaration at a position
  abbrev pub function_at : Option Decl → List Function
  function_at None = []
  function_at (Some d) = named_function (function_name d.body)
