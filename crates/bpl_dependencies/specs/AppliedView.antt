-- What the code's lists of names stand for.
use Rattle.std.specs.Prelude.{List, ◌++◌, map}
use Rattle.std.specs.Borrow.{Bor}
use Rattle.bpl_scopes.specs.Scopes.{Text}
use Rattle.bpl_dependencies.specs.declared.variables.Variables.{Variables}

abbrev pub texts_seen : List (Bor Text) → List Text
texts_seen ns = map (λ n. n.now) ns

-- the variables that quantifiers bind, and then the parameters
abbrev pub variables_seen : Variables → List Text
variables_seen v = texts_seen v.bound.items ++ v.params.now
