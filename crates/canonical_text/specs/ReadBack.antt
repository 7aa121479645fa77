-- The canonical text of a tree, read as a part of a program, gives the tree again but for places.
use Rattle.std.specs.Prelude.{◌≡◌, ℕ, ◌≤◌, List, Ok, None, IsTrue}
use Rattle.bpl_ast.specs.Place.{Ty}
use Rattle.bpl_ast.specs.Tree.{Expr}
use Rattle.canonical_text.specs.Expression.{type, expression}
use Rattle.bpl_grammar.specs.Lexeme.{Lexeme}
use Rattle.bpl_grammar.specs.ReadTypes.{type_with, read_type}
use Rattle.bpl_grammar.specs.ReadExpressions.{read_inner, e_with}
use Rattle.canonical_text.specs.Same.{SameType, Same}
use Rattle.canonical_text.specs.WrittenExpression.{IsWrittenType, IsWritten}
use Rattle.canonical_text.specs.Nestings.{type_depth, expression_depth}
use Rattle.canonical_text.specs.Spelled.{Spelled}
use Rattle.canonical_text.specs.Ahead.{ahead}

-- where there is room for the nestings of the text, the type is read, and what is behind it is left
abbrev pub TypesAreReadBack : Type 0
TypesAreReadBack = (t : Ty) → IsWrittenType t → (room : ℕ) → type_depth t ≤ room → (ls us : List Lexeme) → Spelled (type t) ls us → (u : Ty) × (type_with (read_type room) ls ≡ Ok (u, us)) × SameType u t

-- the same of an expression, where what is behind it doesn't go on with it
abbrev pub ExpressionsAreReadBack : Type 0
ExpressionsAreReadBack = (x : Expr) → IsWritten x → (room : ℕ) → expression_depth x ≤ room → (ls us : List Lexeme) → IsTrue (ahead None us) → Spelled (expression x) ls us
    → (y : Expr) × (e_with room (read_inner room) ls ≡ Ok (y, us)) × Same y x
