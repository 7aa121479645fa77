-- The tokens of one part of a sum, of one index, and of one group.
use Rattle.std.specs.Prelude.{List, [], ◌∷◌, ◌++◌, Option, None}
use Rattle.bpl_ast.specs.ExprView.{clause_of}
use Rattle.canonical_text.specs.Glyph.{Glyph, word, closing, index}
use Rattle.canonical_text.specs.Expression.{names, type, operand, where_clause}
use Rattle.canonical_text.specs.declared.level.Level.TheVariants.{Equivalence, Product}
use Rattle.canonical_text.specs.declared.sign.Sign.{Sign}
use Rattle.bpl_ast.specs.declared.expr.Term.{Term}
use Rattle.bpl_ast.specs.declared.expr.Term.TheVariants.{Plus, Less}
use Rattle.bpl_ast.specs.declared.expr.Index.{Index}
use Rattle.bpl_ast.specs.declared.expr.Index.TheVariants.{Read, Write}
use Rattle.bpl_ast.specs.declared.expr.Group.{Group}

abbrev pub term_tokens : Option Sign → Term → List Glyph
term_tokens s (Plus x) = word "+" ∷ operand Product s x
term_tokens s (Less x) = word "-" ∷ operand Product s x

abbrev pub index_tokens : Index → List Glyph
index_tokens (Read x) = index ∷ (operand Equivalence None x ++ closing "]" ∷ [])
index_tokens (Write x y) = index ∷ (operand Equivalence None x ++ word ":=" ∷ (operand Equivalence None y ++ closing "]" ∷ []))

abbrev pub group_tokens : Group → List Glyph
group_tokens g = names g.names.items ++ closing ":" ∷ (type g.of ++ where_clause (clause_of g.condition))
