-- What stands behind an expression: a sign that may go on with it, or none.
use Rattle.std.specs.Prelude.{Bool, true, false, not, ◌&&◌, ◌||◌, codes, List, Option, Some, None}
use Rattle.bpl_ast.specs.Tree.{Expr, Node}
use Rattle.canonical_text.specs.declared.level.Level.{Level}
use Rattle.canonical_text.specs.declared.level.Level.TheVariants.{Equivalence, Implication, Junction, Comparison, Sum, Product, Postfix}
use Rattle.canonical_text.specs.Level.{is_looser}
use Rattle.canonical_text.specs.declared.sign.Sign.{Sign}
use Rattle.canonical_text.specs.declared.sign.Sign.TheVariants.{IffSign, ImpliesSign, AndSign, OrSign, RelationSign, TermSign, FactorSign, IndexSign}
use Rattle.canonical_text.specs.Parens.{goes_on, chain_of, compared, operand_chain, operand_compared}
use Rattle.bpl_grammar.specs.Lexeme.{Lexeme}
use Rattle.bpl_grammar.specs.Terminal.{fixed, sees}
use Prim.Native.String.{String}

-- the production that goes on with the sign
abbrev pub sign_level : Sign → Level
sign_level IffSign = Equivalence
sign_level ImpliesSign = Implication
sign_level AndSign = Junction
sign_level OrSign = Junction
sign_level RelationSign = Comparison
sign_level TermSign = Sum
sign_level FactorSign = Product
sign_level IndexSign = Postfix

abbrev pub sees_text : String → List Lexeme → Bool
sees_text w ls = sees (fixed (codes w)) ls

-- whether the next lexeme is such a sign
abbrev pub sees_sign : Sign → List Lexeme → Bool
sees_sign IffSign ls = sees_text "<==>" ls
sees_sign ImpliesSign ls = sees_text "==>" ls
sees_sign AndSign ls = sees_text "&&" ls
sees_sign OrSign ls = sees_text "||" ls
sees_sign RelationSign ls = sees_text "==" ls || sees_text "!=" ls || sees_text "<" ls || sees_text "<=" ls || sees_text ">" ls || sees_text ">=" ls
sees_sign TermSign ls = sees_text "+" ls || sees_text "-" ls
sees_sign FactorSign ls = sees_text "*" ls
sees_sign IndexSign ls = sees_text "[" ls

-- whether this sign may be next
abbrev pub is_sign : Sign → Option Sign → Bool
is_sign IffSign (Some IffSign) = true
is_sign ImpliesSign (Some ImpliesSign) = true
is_sign AndSign (Some AndSign) = true
is_sign OrSign (Some OrSign) = true
is_sign RelationSign (Some RelationSign) = true
is_sign TermSign (Some TermSign) = true
is_sign FactorSign (Some FactorSign) = true
is_sign IndexSign (Some IndexSign) = true
is_sign w s = false

-- whether what is seen is what is wanted, where nothing else may be seen
abbrev pub only : Bool → Bool → Bool
only true b = true
only false b = not b

-- no sign but this one may be next, and no parenthesis of a call
abbrev pub ahead : Option Sign → List Lexeme → Bool
ahead s ls =
    only (is_sign IffSign s) (sees_sign IffSign ls) && only (is_sign ImpliesSign s) (sees_sign ImpliesSign ls) && only (is_sign AndSign s) (sees_sign AndSign ls) && only (is_sign OrSign s) (sees_sign OrSign ls)
    && only (is_sign RelationSign s) (sees_sign RelationSign ls) && only (is_sign TermSign s) (sees_sign TermSign ls) && only (is_sign FactorSign s) (sees_sign FactorSign ls) && only (is_sign IndexSign s) (sees_sign IndexSign ls)
    && not (sees_text "(" ls)

-- whether an expression that is read where a production of that level stands stops before the sign
abbrev pub stops : Level → Option Sign → Node → Bool
stops w None n = true
stops w (Some s) n = is_looser (sign_level s) w || not (goes_on s (chain_of n) (compared n))

abbrev pub stops_operand : Level → Option Sign → Expr → Bool
stops_operand w None x = true
stops_operand w (Some s) x = is_looser (sign_level s) w || not (goes_on s (operand_chain w x) (operand_compared w x))
