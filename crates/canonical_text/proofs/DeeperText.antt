-- Where the pair of parentheses that keeps an `if` from taking in what follows stands around the outermost `if` that ends
-- there, it may enclose what no parentheses of another text of the same tree enclose: the canonical text may be deeper.
use Rattle.std.specs.Prelude.{◌≡◌, refl, codes, List, [], ◌∷◌, Ok}
use Rattle.bv_base.specs.declared.place.Place.{Place}
use Rattle.bpl_ast.specs.Tree.{Expr, expr, variable, choose, ands, ors, negation, Exprs, no_exprs, item}
use Rattle.canonical_text.specs.Glyph.{Glyph, plain, word, opening, closing, prefix, spaced}
use Rattle.canonical_text.specs.Expression.{expression}
use Rattle.bpl_grammar.specs.Lexeme.{Lexeme}
use Rattle.bpl_grammar.specs.ReadExpressions.{read_inner, e_with, imp_with, log_with, rels_with, rel_with, sum_with, terms_with, prod_with, factors_with, un_with, post_with, indices_with, atom_with, choose_with, enclosed_with, inside_with, named_with}
use Rattle.bpl_grammar.specs.Reading.{read_name, repeated}
use Rattle.canonical_text.specs.Nestings.{expression_depth}
use Rattle.canonical_text.specs.Spelled.{token}
use Prim.Native.String.{String}

abbrev here : Place
here = record { line = 1; col = 1 }

abbrev v : String → Expr
v s = expr here (variable (record { text = codes s; at = here }))

abbrev two : Expr → Expr → Exprs
two x y = item x (item y no_exprs)

-- if !!a then b else c && (if d then e else f) || g
abbrev tree : Expr
tree =
    expr here (ors (two (expr here (choose (expr here (negation (expr here (negation (v "a"))))) (v "b") (expr here (ands (two (v "c") (expr here (choose (v "d") (v "e") (v "f")))))))) (v "g")))

abbrev lexemes_of : List Glyph → List Lexeme
lexemes_of [] = []
lexemes_of (g ∷ gs) = token here g ∷ lexemes_of gs

abbrev n : String → Glyph
n s = plain (codes s)

-- a text of the tree in which no token lies inside more than 3
shallow_text : e_with 3 (read_inner 3) (lexemes_of (
    word "if" ∷ prefix (codes "!") ∷ prefix (codes "!") ∷ n "a" ∷ word "then" ∷ n "b" ∷ word "else" ∷ n "c" ∷ word "&&"
    ∷ opening "(" ∷ word "if" ∷ n "d" ∷ word "then" ∷ n "e" ∷ word "else" ∷ n "f" ∷ closing ")" ∷ word "||" ∷ n "g" ∷ [])) ≡ Ok (tree, [])
unfolding e_with imp_with log_with rels_with rel_with sum_with terms_with prod_with factors_with un_with post_with indices_with atom_with choose_with enclosed_with inside_with named_with read_name repeated
shallow_text = refl

-- its canonical text, in which one lies inside 4
canonical_text : spaced (expression tree) ≡ codes "(if !!a then b else c && if d then e else f) || g"
canonical_text = refl

canonical_depth : expression_depth tree ≡ 4
canonical_depth = refl
