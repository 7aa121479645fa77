-- The tokens of a type and of an expression in the canonical text.
use Rattle.std.specs.Prelude.{Bool, true, false, List, [], ◌∷◌, ◌++◌, codes, decimal, Option, Some, None}
use Rattle.bpl_ast.specs.Place.{Name, Params, Ty, integer, boolean, named, map_type, Tys, no_tys, ty}
use Rattle.bpl_ast.specs.Tree.{Relation, eq, ne, lt, le, gt, ge, Quantifier, for_all, exists, Expr, expr, Node, number, truth, variable, apply, old, choose, quantified, iffs, implies, ands, ors, related, sums, products, negation, minus, indexed, Exprs, no_exprs, item, Terms, no_terms, plus, less, Indices, no_indices, at_index, update, Triggers, no_triggers, trigger, Groups, no_groups, group, Clause, no_clause, clause}
use Rattle.canonical_text.specs.Glyph.{Glyph, plain, word, opening, closing, prefix, index}
use Rattle.canonical_text.specs.declared.level.Level.{Level}
use Rattle.canonical_text.specs.declared.level.Level.TheVariants.{Equivalence, Implication, Junction, Comparison, Sum, Product, Unary, Atom}
use Rattle.canonical_text.specs.declared.sign.Sign.{Sign}
use Rattle.canonical_text.specs.declared.sign.Sign.TheVariants.{IffSign, ImpliesSign, AndSign, OrSign, RelationSign, TermSign, FactorSign, IndexSign}
use Rattle.canonical_text.specs.Parens.{needs_parens}

-- what follows the first name of a list
abbrev pub more_names : List Name → List Glyph
more_names [] = []
more_names (n ∷ ns) = closing "," ∷ plain n.text ∷ more_names ns

abbrev pub names : List Name → List Glyph
names [] = []
names (n ∷ ns) = plain n.text ∷ more_names ns

abbrev pub params : Option Params → List Glyph
params None = []
params (Some ps) = word "<" ∷ (names ps.names ++ word ">" ∷ [])

abbrev mutual
  pub type : Ty → List Glyph
  type (integer p) = word "int" ∷ []
  type (boolean p) = word "bool" ∷ []
  type (named p n) = plain n.text ∷ []
  type (map_type p ps ds r) = params ps ++ (opening "[" ∷ (types ds ++ closing "]" ∷ type r))

  pub types : Tys → List Glyph
  types no_tys = []
  types (ty t ts) = type t ++ more_types ts

  pub more_types : Tys → List Glyph
  more_types no_tys = []
  more_types (ty t ts) = closing "," ∷ (type t ++ more_types ts)

abbrev pub relation : Relation → Glyph
relation eq = word "=="
relation ne = word "!="
relation lt = word "<"
relation le = word "<="
relation gt = word ">"
relation ge = word ">="

abbrev pub quantifier : Quantifier → Glyph
quantifier for_all = word "forall"
quantifier exists = word "exists"

abbrev pub truth_word : Bool → Glyph
truth_word true = word "true"
truth_word false = word "false"

-- the sign behind an operand of a chain: the chain's own, or the one behind the chain
abbrev pub behind : Sign → Option Sign → Exprs → Option Sign
behind inner s no_exprs = s
behind inner s (item x xs) = Some inner

abbrev pub behind_term : Option Sign → Terms → Option Sign
behind_term s no_terms = s
behind_term s (plus x ts) = Some TermSign
behind_term s (less x ts) = Some TermSign

abbrev mutual
  -- an expression where a production of that level stands, and the sign behind it
  pub operand : Level → Option Sign → Expr → List Glyph
  operand w s (expr p n) = elim (needs_parens w s n) [ true ↦ opening "(" ∷ (node None n ++ closing ")" ∷ []) | false ↦ node s n ]

  pub node : Option Sign → Node → List Glyph
  node s (number n) = plain (decimal n) ∷ []
  node s (truth b) = truth_word b ∷ []
  node s (variable n) = plain n.text ∷ []
  node s (apply n xs) = prefix n.text ∷ opening "(" ∷ (listed xs ++ closing ")" ∷ [])
  node s (old p x) = word "old" ∷ opening "(" ∷ (operand Equivalence None x ++ closing ")" ∷ [])
  node s (choose c x y) = word "if" ∷ (operand Equivalence None c ++ word "then" ∷ (operand Equivalence None x ++ word "else" ∷ operand Equivalence s y))
  node s (quantified q p ps gs rs x) = opening "(" ∷ quantifier q ∷ (params ps ++ (groups gs ++ word "::" ∷ (triggers rs ++ (operand Equivalence None x ++ closing ")" ∷ []))))
  node s (iffs xs) = run Implication IffSign (word "<==>") s xs
  node s (implies xs) = run Junction ImpliesSign (word "==>") s xs
  node s (ands xs) = run Comparison AndSign (word "&&") s xs
  node s (ors xs) = run Comparison OrSign (word "||") s xs
  node s (related o x y) = operand Sum (Some RelationSign) x ++ relation o ∷ operand Sum s y
  node s (sums x ts) = operand Product (Some TermSign) x ++ terms s ts
  node s (products xs) = run Unary FactorSign (word "*") s xs
  node s (negation x) = prefix (codes "!") ∷ operand Unary s x
  node s (minus x) = prefix (codes "-") ∷ operand Unary s x
  node s (indexed x is) = operand Atom (Some IndexSign) x ++ indices is

  -- operands of that level with a sign between them
  pub run : Level → Sign → Glyph → Option Sign → Exprs → List Glyph
  run w inner g s no_exprs = []
  run w inner g s (item x xs) = operand w (behind inner s xs) x ++ more_run w inner g s xs

  pub more_run : Level → Sign → Glyph → Option Sign → Exprs → List Glyph
  more_run w inner g s no_exprs = []
  more_run w inner g s (item x xs) = g ∷ (operand w (behind inner s xs) x ++ more_run w inner g s xs)

  pub listed : Exprs → List Glyph
  listed no_exprs = []
  listed (item x xs) = operand Equivalence None x ++ more_listed xs

  pub more_listed : Exprs → List Glyph
  more_listed no_exprs = []
  more_listed (item x xs) = closing "," ∷ (operand Equivalence None x ++ more_listed xs)

  pub terms : Option Sign → Terms → List Glyph
  terms s no_terms = []
  terms s (plus x ts) = word "+" ∷ (operand Product (behind_term s ts) x ++ terms s ts)
  terms s (less x ts) = word "-" ∷ (operand Product (behind_term s ts) x ++ terms s ts)

  pub indices : Indices → List Glyph
  indices no_indices = []
  indices (at_index x is) = index ∷ (operand Equivalence None x ++ closing "]" ∷ indices is)
  indices (update x y is) = index ∷ (operand Equivalence None x ++ word ":=" ∷ (operand Equivalence None y ++ closing "]" ∷ indices is))

  pub triggers : Triggers → List Glyph
  triggers no_triggers = []
  triggers (trigger p xs rs) = word "{" ∷ (listed xs ++ word "}" ∷ triggers rs)

  -- a group of several names is printed as it is
  pub groups : Groups → List Glyph
  groups no_groups = []
  groups (group ns t c gs) = names ns ++ closing ":" ∷ (type t ++ (where_clause c ++ more_groups gs))

  pub more_groups : Groups → List Glyph
  more_groups no_groups = []
  more_groups (group ns t c gs) = closing "," ∷ (names ns ++ closing ":" ∷ (type t ++ (where_clause c ++ more_groups gs)))

  pub where_clause : Clause → List Glyph
  where_clause no_clause = []
  where_clause (clause p x) = word "where" ∷ operand Equivalence None x

-- an expression alone
abbrev pub expression : Expr → List Glyph
expression x = operand Equivalence None x
