-- Where parentheses are needed.
use Rattle.std.specs.Prelude.{Bool, true, false, ◌||◌, Option, Some}
use Rattle.canonical_text.specs.declared.level.Level.{Level}
use Rattle.canonical_text.specs.declared.level.Level.TheVariants.{Equivalence, Implication, Junction, Comparison, Sum, Product, Unary, Postfix, Atom}
use Rattle.canonical_text.specs.Level.{is_looser}
use Rattle.canonical_text.specs.declared.sign.Sign.{Sign}
use Rattle.canonical_text.specs.declared.sign.Sign.TheVariants.{AndSign, OrSign, RelationSign}
use Rattle.canonical_text.specs.declared.sign.Chain.{Chain}
use Rattle.canonical_text.specs.declared.sign.Chain.TheVariants.{NoChain, AndChain, OrChain}
use Rattle.bpl_ast.specs.Tree.{Expr, expr, Node, choose, iffs, implies, ands, ors, related, sums, products, negation, minus, indexed, Exprs, no_exprs, item, Terms, no_terms, plus, less}

-- the production that spells the node without parentheses
abbrev pub level : Node → Level
level (iffs xs) = Equivalence
level (implies xs) = Implication
level (ands xs) = Junction
level (ors xs) = Junction
level (related o x y) = Comparison
level (sums x ts) = Sum
level (products xs) = Product
level (negation x) = Unary
level (minus x) = Unary
level (indexed x is) = Postfix
level n = Atom

-- a sign behind an operand, and how an expression that goes up to there goes on: the chain that it
-- is in, and whether its last operand is compared
abbrev pub goes_on : Sign → Chain → Bool → Bool
goes_on AndSign OrChain compared = false
goes_on OrSign AndChain compared = false
goes_on RelationSign c true = false
goes_on s c compared = true

-- where the operand would stand in parentheses, it goes on as any operand does
abbrev mutual
  pub chain_of : Node → Chain
  chain_of (iffs xs) = last_chain Implication xs
  chain_of (implies xs) = last_chain Junction xs
  chain_of (ands xs) = AndChain
  chain_of (ors xs) = OrChain
  chain_of n = NoChain

  pub last_chain : Level → Exprs → Chain
  last_chain w no_exprs = NoChain
  last_chain w (item x no_exprs) = operand_chain w x
  last_chain w (item x (item y ys)) = last_chain w (item y ys)

  pub operand_chain : Level → Expr → Chain
  operand_chain w (expr p n) = elim (is_looser (level n) w) [ true ↦ NoChain | false ↦ chain_of n ]

abbrev mutual
  pub compared : Node → Bool
  compared (iffs xs) = last_compared Implication xs
  compared (implies xs) = last_compared Junction xs
  compared (ands xs) = last_compared Comparison xs
  compared (ors xs) = last_compared Comparison xs
  compared (related o x y) = true
  compared n = false

  pub last_compared : Level → Exprs → Bool
  last_compared w no_exprs = false
  last_compared w (item x no_exprs) = operand_compared w x
  last_compared w (item x (item y ys)) = last_compared w (item y ys)

  pub operand_compared : Level → Expr → Bool
  operand_compared w (expr p n) = elim (is_looser (level n) w) [ true ↦ false | false ↦ compared n ]

-- whether an `if` that ends the expression, outside parentheses, takes the sign in
abbrev mutual
  pub if_takes : Sign → Node → Bool
  if_takes s (choose c x y) = takes_in s y
  if_takes s (iffs xs) = last_takes s Implication xs
  if_takes s (implies xs) = last_takes s Junction xs
  if_takes s (ands xs) = last_takes s Comparison xs
  if_takes s (ors xs) = last_takes s Comparison xs
  if_takes s (related o x y) = operand_takes s Sum y
  if_takes s (sums x ts) = terms_take s ts
  if_takes s (products xs) = last_takes s Unary xs
  if_takes s (negation x) = operand_takes s Unary x
  if_takes s (minus x) = operand_takes s Unary x
  if_takes s n = false

  -- whether the operand after `else` takes the sign in
  pub takes_in : Sign → Expr → Bool
  takes_in s (expr p n) = goes_on s (chain_of n) (compared n) || if_takes s n

  pub operand_takes : Sign → Level → Expr → Bool
  operand_takes s w (expr p n) = elim (is_looser (level n) w) [ true ↦ false | false ↦ if_takes s n ]

  pub last_takes : Sign → Level → Exprs → Bool
  last_takes s w no_exprs = false
  last_takes s w (item x no_exprs) = operand_takes s w x
  last_takes s w (item x (item y ys)) = last_takes s w (item y ys)

  pub terms_take : Sign → Terms → Bool
  terms_take s no_terms = false
  terms_take s (plus x no_terms) = operand_takes s Product x
  terms_take s (less x no_terms) = operand_takes s Product x
  terms_take s (plus x ts) = terms_take s ts
  terms_take s (less x ts) = terms_take s ts

-- an `if` that would take in the sign behind it
abbrev pub is_caught : Option Sign → Node → Bool
is_caught (Some s) (choose c x y) = takes_in s y
is_caught s n = false

-- whether parentheses stand around the node where a production of that level stands and that sign comes next
abbrev pub needs_parens : Level → Option Sign → Node → Bool
needs_parens w s n = is_looser (level n) w || is_caught s n
