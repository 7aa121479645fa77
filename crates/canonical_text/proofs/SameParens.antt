-- Parentheses and tokens of the canonical text don't depend on places.
use Rattle.std.specs.Prelude.{◌≡◌, Bool, true, false, ◌||◌, codes, List, [], ◌∷◌, ◌++◌, Option, Some, None}
use Rattle.std.proofs.Common.{refl, ◌∙◌}
use Rattle.bpl_ast.specs.Place.{Name, Params, Ty, integer, boolean, named, map_type, Tys, no_tys, ty}
use Rattle.bpl_ast.specs.Tree.{Expr, expr, Node, number, truth, variable, apply, old, choose, quantified, iffs, implies, ands, ors, related, sums, products, negation, minus, indexed, Exprs, no_exprs, item, Terms, no_terms, plus, less, Indices, no_indices, at_index, update, Triggers, no_triggers, trigger, Groups, no_groups, group, Clause, no_clause, clause}
use Rattle.canonical_text.specs.declared.level.Level.{Level}
use Rattle.canonical_text.specs.declared.level.Level.TheVariants.{Equivalence, Implication, Junction, Comparison, Sum, Product, Unary, Atom}
use Rattle.canonical_text.specs.Level.{is_looser}
use Rattle.canonical_text.specs.declared.sign.Sign.{Sign}
use Rattle.canonical_text.specs.declared.sign.Sign.TheVariants.{IffSign, ImpliesSign, AndSign, OrSign, RelationSign, TermSign, FactorSign, IndexSign}
use Rattle.canonical_text.specs.declared.sign.Chain.TheVariants.{NoChain}
use Rattle.canonical_text.specs.Parens.{level, goes_on, chain_of, last_chain, operand_chain, compared, last_compared, operand_compared, if_takes, takes_in, operand_takes, last_takes, terms_take, is_caught, needs_parens}
use Rattle.canonical_text.specs.Glyph.{Glyph, plain, word, opening, closing, prefix, index}
use Rattle.canonical_text.specs.Expression.{more_names, names, params, type, types, more_types, relation, quantifier, behind, behind_term, operand, node, run, more_run, listed, more_listed, terms, indices, triggers, groups, more_groups, where_clause}
use Rattle.canonical_text.specs.Same.{bare_names, bare_params, bare_type, bare_types, bare, bare_node, bare_exprs, bare_terms, bare_indices, bare_triggers, bare_groups, bare_clause}

level_same : (n : Node) → level (bare_node n) ≡ level n
level_same (number n) = refl
level_same (truth b) = refl
level_same (variable n) = refl
level_same (apply n xs) = refl
level_same (old p x) = refl
level_same (choose c x y) = refl
level_same (quantified q p ps gs rs x) = refl
level_same (iffs xs) = refl
level_same (implies xs) = refl
level_same (ands xs) = refl
level_same (ors xs) = refl
level_same (related o x y) = refl
level_same (sums x ts) = refl
level_same (products xs) = refl
level_same (negation x) = refl
level_same (minus x) = refl
level_same (indexed x is) = refl

mutual
  chain_same : (n : Node) → chain_of (bare_node n) ≡ chain_of n
  chain_same (number n) = refl
  chain_same (truth b) = refl
  chain_same (variable n) = refl
  chain_same (apply n xs) = refl
  chain_same (old p x) = refl
  chain_same (choose c x y) = refl
  chain_same (quantified q p ps gs rs x) = refl
  chain_same (iffs xs) = last_chain_same Implication xs
  chain_same (implies xs) = last_chain_same Junction xs
  chain_same (ands xs) = refl
  chain_same (ors xs) = refl
  chain_same (related o x y) = refl
  chain_same (sums x ts) = refl
  chain_same (products xs) = refl
  chain_same (negation x) = refl
  chain_same (minus x) = refl
  chain_same (indexed x is) = refl

  last_chain_same : (w : Level) (xs : Exprs) → last_chain w (bare_exprs xs) ≡ last_chain w xs
  last_chain_same w no_exprs = refl
  last_chain_same w (item x no_exprs) = operand_chain_same w x
  last_chain_same w (item x (item y ys)) = last_chain_same w (item y ys)

  operand_chain_same : (w : Level) (x : Expr) → operand_chain w (bare x) ≡ operand_chain w x
  operand_chain_same w (expr p n) = λ i. elim (is_looser (level_same n i) w) [ true ↦ NoChain | false ↦ chain_same n i ]

mutual
  compared_same : (n : Node) → compared (bare_node n) ≡ compared n
  compared_same (number n) = refl
  compared_same (truth b) = refl
  compared_same (variable n) = refl
  compared_same (apply n xs) = refl
  compared_same (old p x) = refl
  compared_same (choose c x y) = refl
  compared_same (quantified q p ps gs rs x) = refl
  compared_same (iffs xs) = last_compared_same Implication xs
  compared_same (implies xs) = last_compared_same Junction xs
  compared_same (ands xs) = last_compared_same Comparison xs
  compared_same (ors xs) = last_compared_same Comparison xs
  compared_same (related o x y) = refl
  compared_same (sums x ts) = refl
  compared_same (products xs) = refl
  compared_same (negation x) = refl
  compared_same (minus x) = refl
  compared_same (indexed x is) = refl

  last_compared_same : (w : Level) (xs : Exprs) → last_compared w (bare_exprs xs) ≡ last_compared w xs
  last_compared_same w no_exprs = refl
  last_compared_same w (item x no_exprs) = operand_compared_same w x
  last_compared_same w (item x (item y ys)) = last_compared_same w (item y ys)

  operand_compared_same : (w : Level) (x : Expr) → operand_compared w (bare x) ≡ operand_compared w x
  operand_compared_same w (expr p n) = λ i. elim (is_looser (level_same n i) w) [ true ↦ false | false ↦ compared_same n i ]

mutual
  if_takes_same : (s : Sign) (n : Node) → if_takes s (bare_node n) ≡ if_takes s n
  if_takes_same s (number n) = refl
  if_takes_same s (truth b) = refl
  if_takes_same s (variable n) = refl
  if_takes_same s (apply n xs) = refl
  if_takes_same s (old p x) = refl
  if_takes_same s (choose c x y) = takes_in_same s y
  if_takes_same s (quantified q p ps gs rs x) = refl
  if_takes_same s (iffs xs) = last_takes_same s Implication xs
  if_takes_same s (implies xs) = last_takes_same s Junction xs
  if_takes_same s (ands xs) = last_takes_same s Comparison xs
  if_takes_same s (ors xs) = last_takes_same s Comparison xs
  if_takes_same s (related o x y) = operand_takes_same s Sum y
  if_takes_same s (sums x ts) = terms_take_same s ts
  if_takes_same s (products xs) = last_takes_same s Unary xs
  if_takes_same s (negation x) = operand_takes_same s Unary x
  if_takes_same s (minus x) = operand_takes_same s Unary x
  if_takes_same s (indexed x is) = refl

  takes_in_same : (s : Sign) (x : Expr) → takes_in s (bare x) ≡ takes_in s x
  takes_in_same s (expr p n) = λ i. goes_on s (chain_same n i) (compared_same n i) || if_takes_same s n i

  operand_takes_same : (s : Sign) (w : Level) (x : Expr) → operand_takes s w (bare x) ≡ operand_takes s w x
  operand_takes_same s w (expr p n) = λ i. elim (is_looser (level_same n i) w) [ true ↦ false | false ↦ if_takes_same s n i ]

  last_takes_same : (s : Sign) (w : Level) (xs : Exprs) → last_takes s w (bare_exprs xs) ≡ last_takes s w xs
  last_takes_same s w no_exprs = refl
  last_takes_same s w (item x no_exprs) = operand_takes_same s w x
  last_takes_same s w (item x (item y ys)) = last_takes_same s w (item y ys)

  terms_take_same : (s : Sign) (ts : Terms) → terms_take s (bare_terms ts) ≡ terms_take s ts
  terms_take_same s no_terms = refl
  terms_take_same s (plus x no_terms) = operand_takes_same s Product x
  terms_take_same s (less x no_terms) = operand_takes_same s Product x
  terms_take_same s (plus x (plus y ts)) = terms_take_same s (plus y ts)
  terms_take_same s (plus x (less y ts)) = terms_take_same s (less y ts)
  terms_take_same s (less x (plus y ts)) = terms_take_same s (plus y ts)
  terms_take_same s (less x (less y ts)) = terms_take_same s (less y ts)

caught_same : (s : Option Sign) (n : Node) → is_caught s (bare_node n) ≡ is_caught s n
caught_same None n = refl
caught_same (Some s) (number n) = refl
caught_same (Some s) (truth b) = refl
caught_same (Some s) (variable n) = refl
caught_same (Some s) (apply n xs) = refl
caught_same (Some s) (old p x) = refl
caught_same (Some s) (choose c x y) = takes_in_same s y
caught_same (Some s) (quantified q p ps gs rs x) = refl
caught_same (Some s) (iffs xs) = refl
caught_same (Some s) (implies xs) = refl
caught_same (Some s) (ands xs) = refl
caught_same (Some s) (ors xs) = refl
caught_same (Some s) (related o x y) = refl
caught_same (Some s) (sums x ts) = refl
caught_same (Some s) (products xs) = refl
caught_same (Some s) (negation x) = refl
caught_same (Some s) (minus x) = refl
caught_same (Some s) (indexed x is) = refl

parens_same : (w : Level) (s : Option Sign) (n : Node) → needs_parens w s (bare_node n) ≡ needs_parens w s n
parens_same w s n = λ i. is_looser (level_same n i) w || caught_same s n i

-- names and types

pub more_names_same : (ns : List Name) → more_names (bare_names ns) ≡ more_names ns
more_names_same [] = refl
more_names_same (n ∷ ns) = λ i. closing "," ∷ plain n.text ∷ more_names_same ns i

pub names_same : (ns : List Name) → names (bare_names ns) ≡ names ns
names_same [] = refl
names_same (n ∷ ns) = λ i. plain n.text ∷ more_names_same ns i

pub params_same : (ps : Option Params) → params (bare_params ps) ≡ params ps
params_same None = refl
params_same (Some ps) = λ i. word "<" ∷ (names_same ps.names i ++ word ">" ∷ [])

mutual
  pub type_same : (t : Ty) → type (bare_type t) ≡ type t
  type_same (integer p) = refl
  type_same (boolean p) = refl
  type_same (named p n) = refl
  type_same (map_type p ps ds r) = λ i. params_same ps i ++ (opening "[" ∷ (types_same ds i ++ closing "]" ∷ type_same r i))

  types_same : (ts : Tys) → types (bare_types ts) ≡ types ts
  types_same no_tys = refl
  types_same (ty t ts) = λ i. type_same t i ++ more_types_same ts i

  more_types_same : (ts : Tys) → more_types (bare_types ts) ≡ more_types ts
  more_types_same no_tys = refl
  more_types_same (ty t ts) = λ i. closing "," ∷ (type_same t i ++ more_types_same ts i)

-- expressions

behind_same : (inner : Sign) (s : Option Sign) (xs : Exprs) → behind inner s (bare_exprs xs) ≡ behind inner s xs
behind_same inner s no_exprs = refl
behind_same inner s (item x xs) = refl

behind_term_same : (s : Option Sign) (ts : Terms) → behind_term s (bare_terms ts) ≡ behind_term s ts
behind_term_same s no_terms = refl
behind_term_same s (plus x ts) = refl
behind_term_same s (less x ts) = refl

abbrev SameOperand : Expr → Type 0
SameOperand x = (w : Level) (s : Option Sign) → operand w s (bare x) ≡ operand w s x

abbrev EachSame : Exprs → Type 0
EachSame no_exprs = Unit {0}
EachSame (item x xs) = SameOperand x × EachSame xs

more_run_same : (w : Level) (inner : Sign) (g : Glyph) (s : Option Sign) (xs : Exprs) → EachSame xs → more_run w inner g s (bare_exprs xs) ≡ more_run w inner g s xs
more_run_same w inner g s no_exprs e = refl
more_run_same w inner g s (item x xs) e = (λ i. g ∷ (operand w (behind_same inner s xs i) (bare x) ++ more_run_same w inner g s xs e.1 i)) ∙ (λ i. g ∷ (e.0 w (behind inner s xs) i ++ more_run w inner g s xs))

run_same : (w : Level) (inner : Sign) (g : Glyph) (s : Option Sign) (xs : Exprs) → EachSame xs → run w inner g s (bare_exprs xs) ≡ run w inner g s xs
run_same w inner g s no_exprs e = refl
run_same w inner g s (item x xs) e = (λ i. operand w (behind_same inner s xs i) (bare x) ++ more_run_same w inner g s xs e.1 i) ∙ (λ i. e.0 w (behind inner s xs) i ++ more_run w inner g s xs)

more_listed_same : (xs : Exprs) → EachSame xs → more_listed (bare_exprs xs) ≡ more_listed xs
more_listed_same no_exprs e = refl
more_listed_same (item x xs) e = λ i. closing "," ∷ (e.0 Equivalence None i ++ more_listed_same xs e.1 i)

listed_by : (xs : Exprs) → EachSame xs → listed (bare_exprs xs) ≡ listed xs
listed_by no_exprs e = refl
listed_by (item x xs) e = λ i. e.0 Equivalence None i ++ more_listed_same xs e.1 i

operand_by : (w : Level) (s : Option Sign) (n : Node) → ((r : Option Sign) → node r (bare_node n) ≡ node r n) → (a b : Bool) → a ≡ b
    → ◌≡◌ {A = List Glyph} (elim a [ true ↦ opening "(" ∷ (node None (bare_node n) ++ closing ")" ∷ []) | false ↦ node s (bare_node n) ]) (elim b [ true ↦ opening "(" ∷ (node None n ++ closing ")" ∷ []) | false ↦ node s n ])
operand_by w s n f a b h = λ i. elim (h i) [ true ↦ opening "(" ∷ (f None i ++ closing ")" ∷ []) | false ↦ f s i ]

mutual
  pub operand_same : (x : Expr) (w : Level) (s : Option Sign) → operand w s (bare x) ≡ operand w s x
  operand_same (expr p n) w s = operand_by w s n (node_same n) (needs_parens w s (bare_node n)) (needs_parens w s n) (parens_same w s n)

  node_same : (n : Node) (s : Option Sign) → node s (bare_node n) ≡ node s n
  node_same (number n) s = refl
  node_same (truth b) s = refl
  node_same (variable n) s = refl
  node_same (apply n xs) s = λ i. prefix n.text ∷ opening "(" ∷ (listed_by xs (each_same xs) i ++ closing ")" ∷ [])
  node_same (old p x) s = λ i. word "old" ∷ opening "(" ∷ (operand_same x Equivalence None i ++ closing ")" ∷ [])
  node_same (choose c x y) s = λ i. word "if" ∷ (operand_same c Equivalence None i ++ word "then" ∷ (operand_same x Equivalence None i ++ word "else" ∷ operand_same y Equivalence s i))
  node_same (quantified q p ps gs rs x) s = λ i. opening "(" ∷ quantifier q ∷ (params_same ps i ++ (groups_same gs i ++ word "::" ∷ (triggers_same rs i ++ (operand_same x Equivalence None i ++ closing ")" ∷ []))))
  node_same (iffs xs) s = run_same Implication IffSign (word "<==>") s xs (each_same xs)
  node_same (implies xs) s = run_same Junction ImpliesSign (word "==>") s xs (each_same xs)
  node_same (ands xs) s = run_same Comparison AndSign (word "&&") s xs (each_same xs)
  node_same (ors xs) s = run_same Comparison OrSign (word "||") s xs (each_same xs)
  node_same (related o x y) s = λ i. operand_same x Sum (Some RelationSign) i ++ relation o ∷ operand_same y Sum s i
  node_same (sums x ts) s = λ i. operand_same x Product (Some TermSign) i ++ terms_same ts s i
  node_same (products xs) s = run_same Unary FactorSign (word "*") s xs (each_same xs)
  node_same (negation x) s = λ i. prefix (codes "!") ∷ operand_same x Unary s i
  node_same (minus x) s = λ i. prefix (codes "-") ∷ operand_same x Unary s i
  node_same (indexed x is) s = λ i. operand_same x Atom (Some IndexSign) i ++ indices_same is i

  each_same : (xs : Exprs) → EachSame xs
  each_same no_exprs = tt
  each_same (item x xs) = (operand_same x, each_same xs)

  terms_same : (ts : Terms) (s : Option Sign) → terms s (bare_terms ts) ≡ terms s ts
  terms_same no_terms s = refl
  terms_same (plus x ts) s = (λ i. word "+" ∷ (operand Product (behind_term_same s ts i) (bare x) ++ terms_same ts s i)) ∙ (λ i. word "+" ∷ (operand_same x Product (behind_term s ts) i ++ terms s ts))
  terms_same (less x ts) s = (λ i. word "-" ∷ (operand Product (behind_term_same s ts i) (bare x) ++ terms_same ts s i)) ∙ (λ i. word "-" ∷ (operand_same x Product (behind_term s ts) i ++ terms s ts))

  indices_same : (is : Indices) → indices (bare_indices is) ≡ indices is
  indices_same no_indices = refl
  indices_same (at_index x is) = λ i. index ∷ (operand_same x Equivalence None i ++ closing "]" ∷ indices_same is i)
  indices_same (update x y is) = λ i. index ∷ (operand_same x Equivalence None i ++ word ":=" ∷ (operand_same y Equivalence None i ++ closing "]" ∷ indices_same is i))

  triggers_same : (rs : Triggers) → triggers (bare_triggers rs) ≡ triggers rs
  triggers_same no_triggers = refl
  triggers_same (trigger p xs rs) = λ i. word "{" ∷ (listed_by xs (each_same xs) i ++ word "}" ∷ triggers_same rs i)

  pub groups_same : (gs : Groups) → groups (bare_groups gs) ≡ groups gs
  groups_same no_groups = refl
  groups_same (group ns t c gs) = λ i. names_same ns i ++ closing ":" ∷ (type_same t i ++ (clause_same c i ++ more_groups_same gs i))

  more_groups_same : (gs : Groups) → more_groups (bare_groups gs) ≡ more_groups gs
  more_groups_same no_groups = refl
  more_groups_same (group ns t c gs) = λ i. closing "," ∷ (names_same ns i ++ closing ":" ∷ (type_same t i ++ (clause_same c i ++ more_groups_same gs i)))

  clause_same : (c : Clause) → where_clause (bare_clause c) ≡ where_clause c
  clause_same no_clause = refl
  clause_same (clause p x) = λ i. word "where" ∷ operand_same x Equivalence None i

pub listed_same : (xs : Exprs) → listed (bare_exprs xs) ≡ listed xs
listed_same xs = listed_by xs (each_same xs)
