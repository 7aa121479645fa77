-- The tokens of names, types and expressions stand apart.
use Rattle.std.specs.Prelude.{ℕ, ◌<◌, ◌^◌, Bool, true, false, codes, decimal, List, [], ◌∷◌, ◌++◌, IsTrue, Option, Some, None}
use Rattle.std.proofs.Common.{refl, sym, subst}
use Rattle.bv_base.specs.declared.place.Place.{Place}
use Rattle.bpl_ast.specs.Place.{Name, Params, Ty, integer, boolean, named, map_type, Tys, no_tys, ty}
use Rattle.bpl_ast.specs.Tree.{Relation, eq, ne, lt, le, gt, ge, Quantifier, for_all, exists, Expr, expr, Node, number, truth, variable, apply, old, choose, quantified, iffs, implies, ands, ors, related, sums, products, negation, minus, indexed, Exprs, no_exprs, item, Terms, no_terms, plus, less, Indices, no_indices, at_index, update, Triggers, no_triggers, trigger, Groups, no_groups, group, Clause, no_clause, clause}
use Rattle.canonical_text.specs.declared.level.Level.{Level}
use Rattle.canonical_text.specs.declared.level.Level.TheVariants.{Equivalence, Implication, Junction, Comparison, Sum, Product, Unary, Atom}
use Rattle.canonical_text.specs.declared.sign.Sign.{Sign}
use Rattle.canonical_text.specs.declared.sign.Sign.TheVariants.{IffSign, ImpliesSign, AndSign, OrSign, RelationSign, TermSign, FactorSign, IndexSign}
use Rattle.canonical_text.specs.Parens.{needs_parens}
use Rattle.canonical_text.specs.Glyph.{Glyph, plain, word, opening, closing, prefix, index}
use Rattle.canonical_text.specs.Expression.{more_names, names, params, type, types, more_types, relation, quantifier, truth_word, behind, behind_term, operand, node, run, more_run, listed, more_listed, terms, indices, triggers, groups, more_groups, where_clause}
use Rattle.bpl_grammar.specs.Nesting.{value}
use Rattle.canonical_text.specs.WrittenExpression.{AreNames, SomeNames, AreParams, IsWrittenType, AreWrittenTypes, two_exprs, IsWritten, IsWrittenNode, AreWritten, AreWrittenTerms, AreWrittenIndices, AreWrittenTriggers, AreWrittenGroups, IsWrittenClause}
use Rattle.canonical_text.proofs.Numbers.{decimal_kind, decimal_value}
use Rattle.canonical_text.proofs.Alone.{IsLoose, loose_name, loose_word, loose_number}
use Rattle.canonical_text.proofs.Signs.{iff_loose, implies_loose, and_loose, or_loose, eq_loose, ne_loose, le_loose, gt_loose, ge_loose, plus_loose, minus_loose, star_loose, bound_loose, set_loose, open_brace_loose, close_brace_loose, round_loose, square_loose, comma_loose, less_spaced, colon_spaced, round_open, square_open, index_open, minus_open, first_name, first_number, first_word, first_round, first_square, first_less, first_not, first_minus}
use Rattle.canonical_text.proofs.Apart.{Rest, Good, rest_nil, rest_append, good_append, rest_loose, good_loose, rest_spaced, rest_open, good_open, rest_not, rest_called}

-- names

pub rest_more_names : (ns : List Name) → AreNames ns → Rest (more_names ns)
rest_more_names [] w = rest_nil
rest_more_names (n ∷ ns) w = rest_loose (closing ",") (plain n.text ∷ more_names ns) comma_loose (rest_loose (plain n.text) (more_names ns) (loose_name n.text w.0) (rest_more_names ns w.1))

pub good_names : (ns : List Name) → SomeNames ns → Good (names ns)
good_names [] w = absurd w
good_names (n ∷ ns) w = good_loose (plain n.text) (more_names ns) (loose_name n.text w.0) (first_name n.text false w.0) (rest_more_names ns w.1)

pub good_some_params : (ns : List Name) → SomeNames ns → Good (word "<" ∷ (names ns ++ word ">" ∷ []))
good_some_params ns w = record { rest = rest_spaced (word "<") (names ns ++ word ">" ∷ []) less_spaced (good_append (names ns) (word ">" ∷ []) (good_names ns w) (rest_loose (word ">") [] gt_loose rest_nil)); begins = first_less }

pub rest_params : (ps : Option Params) → AreParams ps → Rest (params ps)
rest_params None w = rest_nil
rest_params (Some ps) w = (good_some_params ps.names w).rest

-- type parameters before a token that a space stands before
pub good_params : (ps : Option Params) (gs : List Glyph) → AreParams ps → Good gs → Good (params ps ++ gs)
good_params None gs w g = g
good_params (Some ps) gs w g = good_append (params (Some ps)) gs (good_some_params ps.names w) g.rest

-- types

mutual
  pub good_type : (t : Ty) → IsWrittenType t → Good (type t)
  good_type (integer p) w = good_loose (word "int") [] (loose_word "int" refl refl) (first_word "int" refl) rest_nil
  good_type (boolean p) w = good_loose (word "bool") [] (loose_word "bool" refl refl) (first_word "bool" refl) rest_nil
  good_type (named p n) w = good_loose (plain n.text) [] (loose_name n.text w) (first_name n.text false w) rest_nil
  good_type (map_type p ps ds r) w =
      good_params ps (opening "[" ∷ (types ds ++ closing "]" ∷ type r)) w.0
      (good_open (opening "[") (types ds ++ closing "]" ∷ type r) square_open first_square (rest_append (types ds) (closing "]" ∷ type r) (rest_types ds w.2) (rest_loose (closing "]") (type r) square_loose (good_type r w.3).rest)))

  rest_types : (ts : Tys) → AreWrittenTypes ts → Rest (types ts)
  rest_types no_tys w = rest_nil
  rest_types (ty t ts) w = rest_append (type t) (more_types ts) (good_type t w.0).rest (rest_more_types ts w.1)

  rest_more_types : (ts : Tys) → AreWrittenTypes ts → Rest (more_types ts)
  rest_more_types no_tys w = rest_nil
  rest_more_types (ty t ts) w = rest_loose (closing ",") (type t ++ more_types ts) comma_loose (rest_append (type t) (more_types ts) (good_type t w.0).rest (rest_more_types ts w.1))

-- expressions

narrow_decimal : (n : ℕ) → n < 2 ^ 127 → value (decimal n) < 2 ^ 127
narrow_decimal n h = subst (λ (m : ℕ). m < 2 ^ 127) (sym (decimal_value n h)) h

abbrev pub GoodOperand : Expr → Type 0
GoodOperand x = (w : Level) (s : Option Sign) → Good (operand w s x)

abbrev pub GoodNode : Node → Type 0
GoodNode n = (s : Option Sign) → Good (node s n)

operand_by : (w : Level) (s : Option Sign) (n : Node) (b : Bool) → GoodNode n → Good (elim b [ true ↦ opening "(" ∷ (node None n ++ closing ")" ∷ []) | false ↦ node s n ])
operand_by w s n true g = good_open (opening "(") (node None n ++ closing ")" ∷ []) round_open first_round (rest_append (node None n) (closing ")" ∷ []) (g None).rest (rest_loose (closing ")") [] round_loose rest_nil))
operand_by w s n false g = g s

-- a word or sign, and an operand
after_word : (g : Glyph) (gs : List Glyph) → IsLoose g → Good gs → Rest (g ∷ gs)
after_word g gs l r = rest_loose g gs l r.rest

related_good : (o : Relation) (gs : List Glyph) → Good gs → Rest (relation o ∷ gs)
related_good eq gs g = rest_loose (word "==") gs eq_loose g.rest
related_good ne gs g = rest_loose (word "!=") gs ne_loose g.rest
related_good lt gs g = rest_spaced (word "<") gs less_spaced g
related_good le gs g = rest_loose (word "<=") gs le_loose g.rest
related_good gt gs g = rest_loose (word ">") gs gt_loose g.rest
related_good ge gs g = rest_loose (word ">=") gs ge_loose g.rest

quantifier_rest : (q : Quantifier) (gs : List Glyph) → Rest gs → Rest (quantifier q ∷ gs)
quantifier_rest for_all gs r = rest_loose (word "forall") gs (loose_word "forall" refl refl) r
quantifier_rest exists gs r = rest_loose (word "exists") gs (loose_word "exists" refl refl) r

truth_good : (b : Bool) → Good (truth_word b ∷ [])
truth_good true = good_loose (word "true") [] (loose_word "true" refl refl) (first_word "true" refl) rest_nil
truth_good false = good_loose (word "false") [] (loose_word "false" refl refl) (first_word "false" refl) rest_nil

abbrev EachGood : Exprs → Type 0
EachGood no_exprs = Unit {0}
EachGood (item x xs) = GoodOperand x × EachGood xs

more_run_rest : (w : Level) (inner : Sign) (g : Glyph) (s : Option Sign) (xs : Exprs) → IsLoose g → EachGood xs → Rest (more_run w inner g s xs)
more_run_rest w inner g s no_exprs l e = rest_nil
more_run_rest w inner g s (item x xs) l e =
    rest_loose g (operand w (behind inner s xs) x ++ more_run w inner g s xs) l (rest_append (operand w (behind inner s xs) x) (more_run w inner g s xs) (e.0 w (behind inner s xs)).rest (more_run_rest w inner g s xs l e.1))

run_good : (w : Level) (inner : Sign) (g : Glyph) (s : Option Sign) (xs : Exprs) → IsTrue (two_exprs xs) → IsLoose g → EachGood xs → Good (run w inner g s xs)
run_good w inner g s no_exprs t l e = absurd (cc)
run_good w inner g s (item x xs) t l e = good_append (operand w (behind inner s xs) x) (more_run w inner g s xs) (e.0 w (behind inner s xs)) (more_run_rest w inner g s xs l e.1)

pub more_listed_rest : (xs : Exprs) → EachGood xs → Rest (more_listed xs)
more_listed_rest no_exprs e = rest_nil
more_listed_rest (item x xs) e = rest_loose (closing ",") (operand Equivalence None x ++ more_listed xs) comma_loose (rest_append (operand Equivalence None x) (more_listed xs) (e.0 Equivalence None).rest (more_listed_rest xs e.1))

pub listed_rest : (xs : Exprs) → EachGood xs → Rest (listed xs)
listed_rest no_exprs e = rest_nil
listed_rest (item x xs) e = rest_append (operand Equivalence None x) (more_listed xs) (e.0 Equivalence None).rest (more_listed_rest xs e.1)

-- in parentheses
pub in_round : (gs hs : List Glyph) → Rest gs → Rest hs → Rest (opening "(" ∷ (gs ++ closing ")" ∷ hs))
in_round gs hs r q = rest_open (opening "(") (gs ++ closing ")" ∷ hs) round_open (rest_append gs (closing ")" ∷ hs) r (rest_loose (closing ")") hs round_loose q))

abbrev EachTerm : Terms → Type 0
EachTerm no_terms = Unit {0}
EachTerm (plus x ts) = GoodOperand x × EachTerm ts
EachTerm (less x ts) = GoodOperand x × EachTerm ts

terms_rest : (s : Option Sign) (ts : Terms) → EachTerm ts → Rest (terms s ts)
terms_rest s no_terms e = rest_nil
terms_rest s (plus x ts) e = rest_loose (word "+") (operand Product (behind_term s ts) x ++ terms s ts) plus_loose (rest_append (operand Product (behind_term s ts) x) (terms s ts) (e.0 Product (behind_term s ts)).rest (terms_rest s ts e.1))
terms_rest s (less x ts) e = rest_loose (word "-") (operand Product (behind_term s ts) x ++ terms s ts) minus_loose (rest_append (operand Product (behind_term s ts) x) (terms s ts) (e.0 Product (behind_term s ts)).rest (terms_rest s ts e.1))

abbrev EachIndex : Indices → Type 0
EachIndex no_indices = Unit {0}
EachIndex (at_index x is) = GoodOperand x × EachIndex is
EachIndex (update x y is) = GoodOperand x × GoodOperand y × EachIndex is

indices_rest : (is : Indices) → EachIndex is → Rest (indices is)
indices_rest no_indices e = rest_nil
indices_rest (at_index x is) e = rest_open index (operand Equivalence None x ++ closing "]" ∷ indices is) index_open (rest_append (operand Equivalence None x) (closing "]" ∷ indices is) (e.0 Equivalence None).rest (rest_loose (closing "]") (indices is) square_loose (indices_rest is e.1)))
indices_rest (update x y is) e =
    rest_open index (operand Equivalence None x ++ word ":=" ∷ (operand Equivalence None y ++ closing "]" ∷ indices is)) index_open (rest_append (operand Equivalence None x) (word ":=" ∷ (operand Equivalence None y ++ closing "]" ∷ indices is)) (e.0 Equivalence None).rest
    (rest_loose (word ":=") (operand Equivalence None y ++ closing "]" ∷ indices is) set_loose (rest_append (operand Equivalence None y) (closing "]" ∷ indices is) (e.1 Equivalence None).rest (rest_loose (closing "]") (indices is) square_loose (indices_rest is e.2)))))

abbrev EachTrigger : Triggers → Type 0
EachTrigger no_triggers = Unit {0}
EachTrigger (trigger p xs rs) = EachGood xs × EachTrigger rs

triggers_rest : (rs : Triggers) → EachTrigger rs → Rest (triggers rs)
triggers_rest no_triggers e = rest_nil
triggers_rest (trigger p xs rs) e = rest_loose (word "{") (listed xs ++ word "}" ∷ triggers rs) open_brace_loose (rest_append (listed xs) (word "}" ∷ triggers rs) (listed_rest xs e.0) (rest_loose (word "}") (triggers rs) close_brace_loose (triggers_rest rs e.1)))

abbrev GoodClause : Clause → Type 0
GoodClause no_clause = Unit {0}
GoodClause (clause p x) = GoodOperand x

clause_rest : (c : Clause) → GoodClause c → Rest (where_clause c)
clause_rest no_clause e = rest_nil
clause_rest (clause p x) e = rest_loose (word "where") (operand Equivalence None x) (loose_word "where" refl refl) (e Equivalence None).rest

abbrev EachGroup : Groups → Type 0
EachGroup no_groups = Unit {0}
EachGroup (group ns t c gs) = SomeNames ns × IsWrittenType t × GoodClause c × EachGroup gs

group_good : (ns : List Name) (t : Ty) (c : Clause) (hs : List Glyph) → SomeNames ns → IsWrittenType t → GoodClause c → Rest hs → Good (names ns ++ closing ":" ∷ (type t ++ (where_clause c ++ hs)))
group_good ns t c hs w v e r =
    good_append (names ns) (closing ":" ∷ (type t ++ (where_clause c ++ hs))) (good_names ns w)
    (rest_spaced (closing ":") (type t ++ (where_clause c ++ hs)) colon_spaced (good_append (type t) (where_clause c ++ hs) (good_type t v) (rest_append (where_clause c) hs (clause_rest c e) r)))

more_groups_rest : (gs : Groups) → EachGroup gs → Rest (more_groups gs)
more_groups_rest no_groups e = rest_nil
more_groups_rest (group ns t c gs) e = rest_loose (closing ",") (names ns ++ closing ":" ∷ (type t ++ (where_clause c ++ more_groups gs))) comma_loose (group_good ns t c (more_groups gs) e.0 e.1 e.2 (more_groups_rest gs e.3)).rest

groups_rest : (gs : Groups) → EachGroup gs → Rest (groups gs)
groups_rest no_groups e = rest_nil
groups_rest (group ns t c gs) e = (group_good ns t c (more_groups gs) e.0 e.1 e.2 (more_groups_rest gs e.3)).rest

choose_good : (s : Option Sign) (c x y : Expr) → GoodOperand c → GoodOperand x → GoodOperand y → Good (node s (choose c x y))
choose_good s c x y gc gx gy =
    good_loose (word "if") (operand Equivalence None c ++ word "then" ∷ (operand Equivalence None x ++ word "else" ∷ operand Equivalence s y)) (loose_word "if" refl refl) (first_word "if" refl)
    (rest_append (operand Equivalence None c) (word "then" ∷ (operand Equivalence None x ++ word "else" ∷ operand Equivalence s y)) (gc Equivalence None).rest
    (rest_loose (word "then") (operand Equivalence None x ++ word "else" ∷ operand Equivalence s y) (loose_word "then" refl refl)
    (rest_append (operand Equivalence None x) (word "else" ∷ operand Equivalence s y) (gx Equivalence None).rest (rest_loose (word "else") (operand Equivalence s y) (loose_word "else" refl refl) (gy Equivalence s).rest))))

quantified_good : (s : Option Sign) (q : Quantifier) (p : Place) (ps : Option Params) (gs : Groups) (rs : Triggers) (x : Expr) → AreParams ps → EachGroup gs → EachTrigger rs → GoodOperand x → Good (node s (quantified q p ps gs rs x))
quantified_good s q p ps gs rs x w eg er gx =
    good_open (opening "(") (quantifier q ∷ (params ps ++ (groups gs ++ word "::" ∷ (triggers rs ++ (operand Equivalence None x ++ closing ")" ∷ []))))) round_open first_round
    (quantifier_rest q (params ps ++ (groups gs ++ word "::" ∷ (triggers rs ++ (operand Equivalence None x ++ closing ")" ∷ []))))
    (rest_append (params ps) (groups gs ++ word "::" ∷ (triggers rs ++ (operand Equivalence None x ++ closing ")" ∷ []))) (rest_params ps w)
    (rest_append (groups gs) (word "::" ∷ (triggers rs ++ (operand Equivalence None x ++ closing ")" ∷ []))) (groups_rest gs eg)
    (rest_loose (word "::") (triggers rs ++ (operand Equivalence None x ++ closing ")" ∷ [])) bound_loose
    (rest_append (triggers rs) (operand Equivalence None x ++ closing ")" ∷ []) (triggers_rest rs er)
    (rest_append (operand Equivalence None x) (closing ")" ∷ []) (gx Equivalence None).rest (rest_loose (closing ")") [] round_loose rest_nil)))))))

mutual
  pub good_operand : (x : Expr) → IsWritten x → GoodOperand x
  good_operand (expr p n) h = λ w s. operand_by w s n (needs_parens w s n) (good_node n h)

  pub good_node : (n : Node) → IsWrittenNode n → GoodNode n
  good_node (number n) h = λ s. good_loose (plain (decimal n)) [] (loose_number (decimal n) (decimal_kind n h) (narrow_decimal n h)) (first_number (decimal n) (decimal_kind n h)) rest_nil
  good_node (truth b) h = λ s. truth_good b
  good_node (variable n) h = λ s. good_loose (plain n.text) [] (loose_name n.text h) (first_name n.text false h) rest_nil
  good_node (apply n xs) h = λ s. record { rest = rest_called n.text (opening "(") 40 (listed xs ++ closing ")" ∷ []) h.0 refl refl (in_round (listed xs) [] (listed_rest xs (each_good xs h.1)) rest_nil); begins = first_name n.text true h.0 }
  good_node (old p x) h = λ s. good_loose (word "old") (opening "(" ∷ (operand Equivalence None x ++ closing ")" ∷ [])) (loose_word "old" refl refl) (first_word "old" refl) (in_round (operand Equivalence None x) [] (good_operand x h Equivalence None).rest rest_nil)
  good_node (choose c x y) h = λ s. choose_good s c x y (good_operand c h.0) (good_operand x h.1) (good_operand y h.2)
  good_node (quantified q p ps gs rs x) h = λ s. quantified_good s q p ps gs rs x h.0 (each_group gs h.2) (each_trigger rs h.3) (good_operand x h.4)
  good_node (iffs xs) h = λ s. run_good Implication IffSign (word "<==>") s xs h.0 iff_loose (each_good xs h.1)
  good_node (implies xs) h = λ s. run_good Junction ImpliesSign (word "==>") s xs h.0 implies_loose (each_good xs h.1)
  good_node (ands xs) h = λ s. run_good Comparison AndSign (word "&&") s xs h.0 and_loose (each_good xs h.1)
  good_node (ors xs) h = λ s. run_good Comparison OrSign (word "||") s xs h.0 or_loose (each_good xs h.1)
  good_node (related o x y) h = λ s. good_append (operand Sum (Some RelationSign) x) (relation o ∷ operand Sum s y) (good_operand x h.0 Sum (Some RelationSign)) (related_good o (operand Sum s y) (good_operand y h.1 Sum s))
  good_node (sums x ts) h = λ s. good_append (operand Product (Some TermSign) x) (terms s ts) (good_operand x h.0 Product (Some TermSign)) (terms_rest s ts (each_term ts h.2))
  good_node (products xs) h = λ s. run_good Unary FactorSign (word "*") s xs h.0 star_loose (each_good xs h.1)
  good_node (negation x) h = λ s. record { rest = rest_not (operand Unary s x) (good_operand x h Unary s); begins = first_not }
  good_node (minus x) h = λ s. good_open (prefix (codes "-")) (operand Unary s x) minus_open first_minus (good_operand x h Unary s).rest
  good_node (indexed x is) h = λ s. good_append (operand Atom (Some IndexSign) x) (indices is) (good_operand x h.0 Atom (Some IndexSign)) (indices_rest is (each_index is h.2))

  pub each_good : (xs : Exprs) → AreWritten xs → EachGood xs
  each_good no_exprs h = tt
  each_good (item x xs) h = (good_operand x h.0, each_good xs h.1)

  each_term : (ts : Terms) → AreWrittenTerms ts → EachTerm ts
  each_term no_terms h = tt
  each_term (plus x ts) h = (good_operand x h.0, each_term ts h.1)
  each_term (less x ts) h = (good_operand x h.0, each_term ts h.1)

  each_index : (is : Indices) → AreWrittenIndices is → EachIndex is
  each_index no_indices h = tt
  each_index (at_index x is) h = (good_operand x h.0, each_index is h.1)
  each_index (update x y is) h = (good_operand x h.0, good_operand y h.1, each_index is h.2)

  each_trigger : (rs : Triggers) → AreWrittenTriggers rs → EachTrigger rs
  each_trigger no_triggers h = tt
  each_trigger (trigger p xs rs) h = (each_good xs h.1, each_trigger rs h.2)

  each_group : (gs : Groups) → AreWrittenGroups gs → EachGroup gs
  each_group no_groups h = tt
  each_group (group ns t c gs) h = (h.0, h.1, good_clause c h.2, each_group gs h.3)

  good_clause : (c : Clause) → IsWrittenClause c → GoodClause c
  good_clause no_clause h = tt
  good_clause (clause p x) h = good_operand x h

pub rest_groups : (gs : Groups) → AreWrittenGroups gs → Rest (groups gs)
rest_groups gs w = groups_rest gs (each_group gs w)

pub rest_listed : (xs : Exprs) → AreWritten xs → Rest (listed xs)
rest_listed xs w = listed_rest xs (each_good xs w)
