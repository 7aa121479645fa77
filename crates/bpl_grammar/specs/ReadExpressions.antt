-- Reading expressions, production by production.
use Rattle.std.specs.Prelude.{ℕ, zero, suc, ◌||◌, nat_lt, true, false, cond, List, [], ◌∷◌, drop, codes, Option, Some, None, Ok, Err}
use Rattle.bv_base.specs.declared.place.Place.{Place}
use Rattle.bpl_lex.specs.Token.{id, number as number_kind, text}
use Rattle.bpl_ast.specs.Place.{Name, Ty}
use Rattle.bpl_ast.specs.Tree.{Relation, eq, ne, lt, le, gt, ge, Quantifier, for_all, exists, Expr, expr, Node, number, truth, variable, apply, old, choose, quantified, iffs, implies, ands, ors, related, sums, products, negation, minus, indexed, Exprs, Triggers, no_triggers, trigger, Groups, no_groups, group, Clause, no_clause, clause, first_place, expr_from}
use Rattle.bpl_ast.specs.ExprView.{exprs_of, terms_of, indices_of}
use Rattle.bpl_ast.specs.declared.expr.Term.{Term}
use Rattle.bpl_ast.specs.declared.expr.Term.TheVariants.{Plus, Less}
use Rattle.bpl_ast.specs.declared.expr.Index.{Index}
use Rattle.bpl_ast.specs.declared.expr.Index.TheVariants.{Read as AtIndex, Write}
use Rattle.bpl_grammar.specs.Lexeme.{Lexeme}
use Rattle.bpl_grammar.specs.Limits.{number_end}
use Rattle.bpl_grammar.specs.Nesting.{value}
use Rattle.bpl_grammar.specs.Judge.{syntax, wide}
use Rattle.bpl_grammar.specs.Terminal.{Terminal, kind, fixed, sees}
use Rattle.bpl_grammar.specs.Reading.{Read, followed, read_as, place_of, text_at, read_fixed, read_name, refused, repeated, read_behind, read_run, listed, read_ids}
use Rattle.bpl_grammar.specs.ReadTypes.{read_params, read_type}

-- the tokens with which an expression can begin, and what stands in parentheses
abbrev pub expr_firsts : List Terminal
expr_firsts =
    fixed (codes "!") ∷ fixed (codes "-") ∷ kind number_kind ∷ fixed (codes "true") ∷ fixed (codes "false") ∷ kind id
    ∷ fixed (codes "old") ∷ fixed (codes "(") ∷ fixed (codes "if") ∷ []

abbrev pub enclosed_firsts : List Terminal
enclosed_firsts = fixed (codes "forall") ∷ fixed (codes "exists") ∷ expr_firsts

-- what is read inside one more nesting
pub data Inner : Type 0 where
  whole : Inner
  operand : Inner
  enclosed : Place → Inner  -- behind the parenthesis of that place

abbrev pub firsts_of : Inner → List Terminal
firsts_of whole = expr_firsts
firsts_of operand = expr_firsts
firsts_of (enclosed p) = enclosed_firsts

-- one part alone, or a node of all of them
abbrev pub joined : (Exprs → Node) → List Expr → Expr
joined f [] = expr (record { line = 1; col = 1 }) (truth false)
joined f (x ∷ []) = x
joined f (x ∷ y ∷ xs) = expr (first_place x) (f (exprs_of (x ∷ y ∷ xs)))

abbrev pub sum_of : Expr → List Term → Expr
sum_of x [] = x
sum_of x (t ∷ ts) = expr (first_place x) (sums x (terms_of (t ∷ ts)))

abbrev pub indexed_by : Expr → List Index → Expr
indexed_by x [] = x
indexed_by x (i ∷ is) = expr (first_place x) (indexed x (indices_of (i ∷ is)))

abbrev pub relation_at : List Lexeme → Option Relation
relation_at ls =
    cond (sees (fixed (codes "==")) ls) (Some eq) (cond (sees (fixed (codes "!=")) ls) (Some ne) (cond (sees (fixed (codes "<")) ls) (Some lt)
    (cond (sees (fixed (codes "<=")) ls) (Some le) (cond (sees (fixed (codes ">")) ls) (Some gt) (cond (sees (fixed (codes ">=")) ls) (Some ge) None)))))

unfoldable pub read_number : List Lexeme → Read ℕ
read_number ls = cond (sees (kind number_kind) ls)
    (cond (nat_lt (value (text_at ls)) number_end) (Ok (value (text_at ls), drop 1 ls)) (Err (wide, ls)))
    (Err (syntax, ls))

-- names that are declared together, their type, and their condition
pub record Together : Type 0 where
  pub names : List Name
  pub of : Ty
  pub condition : Clause

abbrev pub groups_from : List Together → Groups
groups_from [] = no_groups
groups_from (g ∷ gs) = group g.names g.of g.condition (groups_from gs)

pub record Patterns : Type 0 where
  pub at : Place
  pub patterns : List Expr

abbrev pub triggers_from : List Patterns → Triggers
triggers_from [] = no_triggers
triggers_from (t ∷ ts) = trigger t.at (exprs_of t.patterns) (triggers_from ts)

-- those that are there
abbrev pub kept : {A : Type 0} → List (Option A) → List A
kept [] = []
kept (None ∷ xs) = kept xs
kept (Some x ∷ xs) = x ∷ kept xs

-- a relation and a second sum, where a relation stands
abbrev pub compared : (List Lexeme → Read Expr) → Expr → Option Relation → List Lexeme → Read Expr
compared sum x None ls = Ok (x, ls)
compared sum x (Some r) ls = read_as (λ y. expr (first_place x) (related r x y)) (sum (drop 1 ls))

-- where there is room for so many nestings more, in which `inner` reads
module _ (room : ℕ) (inner : Inner → List Lexeme → Read Expr) where
  -- "(" [Es] ")"
  unfoldable pub args_with : List Lexeme → Read (List Expr)
  args_with ls = followed (read_fixed (codes "(") ls) (λ u rest.
      cond (sees (fixed (codes ")")) rest) (Ok ([], drop 1 rest)) (followed (listed (inner whole) rest) (λ xs closed. read_as (λ u. xs) (read_fixed (codes ")") closed))))

  -- Id | Id "(" [Es] ")"
  unfoldable pub named_with : List Lexeme → Read Expr
  named_with ls = followed (read_name ls) (λ f rest.
      cond (sees (fixed (codes "(")) rest) (read_as (λ xs. expr (place_of ls) (apply f (exprs_of xs))) (args_with rest)) (Ok (expr (place_of ls) (variable f), rest)))

  -- "old" "(" E ")"
  unfoldable pub old_with : List Lexeme → Read Expr
  old_with ls = followed (read_fixed (codes "old") ls) (λ u opened. followed (read_fixed (codes "(") opened) (λ u rest.
      followed (inner whole rest) (λ x closed. read_as (λ u. expr (place_of ls) (old (place_of ls) x)) (read_fixed (codes ")") closed))))

  -- "if" E "then" E "else" E
  unfoldable pub choose_with : List Lexeme → Read Expr
  choose_with ls = followed (read_fixed (codes "if") ls) (λ u condition. followed (inner whole condition) (λ c chosen. followed (read_fixed (codes "then") chosen) (λ u first.
      followed (inner whole first) (λ x other. followed (read_fixed (codes "else") other) (λ u second. read_as (λ y. expr (place_of ls) (choose c x y)) (inner whole second))))))

  -- "(" E ")", or a quantifier
  unfoldable pub enclosed_with : List Lexeme → Read Expr
  enclosed_with ls = followed (read_fixed (codes "(") ls) (λ u rest. followed (inner (enclosed (place_of ls)) rest) (λ x closed. read_as (λ u. expr_from (place_of ls) x) (read_fixed (codes ")") closed)))

  unfoldable pub atom_with : List Lexeme → Read Expr
  atom_with ls =
      cond (sees (kind number_kind) ls) (read_as (λ v. expr (place_of ls) (number v)) (read_number ls))
      (cond (sees (fixed (codes "true")) ls) (Ok (expr (place_of ls) (truth true), drop 1 ls))
      (cond (sees (fixed (codes "false")) ls) (Ok (expr (place_of ls) (truth false), drop 1 ls))
      (cond (sees (kind id) ls) (named_with ls)
      (cond (sees (fixed (codes "old")) ls) (old_with ls)
      (cond (sees (fixed (codes "if")) ls) (choose_with ls) (enclosed_with ls))))))

  -- "[" E [":=" E] "]"
  unfoldable pub index_with : List Lexeme → Read Index
  index_with ls = followed (read_fixed (codes "[") ls) (λ u rest. followed (inner whole rest) (λ x rest.
      cond (sees (fixed (codes ":=")) rest) (followed (inner whole (drop 1 rest)) (λ y closed. read_as (λ u. Write x y) (read_fixed (codes "]") closed))) (read_as (λ u. AtIndex x) (read_fixed (codes "]") rest))))

  unfoldable pub indices_with : List Lexeme → Read (List Index)
  indices_with ls = repeated (sees (fixed (codes "["))) index_with ls

  -- Post = Atom {"[" E [":=" E] "]"}
  unfoldable pub post_with : List Lexeme → Read Expr
  post_with ls = followed (atom_with ls) (λ x rest. read_as (λ is. indexed_by x is) (indices_with rest))

  -- Un = ("!" | "-") Un | Post
  unfoldable pub un_with : List Lexeme → Read Expr
  un_with ls =
      cond (sees (fixed (codes "!")) ls) (read_as (λ x. expr (place_of ls) (negation x)) (inner operand (drop 1 ls)))
      (cond (sees (fixed (codes "-")) ls) (read_as (λ x. expr (place_of ls) (minus x)) (inner operand (drop 1 ls))) (post_with ls))

  -- Prod = Un {"*" Un}
  unfoldable pub factors_with : List Lexeme → Read (List Expr)
  factors_with ls = read_run (fixed (codes "*")) un_with ls

  unfoldable pub prod_with : List Lexeme → Read Expr
  prod_with ls = read_as (λ xs. joined products xs) (factors_with ls)

  -- ("+" | "-") Prod
  unfoldable pub term_with : List Lexeme → Read Term
  term_with ls = cond (sees (fixed (codes "+")) ls) (read_as (λ x. Plus x) (prod_with (drop 1 ls))) (read_as (λ x. Less x) (prod_with (drop 1 ls)))

  unfoldable pub terms_with : List Lexeme → Read (List Term)
  terms_with ls = repeated (λ us. sees (fixed (codes "+")) us || sees (fixed (codes "-")) us) term_with ls

  -- Sum = Prod {("+" | "-") Prod}
  unfoldable pub sum_with : List Lexeme → Read Expr
  sum_with ls = followed (prod_with ls) (λ x rest. read_as (λ ts. sum_of x ts) (terms_with rest))

  -- Rel = Sum [("==" | "!=" | "<" | "<=" | ">" | ">=") Sum]
  unfoldable pub rel_with : List Lexeme → Read Expr
  rel_with ls = followed (sum_with ls) (λ x rest. compared sum_with x (relation_at rest) rest)

  -- a run behind a first relation
  unfoldable pub rels_with : List ℕ → List Lexeme → Read (List Expr)
  rels_with sign ls = read_behind (fixed sign) rel_with ls

  -- Log = Rel ({"&&" Rel} | {"||" Rel})
  unfoldable pub log_with : List Lexeme → Read Expr
  log_with ls = followed (rel_with ls) (λ x rest.
      cond (sees (fixed (codes "&&")) rest) (read_as (λ xs. joined ands (x ∷ xs)) (rels_with (codes "&&") rest)) (read_as (λ xs. joined ors (x ∷ xs)) (rels_with (codes "||") rest)))

  -- Imp = Log ["==>" Imp]
  unfoldable pub imp_with : List Lexeme → Read Expr
  imp_with ls = read_as (λ xs. joined implies xs) (read_run (fixed (codes "==>")) log_with ls)

  -- E = Imp {"<==>" Imp}
  unfoldable pub e_with : List Lexeme → Read Expr
  e_with ls = read_as (λ xs. joined iffs xs) (read_run (fixed (codes "<==>")) imp_with ls)

  -- Group = Ids ":" Type ["where" E]
  unfoldable pub group_with : List Lexeme → Read Together
  group_with ls = followed (read_ids ls) (λ ns typed. followed (read_fixed (codes ":") typed) (λ u rest. followed (read_type (suc room) rest) (λ t rest.
      cond (sees (fixed (codes "where")) rest)
      (read_as (λ x. record { names = ns; of = t; condition = clause (place_of rest) x }) (e_with (drop 1 rest)))
      (Ok (record { names = ns; of = t; condition = no_clause }, rest)))))

  -- Groups = Group {"," Group}
  unfoldable pub groups_with : List Lexeme → Read (List Together)
  groups_with ls = listed group_with ls

-- what stands in the braces of an attribute: ":" Id [Arg {"," Arg}], Arg = string | E
unfoldable pub arg_with : (Inner → List Lexeme → Read Expr) → List Lexeme → Read (Unit {0})
arg_with inner ls = cond (sees (kind text) ls) (Ok (tt, drop 1 ls)) (read_as (λ x. tt) (inner whole ls))

unfoldable pub attr_args : (Inner → List Lexeme → Read Expr) → List Lexeme → Read (Unit {0})
attr_args inner ls = followed (read_fixed (codes ":") ls) (λ u rest. followed (read_name rest) (λ n rest.
    cond (sees (fixed (codes "}")) rest) (Ok (tt, rest)) (read_as (λ xs. tt) (listed (arg_with inner) rest))))

abbrev pub attr_inside : ℕ → (Inner → List Lexeme → Read Expr) → List Lexeme → Read (Unit {0})
attr_inside zero inner ls = refused (fixed (codes ":") ∷ []) ls
attr_inside (suc room) inner ls = attr_args inner ls

module _ (room : ℕ) (inner : Inner → List Lexeme → Read Expr) where
  -- Attr = "{" ":" Id [Arg {"," Arg}] "}"
  unfoldable pub attr_with : List Lexeme → Read (Unit {0})
  attr_with ls = followed (read_fixed (codes "{") ls) (λ u rest. followed (attr_inside room inner rest) (λ u closed. read_fixed (codes "}") closed))

  -- Trig = "{" Es "}"
  unfoldable pub trig_with : List Lexeme → Read Patterns
  trig_with ls = followed (read_fixed (codes "{") ls) (λ u rest. followed (listed (inner whole) rest) (λ xs closed. read_as (λ u. record { at = place_of ls; patterns = xs }) (read_fixed (codes "}") closed)))

  -- Attr | Trig
  unfoldable pub mark_with : List Lexeme → Read (Option Patterns)
  mark_with ls = cond (sees (fixed (codes ":")) (drop 1 ls)) (read_as (λ u. None) (attr_with ls)) (read_as (λ t. Some t) (trig_with ls))

  unfoldable pub marks_with : List Lexeme → Read (List Patterns)
  marks_with ls = read_as (λ ts. kept ts) (repeated (sees (fixed (codes "{"))) mark_with ls)

  -- {Attr}
  unfoldable pub attrs_with : List Lexeme → Read (Unit {0})
  attrs_with ls = read_as (λ us. tt) (repeated (sees (fixed (codes "{"))) attr_with ls)

  -- [TPar] Groups "::" {Attr | Trig} E
  unfoldable pub bound_with : Quantifier → Place → List Lexeme → Read Expr
  bound_with q p ls = followed (read_params ls) (λ ps rest. followed (groups_with room inner rest) (λ gs rest. followed (read_fixed (codes "::") rest) (λ u rest.
      followed (marks_with rest) (λ ts body. read_as (λ x. expr p (quantified q p ps (groups_from gs) (triggers_from ts) x)) (e_with room inner body)))))

  -- what stands in parentheses
  unfoldable pub inside_with : Place → List Lexeme → Read Expr
  inside_with p ls =
      cond (sees (fixed (codes "forall")) ls) (bound_with for_all p (drop 1 ls))
      (cond (sees (fixed (codes "exists")) ls) (bound_with exists p (drop 1 ls)) (e_with room inner ls))

-- an expression where there is room for so many nestings, the one that it stands in among them
abbrev pub read_inner : ℕ → Inner → List Lexeme → Read Expr
read_inner zero g ls = refused (firsts_of g) ls
read_inner (suc room) whole ls = e_with room (read_inner room) ls
read_inner (suc room) operand ls = un_with room (read_inner room) ls
read_inner (suc room) (enclosed p) ls = inside_with room (read_inner room) p ls
