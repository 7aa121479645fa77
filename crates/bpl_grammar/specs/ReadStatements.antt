-- Reading statements, production by production.
use Rattle.std.specs.Prelude.{ℕ, zero, suc, Bool, true, false, ◌&&◌, ◌||◌, cond, List, [], ◌∷◌, drop, codes, Option, Some, None, Ok, Err}
use Rattle.bv_base.specs.declared.place.Place.{Place}
use Rattle.bpl_lex.specs.Token.{id}
use Rattle.bpl_ast.specs.Place.{Name}
use Rattle.bpl_ast.specs.Tree.{Expr, Groups}
use Rattle.bpl_ast.specs.ExprView.{exprs_of}
use Rattle.bpl_ast.specs.Statement.{Target, Guard, Invariant, Stmt, stmt, Action, assert, assume, havoc, assign, call, branches, loop, «break», «return», goto, Branches, otherwise, no_branch, Body}
use Rattle.bpl_ast.specs.StmtView.{stmts_of, branches_from}
use Rattle.bpl_grammar.specs.Lexeme.{Lexeme}
use Rattle.bpl_grammar.specs.Judge.{deep}
use Rattle.bpl_grammar.specs.Terminal.{Terminal, kind, fixed, sees}
use Rattle.bpl_grammar.specs.Reading.{Read, followed, read_as, place_of, sees_one, read_fixed, read_name, refused, repeated, listed, read_ids}
use Rattle.bpl_grammar.specs.ReadExpressions.{expr_firsts, whole, groups_from, args_with, e_with, groups_with, attrs_with, read_inner}

-- the tokens with which a guard, and a statement, can begin
abbrev pub guard_firsts : List Terminal
guard_firsts = fixed (codes "*") ∷ expr_firsts

abbrev pub stmt_firsts : List Terminal
stmt_firsts =
    kind id ∷ fixed (codes "assert") ∷ fixed (codes "assume") ∷ fixed (codes "havoc") ∷ fixed (codes "call") ∷ fixed (codes "if")
    ∷ fixed (codes "while") ∷ fixed (codes "break") ∷ fixed (codes "return") ∷ fixed (codes "goto") ∷ []

-- Id ":"
unfoldable pub read_label : List Lexeme → Read Name
read_label ls = followed (read_name ls) (λ n rest. read_as (λ u. n) (read_fixed (codes ":") rest))

-- {Id ":"}
unfoldable pub read_labels : List Lexeme → Read (List Name)
read_labels ls = repeated (λ us. sees (kind id) us && sees (fixed (codes ":")) (drop 1 us)) read_label ls

-- "havoc" Ids ";"
unfoldable pub read_havoc : List Lexeme → Read Action
read_havoc ls = followed (read_fixed (codes "havoc") ls) (λ u rest. followed (read_ids rest) (λ ns closed. read_as (λ u. havoc ns) (read_fixed (codes ";") closed)))

-- [Id]
unfoldable pub read_aim : List Lexeme → Read (Option Name)
read_aim ls = cond (sees (kind id) ls) (read_as (λ n. Some n) (read_name ls)) (Ok (None, ls))

-- "break" [Id] ";"
unfoldable pub read_break : List Lexeme → Read Action
read_break ls = followed (read_fixed (codes "break") ls) (λ u rest. followed (read_aim rest) (λ l closed. read_as (λ u. «break» l) (read_fixed (codes ";") closed)))

-- "return" ";"
unfoldable pub read_return : List Lexeme → Read Action
read_return ls = followed (read_fixed (codes "return") ls) (λ u closed. read_as (λ u. «return») (read_fixed (codes ";") closed))

-- "goto" Ids ";"
unfoldable pub read_goto : List Lexeme → Read Action
read_goto ls = followed (read_fixed (codes "goto") ls) (λ u rest. followed (read_ids rest) (λ ns closed. read_as (λ u. goto ns) (read_fixed (codes ";") closed)))

-- [Ids ":="], which is missing exactly where "(" comes second
unfoldable pub read_outs : List Lexeme → Read (List Name)
read_outs ls = cond (sees (fixed (codes "(")) (drop 1 ls)) (Ok ([], ls)) (followed (read_ids ls) (λ ns rest. read_as (λ u. ns) (read_fixed (codes ":=") rest)))

-- Guard = "*" | E
unfoldable pub guard_with : (List Lexeme → Read Expr) → List Lexeme → Read Guard
guard_with inner ls = cond (sees (fixed (codes "*")) ls) (Ok (None, drop 1 ls)) (read_as (λ x. Some x) (inner ls))

-- a guard where there is room for so many nestings, the one that it stands in among them
abbrev pub read_guard : ℕ → List Lexeme → Read Guard
read_guard zero ls = refused guard_firsts ls
read_guard (suc room) ls = guard_with (e_with room (read_inner room)) ls

-- where there is room for so many nestings more
module _ (room : ℕ) where
  abbrev pub read_expr : List Lexeme → Read Expr
  read_expr ls = e_with room (read_inner room) ls

  abbrev pub read_attrs : List Lexeme → Read (Unit {0})
  read_attrs ls = attrs_with room (read_inner room) ls

  -- {Attr} E ";"
  unfoldable pub formula_with : List Lexeme → Read Expr
  formula_with ls = followed (read_attrs ls) (λ u rest. followed (read_expr rest) (λ x closed. read_as (λ u. x) (read_fixed (codes ";") closed)))

  -- "[" E "]"
  unfoldable pub entry_with : List Lexeme → Read Expr
  entry_with ls = followed (read_fixed (codes "[") ls) (λ u rest. followed (read_inner room whole rest) (λ x closed. read_as (λ u. x) (read_fixed (codes "]") closed)))

  unfoldable pub entries_with : List Lexeme → Read (List Expr)
  entries_with ls = repeated (sees (fixed (codes "["))) entry_with ls

  -- Lhs = Id {"[" E "]"}
  unfoldable pub lhs_with : List Lexeme → Read Target
  lhs_with ls = followed (read_name ls) (λ n rest. read_as (λ xs. record { name = n; indices = exprs_of xs }) (entries_with rest))

  -- Lhs {"," Lhs}
  unfoldable pub targets_with : List Lexeme → Read (List Target)
  targets_with ls = listed lhs_with ls

  -- E {"," E}
  unfoldable pub values_with : List Lexeme → Read (List Expr)
  values_with ls = listed read_expr ls

  -- Lhs {"," Lhs} ":=" E {"," E} ";"
  unfoldable pub assign_with : List Lexeme → Read Action
  assign_with ls = followed (targets_with ls) (λ ts rest. followed (read_fixed (codes ":=") rest) (λ u rest. followed (values_with rest) (λ xs closed. read_as (λ u. assign ts (exprs_of xs)) (read_fixed (codes ";") closed))))

  -- "call" {Attr} [Ids ":="] Id "(" [Es] ")" ";"
  unfoldable pub call_with : List Lexeme → Read Action
  call_with ls = followed (read_fixed (codes "call") ls) (λ u rest. followed (read_attrs rest) (λ u rest. followed (read_outs rest) (λ ns rest. followed (read_name rest) (λ f rest.
      followed (args_with room (read_inner room) rest) (λ xs closed. read_as (λ u. call ns f (exprs_of xs)) (read_fixed (codes ";") closed))))))

  -- "(" Guard ")"
  unfoldable pub guarded_with : List Lexeme → Read Guard
  guarded_with ls = followed (read_fixed (codes "(") ls) (λ u rest. followed (read_guard room rest) (λ g closed. read_as (λ u. g) (read_fixed (codes ")") closed)))

  -- "invariant" {Attr} E ";"
  unfoldable pub inv_as : Bool → List Lexeme → Read Invariant
  inv_as free ls = followed (read_fixed (codes "invariant") ls) (λ u rest. read_as (λ x. record { at = place_of ls; free = free; formula = x }) (formula_with rest))

  -- Inv = ["free"] "invariant" {Attr} E ";"
  unfoldable pub inv_with : List Lexeme → Read Invariant
  inv_with ls = cond (sees (fixed (codes "free")) ls) (inv_as true (drop 1 ls)) (inv_as false ls)

  unfoldable pub invs_with : List Lexeme → Read (List Invariant)
  invs_with ls = repeated (λ us. sees (fixed (codes "free")) us || sees (fixed (codes "invariant")) us) inv_with ls

  -- Var = "var" {Attr} Groups ";"
  unfoldable pub var_with : List Lexeme → Read Groups
  var_with ls = followed (read_fixed (codes "var") ls) (λ u rest. followed (read_attrs rest) (λ u rest. followed (groups_with room (read_inner room) rest) (λ gs closed. read_as (λ u. groups_from gs) (read_fixed (codes ";") closed))))

  unfoldable pub vars_with : List Lexeme → Read (List Groups)
  vars_with ls = repeated (sees (fixed (codes "var"))) var_with ls

-- where `inner` reads the statements inside one nesting more
module _ (room : ℕ) (inner : List Lexeme → Read (List Stmt)) where
  -- Block = "{" {Stmt} "}"
  unfoldable pub block_with : List Lexeme → Read (List Stmt)
  block_with ls = followed (read_fixed (codes "{") ls) (λ u rest. followed (inner rest) (λ ss closed. read_as (λ u. ss) (read_fixed (codes "}") closed)))

  -- "if" "(" Guard ")" Block, with the place of the word
  unfoldable pub branch_with : List Lexeme → Read (Place × (Guard × List Stmt))
  branch_with ls = followed (read_fixed (codes "if") ls) (λ u rest. followed (guarded_with room rest) (λ g rest. read_as (λ ss. (place_of ls, (g, ss))) (block_with rest)))

  -- a branch, then each that follows "else"
  unfoldable pub branches_with : List Lexeme → Read (List (Place × (Guard × List Stmt)))
  branches_with ls = followed (branch_with ls) (λ b rest.
      read_as (λ bs. b ∷ bs) (repeated (λ us. sees (fixed (codes "else")) us && sees (fixed (codes "if")) (drop 1 us)) (λ us. branch_with (drop 1 us)) rest))

  -- ["else" Block]
  unfoldable pub last_with : List Lexeme → Read Branches
  last_with ls = cond (sees (fixed (codes "else")) ls) (read_as (λ ss. otherwise (stmts_of ss)) (block_with (drop 1 ls))) (Ok (no_branch, ls))

  -- If = "if" "(" Guard ")" Block ["else" (If | Block)]
  unfoldable pub if_with : List Lexeme → Read Action
  if_with ls = followed (branches_with ls) (λ bs rest. read_as (λ last. branches (branches_from bs last)) (last_with rest))

  -- "while" "(" Guard ")" {Inv} Block
  unfoldable pub while_with : List Lexeme → Read Action
  while_with ls = followed (read_fixed (codes "while") ls) (λ u rest. followed (guarded_with room rest) (λ g rest. followed (invs_with room rest) (λ is rest. read_as (λ ss. loop g is (stmts_of ss)) (block_with rest))))

  -- a statement without labels
  unfoldable pub action_with : List Lexeme → Read Action
  action_with ls =
      cond (sees (fixed (codes "assert")) ls) (read_as (λ x. assert x) (formula_with room (drop 1 ls)))
      (cond (sees (fixed (codes "assume")) ls) (read_as (λ x. assume x) (formula_with room (drop 1 ls)))
      (cond (sees (fixed (codes "havoc")) ls) (read_havoc ls)
      (cond (sees (fixed (codes "call")) ls) (call_with room ls)
      (cond (sees (fixed (codes "if")) ls) (if_with ls)
      (cond (sees (fixed (codes "while")) ls) (while_with ls)
      (cond (sees (fixed (codes "break")) ls) (read_break ls)
      (cond (sees (fixed (codes "return")) ls) (read_return ls)
      (cond (sees (fixed (codes "goto")) ls) (read_goto ls) (assign_with room ls)))))))))

  -- Stmt: labels, the place behind them, and the rest
  unfoldable pub stmt_with : List Lexeme → Read Stmt
  stmt_with ls = followed (read_labels ls) (λ ns rest. read_as (λ a. stmt ns (place_of rest) a) (action_with rest))

  -- {Stmt}
  unfoldable pub stmts_with : List Lexeme → Read (List Stmt)
  stmts_with ls = repeated (sees_one stmt_firsts) stmt_with ls

-- statements where there is room for so many nestings, the one that they stand in among them
abbrev pub read_stmts : ℕ → List Lexeme → Read (List Stmt)
read_stmts zero ls = cond (sees_one stmt_firsts ls) (Err (deep, ls)) (Ok ([], ls))
read_stmts (suc room) ls = stmts_with room (read_stmts room) ls

-- Body = "{" {Var} {Stmt} "}", where there is room for so many nestings more inside the braces
unfoldable pub body_with : ℕ → List Lexeme → Read Body
body_with room ls = followed (read_fixed (codes "{") ls) (λ u rest. followed (vars_with room rest) (λ vs rest. followed (read_stmts (suc room) rest) (λ ss closed.
    read_as (λ u. record { locals = vs; stmts = stmts_of ss }) (read_fixed (codes "}") closed))))
