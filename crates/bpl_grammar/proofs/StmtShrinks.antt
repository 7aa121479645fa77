-- What reads a statement, or a part of one, leaves less than there was.
use Rattle.std.specs.Prelude.{ℕ, zero, suc, Bool, true, false, ◌&&◌, ◌||◌, List, [], drop, length, codes, Ok, Err, None}
use Rattle.bpl_lex.specs.Token.{id}
use Rattle.bpl_ast.specs.Statement.{Stmt}
use Rattle.bpl_grammar.specs.Lexeme.{Lexeme}
use Rattle.bpl_grammar.specs.Judge.{deep}
use Rattle.bpl_grammar.specs.Terminal.{kind, fixed, sees}
use Rattle.bpl_grammar.specs.Reading.{Read, sees_one, read_name, read_ids}
use Rattle.bpl_grammar.specs.ReadExpressions.{whole, args_with, e_with, groups_with, read_inner}
use Rattle.bpl_grammar.specs.ReadStatements.{stmt_firsts, guard_firsts, read_label, read_labels, read_havoc, read_aim, read_break, read_return, read_goto, read_outs, guard_with, read_guard, read_attrs, formula_with, entry_with, entries_with, lhs_with, targets_with, values_with, assign_with, call_with, guarded_with, inv_as, inv_with, invs_with, var_with, vars_with, block_with, branch_with, branches_with, last_with, if_with, while_with, action_with, stmt_with, stmts_with, read_stmts, body_with}
use Rattle.bpl_grammar.proofs.Loops.{Shrinks}
use Rattle.bpl_grammar.proofs.Found.{name_shrinks}
use Rattle.bpl_grammar.proofs.Lengths.{Most, less_most, less_refused, less_as, most_as, less_then, most_less, most_then, less_if, most_if, less_seen, most_here, less_behind, most_repeated, less_run}
use Rattle.bpl_grammar.proofs.ExprShrinks.{closes, behind, ids_shrinks, attrs_most, inner_shrinks, whole_shrinks, args_shrinks, e_shrinks, groups_shrinks}

pub label_shrinks : Shrinks read_label
unfolding read_label
label_shrinks = λ ls. less_then (length ls) (read_name ls) _ (name_shrinks ls) (λ n rest. closes (fixed (codes ":")) _ rest)

pub labels_most : (ls : List Lexeme) → Most (length ls) (read_labels ls)
unfolding read_labels
labels_most ls = most_repeated (λ us. sees (kind id) us && sees (fixed (codes ":")) (drop 1 us)) read_label label_shrinks ls

havoc_shrinks : Shrinks read_havoc
unfolding read_havoc
havoc_shrinks = λ ls. behind (fixed (codes "havoc")) ls _ (λ rest. less_most (length rest) _ (less_then (length rest) (read_ids rest) _ (ids_shrinks rest) (λ ns closed. closes (fixed (codes ";")) _ closed)))

aim_most : (ls : List Lexeme) → Most (length ls) (read_aim ls)
unfolding read_aim
aim_most ls = most_if (sees (kind id) ls) (length ls) _ _ (λ h. less_most (length ls) _ (less_as (length ls) _ (read_name ls) (name_shrinks ls))) (λ no. most_here ls None)

break_shrinks : Shrinks read_break
unfolding read_break
break_shrinks = λ ls. behind (fixed (codes "break")) ls _ (λ rest. most_then (length rest) (read_aim rest) _ (aim_most rest) (λ l closed. closes (fixed (codes ";")) _ closed))

return_shrinks : Shrinks read_return
unfolding read_return
return_shrinks = λ ls. behind (fixed (codes "return")) ls _ (λ closed. closes (fixed (codes ";")) _ closed)

goto_shrinks : Shrinks read_goto
unfolding read_goto
goto_shrinks = λ ls. behind (fixed (codes "goto")) ls _ (λ rest. less_most (length rest) _ (less_then (length rest) (read_ids rest) _ (ids_shrinks rest) (λ ns closed. closes (fixed (codes ";")) _ closed)))

outs_most : (ls : List Lexeme) → Most (length ls) (read_outs ls)
unfolding read_outs
outs_most ls = most_if (sees (fixed (codes "(")) (drop 1 ls)) (length ls) _ _ (λ h. most_here ls [])
    (λ no. less_most (length ls) _ (less_then (length ls) (read_ids ls) _ (ids_shrinks ls) (λ ns rest. closes (fixed (codes ":=")) _ rest)))

module _ (room : ℕ) where
  pub attributes_most : (ls : List Lexeme) → Most (length ls) (read_attrs room ls)
  attributes_most ls = attrs_most room (read_inner room) (inner_shrinks room) ls

  pub formula_shrinks : Shrinks (formula_with room)
  unfolding formula_with
  formula_shrinks = λ ls. most_less (length ls) (read_attrs room ls) _ (attributes_most ls) (λ u rest. less_then (length rest) (e_with room (read_inner room) rest) _ (e_shrinks room rest) (λ x closed. closes (fixed (codes ";")) _ closed))

  pub entry_shrinks : Shrinks (entry_with room)
  unfolding entry_with
  entry_shrinks = λ ls. behind (fixed (codes "[")) ls _ (λ rest. less_most (length rest) _ (less_then (length rest) (read_inner room whole rest) _ (whole_shrinks room rest) (λ x closed. closes (fixed (codes "]")) _ closed)))

  entries_most : (ls : List Lexeme) → Most (length ls) (entries_with room ls)
  unfolding entries_with
  entries_most ls = most_repeated (sees (fixed (codes "["))) (entry_with room) entry_shrinks ls

  pub lhs_shrinks : Shrinks (lhs_with room)
  unfolding lhs_with
  lhs_shrinks = λ ls. less_then (length ls) (read_name ls) _ (name_shrinks ls) (λ n rest. most_as (length rest) _ (entries_with room rest) (entries_most rest))

  targets_shrinks : Shrinks (targets_with room)
  unfolding targets_with
  targets_shrinks = λ ls. less_run (fixed (codes ",")) (lhs_with room) lhs_shrinks ls

  values_shrinks : Shrinks (values_with room)
  unfolding values_with
  values_shrinks = λ ls. less_run (fixed (codes ",")) (e_with room (read_inner room)) (e_shrinks room) ls

  assign_shrinks : Shrinks (assign_with room)
  unfolding assign_with
  assign_shrinks = λ ls. less_then (length ls) (targets_with room ls) _ (targets_shrinks ls) (λ ts rest. less_most (length rest) _ (behind (fixed (codes ":=")) rest _
      (λ after. less_most (length after) _ (less_then (length after) (values_with room after) _ (values_shrinks after) (λ xs closed. closes (fixed (codes ";")) _ closed)))))

  call_shrinks : Shrinks (call_with room)
  unfolding call_with
  call_shrinks = λ ls. behind (fixed (codes "call")) ls _ (λ rest. most_then (length rest) (read_attrs room rest) _ (attributes_most rest) (λ u named. most_then (length named) (read_outs named) _ (outs_most named)
      (λ ns called. less_most (length called) _ (less_then (length called) (read_name called) _ (name_shrinks called) (λ f opened. less_most (length opened) _
      (less_then (length opened) (args_with room (read_inner room) opened) _ (args_shrinks room opened) (λ xs closed. closes (fixed (codes ";")) _ closed)))))))

  guard_alone : (inner : List Lexeme → Read _) → Shrinks inner → Shrinks (guard_with inner)
  unfolding guard_with
  guard_alone inner s = λ ls. less_if (sees (fixed (codes "*")) ls) (length ls) _ _ (λ h. less_seen (fixed (codes "*")) ls None h) (λ no. less_as (length ls) _ (inner ls) (s ls))

  guard_shrinks : (r : ℕ) → Shrinks (read_guard r)
  guard_shrinks zero = λ ls. less_refused guard_firsts ls (length ls)
  guard_shrinks (suc r) = guard_alone (e_with r (read_inner r)) (e_shrinks r)

  guarded_shrinks : Shrinks (guarded_with room)
  unfolding guarded_with
  guarded_shrinks = λ ls. behind (fixed (codes "(")) ls _ (λ rest. less_most (length rest) _ (less_then (length rest) (read_guard room rest) _ (guard_shrinks room rest) (λ g closed. closes (fixed (codes ")")) _ closed)))

  inv_as_shrinks : (free : Bool) → Shrinks (inv_as room free)
  unfolding inv_as
  inv_as_shrinks free = λ ls. behind (fixed (codes "invariant")) ls _ (λ rest. less_most (length rest) _ (less_as (length rest) _ (formula_with room rest) (formula_shrinks rest)))

  pub inv_shrinks : Shrinks (inv_with room)
  unfolding inv_with
  inv_shrinks = λ ls. less_if (sees (fixed (codes "free")) ls) (length ls) _ _ (λ h. less_behind ls _ (inv_as_shrinks true (drop 1 ls))) (λ no. inv_as_shrinks false ls)

  invs_most : (ls : List Lexeme) → Most (length ls) (invs_with room ls)
  unfolding invs_with
  invs_most ls = most_repeated (λ us. sees (fixed (codes "free")) us || sees (fixed (codes "invariant")) us) (inv_with room) inv_shrinks ls

  pub var_shrinks : Shrinks (var_with room)
  unfolding var_with
  var_shrinks = λ ls. behind (fixed (codes "var")) ls _ (λ rest. most_then (length rest) (read_attrs room rest) _ (attributes_most rest) (λ u grouped. less_most (length grouped) _
      (less_then (length grouped) (groups_with room (read_inner room) grouped) _ (groups_shrinks room grouped) (λ gs closed. closes (fixed (codes ";")) _ closed))))

  pub vars_most : (ls : List Lexeme) → Most (length ls) (vars_with room ls)
  unfolding vars_with
  vars_most ls = most_repeated (sees (fixed (codes "var"))) (var_with room) var_shrinks ls

-- where what is read inside leaves no more
module _ (room : ℕ) (inner : List Lexeme → Read (List Stmt)) (m : (ls : List Lexeme) → Most (length ls) (inner ls)) where
  block_less : Shrinks (block_with room inner)
  unfolding block_with
  block_less = λ ls. behind (fixed (codes "{")) ls _ (λ rest. most_then (length rest) (inner rest) _ (m rest) (λ ss closed. closes (fixed (codes "}")) _ closed))

  pub branch_less : Shrinks (branch_with room inner)
  unfolding branch_with
  branch_less = λ ls. behind (fixed (codes "if")) ls _ (λ rest. less_most (length rest) _ (less_then (length rest) (guarded_with room rest) _ (guarded_shrinks room rest)
      (λ g blocked. less_most (length blocked) _ (less_as (length blocked) _ (block_with room inner blocked) (block_less blocked)))))

  branches_less : Shrinks (branches_with room inner)
  unfolding branches_with
  branches_less = λ ls. less_then (length ls) (branch_with room inner ls) _ (branch_less ls) (λ b rest. most_as (length rest) _ _
      (most_repeated (λ us. sees (fixed (codes "else")) us && sees (fixed (codes "if")) (drop 1 us)) (λ us. branch_with room inner (drop 1 us)) (λ us. less_behind us _ (branch_less (drop 1 us))) rest))

  last_most : (ls : List Lexeme) → Most (length ls) (last_with room inner ls)
  unfolding last_with
  last_most ls = most_if (sees (fixed (codes "else")) ls) (length ls) _ _
      (λ h. less_most (length ls) _ (less_behind ls _ (less_as (length (drop 1 ls)) _ (block_with room inner (drop 1 ls)) (block_less (drop 1 ls)))))
      (λ no. most_here ls _)

  if_less : Shrinks (if_with room inner)
  unfolding if_with
  if_less = λ ls. less_then (length ls) (branches_with room inner ls) _ (branches_less ls) (λ bs rest. most_as (length rest) _ (last_with room inner rest) (last_most rest))

  while_less : Shrinks (while_with room inner)
  unfolding while_with
  while_less = λ ls. behind (fixed (codes "while")) ls _ (λ rest. less_most (length rest) _ (less_then (length rest) (guarded_with room rest) _ (guarded_shrinks room rest)
      (λ g after. most_then (length after) (invs_with room after) _ (invs_most room after) (λ is blocked. less_most (length blocked) _ (less_as (length blocked) _ (block_with room inner blocked) (block_less blocked))))))

  action_less : Shrinks (action_with room inner)
  unfolding action_with
  action_less = λ ls. less_if (sees (fixed (codes "assert")) ls) (length ls) _ _ (λ h. less_behind ls _ (less_as (length (drop 1 ls)) _ (formula_with room (drop 1 ls)) (formula_shrinks room (drop 1 ls))))
      (λ no. less_if (sees (fixed (codes "assume")) ls) (length ls) _ _ (λ h. less_behind ls _ (less_as (length (drop 1 ls)) _ (formula_with room (drop 1 ls)) (formula_shrinks room (drop 1 ls))))
      (λ no. less_if (sees (fixed (codes "havoc")) ls) (length ls) _ _ (λ h. havoc_shrinks ls)
      (λ no. less_if (sees (fixed (codes "call")) ls) (length ls) _ _ (λ h. call_shrinks room ls)
      (λ no. less_if (sees (fixed (codes "if")) ls) (length ls) _ _ (λ h. if_less ls)
      (λ no. less_if (sees (fixed (codes "while")) ls) (length ls) _ _ (λ h. while_less ls)
      (λ no. less_if (sees (fixed (codes "break")) ls) (length ls) _ _ (λ h. break_shrinks ls)
      (λ no. less_if (sees (fixed (codes "return")) ls) (length ls) _ _ (λ h. return_shrinks ls)
      (λ no. less_if (sees (fixed (codes "goto")) ls) (length ls) _ _ (λ h. goto_shrinks ls) (λ no. assign_shrinks room ls)))))))))

  pub stmt_less : Shrinks (stmt_with room inner)
  unfolding stmt_with
  stmt_less = λ ls. most_less (length ls) (read_labels ls) _ (labels_most ls) (λ ns rest. less_as (length rest) _ (action_with room inner rest) (action_less rest))

  stmts_less : (ls : List Lexeme) → Most (length ls) (stmts_with room inner ls)
  unfolding stmts_with
  stmts_less ls = most_repeated (sees_one stmt_firsts) (stmt_with room inner) stmt_less ls

-- with room for so many nestings

pub stmts_most : (room : ℕ) (ls : List Lexeme) → Most (length ls) (read_stmts room ls)
stmts_most zero ls = most_if (sees_one stmt_firsts ls) (length ls) (Err (deep, ls)) (Ok ([], ls)) (λ h a rest e. absurd (cc)) (λ no. most_here ls [])
stmts_most (suc room) ls = stmts_less room (read_stmts room) (stmts_most room) ls

pub branch_shrinks : (room : ℕ) → Shrinks (branch_with room (read_stmts room))
branch_shrinks room = branch_less room (read_stmts room) (stmts_most room)

pub stmt_shrinks : (room : ℕ) → Shrinks (stmt_with room (read_stmts room))
stmt_shrinks room = stmt_less room (read_stmts room) (stmts_most room)

pub body_shrinks : (room : ℕ) → Shrinks (body_with room)
unfolding body_with
body_shrinks room = λ ls. behind (fixed (codes "{")) ls _ (λ rest. most_then (length rest) (vars_with room rest) _ (vars_most room rest)
    (λ vs after. most_then (length after) (read_stmts (suc room) after) _ (stmts_most (suc room) after) (λ ss closed. closes (fixed (codes "}")) _ closed)))
