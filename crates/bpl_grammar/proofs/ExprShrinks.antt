-- What reads an expression, or a part of one, leaves less than there was.
use Rattle.std.specs.Prelude.{ℕ, zero, suc, ◌^◌, ◌||◌, nat_lt, List, [], ◌∷◌, drop, length, codes, Ok, Err, Option, Some, None}
use Rattle.bv_base.specs.declared.place.Place.{Place}
use Rattle.bpl_lex.specs.Token.{number as number_kind, id, text}
use Rattle.bpl_ast.specs.Tree.{Quantifier, for_all, exists, Relation, Expr}
use Rattle.bpl_grammar.specs.Lexeme.{Lexeme}
use Rattle.bpl_grammar.specs.Nesting.{value}
use Rattle.bpl_grammar.specs.Judge.{syntax, wide}
use Rattle.bpl_grammar.specs.Terminal.{Terminal, kind, fixed, sees}
use Rattle.bpl_grammar.specs.Reading.{Read, followed, read_as, read_token, read_fixed, read_name, text_at, repeated, read_run, listed, read_ids}
use Rattle.bpl_grammar.specs.ReadTypes.{read_params, read_type}
use Rattle.bpl_grammar.specs.ReadExpressions.{Inner, whole, operand, enclosed, firsts_of, relation_at, compared, read_number, args_with, named_with, old_with, choose_with, enclosed_with, atom_with, index_with, indices_with, post_with, un_with, factors_with, prod_with, term_with, terms_with, sum_with, rel_with, rels_with, log_with, imp_with, e_with, group_with, groups_with, arg_with, attr_args, attr_inside, attr_with, attrs_with, trig_with, mark_with, marks_with, bound_with, inside_with, read_inner}
use Rattle.bpl_grammar.proofs.Loops.{Shrinks}
use Rattle.bpl_grammar.proofs.Found.{name_shrinks}
use Rattle.bpl_grammar.proofs.TypeTrees.{type_shrinks}
use Rattle.bpl_grammar.proofs.Lengths.{Less, Most, less_most, less_refused, less_err, less_as, most_as, less_then, most_less, most_then, less_if, most_if, less_token, less_seen, most_here, less_behind, most_repeated, most_behind, less_run}

-- names and numbers

pub ids_shrinks : Shrinks read_ids
unfolding read_ids
ids_shrinks = λ ls. less_run (fixed (codes ",")) read_name name_shrinks ls

pub params_most : (ls : List Lexeme) → Most (length ls) (read_params ls)
unfolding read_params
params_most ls = most_if (sees (fixed (codes "<")) ls) (length ls) _ _
    (λ s. less_most (length ls) _ (less_behind ls _ (less_then (length (drop 1 ls)) (read_ids (drop 1 ls)) _ (ids_shrinks (drop 1 ls))
    (λ ns rest. most_as (length rest) _ (read_fixed (codes ">") rest) (less_most (length rest) _ (less_token (fixed (codes ">")) rest))))))
    (λ no. most_here ls None)

pub number_shrinks : Shrinks read_number
unfolding read_number
number_shrinks = λ ls. less_if (sees (kind number_kind) ls) (length ls) _ _
    (λ s. less_if (nat_lt (value (text_at ls)) (2 ^ 127)) (length ls) (Ok (value (text_at ls), drop 1 ls)) (Err (wide, ls)) (λ narrow. less_seen (kind number_kind) ls (value (text_at ls)) s) (λ broad. less_err (wide, ls) (length ls)))
    (λ no. less_err (syntax, ls) (length ls))

-- a token, perhaps after which something is read
pub closing : {B : Type 0} (c : Terminal) (f : Unit {0} → B) (ls : List Lexeme) → Less (length ls) (read_as f (read_token c ls))
closing c f ls = less_as (length ls) f (read_token c ls) (less_token c ls)

pub closes : {B : Type 0} (c : Terminal) (f : Unit {0} → B) (ls : List Lexeme) → Most (length ls) (read_as f (read_token c ls))
closes c f ls = less_most (length ls) _ (closing c f ls)

pub behind : {B : Type 0} (c : Terminal) (ls : List Lexeme) (next : Unit {0} → List Lexeme → Read B) → ((rest : List Lexeme) → Most (length rest) (next tt rest)) → Less (length ls) (followed (read_token c ls) next)
behind c ls next m = less_then (length ls) (read_token c ls) next (less_token c ls) (λ u rest. m rest)

-- where what is read inside leaves less
module _ (room : ℕ) (inner : Inner → List Lexeme → Read Expr) (s : (g : Inner) → Shrinks (inner g)) where
  pub args_less : Shrinks (args_with room inner)
  unfolding args_with
  args_less = λ ls. behind (fixed (codes "(")) ls _ (λ rest. less_most (length rest) _ (less_if (sees (fixed (codes ")")) rest) (length rest) _ _
      (λ h. less_seen (fixed (codes ")")) rest [] h)
      (λ no. less_then (length rest) (listed (inner whole) rest) _ (less_run (fixed (codes ",")) (inner whole) (s whole) rest) (λ xs closed. closes (fixed (codes ")")) _ closed))))

  pub named_less : Shrinks (named_with room inner)
  unfolding named_with
  named_less = λ ls. less_then (length ls) (read_name ls) _ (name_shrinks ls) (λ f rest. most_if (sees (fixed (codes "(")) rest) (length rest) _ _
      (λ h. less_most (length rest) _ (less_as (length rest) _ (args_with room inner rest) (args_less rest)))
      (λ no. most_here rest _))

  pub old_less : Shrinks (old_with room inner)
  unfolding old_with
  old_less = λ ls. behind (fixed (codes "old")) ls _ (λ opened. less_most (length opened) _ (behind (fixed (codes "(")) opened _ (λ rest.
      less_most (length rest) _ (less_then (length rest) (inner whole rest) _ (s whole rest) (λ x closed. closes (fixed (codes ")")) _ closed)))))

  pub choose_less : Shrinks (choose_with room inner)
  unfolding choose_with
  choose_less = λ ls. behind (fixed (codes "if")) ls _ (λ condition. less_most (length condition) _ (less_then (length condition) (inner whole condition) _ (s whole condition)
      (λ c chosen. less_most (length chosen) _ (behind (fixed (codes "then")) chosen _ (λ first. less_most (length first) _ (less_then (length first) (inner whole first) _ (s whole first)
      (λ x other. less_most (length other) _ (behind (fixed (codes "else")) other _ (λ second. less_most (length second) _ (less_as (length second) _ (inner whole second) (s whole second)))))))))))

  pub enclosed_less : Shrinks (enclosed_with room inner)
  unfolding enclosed_with
  enclosed_less = λ ls. behind (fixed (codes "(")) ls _ (λ rest. less_most (length rest) _ (less_then (length rest) (inner (enclosed _) rest) _ (s (enclosed _) rest) (λ x closed. closes (fixed (codes ")")) _ closed)))

  pub atom_less : Shrinks (atom_with room inner)
  unfolding atom_with
  atom_less = λ ls. less_if (sees (kind number_kind) ls) (length ls) _ _ (λ h. less_as (length ls) _ (read_number ls) (number_shrinks ls))
      (λ no. less_if (sees (fixed (codes "true")) ls) (length ls) _ _ (λ h. less_seen (fixed (codes "true")) ls _ h)
      (λ no. less_if (sees (fixed (codes "false")) ls) (length ls) _ _ (λ h. less_seen (fixed (codes "false")) ls _ h)
      (λ no. less_if (sees (kind id) ls) (length ls) _ _ (λ h. named_less ls)
      (λ no. less_if (sees (fixed (codes "old")) ls) (length ls) _ _ (λ h. old_less ls)
      (λ no. less_if (sees (fixed (codes "if")) ls) (length ls) _ _ (λ h. choose_less ls) (λ no. enclosed_less ls))))))

  pub index_less : Shrinks (index_with room inner)
  unfolding index_with
  index_less = λ ls. behind (fixed (codes "[")) ls _ (λ rest. less_most (length rest) _ (less_then (length rest) (inner whole rest) _ (s whole rest) (λ x after. most_if (sees (fixed (codes ":=")) after) (length after) _ _
      (λ h. less_most (length after) _ (less_behind after _ (less_then (length (drop 1 after)) (inner whole (drop 1 after)) _ (s whole (drop 1 after)) (λ y closed. closes (fixed (codes "]")) _ closed))))
      (λ no. closes (fixed (codes "]")) _ after))))

  pub indices_most : (ls : List Lexeme) → Most (length ls) (indices_with room inner ls)
  unfolding indices_with
  indices_most ls = most_repeated (sees (fixed (codes "["))) (index_with room inner) index_less ls

  pub post_less : Shrinks (post_with room inner)
  unfolding post_with
  post_less = λ ls. less_then (length ls) (atom_with room inner ls) _ (atom_less ls) (λ x rest. most_as (length rest) _ (indices_with room inner rest) (indices_most rest))

  pub un_less : Shrinks (un_with room inner)
  unfolding un_with
  un_less = λ ls. less_if (sees (fixed (codes "!")) ls) (length ls) _ _ (λ h. less_behind ls _ (less_as (length (drop 1 ls)) _ (inner operand (drop 1 ls)) (s operand (drop 1 ls))))
      (λ no. less_if (sees (fixed (codes "-")) ls) (length ls) _ _ (λ h. less_behind ls _ (less_as (length (drop 1 ls)) _ (inner operand (drop 1 ls)) (s operand (drop 1 ls)))) (λ no. post_less ls))

  pub factors_less : Shrinks (factors_with room inner)
  unfolding factors_with
  factors_less = λ ls. less_run (fixed (codes "*")) (un_with room inner) un_less ls

  pub prod_less : Shrinks (prod_with room inner)
  unfolding prod_with
  prod_less = λ ls. less_as (length ls) _ (factors_with room inner ls) (factors_less ls)

  pub term_less : Shrinks (term_with room inner)
  unfolding term_with
  term_less = λ ls. less_if (sees (fixed (codes "+")) ls) (length ls) _ _ (λ h. less_behind ls _ (less_as (length (drop 1 ls)) _ (prod_with room inner (drop 1 ls)) (prod_less (drop 1 ls))))
      (λ no. less_behind ls _ (less_as (length (drop 1 ls)) _ (prod_with room inner (drop 1 ls)) (prod_less (drop 1 ls))))

  pub terms_most : (ls : List Lexeme) → Most (length ls) (terms_with room inner ls)
  unfolding terms_with
  terms_most ls = most_repeated (λ us. sees (fixed (codes "+")) us || sees (fixed (codes "-")) us) (term_with room inner) term_less ls

  pub sum_less : Shrinks (sum_with room inner)
  unfolding sum_with
  sum_less = λ ls. less_then (length ls) (prod_with room inner ls) _ (prod_less ls) (λ x rest. most_as (length rest) _ (terms_with room inner rest) (terms_most rest))

  compared_most : (x : Expr) (r : Option Relation) (ls : List Lexeme) → Most (length ls) (compared (sum_with room inner) x r ls)
  compared_most x None ls = most_here ls x
  compared_most x (Some r) ls = less_most (length ls) _ (less_behind ls _ (less_as (length (drop 1 ls)) _ (sum_with room inner (drop 1 ls)) (sum_less (drop 1 ls))))

  pub rel_less : Shrinks (rel_with room inner)
  unfolding rel_with
  rel_less = λ ls. less_then (length ls) (sum_with room inner ls) _ (sum_less ls) (λ x rest. compared_most x (relation_at rest) rest)

  pub rels_most : (sign : List ℕ) (ls : List Lexeme) → Most (length ls) (rels_with room inner sign ls)
  unfolding rels_with
  rels_most sign ls = most_behind (fixed sign) (rel_with room inner) rel_less ls

  pub log_less : Shrinks (log_with room inner)
  unfolding log_with
  log_less = λ ls. less_then (length ls) (rel_with room inner ls) _ (rel_less ls) (λ x rest. most_if (sees (fixed (codes "&&")) rest) (length rest) _ _
      (λ h. most_as (length rest) _ (rels_with room inner (codes "&&") rest) (rels_most (codes "&&") rest)) (λ no. most_as (length rest) _ (rels_with room inner (codes "||") rest) (rels_most (codes "||") rest)))

  pub imp_less : Shrinks (imp_with room inner)
  unfolding imp_with
  imp_less = λ ls. less_as (length ls) _ (read_run (fixed (codes "==>")) (log_with room inner) ls) (less_run (fixed (codes "==>")) (log_with room inner) log_less ls)

  pub e_less : Shrinks (e_with room inner)
  unfolding e_with
  e_less = λ ls. less_as (length ls) _ (read_run (fixed (codes "<==>")) (imp_with room inner) ls) (less_run (fixed (codes "<==>")) (imp_with room inner) imp_less ls)

  pub group_less : Shrinks (group_with room inner)
  unfolding group_with
  group_less = λ ls. less_then (length ls) (read_ids ls) _ (ids_shrinks ls) (λ ns typed. less_most (length typed) _ (behind (fixed (codes ":")) typed _ (λ rest.
      less_most (length rest) _ (less_then (length rest) (read_type (suc room) rest) _ (type_shrinks (suc room) rest) (λ t after. most_if (sees (fixed (codes "where")) after) (length after) _ _
      (λ h. less_most (length after) _ (less_behind after _ (less_as (length (drop 1 after)) _ (e_with room inner (drop 1 after)) (e_less (drop 1 after)))))
      (λ no. most_here after _))))))

  pub groups_less : Shrinks (groups_with room inner)
  unfolding groups_with
  groups_less = λ ls. less_run (fixed (codes ",")) (group_with room inner) group_less ls

  pub arg_less : Shrinks (arg_with inner)
  unfolding arg_with
  arg_less = λ ls. less_if (sees (kind text) ls) (length ls) _ _ (λ h. less_seen (kind text) ls _ h) (λ no. less_as (length ls) _ (inner whole ls) (s whole ls))

  args_inside : Shrinks (attr_args inner)
  unfolding attr_args
  args_inside = λ ls. behind (fixed (codes ":")) ls _ (λ rest. less_most (length rest) _ (less_then (length rest) (read_name rest) _ (name_shrinks rest) (λ n after. most_if (sees (fixed (codes "}")) after) (length after) _ _
      (λ h. most_here after _) (λ no. most_as (length after) _ (listed (arg_with inner) after) (less_most (length after) _ (less_run (fixed (codes ",")) (arg_with inner) arg_less after))))))

  inside_less : (r : ℕ) → Shrinks (attr_inside r inner)
  inside_less zero = λ ls. less_refused (fixed (codes ":") ∷ []) ls (length ls)
  inside_less (suc r) = args_inside

  pub attr_less : Shrinks (attr_with room inner)
  unfolding attr_with
  attr_less = λ ls. behind (fixed (codes "{")) ls _ (λ rest. less_most (length rest) _ (less_then (length rest) (attr_inside room inner rest) _ (inside_less room rest) (λ u closed. less_most (length closed) _ (less_token (fixed (codes "}")) closed))))

  pub attrs_most : (ls : List Lexeme) → Most (length ls) (attrs_with room inner ls)
  unfolding attrs_with
  attrs_most ls = most_as (length ls) _ (repeated (sees (fixed (codes "{"))) (attr_with room inner) ls) (most_repeated (sees (fixed (codes "{"))) (attr_with room inner) attr_less ls)

  pub trig_less : Shrinks (trig_with room inner)
  unfolding trig_with
  trig_less = λ ls. behind (fixed (codes "{")) ls _ (λ rest. less_most (length rest) _ (less_then (length rest) (listed (inner whole) rest) _ (less_run (fixed (codes ",")) (inner whole) (s whole) rest) (λ xs closed. closes (fixed (codes "}")) _ closed)))

  pub mark_less : Shrinks (mark_with room inner)
  unfolding mark_with
  mark_less = λ ls. less_if (sees (fixed (codes ":")) (drop 1 ls)) (length ls) _ _ (λ h. less_as (length ls) _ (attr_with room inner ls) (attr_less ls)) (λ no. less_as (length ls) _ (trig_with room inner ls) (trig_less ls))

  pub marks_most : (ls : List Lexeme) → Most (length ls) (marks_with room inner ls)
  unfolding marks_with
  marks_most ls = most_as (length ls) _ (repeated (sees (fixed (codes "{"))) (mark_with room inner) ls) (most_repeated (sees (fixed (codes "{"))) (mark_with room inner) mark_less ls)

  pub bound_less : (q : Quantifier) (p : Place) → Shrinks (bound_with room inner q p)
  unfolding bound_with
  bound_less q p = λ ls. most_less (length ls) (read_params ls) _ (params_most ls) (λ ps rest. less_then (length rest) (groups_with room inner rest) _ (groups_less rest)
      (λ gs after. less_most (length after) _ (behind (fixed (codes "::")) after _ (λ marked. most_then (length marked) (marks_with room inner marked) _ (marks_most marked)
      (λ ts body. less_most (length body) _ (less_as (length body) _ (e_with room inner body) (e_less body)))))))

  pub enclosure_less : (p : Place) → Shrinks (inside_with room inner p)
  unfolding inside_with
  enclosure_less p = λ ls. less_if (sees (fixed (codes "forall")) ls) (length ls) _ _ (λ h. less_behind ls _ (bound_less for_all p (drop 1 ls)))
      (λ no. less_if (sees (fixed (codes "exists")) ls) (length ls) _ _ (λ h. less_behind ls _ (bound_less exists p (drop 1 ls))) (λ no. e_less ls))

-- with room for so many nestings

pub inner_shrinks : (room : ℕ) (g : Inner) → Shrinks (read_inner room g)
inner_shrinks zero g = λ ls. less_refused (firsts_of g) ls (length ls)
inner_shrinks (suc room) whole = e_less room (read_inner room) (inner_shrinks room)
inner_shrinks (suc room) operand = un_less room (read_inner room) (inner_shrinks room)
inner_shrinks (suc room) (enclosed p) = enclosure_less room (read_inner room) (inner_shrinks room) p

module _ (room : ℕ) where
  pub whole_shrinks : Shrinks (read_inner room whole)
  whole_shrinks = inner_shrinks room whole

  pub args_shrinks : Shrinks (args_with room (read_inner room))
  args_shrinks = args_less room (read_inner room) (inner_shrinks room)

  pub atom_shrinks : Shrinks (atom_with room (read_inner room))
  atom_shrinks = atom_less room (read_inner room) (inner_shrinks room)

  pub index_shrinks : Shrinks (index_with room (read_inner room))
  index_shrinks = index_less room (read_inner room) (inner_shrinks room)

  pub post_shrinks : Shrinks (post_with room (read_inner room))
  post_shrinks = post_less room (read_inner room) (inner_shrinks room)

  pub un_shrinks : Shrinks (un_with room (read_inner room))
  un_shrinks = un_less room (read_inner room) (inner_shrinks room)

  pub prod_shrinks : Shrinks (prod_with room (read_inner room))
  prod_shrinks = prod_less room (read_inner room) (inner_shrinks room)

  pub term_shrinks : Shrinks (term_with room (read_inner room))
  term_shrinks = term_less room (read_inner room) (inner_shrinks room)

  pub sum_shrinks : Shrinks (sum_with room (read_inner room))
  sum_shrinks = sum_less room (read_inner room) (inner_shrinks room)

  pub rel_shrinks : Shrinks (rel_with room (read_inner room))
  rel_shrinks = rel_less room (read_inner room) (inner_shrinks room)

  pub log_shrinks : Shrinks (log_with room (read_inner room))
  log_shrinks = log_less room (read_inner room) (inner_shrinks room)

  pub imp_shrinks : Shrinks (imp_with room (read_inner room))
  imp_shrinks = imp_less room (read_inner room) (inner_shrinks room)

  pub e_shrinks : Shrinks (e_with room (read_inner room))
  e_shrinks = e_less room (read_inner room) (inner_shrinks room)

  pub group_shrinks : Shrinks (group_with room (read_inner room))
  group_shrinks = group_less room (read_inner room) (inner_shrinks room)

  pub groups_shrinks : Shrinks (groups_with room (read_inner room))
  groups_shrinks = groups_less room (read_inner room) (inner_shrinks room)

  pub arg_shrinks : Shrinks (arg_with (read_inner room))
  arg_shrinks = arg_less room (read_inner room) (inner_shrinks room)

  pub attr_shrinks : Shrinks (attr_with room (read_inner room))
  attr_shrinks = attr_less room (read_inner room) (inner_shrinks room)

  pub trig_shrinks : Shrinks (trig_with room (read_inner room))
  trig_shrinks = trig_less room (read_inner room) (inner_shrinks room)

  pub mark_shrinks : Shrinks (mark_with room (read_inner room))
  mark_shrinks = mark_less room (read_inner room) (inner_shrinks room)
