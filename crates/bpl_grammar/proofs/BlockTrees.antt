-- Statements and bodies that are read are the trees that the lexemes spell.
use Rattle.std.specs.Prelude.{◌≡◌, ℕ, zero, suc, ◌+◌, Bool, ◌&&◌, List, [], ◌∷◌, drop, codes, IsTrue, Ok, Err}
use Rattle.std.proofs.Common.{refl, arith}
use Rattle.bv_base.specs.declared.place.Place.{Place}
use Rattle.bpl_lex.specs.Token.{id}
use Rattle.bpl_ast.specs.Place.{Name}
use Rattle.bpl_ast.specs.Tree.{Expr, Groups}
use Rattle.bpl_ast.specs.Statement.{Guard, Invariant, Stmt, stmt, Action, assert, assume, loop, Branches, Stmts, Body}
use Rattle.bpl_ast.specs.StmtView.{stmts_of}
use Rattle.bpl_grammar.specs.Lexeme.{Lexeme}
use Rattle.bpl_grammar.specs.Judge.{deep}
use Rattle.bpl_grammar.specs.Terminal.{kind, fixed, is, sees}
use Rattle.bpl_grammar.specs.Reading.{Read, read_as, place_of, sees_one, read_fixed, read_name}
use Rattle.bpl_grammar.specs.ReadStatements.{stmt_firsts, read_label, read_labels, formula_with, guarded_with, invs_with, vars_with, block_with, while_with, action_with, stmt_with, stmts_with, read_stmts, body_with}
use Rattle.bpl_grammar.specs.Types.{Is, IsId, name}
use Rattle.bpl_grammar.specs.Statements as s
use Rattle.bpl_grammar.proofs.Found.{same_found, followed_ok, read_as_ok, token_ok, seen_ok, name_ok}
use Rattle.bpl_grammar.proofs.TypeTrees.{placed}
use Rattle.bpl_grammar.proofs.Items.{by_cond, Items, none, next, items_ok}
use Rattle.bpl_grammar.proofs.StatementTrees.{closed_ok, formula_ok, havoc_ok, goto_ok, return_ok, break_ok, assign_ok, call_ok}
use Rattle.bpl_grammar.proofs.BranchTrees.{block_ok, if_ok}
use Rattle.bpl_grammar.proofs.GuardTrees.{guarded_ok, invs_ok, vars_ok}

-- labels, and a statement behind them

shown_label : (t u : Lexeme) (ls mid rest us : List Lexeme) (m : Name) (ns : List Name) (p : Place) (a : Action) → IsId t → ls ≡ t ∷ mid → m ≡ name placed t → Is ":" u → mid ≡ u ∷ rest → s.Stmt' placed rest us (stmt ns p a) → s.Stmt' placed ls us (stmt (m ∷ ns) p a)
shown_label t u ls mid rest us m ns p a i e q j f d = rw (e, q, f) (s.Stmt'.labelled i j d)

label_more : (ls rest us : List Lexeme) (m : Name) (ns : List Name) (p : Place) (a : Action) → read_label ls ≡ Ok (m, rest) → s.Stmt' placed rest us (stmt ns p a) → s.Stmt' placed ls us (stmt (m ∷ ns) p a)
unfolding read_label
label_more ls rest us m ns p a h d =
    let f = followed_ok (read_name ls) _ (m, rest) h in
    let k = name_ok ls f.first f.rest f.reads in
    let c = closed_ok (fixed (codes ":")) f.first f.rest rest m f.then in
    rw (← c.same) (shown_label k.0.token c.token ls f.rest rest us f.first ns p a k.0.is k.0.there k.1 c.is c.there d)

-- a statement without labels begins with a token

record Begun (ls : List Lexeme) : Type 0 where
  first : Lexeme
  rest : List Lexeme
  is : ls ≡ first ∷ rest

targets_begun : {ls us : List Lexeme} {ys : List _} → s.Targets placed ls us ys → Begun ls
targets_begun (s.Targets.last {t = t} {ts = ts} i d) = record { first = t; rest = ts; is = refl }
targets_begun (s.Targets.more {t = t} {ts = ts} i d c r) = record { first = t; rest = ts; is = refl }

if_begun : {ls us : List Lexeme} {bs : Branches} → s.If placed ls us bs → Begun ls
if_begun (s.If.alone {t = t} {ts = ts} i g b) = record { first = t; rest = ts; is = refl }
if_begun (s.If.else_if {t = t} {ts = ts} i g b j r) = record { first = t; rest = ts; is = refl }
if_begun (s.If.else_block {t = t} {ts = ts} i g b j r) = record { first = t; rest = ts; is = refl }

action_begun : {ls us : List Lexeme} {a : Action} → s.Action' placed ls us a → Begun ls
action_begun (s.Action'.of_assert {t = t} {ts = ts} i d) = record { first = t; rest = ts; is = refl }
action_begun (s.Action'.of_assume {t = t} {ts = ts} i d) = record { first = t; rest = ts; is = refl }
action_begun (s.Action'.of_havoc {t = t} {ts = ts} i d j) = record { first = t; rest = ts; is = refl }
action_begun (s.Action'.of_assign d i k j) = targets_begun d
action_begun (s.Action'.of_call {t = t} {ts = ts} i a k d j) = record { first = t; rest = ts; is = refl }
action_begun (s.Action'.of_call_with_outs {t = t} {ts = ts} i a l m k d j) = record { first = t; rest = ts; is = refl }
action_begun (s.Action'.of_if d) = if_begun d
action_begun (s.Action'.of_while {t = t} {ts = ts} i g is b) = record { first = t; rest = ts; is = refl }
action_begun (s.Action'.of_break {t = t} {u = u} {ts = ts} i j) = record { first = t; rest = u ∷ ts; is = refl }
action_begun (s.Action'.of_break_to {t = t} {u = u} {v = v} {ts = ts} i k j) = record { first = t; rest = u ∷ v ∷ ts; is = refl }
action_begun (s.Action'.of_return {t = t} {u = u} {ts = ts} i j) = record { first = t; rest = u ∷ ts; is = refl }
action_begun (s.Action'.of_goto {t = t} {ts = ts} i d j) = record { first = t; rest = ts; is = refl }

shown_plain : (t : Lexeme) (ls mid us : List Lexeme) (a : Action) → ls ≡ t ∷ mid → s.Action' placed ls us a → s.Stmt' placed ls us (stmt [] (place_of ls) a)
shown_plain t ls mid us a e d =
    let d' = rw e at d in
    rw e (s.Stmt'.plain d')

plain_stmt : (ls us : List Lexeme) (a : Action) → s.Action' placed ls us a → s.Stmt' placed ls us (stmt [] (place_of ls) a)
plain_stmt ls us a d =
    let b = action_begun d in
    shown_plain b.first ls b.rest us a b.is d

abbrev begins_label : List Lexeme → Bool
begins_label ls = sees (kind id) ls && sees (fixed (codes ":")) (drop 1 ls)

labels_from : (ls mid us : List Lexeme) (ns : List Name) (a : Action) → Items begins_label read_label ls mid ns → s.Action' placed mid us a → s.Stmt' placed ls us (stmt ns (place_of mid) a)
labels_from ls mid us [] a none d = plain_stmt ls us a d
labels_from ls mid us (m ∷ ns) a (next {rest = rest} b h r) d = label_more ls rest us m ns (place_of mid) a h (labels_from rest mid us ns a r d)

module _ (room n : ℕ) (total : n + room ≡ 200) (inner : List Lexeme → Read (List Stmt)) (law : (ls us : List Lexeme) (ss : List Stmt) → inner ls ≡ Ok (ss, us) → s.List' placed ls us (stmts_of ss)) where
  blocks : (ls us : List Lexeme) (ss : List Stmt) → block_with room inner ls ≡ Ok (ss, us) → s.Block placed ls us (stmts_of ss)
  blocks = block_ok room n total inner law

  -- "while" "(" Guard ")" {Inv} Block
  shown_while : (t : Lexeme) (ls mid rest after us : List Lexeme) (g : Guard) (is : List Invariant) (ss : Stmts) → Is "while" t → ls ≡ t ∷ mid → s.Guard' placed mid rest g → s.Invs placed rest after is → s.Block placed after us ss → s.Action' placed ls us (loop g is ss)
  shown_while t ls mid rest after us g is ss i e d k b = rw e (s.Action'.of_while i d k b)

  while_ok : (ls : List Lexeme) (a : Action) (us : List Lexeme) → while_with room inner ls ≡ Ok (a, us) → s.Action' placed ls us a
  unfolding while_with
  while_ok ls a us h =
      let f = followed_ok (read_fixed (codes "while") ls) _ (a, us) h in
      let o = token_ok (fixed (codes "while")) ls f.rest f.reads in
      let g = followed_ok (guarded_with room f.rest) _ (a, us) f.then in
      let k = followed_ok (invs_with room g.rest) _ (a, us) g.then in
      let r = read_as_ok _ (block_with room inner k.rest) a us k.then in
      rw (← r.is) (shown_while o.token ls f.rest g.rest k.rest us g.first k.first (stmts_of r.value) o.is o.there (guarded_ok room n total f.rest g.rest g.first g.reads) (invs_ok room n total g.rest k.rest k.first k.reads) (blocks k.rest us r.value r.reads))

  -- a statement without labels

  shown_assert : (t : Lexeme) (ls mid us : List Lexeme) (x : Expr) → Is "assert" t → ls ≡ t ∷ mid → s.Formula placed mid us x → s.Action' placed ls us (assert x)
  shown_assert t ls mid us x i e d = rw e (s.Action'.of_assert i d)

  shown_assume : (t : Lexeme) (ls mid us : List Lexeme) (x : Expr) → Is "assume" t → ls ≡ t ∷ mid → s.Formula placed mid us x → s.Action' placed ls us (assume x)
  shown_assume t ls mid us x i e d = rw e (s.Action'.of_assume i d)

  assert_ok : (ls : List Lexeme) (a : Action) (us : List Lexeme) → IsTrue (sees (fixed (codes "assert")) ls) → read_as (λ x. assert x) (formula_with room (drop 1 ls)) ≡ Ok (a, us) → s.Action' placed ls us a
  assert_ok ls a us i h =
      let o = seen_ok (fixed (codes "assert")) ls i in
      let r = read_as_ok (λ x. assert x) (formula_with room (drop 1 ls)) a us h in
      rw (← r.is) (shown_assert o.token ls (drop 1 ls) us r.value o.is o.there (formula_ok room n total (drop 1 ls) us r.value r.reads))

  assume_ok : (ls : List Lexeme) (a : Action) (us : List Lexeme) → IsTrue (sees (fixed (codes "assume")) ls) → read_as (λ x. assume x) (formula_with room (drop 1 ls)) ≡ Ok (a, us) → s.Action' placed ls us a
  assume_ok ls a us i h =
      let o = seen_ok (fixed (codes "assume")) ls i in
      let r = read_as_ok (λ x. assume x) (formula_with room (drop 1 ls)) a us h in
      rw (← r.is) (shown_assume o.token ls (drop 1 ls) us r.value o.is o.there (formula_ok room n total (drop 1 ls) us r.value r.reads))

  action_ok : (ls : List Lexeme) (a : Action) (us : List Lexeme) → action_with room inner ls ≡ Ok (a, us) → s.Action' placed ls us a
  unfolding action_with
  action_ok ls a us h = by_cond (sees (fixed (codes "assert")) ls) _ _ (a, us) h (assert_ok ls a us)
      (λ i h. by_cond (sees (fixed (codes "assume")) ls) _ _ (a, us) h (assume_ok ls a us)
      (λ i h. by_cond (sees (fixed (codes "havoc")) ls) _ _ (a, us) h (λ i q. havoc_ok ls a us q)
      (λ i h. by_cond (sees (fixed (codes "call")) ls) _ _ (a, us) h (λ i q. call_ok room n total ls a us q)
      (λ i h. by_cond (sees (fixed (codes "if")) ls) _ _ (a, us) h (λ i q. if_ok room n total inner law ls a us q)
      (λ i h. by_cond (sees (fixed (codes "while")) ls) _ _ (a, us) h (λ i q. while_ok ls a us q)
      (λ i h. by_cond (sees (fixed (codes "break")) ls) _ _ (a, us) h (λ i q. break_ok ls a us q)
      (λ i h. by_cond (sees (fixed (codes "return")) ls) _ _ (a, us) h (λ i q. return_ok ls a us q)
      (λ i h. by_cond (sees (fixed (codes "goto")) ls) _ _ (a, us) h (λ i q. goto_ok ls a us q) (λ i q. assign_ok room n total ls a us q)))))))))

  stmt_ok : (ls us : List Lexeme) (x : Stmt) → stmt_with room inner ls ≡ Ok (x, us) → s.Stmt' placed ls us x
  unfolding stmt_with read_labels
  stmt_ok ls us x h =
      let f = followed_ok (read_labels ls) _ (x, us) h in
      let r = read_as_ok _ (action_with room inner f.rest) x us f.then in
      rw (← r.is) (labels_from ls f.rest us f.first r.value (items_ok begins_label read_label ls f.rest f.first f.reads) (action_ok f.rest r.value us r.reads))

  stmts_from : (ls us : List Lexeme) (ss : List Stmt) → Items (sees_one stmt_firsts) (stmt_with room inner) ls us ss → s.List' placed ls us (stmts_of ss)
  stmts_from ls us [] none = s.List'.done
  stmts_from ls us (x ∷ ss) (next {rest = rest} b h r) = s.List'.more (stmt_ok ls rest x h) (stmts_from rest us ss r)

  roomy_ok : (ls us : List Lexeme) (ss : List Stmt) → stmts_with room inner ls ≡ Ok (ss, us) → s.List' placed ls us (stmts_of ss)
  unfolding stmts_with
  roomy_ok ls us ss h = stmts_from ls us ss (items_ok (sees_one stmt_firsts) (stmt_with room inner) ls us ss h)

-- statements, where there is room for so many nestings

pub stmts_tree : (room n : ℕ) → n + room ≡ 201 → (ls us : List Lexeme) (ss : List Stmt) → read_stmts room ls ≡ Ok (ss, us) → s.List' placed ls us (stmts_of ss)
stmts_tree zero n q ls us ss h = by_cond (sees_one stmt_firsts ls) (Err (deep, ls)) (Ok ([], ls)) (ss, us) h
    (λ i k. absurd (cc (k)))
    (λ i k. let e = same_found [] ss ls us k in
    rw (← e.0, ← e.1) s.List'.done)
stmts_tree (suc room) n q ls us ss h = roomy_ok room n (omega (arith, q)) (read_stmts room) (stmts_tree room (suc n) (omega (arith, q))) ls us ss h

-- Body = "{" {Var} {Stmt} "}"

shown_body : (t u : Lexeme) (ls mid rest us : List Lexeme) (gs : List Groups) (ss : Stmts) → Is "{" t → ls ≡ t ∷ mid → s.Vars placed mid rest gs → s.List' placed rest (u ∷ us) ss → Is "}" u → s.Body' placed ls us (record { locals = gs; stmts = ss })
shown_body t u ls mid rest us gs ss i e v d j = rw e (s.Body'.body i v d j)

pub body_tree : (room n : ℕ) → suc n + room ≡ 200 → (ls us : List Lexeme) (b : Body) → body_with room ls ≡ Ok (b, us) → s.Body' placed ls us b
unfolding body_with
body_tree room n total ls us b h =
    let f = followed_ok (read_fixed (codes "{") ls) _ (b, us) h in
    let o = token_ok (fixed (codes "{")) ls f.rest f.reads in
    let v = followed_ok (vars_with room f.rest) _ (b, us) f.then in
    let k = followed_ok (read_stmts (suc room) v.rest) _ (b, us) v.then in
    let c = closed_ok (fixed (codes "}")) (record { locals = v.first; stmts = stmts_of k.first }) k.rest us b k.then in
    let d = rw c.there at (stmts_tree (suc room) (suc n) (omega (arith, total)) v.rest k.rest k.first k.reads) in
    rw (← c.same) (shown_body o.token c.token ls f.rest v.rest us v.first (stmts_of k.first) o.is o.there (vars_ok room (suc n) total f.rest v.rest v.first v.reads) d c.is)
