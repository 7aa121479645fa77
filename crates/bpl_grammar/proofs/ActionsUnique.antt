-- Statements and bodies that lexemes spell are those that are read.
use Rattle.std.specs.Prelude.{◌≡◌, ℕ, zero, suc, ◌+◌, Bool, false, ◌&&◌, ◌||◌, cond, List, [], ◌∷◌, drop, codes, IsTrue, Ok, Err}
use Rattle.std.proofs.Common.{refl, inl, ap, sym, ◌∙◌, arith}
use Rattle.bpl_grammar.proofs.Booleans.{no_and_first as and_none, no_and_second as and_false, and_both}
use Rattle.bv_base.specs.declared.place.Place.{Place}
use Rattle.bpl_lex.specs.Token.{id}
use Rattle.bpl_ast.specs.Place.{Name}
use Rattle.bpl_ast.specs.Tree.{Expr, Exprs, Groups}
use Rattle.bpl_ast.specs.Statement.{Target, Stmt, stmt, Action, assert, assume, Stmts, next as one_more, Body}
use Rattle.bpl_ast.specs.StmtView.{stmts_of}
use Rattle.bpl_grammar.specs.Lexeme.{Lexeme}
use Rattle.bpl_grammar.specs.Part.{rule, stmt as statement}
use Rattle.bpl_grammar.specs.Judge.{deep, Narrow}
use Rattle.bpl_grammar.specs.Terminal.{Terminal, kind, fixed, is, sees, sees_any, apart}
use Rattle.bpl_grammar.specs.Reading.{Read, read_as, place_of, sees_one, read_fixed, read_name}
use Rattle.bpl_grammar.specs.ReadStatements.{stmt_firsts, read_label, read_labels, read_havoc, read_break, read_return, read_goto, formula_with, assign_with, call_with, vars_with, if_with, while_with, action_with, stmt_with, stmts_with, read_stmts, body_with}
use Rattle.bpl_grammar.specs.Types.{Is, IsId, name}
use Rattle.bpl_grammar.specs.Statements as s
use Rattle.bpl_grammar.proofs.AgreeStatements as agree
use Rattle.bpl_grammar.proofs.First.{takes_begins}
use Rattle.bpl_grammar.proofs.Operations.{any_apart}
use Rattle.bpl_grammar.proofs.Behind.{takes_shorter}
use Rattle.bpl_grammar.proofs.Found.{same_found, followed_ok, read_as_ok}
use Rattle.bpl_grammar.proofs.TypeTrees.{comma, placed}
use Rattle.bpl_grammar.proofs.Fates.{opens_one_of}
use Rattle.bpl_grammar.proofs.BlockFates.{firsts_stmt}
use Rattle.bpl_grammar.proofs.Items.{Items, none, next, items_ok}
use Rattle.bpl_grammar.proofs.TypesUnique.{name_at, name_one}
use Rattle.bpl_grammar.proofs.StatementsUnique.{havoc_sure, goto_sure, return_sure, break_sure, break_to_sure, formula_sure, assign_sure, call_sure, call_outs_sure}
use Rattle.bpl_grammar.proofs.GuardsUnique.{vars_sure}
use Rattle.bpl_grammar.proofs.BranchesUnique.{else_word, if_open, if_sure, while_sure}
use Rattle.bpl_grammar.proofs.Suffixes.{takes_suffix, narrow_suffix}
use Rattle.bpl_grammar.proofs.Spelled.{chosen, passed, other, token_rest}
use Rattle.bpl_grammar.proofs.Unique.{Leaves, none_seen, quiet_head, quiet_behind, Rep, ended, further, repeated_ends}
use Rattle.bpl_grammar.proofs.Sure.{IsSure, closed_rest, rep_sure}

-- labels

abbrev a_label : List Lexeme → Bool
a_label us = sees (kind id) us && sees (fixed (codes ":")) (drop 1 us)

worded : (c : Terminal) (t : Lexeme) (ts : List Lexeme) → IsTrue (apart c (kind id)) → IsTrue (is c t) → a_label (t ∷ ts) ≡ false
worded c t ts a i = and_none (is (kind id) t) (sees (fixed (codes ":")) ts) (other c (kind id) t i a)

-- no colon stands behind a target's name
behind_name : (v : Lexeme) (ls us : List Lexeme) (xs : Exprs) → s.Entry placed ls (v ∷ us) xs → is (fixed (codes ":")) v ≡ false → sees (fixed (codes ":")) ls ≡ false
behind_name v ls us xs s.Entry.none h = h
behind_name v (t ∷ ls) us xs (s.Entry.more i d j r) h = other (fixed (codes "[")) (fixed (codes ":")) t i refl

no_label : (t u : Lexeme) (ts us : List Lexeme) (ys : List Target) → s.Targets placed (t ∷ ts) (u ∷ us) ys → is (fixed (codes ":")) u ≡ false → a_label (t ∷ ts) ≡ false
no_label t u ts us ys (s.Targets.last {xs = xs} i d) h = and_false (is (kind id) t) (sees (fixed (codes ":")) ts) (behind_name u ts us xs d h)
no_label t u ts us ys (s.Targets.more {u = v} {us = mid} {xs = xs} i d c r) h = and_false (is (kind id) t) (sees (fixed (codes ":")) ts) (behind_name v ts mid xs d (other comma (fixed (codes ":")) v c refl))

unlabelled : (t : Lexeme) (ts us : List Lexeme) (a : Action) → s.Action' placed (t ∷ ts) us a → a_label (t ∷ ts) ≡ false
unlabelled t ts us a (s.Action'.of_assert i d) = worded (fixed (codes "assert")) t ts refl i
unlabelled t ts us a (s.Action'.of_assume i d) = worded (fixed (codes "assume")) t ts refl i
unlabelled t ts us a (s.Action'.of_havoc i d j) = worded (fixed (codes "havoc")) t ts refl i
unlabelled t ts us a (s.Action'.of_assign {t = u} {us = mid} {ys = ys} d i e j) = no_label t u ts mid ys d (other (fixed (codes ":=")) (fixed (codes ":")) u i refl)
unlabelled t ts us a (s.Action'.of_call i d j e k) = worded (fixed (codes "call")) t ts refl i
unlabelled t ts us a (s.Action'.of_call_with_outs i d e j k f l) = worded (fixed (codes "call")) t ts refl i
unlabelled t ts us a (s.Action'.of_if d) = worded (fixed (codes "if")) t ts refl (if_open d)
unlabelled t ts us a (s.Action'.of_while i g is b) = worded (fixed (codes "while")) t ts refl i
unlabelled t ts us a (s.Action'.of_break i j) = worded (fixed (codes "break")) t ts refl i
unlabelled t ts us a (s.Action'.of_break_to i j k) = worded (fixed (codes "break")) t ts refl i
unlabelled t ts us a (s.Action'.of_return i j) = worded (fixed (codes "return")) t ts refl i
unlabelled t ts us a (s.Action'.of_goto i d j) = worded (fixed (codes "goto")) t ts refl i

label_same : (t u : Lexeme) (ts vs : List Lexeme) (m : Name) → Narrow (t ∷ u ∷ ts) → IsId t → read_label (t ∷ u ∷ ts) ≡ Ok (m, vs) → (ts ≡ vs) × (name placed t ≡ m)
unfolding read_label
label_same t u ts vs m w i h =
    let f = followed_ok (read_name (t ∷ u ∷ ts)) _ (m, vs) h in
    let o = name_one (t ∷ u ∷ ts) (u ∷ ts) f.rest (name placed t) f.first w (name_at i) f.reads (inl (none_seen (u ∷ ts))) in
    let k = closed_rest (fixed (codes ":")) u ts f.rest vs f.first m o.0 f.then in
    (k.0, o.1 ∙ k.1)

-- what begins a statement

one_any : (cs : List Terminal) (ls : List Lexeme) → sees_one cs ls ≡ sees_any cs ls
one_any [] [] = refl
one_any [] (t ∷ ts) = refl
one_any (c ∷ cs) [] = one_any cs []
one_any (c ∷ cs) (t ∷ ts) = ap (λ b. is c t || b) (one_any cs (t ∷ ts))

stmt_begins : (ls us : List Lexeme) (x : Stmt) → s.Stmt' placed ls us x → IsTrue (sees_one stmt_firsts ls)
stmt_begins [] us x d = absurd (omega (arith, takes_shorter (rule statement) [] us refl (agree.takes_stmt placed d)))
stmt_begins (t ∷ ts) us x d = sym (opens_one_of stmt_firsts (rule statement) (t ∷ ts) firsts_stmt) ∙ takes_begins t ts us (rule statement) refl (agree.takes_stmt placed d)

no_else : (ls : List Lexeme) → IsTrue (sees_one stmt_firsts ls) → sees_any (else_word ∷ []) ls ≡ false
no_else [] h = refl
no_else (t ∷ ts) h = any_apart stmt_firsts (else_word ∷ []) t (sym (one_any stmt_firsts (t ∷ ts)) ∙ h) refl

record StmtsOf (ls us : List Lexeme) (ss : Stmts) : Type 0 where
  list : List Stmt
  rep : Rep (sees_one stmt_firsts) (s.Stmt' placed) ls us list
  same : stmts_of list ≡ ss

stmts_parts : {ls us : List Lexeme} {ss : Stmts} → s.List' placed ls us ss → StmtsOf ls us ss
stmts_parts s.List'.done = record { list = []; rep = ended; same = refl }
stmts_parts (s.List'.more {ts = ts} {us = us} {x = x} d r) =
    let p = stmts_parts r in
    record { list = x ∷ p.list; rep = further (stmt_begins ts us x d) d p.rep; same = ap (one_more x) p.same }

stmt_leaves : Leaves (s.Stmt' placed)
stmt_leaves = λ ls us x d. takes_suffix (agree.takes_stmt placed d)

module _ (room n : ℕ) (total : n + room ≡ 200) (inner : List Lexeme → Read (List Stmt))
    (inner_sure : (ls us vs : List Lexeme) (ss : Stmts) (ys : List Stmt) → Narrow ls → s.List' placed ls us ss → inner ls ≡ Ok (ys, vs) → sees_any stmt_firsts us ≡ false → sees else_word us ≡ false → (us ≡ vs) × (ss ≡ stmts_of ys)) where
  -- which action, by its first token

  abbrev from_goto : List Lexeme → Read Action
  from_goto ls = cond (sees (fixed (codes "goto")) ls) (read_goto ls) (assign_with room ls)

  abbrev from_return : List Lexeme → Read Action
  from_return ls = cond (sees (fixed (codes "return")) ls) (read_return ls) (from_goto ls)

  abbrev from_break : List Lexeme → Read Action
  from_break ls = cond (sees (fixed (codes "break")) ls) (read_break ls) (from_return ls)

  abbrev from_while : List Lexeme → Read Action
  from_while ls = cond (sees (fixed (codes "while")) ls) (while_with room inner ls) (from_break ls)

  abbrev from_if : List Lexeme → Read Action
  from_if ls = cond (sees (fixed (codes "if")) ls) (if_with room inner ls) (from_while ls)

  abbrev from_call : List Lexeme → Read Action
  from_call ls = cond (sees (fixed (codes "call")) ls) (call_with room ls) (from_if ls)

  abbrev from_havoc : List Lexeme → Read Action
  from_havoc ls = cond (sees (fixed (codes "havoc")) ls) (read_havoc ls) (from_call ls)

  abbrev from_assume : List Lexeme → Read Action
  from_assume ls = cond (sees (fixed (codes "assume")) ls) (read_as (λ x. assume x) (formula_with room (drop 1 ls))) (from_havoc ls)

  module _ (c : Terminal) (t : Lexeme) (ts vs : List Lexeme) (y : Action) (i : IsTrue (is c t)) where
    past_assert : IsTrue (apart c (fixed (codes "assert"))) → action_with room inner (t ∷ ts) ≡ Ok (y, vs) → from_assume (t ∷ ts) ≡ Ok (y, vs)
    unfolding action_with
    past_assert a h = passed (sees (fixed (codes "assert")) (t ∷ ts)) _ _ (y, vs) (other c (fixed (codes "assert")) t i a) h

    past_assume : IsTrue (apart c (fixed (codes "assume"))) → from_assume (t ∷ ts) ≡ Ok (y, vs) → from_havoc (t ∷ ts) ≡ Ok (y, vs)
    past_assume a h = passed (sees (fixed (codes "assume")) (t ∷ ts)) _ _ (y, vs) (other c (fixed (codes "assume")) t i a) h

    past_havoc : IsTrue (apart c (fixed (codes "havoc"))) → from_havoc (t ∷ ts) ≡ Ok (y, vs) → from_call (t ∷ ts) ≡ Ok (y, vs)
    past_havoc a h = passed (sees (fixed (codes "havoc")) (t ∷ ts)) _ _ (y, vs) (other c (fixed (codes "havoc")) t i a) h

    past_call : IsTrue (apart c (fixed (codes "call"))) → from_call (t ∷ ts) ≡ Ok (y, vs) → from_if (t ∷ ts) ≡ Ok (y, vs)
    past_call a h = passed (sees (fixed (codes "call")) (t ∷ ts)) _ _ (y, vs) (other c (fixed (codes "call")) t i a) h

    past_if : IsTrue (apart c (fixed (codes "if"))) → from_if (t ∷ ts) ≡ Ok (y, vs) → from_while (t ∷ ts) ≡ Ok (y, vs)
    past_if a h = passed (sees (fixed (codes "if")) (t ∷ ts)) _ _ (y, vs) (other c (fixed (codes "if")) t i a) h

    past_while : IsTrue (apart c (fixed (codes "while"))) → from_while (t ∷ ts) ≡ Ok (y, vs) → from_break (t ∷ ts) ≡ Ok (y, vs)
    past_while a h = passed (sees (fixed (codes "while")) (t ∷ ts)) _ _ (y, vs) (other c (fixed (codes "while")) t i a) h

    past_break : IsTrue (apart c (fixed (codes "break"))) → from_break (t ∷ ts) ≡ Ok (y, vs) → from_return (t ∷ ts) ≡ Ok (y, vs)
    past_break a h = passed (sees (fixed (codes "break")) (t ∷ ts)) _ _ (y, vs) (other c (fixed (codes "break")) t i a) h

    past_return : IsTrue (apart c (fixed (codes "return"))) → from_return (t ∷ ts) ≡ Ok (y, vs) → from_goto (t ∷ ts) ≡ Ok (y, vs)
    past_return a h = passed (sees (fixed (codes "return")) (t ∷ ts)) _ _ (y, vs) (other c (fixed (codes "return")) t i a) h

  assert_sure : (t : Lexeme) (ts us vs : List Lexeme) (x : Expr) (y : Action) → Narrow ts → Is "assert" t → s.Formula placed ts us x → action_with room inner (t ∷ ts) ≡ Ok (y, vs) → (us ≡ vs) × (assert x ≡ y)
  unfolding action_with
  assert_sure t ts us vs x y w i d h =
      let r = read_as_ok _ (formula_with room ts) y vs (chosen (sees (fixed (codes "assert")) (t ∷ ts)) _ _ (y, vs) i h) in
      let o = formula_sure room n total ts us vs x r.value w d r.reads in
      (o.0, ap assert o.1 ∙ r.is)

  assign_first : (t : Lexeme) (ts us vs : List Lexeme) (y : Action) → IsId t → action_with room inner (t ∷ ts) ≡ Ok (y, vs) → assign_with room (t ∷ ts) ≡ Ok (y, vs)
  assign_first t ts us vs y i h =
      let c = kind id in
      passed (sees (fixed (codes "goto")) (t ∷ ts)) _ _ (y, vs) (other c (fixed (codes "goto")) t i refl)
      (past_return c t ts vs y i refl (past_break c t ts vs y i refl (past_while c t ts vs y i refl (past_if c t ts vs y i refl (past_call c t ts vs y i refl (past_havoc c t ts vs y i refl (past_assume c t ts vs y i refl (past_assert c t ts vs y i refl h))))))))

  target_first : (t : Lexeme) (ts us : List Lexeme) (ys : List Target) → s.Targets placed (t ∷ ts) us ys → IsId t
  target_first t ts us ys (s.Targets.last i d) = i
  target_first t ts us ys (s.Targets.more i d c r) = i

  break_first : (t : Lexeme) (ts vs : List Lexeme) (y : Action) → Is "break" t → action_with room inner (t ∷ ts) ≡ Ok (y, vs) → read_break (t ∷ ts) ≡ Ok (y, vs)
  break_first t ts vs y i h =
      let c = fixed (codes "break") in
      chosen (sees (fixed (codes "break")) (t ∷ ts)) _ _ (y, vs) i (past_while c t ts vs y i refl (past_if c t ts vs y i refl (past_call c t ts vs y i refl (past_havoc c t ts vs y i refl (past_assume c t ts vs y i refl (past_assert c t ts vs y i refl h))))))

  call_first : (t : Lexeme) (ts vs : List Lexeme) (y : Action) → Is "call" t → action_with room inner (t ∷ ts) ≡ Ok (y, vs) → call_with room (t ∷ ts) ≡ Ok (y, vs)
  call_first t ts vs y i h =
      let c = fixed (codes "call") in
      chosen (sees (fixed (codes "call")) (t ∷ ts)) _ _ (y, vs) i (past_havoc c t ts vs y i refl (past_assume c t ts vs y i refl (past_assert c t ts vs y i refl h)))

  pub action_sure : (ls us vs : List Lexeme) (x y : Action) → Narrow ls → s.Action' placed ls us x → action_with room inner ls ≡ Ok (y, vs) → sees else_word us ≡ false → (us ≡ vs) × (x ≡ y)
  action_sure (t ∷ ts) us vs x y w (s.Action'.of_assert {x = z} i d) h q = assert_sure t ts us vs z y w.1 i d h
  action_sure (t ∷ ts) us vs x y w (s.Action'.of_assume {x = z} i d) h q =
      let c = fixed (codes "assume") in
      let r = read_as_ok _ (formula_with room ts) y vs (chosen (sees (fixed (codes "assume")) (t ∷ ts)) _ _ (y, vs) i (past_assert c t ts vs y i refl h)) in
      let o = formula_sure room n total ts us vs z r.value w.1 d r.reads in
      (o.0, ap assume o.1 ∙ r.is)
  action_sure (t ∷ ts) us vs x y w (s.Action'.of_havoc {u = u} {ns = ns} i d j) h q =
      let c = fixed (codes "havoc") in
      havoc_sure t u ts us vs ns y w.1 d j (chosen (sees (fixed (codes "havoc")) (t ∷ ts)) _ _ (y, vs) i (past_assume c t ts vs y i refl (past_assert c t ts vs y i refl h)))
  action_sure [] us vs x y w (s.Action'.of_assign d i e j) h q = elim d [ ]
  action_sure (t ∷ ts) us vs x y w (s.Action'.of_assign {t = v} {u = u} {us = mid} {ys = ys} {xs = xs} d i e j) h q =
      assign_sure room n total v u (t ∷ ts) mid us vs ys xs y w d i e j (assign_first t ts us vs y (target_first t ts (v ∷ mid) ys d) h)
  action_sure (t ∷ ts) us vs x y w (s.Action'.of_call {u = u} {v = v} {us = mid} {xs = xs} i d j e k) h q = call_sure room n total t u v ts mid us vs xs y w.1 d j e k (call_first t ts vs y i h)
  action_sure (t ∷ ts) us vs x y w (s.Action'.of_call_with_outs {u = u} {v = v} {w = z} {us = mid} {vs = rest} {ns = ns} {xs = xs} i d e j k f l) h q =
      call_outs_sure room n total t u v z ts mid rest us vs ns xs y w.1 d e j k f l (call_first t ts vs y i h)
  action_sure [] us vs x y w (s.Action'.of_if d) h q = elim d [ ]
  action_sure (t ∷ ts) us vs x y w (s.Action'.of_if {bs = bs} d) h q =
      let c = fixed (codes "if") in
      let i : Is "if" t = if_open d in
      if_sure room n total inner inner_sure (t ∷ ts) us vs bs y w d (chosen (sees (fixed (codes "if")) (t ∷ ts)) _ _ (y, vs) i
      (past_call c t ts vs y i refl (past_havoc c t ts vs y i refl (past_assume c t ts vs y i refl (past_assert c t ts vs y i refl h))))) q
  action_sure (t ∷ ts) us vs x y w (s.Action'.of_while {us = mid} {vs = rest} {g = g} {is = is} {ss = ss} i d e b) h q =
      let c = fixed (codes "while") in
      while_sure room n total inner inner_sure t ts mid rest us vs g is ss y w.1 d e b (chosen (sees (fixed (codes "while")) (t ∷ ts)) _ _ (y, vs) i
      (past_if c t ts vs y i refl (past_call c t ts vs y i refl (past_havoc c t ts vs y i refl (past_assume c t ts vs y i refl (past_assert c t ts vs y i refl h))))))
  action_sure (t ∷ ts) us vs x y w (s.Action'.of_break {u = u} i j) h q = break_sure t u us vs y j (break_first t ts vs y i h)
  action_sure (t ∷ ts) us vs x y w (s.Action'.of_break_to {u = u} {v = v} i j k) h q = break_to_sure t u v us vs y w.1 j k (break_first t ts vs y i h)
  action_sure (t ∷ ts) us vs x y w (s.Action'.of_return {u = u} i j) h q =
      let c = fixed (codes "return") in
      return_sure t u us vs y (chosen (sees (fixed (codes "return")) (t ∷ ts)) _ _ (y, vs) i
      (past_break c t ts vs y i refl (past_while c t ts vs y i refl (past_if c t ts vs y i refl (past_call c t ts vs y i refl (past_havoc c t ts vs y i refl (past_assume c t ts vs y i refl (past_assert c t ts vs y i refl h))))))))
  action_sure (t ∷ ts) us vs x y w (s.Action'.of_goto {u = u} {ns = ns} i d j) h q =
      let c = fixed (codes "goto") in
      goto_sure t u ts us vs ns y w.1 d j (chosen (sees (fixed (codes "goto")) (t ∷ ts)) _ _ (y, vs) i
      (past_return c t ts vs y i refl (past_break c t ts vs y i refl (past_while c t ts vs y i refl (past_if c t ts vs y i refl (past_call c t ts vs y i refl (past_havoc c t ts vs y i refl (past_assume c t ts vs y i refl (past_assert c t ts vs y i refl h)))))))))

  -- Stmt: labels, the place behind them, and the rest
  stmt_from : (ls us rest vs : List Lexeme) (x : Stmt) (ns : List Name) (a : Action) → Narrow ls → s.Stmt' placed ls us x → Items a_label read_label ls rest ns → a_label rest ≡ false → action_with room inner rest ≡ Ok (a, vs) → sees else_word us ≡ false → (us ≡ vs) × (x ≡ stmt ns (place_of rest) a)
  stmt_from [] us rest vs x ns a w d i b h q = elim d [ ]
  stmt_from (t ∷ ts) us rest vs x [] a w (s.Stmt'.labelled {u = u} {ts = ls} i j d) none b h q = absurd (cc (and_both (is (kind id) t) (is (fixed (codes ":")) u) i j, b))
  stmt_from (t ∷ ts) us rest vs x (m ∷ ms) a w (s.Stmt'.labelled {u = u} {ts = ls} {ls = ns} {p = p} {a = z} i j d) (next {rest = mid} c g r) b h q =
      let o = label_same t u ls mid m w i g in
      let r' = rw (← o.0) at r in
      let k = stmt_from ls us rest vs (stmt ns p z) ms a w.1.1 d r' b h q in
      (k.0, labelled_same (name placed t) m ns ms p (place_of rest) z a o.1 k.1)
    where
      labelled_same : (f g : Name) (ns ms : List Name) (p r : Place) (z a : Action) → f ≡ g → stmt ns p z ≡ stmt ms r a → stmt (f ∷ ns) p z ≡ stmt (g ∷ ms) r a
      labelled_same f g ns ms p r z a e k = cc (e, k)
  stmt_from (t ∷ ts) us rest vs x [] a w (s.Stmt'.plain {a = z} d) none b h q =
      let o = action_sure (t ∷ ts) us vs z a w d h q in
      (o.0, ap (stmt [] t.place) o.1)
  stmt_from (t ∷ ts) us rest vs x (m ∷ ms) a w (s.Stmt'.plain {a = z} d) (next c g r) b h q = absurd (cc (c, unlabelled t ts us z d))

  stmt_sure : IsSure (else_word ∷ []) (s.Stmt' placed) (stmt_with room inner)
  unfolding stmt_with read_labels
  stmt_sure = λ ls us vs x y w d h q. found ls us vs x y w d h q
    where
      found : (ls us vs : List Lexeme) (x y : Stmt) → Narrow ls → s.Stmt' placed ls us x → stmt_with room inner ls ≡ Ok (y, vs) → sees_any (else_word ∷ []) us ≡ false → (us ≡ vs) × (x ≡ y)
      found ls us vs x y w d h q =
          let f = followed_ok (read_labels ls) _ (y, vs) h in
          let r = read_as_ok _ (action_with room inner f.rest) y vs f.then in
          let o = stmt_from ls us f.rest vs x f.first r.value w d (items_ok a_label read_label ls f.rest f.first f.reads) (repeated_ends a_label read_label ls f.rest f.first f.reads) r.reads (quiet_head else_word [] us q) in
          (o.0, o.1 ∙ r.is)

  -- {Stmt}
  pub stmts_sure : (ls us vs : List Lexeme) (ss : Stmts) (ys : List Stmt) → Narrow ls → s.List' placed ls us ss → stmts_with room inner ls ≡ Ok (ys, vs) → sees_any stmt_firsts us ≡ false → sees_any (else_word ∷ []) us ≡ false → (us ≡ vs) × (ss ≡ stmts_of ys)
  unfolding stmts_with
  stmts_sure ls us vs ss ys w d h b q =
      let p = stmts_parts d in
      let o = rep_sure (sees_one stmt_firsts) (stmt_with room inner) (s.Stmt' placed) (else_word ∷ []) stmt_sure stmt_leaves no_else ls us vs p.list ys w p.rep h (one_any stmt_firsts us ∙ b) q in
      (o.0, sym p.same ∙ ap stmts_of o.1)

else_any : (us : List Lexeme) → sees else_word us ≡ false → sees_any (else_word ∷ []) us ≡ false
else_any [] h = refl
else_any (t ∷ ts) h = rw h refl

pub all_stmts_sure : (room n : ℕ) → n + room ≡ 201 → (ls us vs : List Lexeme) (ss : Stmts) (ys : List Stmt) → Narrow ls → s.List' placed ls us ss → read_stmts room ls ≡ Ok (ys, vs) → sees_any stmt_firsts us ≡ false → sees else_word us ≡ false → (us ≡ vs) × (ss ≡ stmts_of ys)
all_stmts_sure zero n e ls us vs ss ys w d h b q = no_room ls (stmts_parts d) h
  where
    no_room : (ls : List Lexeme) → StmtsOf ls us ss → read_stmts zero ls ≡ Ok (ys, vs) → (us ≡ vs) × (ss ≡ stmts_of ys)
    no_room ls p h = by_list ls p.list p.rep p.same h
      where
        by_list : (ls : List Lexeme) (xs : List Stmt) → Rep (sees_one stmt_firsts) (s.Stmt' placed) ls us xs → stmts_of xs ≡ ss → cond {A = Read (List Stmt)} (sees_one stmt_firsts ls) (Err (deep, ls)) (Ok ([], ls)) ≡ Ok (ys, vs) → (us ≡ vs) × (ss ≡ stmts_of ys)
        by_list ls [] ended e h =
            let k = same_found [] ys ls vs (passed (sees_one stmt_firsts ls) _ _ (ys, vs) (one_any stmt_firsts ls ∙ b) h) in
            (k.1, sym e ∙ ap stmts_of k.0)
        by_list ls (x ∷ xs) (further i g r) e h = absurd (cc (chosen (sees_one stmt_firsts ls) _ _ (ys, vs) i h))
all_stmts_sure (suc room) n e ls us vs ss ys w d h b q = stmts_sure room n (omega (arith, e)) (read_stmts room) (all_stmts_sure room (suc n) (omega (arith, e))) ls us vs ss ys w d h b (else_any us q)

-- Body = "{" {Var} {Stmt} "}"
pub body_sure : (room n : ℕ) → suc n + room ≡ 200 → (ls us vs : List Lexeme) (x y : Body) → Narrow ls → s.Body' placed ls us x → body_with room ls ≡ Ok (y, vs) → (us ≡ vs) × (x ≡ y)
unfolding body_with
body_sure room n total ls us vs x y w d h = found ls d w h
  where
    two : (a b : List Groups) (c d : Stmts) → a ≡ b → c ≡ d → ◌≡◌ {A = Body} (record { locals = a; stmts = c }) (record { locals = b; stmts = d })
    two a b c d e f = rw (e, f) refl

    stmts_first : (mid us : List Lexeme) (ss : Stmts) (u : Lexeme) → s.List' placed mid (u ∷ us) ss → Is "}" u → sees (fixed (codes "var")) mid ≡ false
    stmts_first mid us ss u s.List'.done j = other (fixed (codes "}")) (fixed (codes "var")) u j refl
    stmts_first mid us ss u (s.List'.more {us = after} {x = z} e r) j = quiet_head (fixed (codes "var")) [] mid (no_var mid (stmt_begins mid after z e))
      where
        no_var : (ls : List Lexeme) → IsTrue (sees_one stmt_firsts ls) → sees_any (fixed (codes "var") ∷ []) ls ≡ false
        no_var [] h = refl
        no_var (t ∷ ts) h = any_apart stmt_firsts (fixed (codes "var") ∷ []) t (sym (one_any stmt_firsts (t ∷ ts)) ∙ h) refl

    found : (ls : List Lexeme) → s.Body' placed ls us x → Narrow ls → body_with room ls ≡ Ok (y, vs) → (us ≡ vs) × (x ≡ y)
    found [] d w h = elim d [ ]
    found (t ∷ ts) (s.Body'.body {u = u} {us = mid} {gs = gs} {ss = ss} i e g j) w h =
        let f = followed_ok (read_fixed (codes "{") (t ∷ ts)) _ (y, vs) h in
        let b = token_rest (fixed (codes "{")) t ts (t ∷ ts) f.rest f.first refl f.reads in
        let k = followed_ok (vars_with room f.rest) _ (y, vs) f.then in
        let o = vars_sure room (suc n) total ts mid k.rest gs k.first w.1 e (ap (vars_with room) b ∙ k.reads) (stmts_first mid us ss u g j) in
        let l = followed_ok (read_stmts (suc room) k.rest) _ (y, vs) k.then in
        let m = all_stmts_sure (suc room) (suc n) (omega (arith, total)) mid (u ∷ us) l.rest ss l.first (narrow_suffix (takes_suffix (agree.vars_run placed e)) w.1) g (ap (read_stmts (suc room)) o.0 ∙ l.reads)
        (quiet_behind (fixed (codes "}")) stmt_firsts (u ∷ us) refl j) (other (fixed (codes "}")) else_word u j refl) in
        let c = closed_rest (fixed (codes "}")) u us l.rest vs (record { locals = k.first; stmts = stmts_of l.first }) y m.0 l.then in
        (c.0, two gs k.first ss (stmts_of l.first) o.1 m.1 ∙ c.1)
