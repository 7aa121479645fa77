-- The parts of statements that are read are the trees that the lexemes spell.
use Rattle.std.specs.Prelude.{◌≡◌, ℕ, suc, ◌+◌, List, [], ◌∷◌, drop, codes, IsTrue, Ok, Option, Some, None}
use Rattle.std.proofs.Common.{arith}
use Rattle.bpl_lex.specs.Token.{id}
use Rattle.bpl_ast.specs.Place.{Name}
use Rattle.bpl_ast.specs.Tree.{Expr, Exprs, item}
use Rattle.bpl_ast.specs.ExprView.{exprs_of}
use Rattle.bpl_ast.specs.Statement.{Target, Action, havoc, assign, call, «break», «return», goto}
use Rattle.bpl_grammar.specs.Lexeme.{Lexeme}
use Rattle.bpl_grammar.specs.Grammar.{attrs}
use Rattle.bpl_grammar.specs.Spelling.{Takes}
use Rattle.bpl_grammar.specs.Terminal.{Terminal, kind, fixed, is, sees}
use Rattle.bpl_grammar.specs.Reading.{read_as, read_token, read_fixed, read_name, read_ids}
use Rattle.bpl_grammar.specs.ReadExpressions.{whole, args_with, read_inner}
use Rattle.bpl_grammar.specs.ReadStatements.{read_havoc, read_aim, read_break, read_return, read_goto, read_outs, read_expr, read_attrs, formula_with, entry_with, entries_with, lhs_with, targets_with, values_with, assign_with, call_with}
use Rattle.bpl_grammar.specs.Types.{Is, IsId, name, Ids}
use Rattle.bpl_grammar.specs.Expressions.{E, Es, Args}
use Rattle.bpl_grammar.specs.Statements as s
use Rattle.bpl_grammar.proofs.Found.{same_found, followed_ok, read_as_ok, token_ok, name_ok}
use Rattle.bpl_grammar.proofs.TypeTrees.{comma, placed, ids_ok}
use Rattle.bpl_grammar.proofs.Items.{by_cond, Items, none, next, items_ok, run_tree}
use Rattle.bpl_grammar.proofs.ExprTrees.{whole_tree, exprs_tree, arguments_tree, attributes_take}

-- a token behind which nothing more is read
pub record IsClosed {B : Type 0} (c : Terminal) (x : B) (ls us : List Lexeme) (b : B) : Type 0 where
  pub token : Lexeme
  pub is : IsTrue (is c token)
  pub there : ls ≡ token ∷ us
  pub same : x ≡ b

pub closed_ok : {B : Type 0} (c : Terminal) (x : B) (ls us : List Lexeme) (b : B) → read_as (λ u. x) (read_token c ls) ≡ Ok (b, us) → IsClosed c x ls us b
closed_ok c x ls us b h =
    let r = read_as_ok (λ u. x) (read_token c ls) b us h in
    let k = token_ok c ls us r.reads in
    record { token = k.token; is = k.is; there = k.there; same = r.is }

-- statements of names

names_closed : (ls mid us : List Lexeme) (ns : List Name) (u : Lexeme) → read_ids ls ≡ Ok (ns, mid) → mid ≡ u ∷ us → Ids placed ls (u ∷ us) ns
names_closed ls mid us ns u h e = rw e at (ids_ok ls mid ns h)

shown_havoc : (t u : Lexeme) (ls mid us : List Lexeme) (ns : List Name) → Is "havoc" t → ls ≡ t ∷ mid → Ids placed mid (u ∷ us) ns → Is ";" u → s.Action' placed ls us (havoc ns)
shown_havoc t u ls mid us ns i e d j = rw e (s.Action'.of_havoc i d j)

pub havoc_ok : (ls : List Lexeme) (a : Action) (us : List Lexeme) → read_havoc ls ≡ Ok (a, us) → s.Action' placed ls us a
unfolding read_havoc
havoc_ok ls a us h =
    let f = followed_ok (read_fixed (codes "havoc") ls) _ (a, us) h in
    let o = token_ok (fixed (codes "havoc")) ls f.rest f.reads in
    let g = followed_ok (read_ids f.rest) _ (a, us) f.then in
    let c = closed_ok (fixed (codes ";")) (havoc g.first) g.rest us a g.then in
    rw (← c.same) (shown_havoc o.token c.token ls f.rest us g.first o.is o.there (names_closed f.rest g.rest us g.first c.token g.reads c.there) c.is)

shown_goto : (t u : Lexeme) (ls mid us : List Lexeme) (ns : List Name) → Is "goto" t → ls ≡ t ∷ mid → Ids placed mid (u ∷ us) ns → Is ";" u → s.Action' placed ls us (goto ns)
shown_goto t u ls mid us ns i e d j = rw e (s.Action'.of_goto i d j)

pub goto_ok : (ls : List Lexeme) (a : Action) (us : List Lexeme) → read_goto ls ≡ Ok (a, us) → s.Action' placed ls us a
unfolding read_goto
goto_ok ls a us h =
    let f = followed_ok (read_fixed (codes "goto") ls) _ (a, us) h in
    let o = token_ok (fixed (codes "goto")) ls f.rest f.reads in
    let g = followed_ok (read_ids f.rest) _ (a, us) f.then in
    let c = closed_ok (fixed (codes ";")) (goto g.first) g.rest us a g.then in
    rw (← c.same) (shown_goto o.token c.token ls f.rest us g.first o.is o.there (names_closed f.rest g.rest us g.first c.token g.reads c.there) c.is)

shown_return : (t u : Lexeme) (ls mid us : List Lexeme) → Is "return" t → ls ≡ t ∷ mid → Is ";" u → mid ≡ u ∷ us → s.Action' placed ls us «return»
shown_return t u ls mid us i e j f = rw (e, f) (s.Action'.of_return i j)

pub return_ok : (ls : List Lexeme) (a : Action) (us : List Lexeme) → read_return ls ≡ Ok (a, us) → s.Action' placed ls us a
unfolding read_return
return_ok ls a us h =
    let f = followed_ok (read_fixed (codes "return") ls) _ (a, us) h in
    let o = token_ok (fixed (codes "return")) ls f.rest f.reads in
    let c = closed_ok (fixed (codes ";")) «return» f.rest us a f.then in
    rw (← c.same) (shown_return o.token c.token ls f.rest us o.is o.there c.is c.there)

-- "break" [Id] ";"

data AimAt : List Lexeme → List Lexeme → Option Name → Type 0 where
  nowhere : {ls : List Lexeme} → AimAt ls ls None
  label : {t : Lexeme} {ls : List Lexeme} → IsId t → AimAt (t ∷ ls) ls (Some (name placed t))

shown_label : (t : Lexeme) (ls us : List Lexeme) (n : Name) → IsId t → ls ≡ t ∷ us → n ≡ name placed t → AimAt ls us (Some n)
shown_label t ls us n i e q = rw (e, q) (label i)

aim_ok : (ls us : List Lexeme) (l : Option Name) → read_aim ls ≡ Ok (l, us) → AimAt ls us l
unfolding read_aim
aim_ok ls us l h = by_cond (sees (kind id) ls) _ _ (l, us) h
    (λ i q. let r = read_as_ok (λ n. Some n) (read_name ls) l us q in
    let k = name_ok ls r.value us r.reads in
    rw (← r.is) (shown_label k.0.token ls us r.value k.0.is k.0.there k.1))
    (λ i q. let e = same_found None l ls us q in
    rw (← e.0, ← e.1) nowhere)

shown_break : (t u : Lexeme) (ls mid rest us : List Lexeme) (l : Option Name) → Is "break" t → ls ≡ t ∷ mid → AimAt mid rest l → Is ";" u → rest ≡ u ∷ us → s.Action' placed ls us («break» l)
shown_break t u ls mid rest us l i e nowhere j f = rw (e, f) (s.Action'.of_break i j)
shown_break t u ls mid rest us l i e (label k) j f = rw (e, f) (s.Action'.of_break_to i k j)

pub break_ok : (ls : List Lexeme) (a : Action) (us : List Lexeme) → read_break ls ≡ Ok (a, us) → s.Action' placed ls us a
unfolding read_break
break_ok ls a us h =
    let f = followed_ok (read_fixed (codes "break") ls) _ (a, us) h in
    let o = token_ok (fixed (codes "break")) ls f.rest f.reads in
    let g = followed_ok (read_aim f.rest) _ (a, us) f.then in
    let c = closed_ok (fixed (codes ";")) («break» g.first) g.rest us a g.then in
    rw (← c.same) (shown_break o.token c.token ls f.rest g.rest us g.first o.is o.there (aim_ok f.rest g.rest g.first g.reads) c.is c.there)

-- [Ids ":="]

data OutsAt : List Lexeme → List Lexeme → List Name → Type 0 where
  no_outs : {ls : List Lexeme} → OutsAt ls ls []
  outs : {u : Lexeme} {ls us : List Lexeme} {ns : List Name} → Ids placed ls (u ∷ us) ns → Is ":=" u → OutsAt ls us ns

outs_ok : (ls us : List Lexeme) (ns : List Name) → read_outs ls ≡ Ok (ns, us) → OutsAt ls us ns
unfolding read_outs
outs_ok ls us ns h = by_cond (sees (fixed (codes "(")) (drop 1 ls)) _ _ (ns, us) h
    (λ i q. let e = same_found [] ns ls us q in
    rw (← e.0, ← e.1) no_outs)
    (λ i q. let f = followed_ok (read_ids ls) _ (ns, us) q in
    let c = closed_ok (fixed (codes ":=")) f.first f.rest us ns f.then in
    rw (← c.same) (outs (names_closed ls f.rest us f.first c.token f.reads c.there) c.is))

-- where there is room for so many nestings more

module _ (room n : ℕ) (total : n + room ≡ 200) where
  pub expr_tree : (ls us : List Lexeme) (x : Expr) → read_expr room ls ≡ Ok (x, us) → E placed ls us x
  expr_tree ls us x h = whole_tree (suc room) n (omega (arith, total)) ls x us h

  pub attrs_tree : (ls us : List Lexeme) (x : Unit {0}) → read_attrs room ls ≡ Ok (x, us) → Takes attrs ls us
  attrs_tree = attributes_take room (suc n) (omega (arith, total))

  -- an expression, behind which a token stands
  expr_before : (ls mid us : List Lexeme) (x : Expr) (u : Lexeme) → read_expr room ls ≡ Ok (x, mid) → mid ≡ u ∷ us → E placed ls (u ∷ us) x
  expr_before ls mid us x u h e = rw e at (expr_tree ls mid x h)

  -- {Attr} E ";"
  pub formula_ok : (ls us : List Lexeme) (x : Expr) → formula_with room ls ≡ Ok (x, us) → s.Formula placed ls us x
  unfolding formula_with
  formula_ok ls us x h =
      let f = followed_ok (read_attrs room ls) _ (x, us) h in
      let g = followed_ok (read_expr room f.rest) _ (x, us) f.then in
      let c = closed_ok (fixed (codes ";")) g.first g.rest us x g.then in
      rw (← c.same) (s.Formula.formula (attrs_tree ls f.rest f.first f.reads) (expr_before f.rest g.rest us g.first c.token g.reads c.there) c.is)

  -- {"[" E "]"}
  shown_entry : (t u : Lexeme) (ls mid after us : List Lexeme) (x : Expr) (xs : Exprs) → Is "[" t → ls ≡ t ∷ mid → E placed mid (u ∷ after) x → Is "]" u → s.Entry placed after us xs → s.Entry placed ls us (item x xs)
  shown_entry t u ls mid after us x xs i e d j r = rw e (s.Entry.more i d j r)

  entry_more : (ls rest us : List Lexeme) (x : Expr) (xs : List Expr) → entry_with room ls ≡ Ok (x, rest) → s.Entry placed rest us (exprs_of xs) → s.Entry placed ls us (exprs_of (x ∷ xs))
  unfolding entry_with
  entry_more ls rest us x xs h r =
      let f = followed_ok (read_fixed (codes "[") ls) _ (x, rest) h in
      let o = token_ok (fixed (codes "[")) ls f.rest f.reads in
      let g = followed_ok (read_inner room whole f.rest) _ (x, rest) f.then in
      let c = closed_ok (fixed (codes "]")) g.first g.rest rest x g.then in
      let d = rw c.there at (whole_tree room (suc n) (omega (arith, total)) f.rest g.first g.rest g.reads) in
      rw (← c.same) (shown_entry o.token c.token ls f.rest rest us g.first (exprs_of xs) o.is o.there d c.is r)

  entries_from : (ls us : List Lexeme) (xs : List Expr) → Items (sees (fixed (codes "["))) (entry_with room) ls us xs → s.Entry placed ls us (exprs_of xs)
  entries_from ls us [] none = s.Entry.none
  entries_from ls us (x ∷ xs) (next {rest = rest} b h r) = entry_more ls rest us x xs h (entries_from rest us xs r)

  entries_ok : (ls us : List Lexeme) (xs : List Expr) → entries_with room ls ≡ Ok (xs, us) → s.Entry placed ls us (exprs_of xs)
  unfolding entries_with
  entries_ok ls us xs h = entries_from ls us xs (items_ok (sees (fixed (codes "["))) (entry_with room) ls us xs h)

  -- Lhs {"," Lhs}, Lhs = Id {"[" E "]"}
  data TargetAt : List Lexeme → List Lexeme → Target → Type 0 where
    target : {t : Lexeme} {ls us : List Lexeme} {xs : Exprs} → IsId t → s.Entry placed ls us xs → TargetAt (t ∷ ls) us (record { name = name placed t; indices = xs })

  shown_target : (t : Lexeme) (ls mid us : List Lexeme) (m : Name) (xs : Exprs) → IsId t → ls ≡ t ∷ mid → m ≡ name placed t → s.Entry placed mid us xs → TargetAt ls us (record { name = m; indices = xs })
  shown_target t ls mid us m xs i e q d = rw (e, q) (target i d)

  lhs_ok : (ls : List Lexeme) (y : Target) (us : List Lexeme) → lhs_with room ls ≡ Ok (y, us) → TargetAt ls us y
  unfolding lhs_with
  lhs_ok ls y us h =
      let f = followed_ok (read_name ls) _ (y, us) h in
      let k = name_ok ls f.first f.rest f.reads in
      let r = read_as_ok _ (entries_with room f.rest) y us f.then in
      rw (← r.is) (shown_target k.0.token ls f.rest us f.first (exprs_of r.value) k.0.is k.0.there k.1 (entries_ok f.rest us r.value r.reads))

  last_target : (ls us : List Lexeme) (y : Target) → TargetAt ls us y → s.Targets placed ls us (y ∷ [])
  last_target ls us y (target i d) = s.Targets.last i d

  more_targets : (ls us vs : List Lexeme) (t : Lexeme) (y z : Target) (zs : List Target) → TargetAt ls (t ∷ us) y → IsTrue (is comma t) → s.Targets placed us vs (z ∷ zs) → s.Targets placed ls vs (y ∷ z ∷ zs)
  more_targets ls us vs t y z zs (target i d) c r = s.Targets.more i d c r

  targets_ok : (ls us : List Lexeme) (ys : List Target) → targets_with room ls ≡ Ok (ys, us) → s.Targets placed ls us ys
  unfolding targets_with
  targets_ok = run_tree comma (lhs_with room) TargetAt (λ ls us ys. s.Targets placed ls us ys) lhs_ok last_target more_targets

  values_ok : (ls us : List Lexeme) (xs : List Expr) → values_with room ls ≡ Ok (xs, us) → Es placed ls us (exprs_of xs)
  unfolding values_with
  values_ok = exprs_tree (suc room) n (omega (arith, total))

  -- Lhs {"," Lhs} ":=" E {"," E} ";"
  pub assign_ok : (ls : List Lexeme) (a : Action) (us : List Lexeme) → assign_with room ls ≡ Ok (a, us) → s.Action' placed ls us a
  unfolding assign_with
  assign_ok ls a us h =
      let f = followed_ok (targets_with room ls) _ (a, us) h in
      let g = followed_ok (read_fixed (codes ":=") f.rest) _ (a, us) f.then in
      let o = token_ok (fixed (codes ":=")) f.rest g.rest g.reads in
      let v = followed_ok (values_with room g.rest) _ (a, us) g.then in
      let c = closed_ok (fixed (codes ";")) (assign f.first (exprs_of v.first)) v.rest us a v.then in
      let d = rw o.there at (targets_ok ls f.rest f.first f.reads) in
      let k = rw c.there at (values_ok g.rest v.rest v.first v.reads) in
      rw (← c.same) (s.Action'.of_assign d o.is k c.is)

  -- "call" {Attr} [Ids ":="] Id "(" [Es] ")" ";"
  shown_call : (t u v : Lexeme) (ls mid before named opened us : List Lexeme) (ns : List Name) (f : Name) (xs : Exprs) → Is "call" t → ls ≡ t ∷ mid → Takes attrs mid before → OutsAt before named ns → IsId u → named ≡ u ∷ opened → f ≡ name placed u
      → Args placed opened (v ∷ us) xs → Is ";" v → s.Action' placed ls us (call ns f xs)
  shown_call t u v ls mid before named opened us ns f xs i e a no_outs k g q d j =
      let b = rw g at a in
      rw (e, q) (s.Action'.of_call i b k d j)
  shown_call t u v ls mid before named opened us ns f xs i e a (outs l m) k g q d j =
      let l' = rw g at l in
      rw (e, q) (s.Action'.of_call_with_outs i a l' m k d j)

  pub call_ok : (ls : List Lexeme) (a : Action) (us : List Lexeme) → call_with room ls ≡ Ok (a, us) → s.Action' placed ls us a
  unfolding call_with
  call_ok ls a us h =
      let f = followed_ok (read_fixed (codes "call") ls) _ (a, us) h in
      let o = token_ok (fixed (codes "call")) ls f.rest f.reads in
      let g = followed_ok (read_attrs room f.rest) _ (a, us) f.then in
      let l = followed_ok (read_outs g.rest) _ (a, us) g.then in
      let m = followed_ok (read_name l.rest) _ (a, us) l.then in
      let k = name_ok l.rest m.first m.rest m.reads in
      let p = followed_ok (args_with room (read_inner room) m.rest) _ (a, us) m.then in
      let c = closed_ok (fixed (codes ";")) (call l.first m.first (exprs_of p.first)) p.rest us a p.then in
      let d = rw c.there at (arguments_tree room (suc n) (omega (arith, total)) m.rest p.rest p.first p.reads) in
      rw (← c.same) (shown_call o.token k.0.token c.token ls f.rest g.rest l.rest m.rest us l.first m.first (exprs_of p.first) o.is o.there (attrs_tree f.rest g.rest g.first g.reads) (outs_ok g.rest l.rest l.first l.reads) k.0.is k.0.there k.1 d c.is)
