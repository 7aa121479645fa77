-- The parts of statements that lexemes spell are those that are read.
use Rattle.std.specs.Prelude.{◌≡◌, ℕ, suc, ◌+◌, false, List, [], ◌∷◌, drop, codes, IsTrue, Ok, Option, Some, None}
use Rattle.std.proofs.Common.{refl, inl, ap, sym, ◌∙◌, arith}
use Rattle.bpl_lex.specs.Token.{id}
use Rattle.bpl_ast.specs.Place.{Name}
use Rattle.bpl_ast.specs.Tree.{Expr, Exprs, item}
use Rattle.bpl_ast.specs.ExprView.{exprs_of}
use Rattle.bpl_ast.specs.Statement.{Target, Action, havoc, assign, call, «break», «return», goto}
use Rattle.bpl_grammar.specs.Lexeme.{Lexeme}
use Rattle.bpl_grammar.specs.Part.{rule, e as expression}
use Rattle.bpl_grammar.specs.Grammar.{attrs}
use Rattle.bpl_grammar.specs.Spelling.{Takes}
use Rattle.bpl_grammar.specs.Judge.{Narrow}
use Rattle.bpl_grammar.specs.Terminal.{Terminal, kind, fixed, is, sees, sees_any, apart, apart_from}
use Rattle.bpl_grammar.specs.Reading.{Read, followed, read_as, read_fixed, read_name, read_ids}
use Rattle.bpl_grammar.specs.ReadExpressions.{whole, args_with, read_inner}
use Rattle.bpl_grammar.specs.ReadStatements.{read_havoc, read_aim, read_break, read_return, read_goto, read_outs, read_expr, read_attrs, formula_with, entry_with, entries_with, lhs_with, targets_with, values_with, assign_with, call_with}
use Rattle.bpl_grammar.specs.Types.{Is, IsId, name, Ids}
use Rattle.bpl_grammar.specs.Expressions.{E, Es, Args, no_args, args}
use Rattle.bpl_grammar.specs.Statements as s
use Rattle.bpl_grammar.proofs.Agree.{ids_listed, takes_e}
use Rattle.bpl_grammar.proofs.AgreeStatements as agree
use Rattle.bpl_grammar.proofs.Found.{same_found, followed_ok, read_as_ok}
use Rattle.bpl_grammar.proofs.TypeTrees.{comma, placed}
use Rattle.bpl_grammar.proofs.TermParts.{e_goers}
use Rattle.bpl_grammar.proofs.TypesUnique.{name_at, name_one, ids_one}
use Rattle.bpl_grammar.proofs.ExprsUnique.{whole_one, exprs_one, args_one, attrs_one}
use Rattle.bpl_grammar.proofs.AtomParts.{e_leaves}
use Rattle.bpl_grammar.proofs.Suffixes.{Suffix, here, later, past, takes_suffix, narrow_suffix}
use Rattle.bpl_grammar.proofs.Spelled.{chosen, passed, other, unseen_first, token_rest}
use Rattle.bpl_grammar.proofs.Unique.{Leaves, none_seen, quiet_head, quiet_behind, Rep, ended, further, IsParted, part_last, part_more}
use Rattle.bpl_grammar.proofs.Sure.{IsSure, closed_rest, rep_sure, run_sure}

-- names, behind which another sign than a comma stands
pub ids_closed : (c : Terminal) → IsTrue (apart c comma) → (u : Lexeme) (ls us rest : List Lexeme) (ns ms : List Name) → Narrow ls → Ids placed ls (u ∷ us) ns → IsTrue (is c u) → read_ids ls ≡ Ok (ms, rest) → ((u ∷ us) ≡ rest) × (ns ≡ ms)
ids_closed c a u ls us rest ns ms n d i h = ids_one ls (u ∷ us) rest ns ms n d h (inl (quiet_comma c a u us i))
  where
    quiet_comma : (c : Terminal) → IsTrue (apart c comma) → (u : Lexeme) (us : List Lexeme) → IsTrue (is c u) → sees_any (comma ∷ []) (u ∷ us) ≡ false
    quiet_comma c a u us i = rw (other c comma u i a) refl

name_same : (t : Lexeme) (ts vs : List Lexeme) (y : Name) → Narrow (t ∷ ts) → IsId t → read_name (t ∷ ts) ≡ Ok (y, vs) → (ts ≡ vs) × (name placed t ≡ y)
name_same t ts vs y n i h = name_one (t ∷ ts) ts vs (name placed t) y n (name_at i) h (inl (none_seen ts))

pub havoc_sure : (t u : Lexeme) (ts us vs : List Lexeme) (ns : List Name) (a : Action) → Narrow ts → Ids placed ts (u ∷ us) ns → Is ";" u → read_havoc (t ∷ ts) ≡ Ok (a, vs) → (us ≡ vs) × (havoc ns ≡ a)
unfolding read_havoc
havoc_sure t u ts us vs ns a n d i h =
    let f = followed_ok (read_fixed (codes "havoc") (t ∷ ts)) _ (a, vs) h in
    let b = token_rest (fixed (codes "havoc")) t ts (t ∷ ts) f.rest f.first refl f.reads in
    let g = followed_ok (read_ids f.rest) _ (a, vs) f.then in
    let o = ids_closed (fixed (codes ";")) refl u ts us g.rest ns g.first n d i (ap read_ids b ∙ g.reads) in
    let k = closed_rest (fixed (codes ";")) u us g.rest vs (havoc g.first) a o.0 g.then in
    (k.0, ap havoc o.1 ∙ k.1)

pub goto_sure : (t u : Lexeme) (ts us vs : List Lexeme) (ns : List Name) (a : Action) → Narrow ts → Ids placed ts (u ∷ us) ns → Is ";" u → read_goto (t ∷ ts) ≡ Ok (a, vs) → (us ≡ vs) × (goto ns ≡ a)
unfolding read_goto
goto_sure t u ts us vs ns a n d i h =
    let f = followed_ok (read_fixed (codes "goto") (t ∷ ts)) _ (a, vs) h in
    let b = token_rest (fixed (codes "goto")) t ts (t ∷ ts) f.rest f.first refl f.reads in
    let g = followed_ok (read_ids f.rest) _ (a, vs) f.then in
    let o = ids_closed (fixed (codes ";")) refl u ts us g.rest ns g.first n d i (ap read_ids b ∙ g.reads) in
    let k = closed_rest (fixed (codes ";")) u us g.rest vs (goto g.first) a o.0 g.then in
    (k.0, ap goto o.1 ∙ k.1)

pub return_sure : (t u : Lexeme) (us vs : List Lexeme) (a : Action) → read_return (t ∷ u ∷ us) ≡ Ok (a, vs) → (us ≡ vs) × («return» ≡ a)
unfolding read_return
return_sure t u us vs a h =
    let f = followed_ok (read_fixed (codes "return") (t ∷ u ∷ us)) _ (a, vs) h in
    let b = token_rest (fixed (codes "return")) t (u ∷ us) (t ∷ u ∷ us) f.rest f.first refl f.reads in
    closed_rest (fixed (codes ";")) u us f.rest vs «return» a b f.then

-- "break" [Id] ";"

aimless : (u : Lexeme) (us vs : List Lexeme) (l : Option Name) → Is ";" u → read_aim (u ∷ us) ≡ Ok (l, vs) → ((u ∷ us) ≡ vs) × (None ≡ l)
unfolding read_aim
aimless u us vs l i h =
    let e = same_found None l (u ∷ us) vs (passed (sees (kind id) (u ∷ us)) _ _ (l, vs) (other (fixed (codes ";")) (kind id) u i refl) h) in
    (e.1, e.0)

aimed : (u : Lexeme) (us vs : List Lexeme) (l : Option Name) → Narrow (u ∷ us) → IsId u → read_aim (u ∷ us) ≡ Ok (l, vs) → (us ≡ vs) × (Some (name placed u) ≡ l)
unfolding read_aim
aimed u us vs l n i h =
    let r = read_as_ok (λ m. Some m) (read_name (u ∷ us)) l vs (chosen (sees (kind id) (u ∷ us)) _ _ (l, vs) i h) in
    let o = name_same u us vs r.value n i r.reads in
    (o.0, ap (λ m. Some m) o.1 ∙ r.is)

pub break_sure : (t u : Lexeme) (us vs : List Lexeme) (a : Action) → Is ";" u → read_break (t ∷ u ∷ us) ≡ Ok (a, vs) → (us ≡ vs) × («break» None ≡ a)
unfolding read_break
break_sure t u us vs a i h =
    let f = followed_ok (read_fixed (codes "break") (t ∷ u ∷ us)) _ (a, vs) h in
    let b = token_rest (fixed (codes "break")) t (u ∷ us) (t ∷ u ∷ us) f.rest f.first refl f.reads in
    let g = followed_ok (read_aim f.rest) _ (a, vs) f.then in
    let o = aimless u us g.rest g.first i (ap read_aim b ∙ g.reads) in
    let k = closed_rest (fixed (codes ";")) u us g.rest vs («break» g.first) a o.0 g.then in
    (k.0, ap «break» o.1 ∙ k.1)

pub break_to_sure : (t u v : Lexeme) (us vs : List Lexeme) (a : Action) → Narrow (u ∷ v ∷ us) → IsId u → Is ";" v → read_break (t ∷ u ∷ v ∷ us) ≡ Ok (a, vs) → (us ≡ vs) × («break» (Some (name placed u)) ≡ a)
unfolding read_break
break_to_sure t u v us vs a n i j h =
    let f = followed_ok (read_fixed (codes "break") (t ∷ u ∷ v ∷ us)) _ (a, vs) h in
    let b = token_rest (fixed (codes "break")) t (u ∷ v ∷ us) (t ∷ u ∷ v ∷ us) f.rest f.first refl f.reads in
    let g = followed_ok (read_aim f.rest) _ (a, vs) f.then in
    let o = aimed u (v ∷ us) g.rest g.first n i (ap read_aim b ∙ g.reads) in
    let k = closed_rest (fixed (codes ";")) v us g.rest vs («break» g.first) a o.0 g.then in
    (k.0, ap «break» o.1 ∙ k.1)

-- [Ids ":="]

args_open : {ls us : List Lexeme} {e : Exprs} → Args placed ls us e → IsTrue (sees (fixed (codes "(")) ls)
args_open (no_args i j) = i
args_open (args i d j) = i

no_outs : (u : Lexeme) (us mid vs : List Lexeme) (xs : Exprs) (ns : List Name) → Args placed us mid xs → read_outs (u ∷ us) ≡ Ok (ns, vs) → ((u ∷ us) ≡ vs) × ([] ≡ ns)
unfolding read_outs
no_outs u us mid vs xs ns d h =
    let e = same_found [] ns (u ∷ us) vs (chosen (sees (fixed (codes "(")) us) _ _ (ns, vs) (args_open d) h) in
    (e.1, e.0)

-- behind the first of some names stands no parenthesis
second : (u : Lexeme) (ls us : List Lexeme) (ns : List Name) → Ids placed ls (u ∷ us) ns → Is ":=" u → sees (fixed (codes "(")) (drop 1 ls) ≡ false
second u ls us ns (Ids.one i) j = other (fixed (codes ":=")) (fixed (codes "(")) u j refl
second u ls us ns (Ids.more {u = v} i c d) j = other comma (fixed (codes "(")) v c refl

some_outs : (u : Lexeme) (ls us vs : List Lexeme) (ns ms : List Name) → Narrow ls → Ids placed ls (u ∷ us) ns → Is ":=" u → read_outs ls ≡ Ok (ms, vs) → (us ≡ vs) × (ns ≡ ms)
unfolding read_outs
some_outs u ls us vs ns ms n d i h =
    let g = passed (sees (fixed (codes "(")) (drop 1 ls)) _ _ (ms, vs) (second u ls us ns d i) h in
    let f = followed_ok (read_ids ls) _ (ms, vs) g in
    let o = ids_closed (fixed (codes ":=")) refl u ls us f.rest ns f.first n d i f.reads in
    let k = closed_rest (fixed (codes ":=")) u us f.rest vs f.first ms o.0 f.then in
    (k.0, o.1 ∙ k.1)

-- entries of maps

pub data EntryAt : List Lexeme → List Lexeme → Expr → Type 0 where
  entry_at : {t u : Lexeme} {ls us : List Lexeme} {x : Expr} → Is "[" t → E placed ls (u ∷ us) x → Is "]" u → EntryAt (t ∷ ls) us x

record EntriesOf (ls us : List Lexeme) (xs : Exprs) : Type 0 where
  entries : List Expr
  rep : Rep (sees (fixed (codes "["))) EntryAt ls us entries
  same : exprs_of entries ≡ xs

entries_parts : {ls us : List Lexeme} {xs : Exprs} → s.Entry placed ls us xs → EntriesOf ls us xs
entries_parts s.Entry.none = record { entries = []; rep = ended; same = refl }
entries_parts (s.Entry.more {x = x} i d j r) =
    let p = entries_parts r in
    record { entries = x ∷ p.entries; rep = further i (entry_at i d j) p.rep; same = ap (item x) p.same }

entry_leaves : Leaves EntryAt
entry_leaves = λ ls us x d. left ls us x d
  where
    left : (ls us : List Lexeme) (x : Expr) → EntryAt ls us x → Suffix ls us
    left [] us x d = elim d [ ]
    left (t ∷ ls) us x (entry_at {u = u} i d j) = later (past (e_leaves ls (u ∷ us) x d) (later here))

pub data TargetAt : List Lexeme → List Lexeme → Target → Type 0 where
  target_at : {t : Lexeme} {ls us : List Lexeme} {xs : Exprs} → IsId t → s.Entry placed ls us xs → TargetAt (t ∷ ls) us (record { name = name placed t; indices = xs })

target_leaves : Leaves TargetAt
target_leaves = λ ls us x d. left ls us x d
  where
    left : (ls us : List Lexeme) (x : Target) → TargetAt ls us x → Suffix ls us
    left [] us x d = elim d [ ]
    left (t ∷ ls) us x (target_at i d) = later (takes_suffix (agree.entry_run placed d))

abbrev these : List Target → List Target
these ys = ys

targets_parts : {ls us : List Lexeme} {ys : List Target} → s.Targets placed ls us ys → IsParted these comma TargetAt ls us ys
targets_parts (s.Targets.last {t = t} {ts = ts} {us = us} {xs = xs} i d) = part_last these comma TargetAt (t ∷ ts) us (record { name = name placed t; indices = xs }) (target_at i d)
targets_parts (s.Targets.more {t = t} {u = u} {ts = ts} {us = us} {vs = vs} {xs = xs} {ys = ys} i d c r) = part_more these (λ x xs. x ∷ xs) (λ x xs. refl) comma TargetAt u (t ∷ ts) us vs (record { name = name placed t; indices = xs }) ys (target_at i d) c (targets_parts r)

-- where there is room for so many nestings more

module _ (room n : ℕ) (total : n + room ≡ 200) where
  -- an expression, behind which a sign closes
  pub expr_closed : (c : Terminal) → IsTrue (apart_from c e_goers) → (u : Lexeme) (ls us rest : List Lexeme) (x y : Expr) → Narrow ls → E placed ls (u ∷ us) x → IsTrue (is c u) → read_expr room ls ≡ Ok (y, rest) → ((u ∷ us) ≡ rest) × (x ≡ y)
  expr_closed c a u ls us rest x y w d i h = whole_one (suc room) n (omega (arith, total)) ls (u ∷ us) rest x y w d h (inl (quiet_behind c e_goers (u ∷ us) a i))

  inner_closed : (c : Terminal) → IsTrue (apart_from c e_goers) → (u : Lexeme) (ls us rest : List Lexeme) (x y : Expr) → Narrow ls → E placed ls (u ∷ us) x → IsTrue (is c u) → read_inner room whole ls ≡ Ok (y, rest) → ((u ∷ us) ≡ rest) × (x ≡ y)
  inner_closed c a u ls us rest x y w d i h = whole_one room (suc n) (omega (arith, total)) ls (u ∷ us) rest x y w d h (inl (quiet_behind c e_goers (u ∷ us) a i))

  pub attrs_same : (ls us vs : List Lexeme) (x : Unit {0}) → Narrow ls → Takes attrs ls us → read_attrs room ls ≡ Ok (x, vs) → sees (fixed (codes "{")) us ≡ false → us ≡ vs
  attrs_same = attrs_one room n total

  -- {Attr} E ";"
  pub formula_sure : (ls us vs : List Lexeme) (x y : Expr) → Narrow ls → s.Formula placed ls us x → formula_with room ls ≡ Ok (y, vs) → (us ≡ vs) × (x ≡ y)
  unfolding formula_with
  formula_sure ls us vs x y w (s.Formula.formula {t = t} {us = mid} a d i) h =
      let f = followed_ok (read_attrs room ls) _ (y, vs) h in
      let b = attrs_same ls mid f.rest f.first w a f.reads (unseen_first (rule expression) (fixed (codes "{")) mid (t ∷ us) refl refl (takes_e placed d)) in
      let g = followed_ok (read_expr room f.rest) _ (y, vs) f.then in
      let o = expr_closed (fixed (codes ";")) refl t mid us g.rest x g.first (narrow_suffix (takes_suffix a) w) d i (ap (read_expr room) b ∙ g.reads) in
      let k = closed_rest (fixed (codes ";")) t us g.rest vs g.first y o.0 g.then in
      (k.0, o.1 ∙ k.1)

  -- "[" E "]"
  entry_sure : IsSure [] EntryAt (entry_with room)
  unfolding entry_with
  entry_sure = λ ls us vs x y w d h q. found ls us vs x y w d h
    where
      found : (ls us vs : List Lexeme) (x y : Expr) → Narrow ls → EntryAt ls us x → entry_with room ls ≡ Ok (y, vs) → (us ≡ vs) × (x ≡ y)
      found [] us vs x y w d h = elim d [ ]
      found (t ∷ ts) us vs x y w (entry_at {u = u} i d j) h =
          let f = followed_ok (read_fixed (codes "[") (t ∷ ts)) _ (y, vs) h in
          let b = token_rest (fixed (codes "[")) t ts (t ∷ ts) f.rest f.first refl f.reads in
          let g = followed_ok (read_inner room whole f.rest) _ (y, vs) f.then in
          let o = inner_closed (fixed (codes "]")) refl u ts us g.rest x g.first w.1 d j (ap (read_inner room whole) b ∙ g.reads) in
          let k = closed_rest (fixed (codes "]")) u us g.rest vs g.first y o.0 g.then in
          (k.0, o.1 ∙ k.1)

  -- Lhs = Id {"[" E "]"}
  lhs_sure : IsSure (fixed (codes "[") ∷ []) TargetAt (lhs_with room)
  unfolding lhs_with entries_with
  lhs_sure = λ ls us vs x y w d h q. found ls us vs x y w d h q
    where
      two : (a b : Name) (c d : Exprs) → a ≡ b → c ≡ d → ◌≡◌ {A = Target} (record { name = a; indices = c }) (record { name = b; indices = d })
      two a b c d e f = rw (e, f) refl

      found : (ls us vs : List Lexeme) (x y : Target) → Narrow ls → TargetAt ls us x → lhs_with room ls ≡ Ok (y, vs) → sees_any (fixed (codes "[") ∷ []) us ≡ false → (us ≡ vs) × (x ≡ y)
      found [] us vs x y w d h q = elim d [ ]
      found (t ∷ ts) us vs x y w (target_at {xs = xs} i d) h q =
          let f = followed_ok (read_name (t ∷ ts)) _ (y, vs) h in
          let o = name_same t ts f.rest f.first w i f.reads in
          let r = read_as_ok _ (entries_with room f.rest) y vs f.then in
          let p = entries_parts d in
          let k = rep_sure (sees (fixed (codes "["))) (entry_with room) EntryAt [] entry_sure entry_leaves (λ ws b. none_seen ws) ts us vs p.entries r.value w.1 p.rep (ap (entries_with room) o.0 ∙ r.reads) (quiet_head (fixed (codes "[")) [] us q) (none_seen us) in
          (k.0, two (name placed t) f.first xs (exprs_of r.value) o.1 (sym p.same ∙ ap exprs_of k.1) ∙ r.is)

  -- Lhs {"," Lhs} ":=" E {"," E} ";"
  pub assign_sure : (t u : Lexeme) (ls us vs ws : List Lexeme) (ys : List Target) (xs : Exprs) (a : Action) → Narrow ls → s.Targets placed ls (t ∷ us) ys → Is ":=" t → Es placed us (u ∷ vs) xs → Is ";" u → assign_with room ls ≡ Ok (a, ws) → (vs ≡ ws) × (assign ys xs ≡ a)
  unfolding assign_with targets_with values_with
  assign_sure t u ls us vs ws ys xs a w d i e j h =
      let f = followed_ok (targets_with room ls) _ (a, ws) h in
      let o = run_sure comma (lhs_with room) TargetAt (fixed (codes "[") ∷ []) lhs_sure target_leaves refl these ls (t ∷ us) f.rest ys f.first w (targets_parts d) f.reads (quiet_behind (fixed (codes ":=")) (comma ∷ fixed (codes "[") ∷ []) (t ∷ us) refl i) in
      let g = followed_ok (read_fixed (codes ":=") f.rest) _ (a, ws) f.then in
      let b = token_rest (fixed (codes ":=")) t us f.rest g.rest g.first o.0 g.reads in
      let l = followed_ok (values_with room g.rest) _ (a, ws) g.then in
      let m = exprs_one (suc room) n (omega (arith, total)) us (u ∷ vs) l.rest xs l.first (narrow_suffix (takes_suffix (agree.targets_listed placed d)) w).1 e (ap (values_with room) b ∙ l.reads) (inl (quiet_behind (fixed (codes ";")) (comma ∷ e_goers) (u ∷ vs) refl j)) in
      let k = closed_rest (fixed (codes ";")) u vs l.rest ws (assign f.first (exprs_of l.first)) a m.0 l.then in
      (k.0, two ys f.first xs (exprs_of l.first) o.1 m.1 ∙ k.1)
    where
      two : (a b : List Target) (c d : Exprs) → a ≡ b → c ≡ d → assign a c ≡ assign b d
      two a b c d p q = cc (p, q)

  -- "call" {Attr} [Ids ":="] Id "(" [Es] ")" ";"
  abbrev named_call : List Name → List Lexeme → Read Action
  named_call ns ls = followed (read_name ls) (λ f rest. followed (args_with room (read_inner room) rest) (λ xs closed. read_as (λ u. call ns f (exprs_of xs)) (read_fixed (codes ";") closed)))

  named_sure : (u v : Lexeme) (us vs ws : List Lexeme) (ns : List Name) (xs : Exprs) (a : Action) → Narrow (u ∷ us) → IsId u → Args placed us (v ∷ vs) xs → Is ";" v → named_call ns (u ∷ us) ≡ Ok (a, ws) → (vs ≡ ws) × (call ns (name placed u) xs ≡ a)
  named_sure u v us vs ws ns xs a w i d j h =
      let f = followed_ok (read_name (u ∷ us)) _ (a, ws) h in
      let o = name_same u us f.rest f.first w i f.reads in
      let g = followed_ok (args_with room (read_inner room) f.rest) _ (a, ws) f.then in
      let b = args_one room n total us (v ∷ vs) g.rest xs g.first w.1 d (ap (args_with room (read_inner room)) o.0 ∙ g.reads) in
      let k = closed_rest (fixed (codes ";")) v vs g.rest ws (call ns f.first (exprs_of g.first)) a b.0 g.then in
      (k.0, two (name placed u) f.first xs (exprs_of g.first) o.1 b.1 ∙ k.1)
    where
      two : (a b : Name) (c d : Exprs) → a ≡ b → c ≡ d → call ns a c ≡ call ns b d
      two a b c d p q = cc (p, q)

  abbrev behind_attrs : List Lexeme → Read Action
  behind_attrs ls = followed (read_outs ls) (λ ns rest. named_call ns rest)

  opened_call : (t : Lexeme) (ts mid ws : List Lexeme) (a : Action) → Narrow ts → Takes attrs ts mid → sees (fixed (codes "{")) mid ≡ false → call_with room (t ∷ ts) ≡ Ok (a, ws) → behind_attrs mid ≡ Ok (a, ws)
  unfolding call_with
  opened_call t ts mid ws a w d q h =
      let f = followed_ok (read_fixed (codes "call") (t ∷ ts)) _ (a, ws) h in
      let b = token_rest (fixed (codes "call")) t ts (t ∷ ts) f.rest f.first refl f.reads in
      let g = followed_ok (read_attrs room f.rest) _ (a, ws) f.then in
      let o = attrs_same ts mid g.rest g.first w d (ap (read_attrs room) b ∙ g.reads) q in
      ap behind_attrs o ∙ g.then

  pub call_sure : (t u v : Lexeme) (ts us vs ws : List Lexeme) (xs : Exprs) (a : Action) → Narrow ts → Takes attrs ts (u ∷ us) → IsId u → Args placed us (v ∷ vs) xs → Is ";" v → call_with room (t ∷ ts) ≡ Ok (a, ws) → (vs ≡ ws) × (call [] (name placed u) xs ≡ a)
  call_sure t u v ts us vs ws xs a w d i e j h =
      let g = opened_call t ts (u ∷ us) ws a w d (other (kind id) (fixed (codes "{")) u i refl) h in
      let f = followed_ok (read_outs (u ∷ us)) _ (a, ws) g in
      let o = no_outs u us (v ∷ vs) f.rest xs f.first e f.reads in
      named_sure u v us vs ws [] xs a (narrow_suffix (takes_suffix d) w) i e j (moved [] f.first (u ∷ us) f.rest ws a o.1 o.0 f.then)
    where
      moved : (ns ms : List Name) (ls rest ws : List Lexeme) (a : Action) → ns ≡ ms → ls ≡ rest → named_call ms rest ≡ Ok (a, ws) → named_call ns ls ≡ Ok (a, ws)
      moved ns ms ls rest ws a p q k = ap (named_call ns) q ∙ (ap (λ zs. named_call zs rest) p ∙ k)

  pub call_outs_sure : (t u v z : Lexeme) (ts us vs ws xs : List Lexeme) (ns : List Name) (es : Exprs) (a : Action) → Narrow ts → Takes attrs ts us → Ids placed us (u ∷ v ∷ vs) ns → Is ":=" u → IsId v → Args placed vs (z ∷ ws) es → Is ";" z → call_with room (t ∷ ts) ≡ Ok (a, xs)
      → (ws ≡ xs) × (call ns (name placed v) es ≡ a)
  call_outs_sure t u v z ts us vs ws xs ns es a w d e i j k l h =
      let g = opened_call t ts us xs a w d (names_first us (u ∷ v ∷ vs) ns e) h in
      let f = followed_ok (read_outs us) _ (a, xs) g in
      let m = narrow_suffix (takes_suffix d) w in
      let o = some_outs u us (v ∷ vs) f.rest ns f.first m e i f.reads in
      named_sure v z vs ws xs ns es a (narrow_suffix (takes_suffix (ids_listed placed e)) m).1 j k l (moved ns f.first (v ∷ vs) f.rest xs a o.1 o.0 f.then)
    where
      names_first : (ls us : List Lexeme) (ns : List Name) → Ids placed ls us ns → sees (fixed (codes "{")) ls ≡ false
      names_first [] us ns q = refl
      names_first (b ∷ bs) us ns (Ids.one c) = other (kind id) (fixed (codes "{")) b c refl
      names_first (b ∷ bs) us ns (Ids.more c y q) = other (kind id) (fixed (codes "{")) b c refl

      moved : (ns ms : List Name) (ls rest ws : List Lexeme) (a : Action) → ns ≡ ms → ls ≡ rest → named_call ms rest ≡ Ok (a, ws) → named_call ns ls ≡ Ok (a, ws)
      moved ns ms ls rest ws a p q k = ap (named_call ns) q ∙ (ap (λ zs. named_call zs rest) p ∙ k)
