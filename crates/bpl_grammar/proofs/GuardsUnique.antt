-- Guards, invariants and variables that lexemes spell are those that are read.
use Rattle.std.specs.Prelude.{◌≡◌, ℕ, zero, suc, ◌+◌, Bool, true, false, ◌||◌, List, [], ◌∷◌, codes, Ok, Some, None}
use Rattle.std.proofs.Common.{refl, inl, ap, ◌∙◌, arith}
use Rattle.bpl_grammar.proofs.Booleans.{or_first, or_second}
use Rattle.bpl_ast.specs.Tree.{Expr, Groups}
use Rattle.bpl_ast.specs.Statement.{Guard, Invariant}
use Rattle.bpl_grammar.specs.Lexeme.{Lexeme}
use Rattle.bpl_grammar.specs.Part.{rule, e as expression, group as one_group}
use Rattle.bpl_grammar.specs.Grammar.{listed as listed_part}
use Rattle.bpl_grammar.specs.Judge.{Narrow}
use Rattle.bpl_grammar.specs.Terminal.{fixed, is, sees}
use Rattle.bpl_grammar.specs.Reading.{followed, read_as, read_fixed}
use Rattle.bpl_grammar.specs.ReadExpressions.{groups_from, groups_with, read_inner}
use Rattle.bpl_grammar.specs.ReadStatements.{guard_with, read_guard, read_expr, read_attrs, formula_with, guarded_with, inv_as, inv_with, invs_with, var_with, vars_with}
use Rattle.bpl_grammar.specs.Types.{Is}
use Rattle.bpl_grammar.specs.Expressions.{E}
use Rattle.bpl_grammar.specs.Statements as s
use Rattle.bpl_grammar.proofs.Agree.{takes_e, groups_listed}
use Rattle.bpl_grammar.proofs.AgreeStatements as agree
use Rattle.bpl_grammar.proofs.Found.{same_found, followed_ok, read_as_ok}
use Rattle.bpl_grammar.proofs.GuardTrees.{VarAt, var as var_at}
use Rattle.bpl_grammar.proofs.TypeTrees.{comma, placed}
use Rattle.bpl_grammar.proofs.MarksUnique.{group_goers}
use Rattle.bpl_grammar.proofs.ExprsUnique.{groups_one}
use Rattle.bpl_grammar.proofs.StatementsUnique.{expr_closed, attrs_same, formula_sure}
use Rattle.bpl_grammar.proofs.Suffixes.{Suffix, here, later, past, takes_suffix, narrow_suffix}
use Rattle.bpl_grammar.proofs.Spelled.{chosen, passed, other, unseen_first, token_rest}
use Rattle.bpl_grammar.proofs.Unique.{Leaves, none_seen, quiet_behind, Rep, ended, further}
use Rattle.bpl_grammar.proofs.Sure.{IsSure, closed_rest, rep_sure}

-- invariants and variables, one after another

pub data InvAt : List Lexeme → List Lexeme → Invariant → Type 0 where
  checked : {t : Lexeme} {ls us : List Lexeme} {x : Expr} → Is "invariant" t → s.Formula placed ls us x → InvAt (t ∷ ls) us (record { at = t.place; free = false; formula = x })
  free : {t u : Lexeme} {ls us : List Lexeme} {x : Expr} → Is "free" t → Is "invariant" u → s.Formula placed ls us x → InvAt (t ∷ u ∷ ls) us (record { at = u.place; free = true; formula = x })

inv_leaves : Leaves InvAt
inv_leaves = λ ls us x d. left ls us x d
  where
    left : (ls us : List Lexeme) (x : Invariant) → InvAt ls us x → Suffix ls us
    left [] us x d = elim d [ ]
    left (t ∷ ls) us x (checked i d) = later (takes_suffix (agree.takes_formula placed d))
    left (t ∷ u ∷ ls) us x (free i j d) = later (later (takes_suffix (agree.takes_formula placed d)))

abbrev pub an_inv : List Lexeme → Bool
an_inv us = sees (fixed (codes "free")) us || sees (fixed (codes "invariant")) us

invs_rep : {ls us : List Lexeme} {is : List Invariant} → s.Invs placed ls us is → Rep an_inv InvAt ls us is
invs_rep s.Invs.none = ended
invs_rep (s.Invs.checked {t = t} i d r) = further (or_second (is (fixed (codes "free")) t) (is (fixed (codes "invariant")) t) i) (checked i d) (invs_rep r)
invs_rep (s.Invs.free {t = t} i j d r) = further (or_first (is (fixed (codes "free")) t) (is (fixed (codes "invariant")) t) i) (free i j d) (invs_rep r)

var_leaves : Leaves VarAt
var_leaves = λ ls us x d. left ls us x d
  where
    left : (ls us : List Lexeme) (x : Groups) → VarAt ls us x → Suffix ls us
    left [] us x d = elim d [ ]
    left (t ∷ ls) us x (var_at i a d j) = later (past (takes_suffix a) (past (takes_suffix (groups_listed placed d)) (later here)))

vars_rep : {ls us : List Lexeme} {gs : List Groups} → s.Vars placed ls us gs → Rep (sees (fixed (codes "var"))) VarAt ls us gs
vars_rep s.Vars.none = ended
vars_rep (s.Vars.more i a d j r) = further i (var_at i a d j) (vars_rep r)

module _ (room n : ℕ) (total : n + room ≡ 200) where
  -- "(" Guard ")"
  opened_guard : (t : Lexeme) (ts vs : List Lexeme) (y : Guard) → guarded_with room (t ∷ ts) ≡ Ok (y, vs) → followed (read_guard room ts) (λ g closed. read_as (λ u. g) (read_fixed (codes ")") closed)) ≡ Ok (y, vs)
  unfolding guarded_with
  opened_guard t ts vs y h =
      let f = followed_ok (read_fixed (codes "(") (t ∷ ts)) _ (y, vs) h in
      let b = token_rest (fixed (codes "(")) t ts (t ∷ ts) f.rest f.first refl f.reads in
      ap (λ ls. followed (read_guard room ls) (λ g closed. read_as (λ u. g) (read_fixed (codes ")") closed))) b ∙ f.then

  any_guard : (r : ℕ) (u : Lexeme) (us rest : List Lexeme) (y : Guard) → Is "*" u → read_guard r (u ∷ us) ≡ Ok (y, rest) → (us ≡ rest) × (None ≡ y)
  unfolding guard_with
  any_guard zero u us rest y i h = absurd (cc (h))
  any_guard (suc r) u us rest y i h =
      let e = same_found None y us rest (chosen (sees (fixed (codes "*")) (u ∷ us)) _ _ (y, rest) i h) in
      (e.1, e.0)

  formula_guard : (r m : ℕ) → m + r ≡ 201 → (u : Lexeme) (ls us rest : List Lexeme) (x : Expr) (y : Guard) → Narrow ls → E placed ls (u ∷ us) x → Is ")" u → read_guard r ls ≡ Ok (y, rest) → ((u ∷ us) ≡ rest) × (Some x ≡ y)
  unfolding guard_with
  formula_guard zero m e u ls us rest x y w d i h = absurd (cc (h))
  formula_guard (suc r) m e u ls us rest x y w d i h =
      let g = passed (sees (fixed (codes "*")) ls) _ _ (y, rest) (unseen_first (rule expression) (fixed (codes "*")) ls (u ∷ us) refl refl (takes_e placed d)) h in
      let k = read_as_ok _ (read_expr r ls) y rest g in
      let o = expr_closed r m (omega (arith, e)) (fixed (codes ")")) refl u ls us rest x k.value w d i k.reads in
      (o.0, ap (λ z. Some z) o.1 ∙ k.is)

  pub guard_sure : (ls us vs : List Lexeme) (x y : Guard) → Narrow ls → s.Guard' placed ls us x → guarded_with room ls ≡ Ok (y, vs) → (us ≡ vs) × (x ≡ y)
  guard_sure ls us vs x y w (s.Guard'.any {t = t} {u = u} {v = v} i j k) h =
      let f = followed_ok (read_guard room (u ∷ v ∷ us)) _ (y, vs) (opened_guard t (u ∷ v ∷ us) vs y h) in
      let o = any_guard room u (v ∷ us) f.rest f.first j f.reads in
      let c = closed_rest (fixed (codes ")")) v us f.rest vs f.first y o.0 f.then in
      (c.0, o.1 ∙ c.1)
  guard_sure (t ∷ ts) us vs x y w (s.Guard'.formula {u = u} {x = z} i d k) h =
      let f = followed_ok (read_guard room ts) _ (y, vs) (opened_guard t ts vs y h) in
      let o = formula_guard room (suc n) (omega (arith, total)) u ts us f.rest z f.first w.1 d k f.reads in
      let c = closed_rest (fixed (codes ")")) u us f.rest vs f.first y o.0 f.then in
      (c.0, o.1 ∙ c.1)

  -- Inv = ["free"] "invariant" {Attr} E ";"
  inv_as_sure : (b : Bool) (t : Lexeme) (ts us vs : List Lexeme) (x : Expr) (y : Invariant) → Narrow ts → s.Formula placed ts us x → inv_as room b (t ∷ ts) ≡ Ok (y, vs) → (us ≡ vs) × (record { at = t.place; free = b; formula = x } ≡ y)
  unfolding inv_as
  inv_as_sure b t ts us vs x y w d h =
      let f = followed_ok (read_fixed (codes "invariant") (t ∷ ts)) _ (y, vs) h in
      let c = token_rest (fixed (codes "invariant")) t ts (t ∷ ts) f.rest f.first refl f.reads in
      let r = read_as_ok _ (formula_with room f.rest) y vs f.then in
      let o = formula_sure room n total ts us vs x r.value w d (ap (formula_with room) c ∙ r.reads) in
      (o.0, ap (λ z. record { at = t.place; free = b; formula = z }) o.1 ∙ r.is)

  inv_sure : IsSure [] InvAt (inv_with room)
  unfolding inv_with
  inv_sure = λ ls us vs x y w d h q. found ls us vs x y w d h
    where
      found : (ls us vs : List Lexeme) (x y : Invariant) → Narrow ls → InvAt ls us x → inv_with room ls ≡ Ok (y, vs) → (us ≡ vs) × (x ≡ y)
      found [] us vs x y w d h = elim d [ ]
      found (t ∷ ts) us vs x y w (checked {x = z} i d) h = inv_as_sure false t ts us vs z y w.1 d (passed (sees (fixed (codes "free")) (t ∷ ts)) _ _ (y, vs) (other (fixed (codes "invariant")) (fixed (codes "free")) t i refl) h)
      found (t ∷ ts) us vs x y w (free {u = u} {ls = ls} {x = z} i j d) h = inv_as_sure true u ls us vs z y w.1.1 d (chosen (sees (fixed (codes "free")) (t ∷ ts)) _ _ (y, vs) i h)

  pub invs_sure : (ls us vs : List Lexeme) (xs ys : List Invariant) → Narrow ls → s.Invs placed ls us xs → invs_with room ls ≡ Ok (ys, vs) → an_inv us ≡ false → (us ≡ vs) × (xs ≡ ys)
  unfolding invs_with
  invs_sure ls us vs xs ys w d h q = rep_sure an_inv (inv_with room) InvAt [] inv_sure inv_leaves (λ ws b. none_seen ws) ls us vs xs ys w (invs_rep d) h q (none_seen us)

  -- Var = "var" {Attr} Groups ";"
  pub var_sure : IsSure [] VarAt (var_with room)
  unfolding var_with
  var_sure = λ ls us vs x y w d h q. found ls us vs x y w d h
    where
      found : (ls us vs : List Lexeme) (x y : Groups) → Narrow ls → VarAt ls us x → var_with room ls ≡ Ok (y, vs) → (us ≡ vs) × (x ≡ y)
      found [] us vs x y w d h = elim d [ ]
      found (t ∷ ts) us vs x y w (var_at {u = u} {mid = mid} i a d j) h =
          let f = followed_ok (read_fixed (codes "var") (t ∷ ts)) _ (y, vs) h in
          let b = token_rest (fixed (codes "var")) t ts (t ∷ ts) f.rest f.first refl f.reads in
          let g = followed_ok (read_attrs room f.rest) _ (y, vs) f.then in
          let o = attrs_same room n total ts mid g.rest g.first w.1 a (ap (read_attrs room) b ∙ g.reads) (unseen_first (listed_part (rule one_group)) (fixed (codes "{")) mid (u ∷ us) refl refl (groups_listed placed d)) in
          let l = followed_ok (groups_with room (read_inner room) g.rest) _ (y, vs) g.then in
          let m = groups_one room n total mid (u ∷ us) l.rest x l.first (narrow_suffix (takes_suffix a) w.1) d (ap (groups_with room (read_inner room)) o ∙ l.reads) (inl (quiet_behind (fixed (codes ";")) (comma ∷ group_goers) (u ∷ us) refl j)) in
          let k = closed_rest (fixed (codes ";")) u us l.rest vs (groups_from l.first) y m.0 l.then in
          (k.0, m.1 ∙ k.1)

  pub vars_sure : (ls us vs : List Lexeme) (xs ys : List Groups) → Narrow ls → s.Vars placed ls us xs → vars_with room ls ≡ Ok (ys, vs) → sees (fixed (codes "var")) us ≡ false → (us ≡ vs) × (xs ≡ ys)
  unfolding vars_with
  vars_sure ls us vs xs ys w d h q = rep_sure (sees (fixed (codes "var"))) (var_with room) VarAt [] var_sure var_leaves (λ ws b. none_seen ws) ls us vs xs ys w (vars_rep d) h q (none_seen us)
