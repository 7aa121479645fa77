-- Guards, invariants and local variables that are read are the trees that the lexemes spell.
use Rattle.std.specs.Prelude.{◌≡◌, ℕ, zero, suc, ◌+◌, Bool, true, false, ◌||◌, List, [], ◌∷◌, drop, codes, Ok, Some, None}
use Rattle.std.proofs.Common.{arith}
use Rattle.bpl_ast.specs.Tree.{Expr, Groups}
use Rattle.bpl_ast.specs.Statement.{Guard, Invariant}
use Rattle.bpl_grammar.specs.Lexeme.{Lexeme}
use Rattle.bpl_grammar.specs.Grammar.{attrs}
use Rattle.bpl_grammar.specs.Spelling.{Takes}
use Rattle.bpl_grammar.specs.Terminal.{fixed, is, sees}
use Rattle.bpl_grammar.specs.Reading.{place_of, read_fixed}
use Rattle.bpl_grammar.specs.ReadExpressions.{groups_from, e_with, groups_with, read_inner}
use Rattle.bpl_grammar.specs.ReadStatements.{guard_with, read_guard, read_attrs, formula_with, guarded_with, inv_as, inv_with, invs_with, var_with, vars_with}
use Rattle.bpl_grammar.specs.Types.{Is}
use Rattle.bpl_grammar.specs.Expressions.{E, Groups'}
use Rattle.bpl_grammar.specs.Statements as s
use Rattle.bpl_grammar.proofs.Found.{same_found, followed_ok, read_as_ok, token_ok, seen_ok}
use Rattle.bpl_grammar.proofs.TypeTrees.{placed}
use Rattle.bpl_grammar.proofs.Items.{by_cond, Items, none, next, items_ok}
use Rattle.bpl_grammar.proofs.ExprTrees.{whole_tree, all_groups_tree}
use Rattle.bpl_grammar.proofs.StatementTrees.{closed_ok, attrs_tree, formula_ok}

-- "(" Guard ")", Guard = "*" | E

data GuardAt : List Lexeme → List Lexeme → Guard → Type 0 where
  star : {t : Lexeme} {ls : List Lexeme} → Is "*" t → GuardAt (t ∷ ls) ls None
  holds : {ls us : List Lexeme} {x : Expr} → E placed ls us x → GuardAt ls us (Some x)

shown_star : (t : Lexeme) (ls us : List Lexeme) → Is "*" t → ls ≡ t ∷ us → GuardAt ls us None
shown_star t ls us i e = rw e (star i)

guard_ok : (room n : ℕ) → n + room ≡ 201 → (ls us : List Lexeme) (g : Guard) → read_guard room ls ≡ Ok (g, us) → GuardAt ls us g
unfolding guard_with
guard_ok zero n q ls us g h = absurd (cc (h))
guard_ok (suc room) n q ls us g h = by_cond (sees (fixed (codes "*")) ls) _ _ (g, us) h
    (λ i k. let o = seen_ok (fixed (codes "*")) ls i in
    let e = same_found None g (drop 1 ls) us k in
    rw (← e.0, ← e.1) (shown_star o.token ls (drop 1 ls) o.is o.there))
    (λ i k. let r = read_as_ok (λ x. Some x) (e_with room (read_inner room) ls) g us k in
    rw (← r.is) (holds (whole_tree (suc room) n q ls r.value us r.reads)))

shown_guard : (t u : Lexeme) (ls mid rest us : List Lexeme) (g : Guard) → Is "(" t → ls ≡ t ∷ mid → GuardAt mid rest g → Is ")" u → rest ≡ u ∷ us → s.Guard' placed ls us g
shown_guard t u ls mid rest us g i e (star k) j f = rw (e, f) (s.Guard'.any i k j)
shown_guard t u ls mid rest us g i e (holds d) j f =
    let d' = rw f at d in
    rw e (s.Guard'.formula i d' j)

-- Var = "var" {Attr} Groups ";"
pub data VarAt : List Lexeme → List Lexeme → Groups → Type 0 where
  var : {t u : Lexeme} {ls mid us : List Lexeme} {g : Groups} → Is "var" t → Takes attrs ls mid → Groups' placed mid (u ∷ us) g → Is ";" u → VarAt (t ∷ ls) us g

module _ (room n : ℕ) (total : n + room ≡ 200) where
  pub guarded_ok : (ls us : List Lexeme) (g : Guard) → guarded_with room ls ≡ Ok (g, us) → s.Guard' placed ls us g
  unfolding guarded_with
  guarded_ok ls us g h =
      let f = followed_ok (read_fixed (codes "(") ls) _ (g, us) h in
      let o = token_ok (fixed (codes "(")) ls f.rest f.reads in
      let k = followed_ok (read_guard room f.rest) _ (g, us) f.then in
      let c = closed_ok (fixed (codes ")")) k.first k.rest us g k.then in
      rw (← c.same) (shown_guard o.token c.token ls f.rest k.rest us k.first o.is o.there (guard_ok room (suc n) (omega (arith, total)) f.rest k.rest k.first k.reads) c.is c.there)

  -- {Inv}, Inv = ["free"] "invariant" {Attr} E ";"

  data InvAt (free : Bool) : List Lexeme → List Lexeme → Invariant → Type 0 where
    inv : {t : Lexeme} {ls us : List Lexeme} {x : Expr} → Is "invariant" t → s.Formula placed ls us x → InvAt free (t ∷ ls) us (record { at = t.place; free = free; formula = x })

  shown_inv : (free : Bool) (t : Lexeme) (ls mid us : List Lexeme) (x : Expr) → Is "invariant" t → ls ≡ t ∷ mid → s.Formula placed mid us x → InvAt free ls us (record { at = place_of ls; free = free; formula = x })
  shown_inv free t ls mid us x i e d = rw e (inv i d)

  inv_as_ok : (free : Bool) (ls us : List Lexeme) (i : Invariant) → inv_as room free ls ≡ Ok (i, us) → InvAt free ls us i
  unfolding inv_as
  inv_as_ok free ls us i h =
      let f = followed_ok (read_fixed (codes "invariant") ls) _ (i, us) h in
      let o = token_ok (fixed (codes "invariant")) ls f.rest f.reads in
      let r = read_as_ok _ (formula_with room f.rest) i us f.then in
      rw (← r.is) (shown_inv free o.token ls f.rest us r.value o.is o.there (formula_ok room n total f.rest us r.value r.reads))

  checked_inv : (ls rest us : List Lexeme) (i : Invariant) (is : List Invariant) → InvAt false ls rest i → s.Invs placed rest us is → s.Invs placed ls us (i ∷ is)
  checked_inv ls rest us i is (inv j d) r = s.Invs.checked j d r

  free_inv : (t : Lexeme) (ls mid rest us : List Lexeme) (i : Invariant) (is : List Invariant) → Is "free" t → ls ≡ t ∷ mid → InvAt true mid rest i → s.Invs placed rest us is → s.Invs placed ls us (i ∷ is)
  free_inv t ls mid rest us i is j e (inv k d) r = rw e (s.Invs.free j k d r)

  inv_more : (ls rest us : List Lexeme) (i : Invariant) (is : List Invariant) → inv_with room ls ≡ Ok (i, rest) → s.Invs placed rest us is → s.Invs placed ls us (i ∷ is)
  unfolding inv_with
  inv_more ls rest us i is h r = by_cond (sees (fixed (codes "free")) ls) _ _ (i, rest) h
      (λ j q. let o = seen_ok (fixed (codes "free")) ls j in
      free_inv o.token ls (drop 1 ls) rest us i is o.is o.there (inv_as_ok true (drop 1 ls) rest i q) r)
      (λ j q. checked_inv ls rest us i is (inv_as_ok false ls rest i q) r)

  abbrev begins_inv : List Lexeme → Bool
  begins_inv us = sees (fixed (codes "free")) us || sees (fixed (codes "invariant")) us

  invs_from : (ls us : List Lexeme) (is : List Invariant) → Items begins_inv (inv_with room) ls us is → s.Invs placed ls us is
  invs_from ls us [] none = s.Invs.none
  invs_from ls us (i ∷ is) (next {rest = rest} b h r) = inv_more ls rest us i is h (invs_from rest us is r)

  pub invs_ok : (ls us : List Lexeme) (is : List Invariant) → invs_with room ls ≡ Ok (is, us) → s.Invs placed ls us is
  unfolding invs_with
  invs_ok ls us is h = invs_from ls us is (items_ok begins_inv (inv_with room) ls us is h)

  -- {Var}, Var = "var" {Attr} Groups ";"

  shown_var : (t u : Lexeme) (ls rest mid us : List Lexeme) (g : Groups) → Is "var" t → ls ≡ t ∷ rest → Takes attrs rest mid → Groups' placed mid (u ∷ us) g → Is ";" u → VarAt ls us g
  shown_var t u ls rest mid us g i e a d j = rw e (var i a d j)

  pub var_ok : (ls us : List Lexeme) (g : Groups) → var_with room ls ≡ Ok (g, us) → VarAt ls us g
  unfolding var_with
  var_ok ls us g h =
      let f = followed_ok (read_fixed (codes "var") ls) _ (g, us) h in
      let o = token_ok (fixed (codes "var")) ls f.rest f.reads in
      let a = followed_ok (read_attrs room f.rest) _ (g, us) f.then in
      let k = followed_ok (groups_with room (read_inner room) a.rest) _ (g, us) a.then in
      let c = closed_ok (fixed (codes ";")) (groups_from k.first) k.rest us g k.then in
      let d = rw c.there at (all_groups_tree room (suc n) (omega (arith, total)) a.rest k.rest k.first k.reads) in
      rw (← c.same) (shown_var o.token c.token ls f.rest a.rest us (groups_from k.first) o.is o.there (attrs_tree room n total f.rest a.rest a.first a.reads) d c.is)

  var_more : (ls rest us : List Lexeme) (g : Groups) (gs : List Groups) → VarAt ls rest g → s.Vars placed rest us gs → s.Vars placed ls us (g ∷ gs)
  var_more ls rest us g gs (var i a d j) r = s.Vars.more i a d j r

  vars_from : (ls us : List Lexeme) (gs : List Groups) → Items (sees (fixed (codes "var"))) (var_with room) ls us gs → s.Vars placed ls us gs
  vars_from ls us [] none = s.Vars.none
  vars_from ls us (g ∷ gs) (next {rest = rest} b h r) = var_more ls rest us g gs (var_ok ls rest g h) (vars_from rest us gs r)

  pub vars_ok : (ls us : List Lexeme) (gs : List Groups) → vars_with room ls ≡ Ok (gs, us) → s.Vars placed ls us gs
  unfolding vars_with
  vars_ok ls us gs h = vars_from ls us gs (items_ok (sees (fixed (codes "var"))) (var_with room) ls us gs h)
