-- Atoms and indices that are read are the trees that the lexemes spell.
use Rattle.std.specs.Prelude.{◌≡◌, ℕ, ◌^◌, nat_lt, true, false, cond, List, [], ◌∷◌, drop, codes, IsTrue, Ok, Option}
use Rattle.bv_base.specs.declared.place.Place.{Place}
use Rattle.bpl_lex.specs.Token.{id, number as number_kind}
use Rattle.bpl_ast.specs.Place.{Name, Params}
use Rattle.bpl_ast.specs.Tree.{Quantifier, Expr, expr, number, truth, variable, apply, old, choose, quantified, Groups, Triggers, expr_from}
use Rattle.bpl_ast.specs.ExprView.{exprs_of, indices_of, index_of}
use Rattle.bpl_ast.specs.declared.expr.Index.{Index as AnIndex}
use Rattle.bpl_ast.specs.declared.expr.Index.TheVariants.{Read as AtIndex, Write}
use Rattle.bpl_grammar.specs.Lexeme.{Lexeme, is_kind}
use Rattle.bpl_grammar.specs.Nesting.{value}
use Rattle.bpl_grammar.specs.Terminal.{kind, fixed, is, sees}
use Rattle.bpl_grammar.specs.Reading.{Read, read_as, place_of, read_fixed, read_name, listed}
use Rattle.bpl_grammar.specs.ReadExpressions.{Inner, whole, enclosed, indexed_by, read_number, args_with, named_with, old_with, choose_with, enclosed_with, atom_with, index_with, indices_with, post_with}
use Rattle.bpl_grammar.specs.Types.{Is, IsId, name, TPar}
use Rattle.bpl_grammar.specs.Expressions.{IsLongest, IsQuantifier, E, Es, Args, Atom, Index, Indices', Post, Groups', Trigs, es_last, es_more, no_args, args, numeral, true_word, false_word, application, old_value, if_then_else, quantifier, read, write, indices_last, indices_more, post_alone, post_more}
use Rattle.bpl_grammar.proofs.Found.{same_found, followed_ok, read_as_ok, token_ok, seen_ok, name_ok}
use Rattle.bpl_grammar.proofs.TypeTrees.{comma, placed}
use Rattle.bpl_grammar.proofs.Items.{by_cond, Items, none, next, items_ok, run_tree}

-- numbers

number_ok : (ls : List Lexeme) (v : ℕ) (us : List Lexeme) → read_number ls ≡ Ok (v, us) → Atom placed ls us (expr (place_of ls) (number v))
unfolding read_number
number_ok [] v us h = absurd (cc (h))
number_ok (t ∷ ts) v us h = by_cond (is_kind number_kind t) _ _ (v, us) h
    (λ s q. by_cond (nat_lt (value t.spelling) (2 ^ 127)) _ _ (v, us) q
    (λ narrow g. let e = same_found (value t.spelling) v ts us g in
    rw (← e.0, ← e.1) (numeral s))
    (λ broad g. absurd (cc (g))))
    (λ no q. absurd (cc (q)))

true_ok : (ls : List Lexeme) (x : Expr) (us : List Lexeme) → IsTrue (sees (fixed (codes "true")) ls) → ◌≡◌ {A = Read Expr} (Ok (expr (place_of ls) (truth true), drop 1 ls)) (Ok (x, us)) → Atom placed ls us x
true_ok [] x us s h = absurd (cc (s))
true_ok (t ∷ ts) x us s h =
    let e = same_found (expr t.place (truth true)) x ts us h in
    rw (← e.0, ← e.1) (true_word s)

false_ok : (ls : List Lexeme) (x : Expr) (us : List Lexeme) → IsTrue (sees (fixed (codes "false")) ls) → ◌≡◌ {A = Read Expr} (Ok (expr (place_of ls) (truth false), drop 1 ls)) (Ok (x, us)) → Atom placed ls us x
false_ok [] x us s h = absurd (cc (s))
false_ok (t ∷ ts) x us s h =
    let e = same_found (expr t.place (truth false)) x ts us h in
    rw (← e.0, ← e.1) (false_word s)

-- what stands in parentheses: an expression, or a quantifier whose parenthesis stands at p
pub data Enclosed (p : Place) : List Lexeme → List Lexeme → Expr → Type 0 where
  plain : {ls us : List Lexeme} {x : Expr} → E placed ls us x → Enclosed p ls us x
  bound : {u v : Lexeme} {ts us vs ws zs : List Lexeme} {q : Quantifier} {ps : Option Params} {gs : Groups} {rs : Triggers} {x : Expr}
      → IsQuantifier u q → TPar placed ts us ps → Groups' placed us (v ∷ vs) gs → Is "::" v → Trigs placed vs ws rs → E placed ws zs x → Enclosed p (u ∷ ts) zs (expr p (quantified q p ps gs rs x))

in_parentheses : (t w : Lexeme) (mid us : List Lexeme) (x : Expr) → Is "(" t → Enclosed t.place mid (w ∷ us) x → Is ")" w → Atom placed (t ∷ mid) us (expr_from t.place x)
in_parentheses t w mid us x h (plain d) k = Atom.round h d k
in_parentheses t w mid us x h (bound q p g s r d) k = quantifier h q p g s r d k

module _ (room : ℕ) (inner : Inner → List Lexeme → Read Expr)
    (whole_ok : (ls : List Lexeme) (x : Expr) (us : List Lexeme) → inner whole ls ≡ Ok (x, us) → E placed ls us x)
    (longest : (ls : List Lexeme) (x : Expr) (us : List Lexeme) → inner whole ls ≡ Ok (x, us) → IsLongest ls us)
    (enclosed_ok : (p : Place) (ls : List Lexeme) (x : Expr) (us : List Lexeme) → inner (enclosed p) ls ≡ Ok (x, us) → Enclosed p ls us x) where
  -- "(" [Es] ")"
  pub es_ok : (ls us : List Lexeme) (xs : List Expr) → listed (inner whole) ls ≡ Ok (xs, us) → Es placed ls us (exprs_of xs)
  es_ok = run_tree comma (inner whole) (λ ls us x. E placed ls us x) (λ ls us xs. Es placed ls us (exprs_of xs)) whole_ok
      (λ ls us x d. es_last d) (λ ls us vs t x y xs d i r. es_more d i r)

  shown_none : (t u : Lexeme) (ls mid us : List Lexeme) → Is "(" t → ls ≡ t ∷ mid → Is ")" u → mid ≡ u ∷ us → Args placed ls us (exprs_of [])
  shown_none t u ls mid us i e j f = rw (e, f) (no_args i j)

  shown_args : (t u : Lexeme) (ls mid us : List Lexeme) (xs : List Expr) → Is "(" t → ls ≡ t ∷ mid → Es placed mid (u ∷ us) (exprs_of xs) → Is ")" u → Args placed ls us (exprs_of xs)
  shown_args t u ls mid us xs i e d j = rw e (args i d j)

  pub args_ok : (ls us : List Lexeme) (xs : List Expr) → args_with room inner ls ≡ Ok (xs, us) → Args placed ls us (exprs_of xs)
  unfolding args_with
  args_ok ls us xs h =
      let f = followed_ok (read_fixed (codes "(") ls) _ (xs, us) h in
      let o = token_ok (fixed (codes "(")) ls f.rest f.reads in
      by_cond (sees (fixed (codes ")")) f.rest) _ _ (xs, us) f.then
      (λ s q. let k = seen_ok (fixed (codes ")")) f.rest s in
      let e = same_found [] xs (drop 1 f.rest) us q in
      rw (← e.0, ← e.1) (shown_none o.token k.token ls f.rest (drop 1 f.rest) o.is o.there k.is k.there))
      (λ no q. let g = followed_ok (listed (inner whole) f.rest) _ (xs, us) q in
      let r = read_as_ok _ (read_fixed (codes ")") g.rest) xs us g.then in
      let c = token_ok (fixed (codes ")")) g.rest us r.reads in
      let d = rw c.there at (es_ok f.rest g.rest g.first g.reads) in
      rw (← r.is) (shown_args o.token c.token ls f.rest us g.first o.is o.there d c.is))

  -- Id | Id "(" [Es] ")"
  shown_name : (t : Lexeme) (ls us : List Lexeme) (f : Name) → IsId t → ls ≡ t ∷ us → f ≡ name placed t → Atom placed ls us (expr (place_of ls) (variable f))
  shown_name t ls us f i e q = rw (e, q) (Atom.of_name i)

  shown_call : (t : Lexeme) (ls mid us : List Lexeme) (f : Name) (xs : List Expr) → IsId t → ls ≡ t ∷ mid → f ≡ name placed t → Args placed mid us (exprs_of xs) → Atom placed ls us (expr (place_of ls) (apply f (exprs_of xs)))
  shown_call t ls mid us f xs i e q d = rw (e, q) (application i d)

  named_from : (t : Lexeme) (ls mid us : List Lexeme) (f : Name) (x : Expr) → IsId t → ls ≡ t ∷ mid → f ≡ name placed t
      → cond (sees (fixed (codes "(")) mid) (read_as (λ xs. expr (place_of ls) (apply f (exprs_of xs))) (args_with room inner mid)) (Ok (expr (place_of ls) (variable f), mid)) ≡ Ok (x, us) → Atom placed ls us x
  named_from t ls mid us f x i e g h = by_cond (sees (fixed (codes "(")) mid) _ _ (x, us) h
      (λ s q. let r = read_as_ok _ (args_with room inner mid) x us q in
      rw (← r.is) (shown_call t ls mid us f r.value i e g (args_ok mid us r.value r.reads)))
      (λ no q. let s = same_found (expr (place_of ls) (variable f)) x mid us q in
      rw (← s.0, ← s.1) (shown_name t ls mid f i e g))

  named_ok : (ls : List Lexeme) (x : Expr) (us : List Lexeme) → named_with room inner ls ≡ Ok (x, us) → Atom placed ls us x
  unfolding named_with
  named_ok ls x us h =
      let f = followed_ok (read_name ls) _ (x, us) h in
      let k = name_ok ls f.first f.rest f.reads in
      named_from k.0.token ls f.rest us f.first x k.0.is k.0.there k.1 f.then

  -- "old" "(" E ")"
  shown_old : (t u v : Lexeme) (ls mid rest us : List Lexeme) (x : Expr) → Is "old" t → ls ≡ t ∷ mid → Is "(" u → mid ≡ u ∷ rest → E placed rest (v ∷ us) x → Is ")" v → Atom placed ls us (expr (place_of ls) (old (place_of ls) x))
  shown_old t u v ls mid rest us x i e j f d k = rw (e, f) (old_value i j d k)

  old_ok : (ls : List Lexeme) (x : Expr) (us : List Lexeme) → old_with room inner ls ≡ Ok (x, us) → Atom placed ls us x
  unfolding old_with
  old_ok ls x us h =
      let f = followed_ok (read_fixed (codes "old") ls) _ (x, us) h in
      let o = token_ok (fixed (codes "old")) ls f.rest f.reads in
      let g = followed_ok (read_fixed (codes "(") f.rest) _ (x, us) f.then in
      let p = token_ok (fixed (codes "(")) f.rest g.rest g.reads in
      let i = followed_ok (inner whole g.rest) _ (x, us) g.then in
      let r = read_as_ok _ (read_fixed (codes ")") i.rest) x us i.then in
      let c = token_ok (fixed (codes ")")) i.rest us r.reads in
      let d = rw c.there at (whole_ok g.rest i.first i.rest i.reads) in
      rw (← r.is) (shown_old o.token p.token c.token ls f.rest g.rest us i.first o.is o.there p.is p.there d c.is)

  -- "if" E "then" E "else" E
  shown_if : (t u v : Lexeme) (ls mid after other us : List Lexeme) (c x y : Expr) → Is "if" t → ls ≡ t ∷ mid → E placed mid (u ∷ after) c → Is "then" u → E placed after (v ∷ other) x → Is "else" v → E placed other us y → IsLongest other us
      → Atom placed ls us (expr (place_of ls) (choose c x y))
  shown_if t u v ls mid after other us c x y i e d j f k g l = rw e (if_then_else i d j f k g l)

  choose_ok : (ls : List Lexeme) (x : Expr) (us : List Lexeme) → choose_with room inner ls ≡ Ok (x, us) → Atom placed ls us x
  unfolding choose_with
  choose_ok ls x us h =
      let f = followed_ok (read_fixed (codes "if") ls) _ (x, us) h in
      let o = token_ok (fixed (codes "if")) ls f.rest f.reads in
      let c = followed_ok (inner whole f.rest) _ (x, us) f.then in
      let g = followed_ok (read_fixed (codes "then") c.rest) _ (x, us) c.then in
      let p = token_ok (fixed (codes "then")) c.rest g.rest g.reads in
      let y = followed_ok (inner whole g.rest) _ (x, us) g.then in
      let i = followed_ok (read_fixed (codes "else") y.rest) _ (x, us) y.then in
      let q = token_ok (fixed (codes "else")) y.rest i.rest i.reads in
      let r = read_as_ok _ (inner whole i.rest) x us i.then in
      let d = rw p.there at (whole_ok f.rest c.first c.rest c.reads) in
      let b = rw q.there at (whole_ok g.rest y.first y.rest y.reads) in
      rw (← r.is) (shown_if o.token p.token q.token ls f.rest g.rest i.rest us c.first y.first r.value o.is o.there d p.is b q.is (whole_ok i.rest r.value us r.reads) (longest i.rest r.value us r.reads))

  -- "(" E ")", or a quantifier
  shown_enclosed : (t w : Lexeme) (ls mid us : List Lexeme) (x : Expr) → Is "(" t → ls ≡ t ∷ mid → Enclosed (place_of ls) mid (w ∷ us) x → Is ")" w → Atom placed ls us (expr_from (place_of ls) x)
  shown_enclosed t w [] mid us x i e d k = absurd (cc (e))
  shown_enclosed t w (l ∷ ls) mid us x i e d k =
      let a : l ≡ t = cc (e) in
      let b : ls ≡ mid = cc (e) in
      rw b (in_parentheses l w mid us x (rw a i) d k)

  parentheses_ok : (ls : List Lexeme) (x : Expr) (us : List Lexeme) → enclosed_with room inner ls ≡ Ok (x, us) → Atom placed ls us x
  unfolding enclosed_with
  parentheses_ok ls x us h =
      let f = followed_ok (read_fixed (codes "(") ls) _ (x, us) h in
      let o = token_ok (fixed (codes "(")) ls f.rest f.reads in
      let g = followed_ok (inner (enclosed (place_of ls)) f.rest) _ (x, us) f.then in
      let r = read_as_ok _ (read_fixed (codes ")") g.rest) x us g.then in
      let c = token_ok (fixed (codes ")")) g.rest us r.reads in
      let d = rw c.there at (enclosed_ok (place_of ls) f.rest g.first g.rest g.reads) in
      rw (← r.is) (shown_enclosed o.token c.token ls f.rest us g.first o.is o.there d c.is)

  pub atom_ok : (ls : List Lexeme) (x : Expr) (us : List Lexeme) → atom_with room inner ls ≡ Ok (x, us) → Atom placed ls us x
  unfolding atom_with
  atom_ok ls x us h = by_cond (sees (kind number_kind) ls) _ _ (x, us) h
      (λ s q. let r = read_as_ok _ (read_number ls) x us q in
      rw (← r.is) (number_ok ls r.value us r.reads))
      (λ no q. by_cond (sees (fixed (codes "true")) ls) _ _ (x, us) q (λ s g. true_ok ls x us s g)
      (λ no q. by_cond (sees (fixed (codes "false")) ls) _ _ (x, us) q (λ s g. false_ok ls x us s g)
      (λ no q. by_cond (sees (kind id) ls) _ _ (x, us) q (λ s g. named_ok ls x us g)
      (λ no q. by_cond (sees (fixed (codes "old")) ls) _ _ (x, us) q (λ s g. old_ok ls x us g)
      (λ no q. by_cond (sees (fixed (codes "if")) ls) _ _ (x, us) q (λ s g. choose_ok ls x us g) (λ no g. parentheses_ok ls x us g))))))

  -- "[" E [":=" E] "]"
  shown_read : (t u : Lexeme) (ls mid us : List Lexeme) (x : Expr) → Is "[" t → ls ≡ t ∷ mid → E placed mid (u ∷ us) x → Is "]" u → Index placed ls us (index_of (AtIndex x))
  shown_read t u ls mid us x i e d k = rw e (read i d k)

  shown_write : (t u v : Lexeme) (ls mid after us : List Lexeme) (x y : Expr) → Is "[" t → ls ≡ t ∷ mid → E placed mid (u ∷ after) x → Is ":=" u → E placed after (v ∷ us) y → Is "]" v → Index placed ls us (index_of (Write x y))
  shown_write t u v ls mid after us x y i e d j f k = rw e (write i d j f k)

  pub index_ok : (ls us : List Lexeme) (i : AnIndex) → index_with room inner ls ≡ Ok (i, us) → Index placed ls us (index_of i)
  unfolding index_with
  index_ok ls us i h =
      let f = followed_ok (read_fixed (codes "[") ls) _ (i, us) h in
      let o = token_ok (fixed (codes "[")) ls f.rest f.reads in
      let g = followed_ok (inner whole f.rest) _ (i, us) f.then in
      by_cond (sees (fixed (codes ":=")) g.rest) _ _ (i, us) g.then
      (λ s q. let k = seen_ok (fixed (codes ":=")) g.rest s in
      let y = followed_ok (inner whole (drop 1 g.rest)) _ (i, us) q in
      let r = read_as_ok _ (read_fixed (codes "]") y.rest) i us y.then in
      let c = token_ok (fixed (codes "]")) y.rest us r.reads in
      let d = rw k.there at (whole_ok f.rest g.first g.rest g.reads) in
      let b = rw c.there at (whole_ok (drop 1 g.rest) y.first y.rest y.reads) in
      rw (← r.is) (shown_write o.token k.token c.token ls f.rest (drop 1 g.rest) us g.first y.first o.is o.there d k.is b c.is))
      (λ no q. let r = read_as_ok _ (read_fixed (codes "]") g.rest) i us q in
      let c = token_ok (fixed (codes "]")) g.rest us r.reads in
      let d = rw c.there at (whole_ok f.rest g.first g.rest g.reads) in
      rw (← r.is) (shown_read o.token c.token ls f.rest us g.first o.is o.there d c.is))

  -- Post = Atom {"[" E [":=" E] "]"}
  indices_from : (ls mid us : List Lexeme) (i : AnIndex) (is : List AnIndex) → index_with room inner ls ≡ Ok (i, mid) → Items (sees (fixed (codes "["))) (index_with room inner) mid us is → Indices' placed ls us (indices_of (i ∷ is))
  indices_from ls mid us i [] h none = indices_last (index_ok ls us i h)
  indices_from ls mid us i (j ∷ js) h (next {rest = rest} b g r) = indices_more (index_ok ls mid i h) (indices_from mid rest us j js g r)

  post_from : (ls rest us : List Lexeme) (x : Expr) (is : List AnIndex) → Atom placed ls rest x → Items (sees (fixed (codes "["))) (index_with room inner) rest us is → Post placed ls us (indexed_by x is)
  post_from ls rest us x [] d none = post_alone d
  post_from ls [] us x (i ∷ is) d (next b h r) = absurd (cc (b))
  post_from ls (t ∷ ts) us x (i ∷ is) d (next {rest = mid} b h r) = post_more d (indices_from (t ∷ ts) mid us i is h r)

  pub post_ok : (ls : List Lexeme) (x : Expr) (us : List Lexeme) → post_with room inner ls ≡ Ok (x, us) → Post placed ls us x
  unfolding post_with indices_with
  post_ok ls x us h =
      let f = followed_ok (atom_with room inner ls) _ (x, us) h in
      let r = read_as_ok _ (indices_with room inner f.rest) x us f.then in
      rw (← r.is) (post_from ls f.rest us f.first r.value (atom_ok ls f.first f.rest f.reads) (items_ok (sees (fixed (codes "["))) (index_with room inner) f.rest us r.value r.reads))
