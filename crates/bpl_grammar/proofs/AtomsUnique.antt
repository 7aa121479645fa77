-- Atoms and indices that lexemes spell are those that are read.
use Rattle.std.specs.Prelude.{◌≡◌, ℕ, true, false, cond, List, [], ◌∷◌, drop, length, codes, IsTrue, Ok, ◌⊎◌}
use Rattle.std.proofs.Common.{refl, inl, inr, ap, sym, ◌∙◌, arith}
use Rattle.bv_base.specs.declared.place.Place.{Place}
use Rattle.bpl_lex.specs.Token.{id, number as number_kind}
use Rattle.bpl_ast.specs.Place.{Name}
use Rattle.bpl_ast.specs.Tree.{Expr, expr, number, truth, variable, apply, old, choose, Exprs, expr_from}
use Rattle.bpl_ast.specs.ExprView.{exprs_of}
use Rattle.bpl_ast.specs.declared.expr.Index.{Index as AnIndex}
use Rattle.bpl_ast.specs.declared.expr.Index.TheVariants.{Read as AtIndex, Write}
use Rattle.bpl_grammar.specs.Lexeme.{Lexeme, is_kind}
use Rattle.bpl_grammar.specs.Nesting.{value}
use Rattle.bpl_grammar.specs.Part.{rule, e as expression}
use Rattle.bpl_grammar.specs.Grammar.{listed as listed_part}
use Rattle.bpl_grammar.specs.Judge.{Narrow}
use Rattle.bpl_grammar.specs.Terminal.{Terminal, kind, fixed, is, sees, sees_any, apart, apart_from}
use Rattle.bpl_grammar.specs.Reading.{Read, followed, read_as, place_of, read_fixed, read_name, listed}
use Rattle.bpl_grammar.specs.ReadExpressions.{Inner, whole, enclosed, indexed_by, read_number, args_with, named_with, old_with, choose_with, enclosed_with, atom_with, index_with, indices_with, post_with}
use Rattle.bpl_grammar.specs.Types.{Is, IsId, name}
use Rattle.bpl_grammar.specs.Expressions.{IsLongest, E, Es, Args, Atom, Post, no_args, args, numeral, true_word, false_word, application, old_value, if_then_else, quantifier}
use Rattle.bpl_grammar.proofs.Agree.{es_listed}
use Rattle.bpl_grammar.proofs.Loops.{Shrinks}
use Rattle.bpl_grammar.proofs.Found.{same_found, followed_ok, read_as_ok}
use Rattle.bpl_grammar.proofs.TypeTrees.{comma, placed}
use Rattle.bpl_grammar.proofs.ExprShrinks.{args_less, index_less}
use Rattle.bpl_grammar.proofs.Items.{by_cond}
use Rattle.bpl_grammar.proofs.AtomTrees.{Enclosed, plain, bound}
use Rattle.bpl_grammar.proofs.AtomParts.{e_leaves, atom_leaves, number_one, IndexAt, reading, writing, index_leaves, post_parts, es_parts}
use Rattle.bpl_grammar.proofs.TermParts.{call_goers, post_goers, e_goers}
use Rattle.bpl_grammar.proofs.TypesUnique.{name_at, name_one}
use Rattle.bpl_grammar.proofs.Suffixes.{narrow_suffix}
use Rattle.bpl_grammar.proofs.Spelled.{chosen, passed, other, unseen_first, token_rest}
use Rattle.bpl_grammar.proofs.Unique.{Goes, IsOne, IsFar, one_far, none_seen, quiet_head, quiet_tail, quiet_behind, run_one, first_then}

module _ (room : ℕ) (inner : Inner → List Lexeme → Read Expr) (s : (g : Inner) → Shrinks (inner g)) (whole_one : IsOne e_goers (E placed) (inner whole)) (whole_far : IsFar (E placed) (inner whole))
    (longest_one : (ls us vs : List Lexeme) (x y : Expr) → Narrow ls → E placed ls us x → IsLongest ls us → inner whole ls ≡ Ok (y, vs) → (us ≡ vs) × (x ≡ y))
    (enclosed_one : (p : Place) → IsOne e_goers (Enclosed p) (inner (enclosed p))) (atom_far : IsFar (Atom placed) (atom_with room inner)) where
  pub es_one : (ls us vs : List Lexeme) (e : Exprs) (ys : List Expr) → Narrow ls → Es placed ls us e → listed (inner whole) ls ≡ Ok (ys, vs) → Goes (comma ∷ e_goers) us vs → (us ≡ vs) × (e ≡ exprs_of ys)
  es_one ls us vs e ys n d h q = run_one comma (inner whole) (E placed) e_goers whole_one whole_far (s whole) e_leaves refl exprs_of ls us vs e ys n (es_parts d) h q

  -- an expression behind which a sign closes
  closed_one : (c : Terminal) → IsTrue (apart_from c e_goers) → (u : Lexeme) (ls us rest : List Lexeme) (x y : Expr) → Narrow ls → E placed ls (u ∷ us) x → IsTrue (is c u) → inner whole ls ≡ Ok (y, rest) → ((u ∷ us) ≡ rest) × (x ≡ y)
  closed_one c a u ls us rest x y n d i h = whole_one ls (u ∷ us) rest x y n d h (inl (quiet_behind c e_goers (u ∷ us) a i))

  narrow_behind : (u : Lexeme) (ls us : List Lexeme) (x : Expr) → Narrow ls → E placed ls (u ∷ us) x → Narrow us
  narrow_behind u ls us x n d = (narrow_suffix (e_leaves ls (u ∷ us) x d) n).1

  -- "(" [Es] ")"
  abbrev some_args : List Lexeme → Read (List Expr)
  some_args ls = cond (sees (fixed (codes ")")) ls) (Ok ([], drop 1 ls)) (followed (listed (inner whole) ls) (λ xs closed. read_as (λ u. xs) (read_fixed (codes ")") closed)))

  pub args_one : (ls us vs : List Lexeme) (e : Exprs) (ys : List Expr) → Narrow ls → Args placed ls us e → args_with room inner ls ≡ Ok (ys, vs) → (us ≡ vs) × (e ≡ exprs_of ys)
  unfolding args_with
  args_one ls us vs e ys n (no_args {t = t} {u = u} i j) h =
      let f = followed_ok (read_fixed (codes "(") ls) _ (ys, vs) h in
      let b = token_rest (fixed (codes "(")) t (u ∷ us) ls f.rest f.first refl f.reads in
      let g = same_found [] ys us vs (chosen (sees (fixed (codes ")")) (u ∷ us)) _ _ (ys, vs) j (ap some_args b ∙ f.then)) in
      (g.1, ap exprs_of g.0)
  args_one ls us vs e ys n (args {t = t} {u = u} {ts = ts} i d j) h =
      let f = followed_ok (read_fixed (codes "(") ls) _ (ys, vs) h in
      let b = token_rest (fixed (codes "(")) t ts ls f.rest f.first refl f.reads in
      let g = passed (sees (fixed (codes ")")) ts) _ _ (ys, vs) (unseen_first (listed_part (rule expression)) (fixed (codes ")")) ts (u ∷ us) refl refl (es_listed placed d)) (ap some_args b ∙ f.then) in
      let k = followed_ok (listed (inner whole) ts) _ (ys, vs) g in
      let r = read_as_ok _ (read_fixed (codes ")") k.rest) ys vs k.then in
      let o = es_one ts (u ∷ us) k.rest e k.first n.1 d k.reads (inl (quiet_behind (fixed (codes ")")) (comma ∷ e_goers) (u ∷ us) refl j)) in
      (token_rest (fixed (codes ")")) u us k.rest vs r.value o.0 r.reads, o.1 ∙ ap exprs_of r.is)

  -- Id | Id "(" [Es] ")"
  abbrev call_or : Lexeme → Name → List Lexeme → Read Expr
  call_or t f ls = cond (sees (fixed (codes "(")) ls) (read_as (λ xs. expr t.place (apply f (exprs_of xs))) (args_with room inner ls)) (Ok (expr t.place (variable f), ls))

  named_then : (t : Lexeme) (ts vs : List Lexeme) (y : Expr) → Narrow (t ∷ ts) → IsId t → named_with room inner (t ∷ ts) ≡ Ok (y, vs) → call_or t (name placed t) ts ≡ Ok (y, vs)
  unfolding named_with
  named_then t ts vs y n i h =
      let f = followed_ok (read_name (t ∷ ts)) _ (y, vs) h in
      let o = name_one (t ∷ ts) ts f.rest (name placed t) f.first n (name_at i) f.reads (inl (none_seen ts)) in
      ap (call_or t (name placed t)) o.0 ∙ (ap (λ m. call_or t m f.rest) o.1 ∙ f.then)

  variable_one : (t : Lexeme) (us vs : List Lexeme) (f : Name) (y : Expr) → call_or t f us ≡ Ok (y, vs) → Goes call_goers us vs → (us ≡ vs) × (expr t.place (variable f) ≡ y)
  variable_one t us vs f y h q = by_cond (sees (fixed (codes "(")) us) _ _ (y, vs) h
      (λ e g. absurd (called e (read_as_ok _ (args_with room inner us) y vs g).reads q))
      (λ e g. let k = same_found (expr t.place (variable f)) y us vs g in (k.1, k.0))
    where
      called : {xs : List Expr} → IsTrue (sees (fixed (codes "(")) us) → args_with room inner us ≡ Ok (xs, vs) → Goes call_goers us vs → ⊥
      called e g (inl q) = absurd (cc (e, quiet_head (fixed (codes "(")) [] us q))
      called {xs} e g (inr q) = absurd (omega (arith, args_less room inner s us xs vs g, ap length q))

  args_open : {ls us : List Lexeme} {e : Exprs} → Args placed ls us e → IsTrue (sees (fixed (codes "(")) ls)
  args_open (no_args i j) = i
  args_open (args i d j) = i

  call_one : (t : Lexeme) (ts us vs : List Lexeme) (f : Name) (e : Exprs) (y : Expr) → Narrow ts → Args placed ts us e → call_or t f ts ≡ Ok (y, vs) → (us ≡ vs) × (expr t.place (apply f e) ≡ y)
  call_one t ts us vs f e y n d h =
      let r = read_as_ok _ (args_with room inner ts) y vs (chosen (sees (fixed (codes "(")) ts) _ _ (y, vs) (args_open d) h) in
      let o = args_one ts us vs e r.value n d r.reads in
      (o.0, ap (λ xs. expr t.place (apply f xs)) o.1 ∙ r.is)

  -- "old" "(" E ")"
  old_one : (t u v : Lexeme) (ts us vs : List Lexeme) (x y : Expr) → Narrow ts → E placed ts (v ∷ us) x → Is ")" v → old_with room inner (t ∷ u ∷ ts) ≡ Ok (y, vs) → (us ≡ vs) × (expr t.place (old t.place x) ≡ y)
  unfolding old_with
  old_one t u v ts us vs x y n d k h =
      let f = followed_ok (read_fixed (codes "old") (t ∷ u ∷ ts)) _ (y, vs) h in
      let a = token_rest (fixed (codes "old")) t (u ∷ ts) (t ∷ u ∷ ts) f.rest f.first refl f.reads in
      let g = followed_ok (read_fixed (codes "(") f.rest) _ (y, vs) f.then in
      let b = token_rest (fixed (codes "(")) u ts f.rest g.rest g.first a g.reads in
      let i = followed_ok (inner whole g.rest) _ (y, vs) g.then in
      let r = read_as_ok _ (read_fixed (codes ")") i.rest) y vs i.then in
      let o = closed_one (fixed (codes ")")) refl v ts us i.rest x i.first n d k (ap (inner whole) b ∙ i.reads) in
      (token_rest (fixed (codes ")")) v us i.rest vs r.value o.0 r.reads, ap (λ z. expr t.place (old t.place z)) o.1 ∙ r.is)

  -- "if" E "then" E "else" E
  choose_one : (t u v : Lexeme) (ts us vs ws zs : List Lexeme) (c x y z : Expr) → Narrow ts → E placed ts (u ∷ us) c → Is "then" u → E placed us (v ∷ vs) x → Is "else" v → E placed vs ws y → IsLongest vs ws
      → choose_with room inner (t ∷ ts) ≡ Ok (z, zs) → (ws ≡ zs) × (expr t.place (choose c x y) ≡ z)
  unfolding choose_with
  choose_one t u v ts us vs ws zs c x y z n d i e j l m h =
      let f = followed_ok (read_fixed (codes "if") (t ∷ ts)) _ (z, zs) h in
      let a = token_rest (fixed (codes "if")) t ts (t ∷ ts) f.rest f.first refl f.reads in
      let p = followed_ok (inner whole f.rest) _ (z, zs) f.then in
      let b = closed_one (fixed (codes "then")) refl u ts us p.rest c p.first n d i (ap (inner whole) a ∙ p.reads) in
      let o = narrow_behind u ts us c n d in
      let g = followed_ok (read_fixed (codes "then") p.rest) _ (z, zs) p.then in
      let k = token_rest (fixed (codes "then")) u us p.rest g.rest g.first b.0 g.reads in
      let q = followed_ok (inner whole g.rest) _ (z, zs) g.then in
      let w = closed_one (fixed (codes "else")) refl v us vs q.rest x q.first o e j (ap (inner whole) k ∙ q.reads) in
      let r = followed_ok (read_fixed (codes "else") q.rest) _ (z, zs) q.then in
      let s' = token_rest (fixed (codes "else")) v vs q.rest r.rest r.first w.0 r.reads in
      let t' = read_as_ok _ (inner whole r.rest) z zs r.then in
      let last = longest_one vs ws zs y t'.value (narrow_behind v us vs x o e) l m (ap (inner whole) s' ∙ t'.reads) in
      (last.0, three c p.first x q.first y t'.value b.1 w.1 last.1 ∙ t'.is)
    where
      three : (a b c d e f : Expr) → a ≡ b → c ≡ d → e ≡ f → expr t.place (choose a c e) ≡ expr t.place (choose b d f)
      three a b c d e f p q r = cc (p, q, r)

  -- "(" E ")", or a quantifier
  parentheses_one : (t w : Lexeme) (ts us vs : List Lexeme) (x y : Expr) → Narrow ts → Enclosed t.place ts (w ∷ us) x → Is ")" w → enclosed_with room inner (t ∷ ts) ≡ Ok (y, vs) → (us ≡ vs) × (expr_from t.place x ≡ y)
  unfolding enclosed_with
  parentheses_one t w ts us vs x y n d k h =
      let f = followed_ok (read_fixed (codes "(") (t ∷ ts)) _ (y, vs) h in
      let a = token_rest (fixed (codes "(")) t ts (t ∷ ts) f.rest f.first refl f.reads in
      let g = followed_ok (inner (enclosed t.place) f.rest) _ (y, vs) f.then in
      let r = read_as_ok _ (read_fixed (codes ")") g.rest) y vs g.then in
      let o = enclosed_one t.place ts (w ∷ us) g.rest x g.first n d (ap (inner (enclosed t.place)) a ∙ g.reads) (inl (quiet_behind (fixed (codes ")")) e_goers (w ∷ us) refl k)) in
      (token_rest (fixed (codes ")")) w us g.rest vs r.value o.0 r.reads, ap (expr_from t.place) o.1 ∙ r.is)

  -- which atom, by its first token

  abbrev from_if : List Lexeme → Read Expr
  from_if ls = cond (sees (fixed (codes "if")) ls) (choose_with room inner ls) (enclosed_with room inner ls)

  abbrev from_old : List Lexeme → Read Expr
  from_old ls = cond (sees (fixed (codes "old")) ls) (old_with room inner ls) (from_if ls)

  abbrev from_name : List Lexeme → Read Expr
  from_name ls = cond (sees (kind id) ls) (named_with room inner ls) (from_old ls)

  abbrev from_false : List Lexeme → Read Expr
  from_false ls = cond (sees (fixed (codes "false")) ls) (Ok (expr (place_of ls) (truth false), drop 1 ls)) (from_name ls)

  abbrev from_true : List Lexeme → Read Expr
  from_true ls = cond (sees (fixed (codes "true")) ls) (Ok (expr (place_of ls) (truth true), drop 1 ls)) (from_false ls)

  numeral_one : (t : Lexeme) (ts vs : List Lexeme) (y : Expr) → IsTrue (is_kind number_kind t) → atom_with room inner (t ∷ ts) ≡ Ok (y, vs) → (ts ≡ vs) × (expr t.place (number (value t.spelling)) ≡ y)
  unfolding atom_with
  numeral_one t ts vs y i h =
      let r = read_as_ok _ (read_number (t ∷ ts)) y vs (chosen (sees (kind number_kind) (t ∷ ts)) _ _ (y, vs) i h) in
      let o = number_one t ts vs r.value r.reads in
      (o.0, ap (λ v. expr t.place (number v)) o.1 ∙ r.is)

  module _ (t : Lexeme) (ts vs : List Lexeme) (y : Expr) where
    past_number : (c : Terminal) → IsTrue (is c t) → IsTrue (apart c (kind number_kind)) → atom_with room inner (t ∷ ts) ≡ Ok (y, vs) → from_true (t ∷ ts) ≡ Ok (y, vs)
    unfolding atom_with
    past_number c i a h = passed (sees (kind number_kind) (t ∷ ts)) _ _ (y, vs) (other c (kind number_kind) t i a) h

    past_true : (c : Terminal) → IsTrue (is c t) → IsTrue (apart c (fixed (codes "true"))) → from_true (t ∷ ts) ≡ Ok (y, vs) → from_false (t ∷ ts) ≡ Ok (y, vs)
    past_true c i a h = passed (sees (fixed (codes "true")) (t ∷ ts)) _ _ (y, vs) (other c (fixed (codes "true")) t i a) h

    past_false : (c : Terminal) → IsTrue (is c t) → IsTrue (apart c (fixed (codes "false"))) → from_false (t ∷ ts) ≡ Ok (y, vs) → from_name (t ∷ ts) ≡ Ok (y, vs)
    past_false c i a h = passed (sees (fixed (codes "false")) (t ∷ ts)) _ _ (y, vs) (other c (fixed (codes "false")) t i a) h

    past_name : (c : Terminal) → IsTrue (is c t) → IsTrue (apart c (kind id)) → from_name (t ∷ ts) ≡ Ok (y, vs) → from_old (t ∷ ts) ≡ Ok (y, vs)
    past_name c i a h = passed (sees (kind id) (t ∷ ts)) _ _ (y, vs) (other c (kind id) t i a) h

    past_old : (c : Terminal) → IsTrue (is c t) → IsTrue (apart c (fixed (codes "old"))) → from_old (t ∷ ts) ≡ Ok (y, vs) → from_if (t ∷ ts) ≡ Ok (y, vs)
    past_old c i a h = passed (sees (fixed (codes "old")) (t ∷ ts)) _ _ (y, vs) (other c (fixed (codes "old")) t i a) h

    at_name : IsId t → atom_with room inner (t ∷ ts) ≡ Ok (y, vs) → named_with room inner (t ∷ ts) ≡ Ok (y, vs)
    at_name i h = chosen (sees (kind id) (t ∷ ts)) _ _ (y, vs) i (past_false (kind id) i refl (past_true (kind id) i refl (past_number (kind id) i refl h)))

    at_open : Is "(" t → atom_with room inner (t ∷ ts) ≡ Ok (y, vs) → enclosed_with room inner (t ∷ ts) ≡ Ok (y, vs)
    at_open i h = passed (sees (fixed (codes "if")) (t ∷ ts)) _ _ (y, vs) (other (fixed (codes "(")) (fixed (codes "if")) t i refl)
        (past_old (fixed (codes "(")) i refl (past_name (fixed (codes "(")) i refl (past_false (fixed (codes "(")) i refl (past_true (fixed (codes "(")) i refl (past_number (fixed (codes "(")) i refl h)))))

  pub atom_one : IsOne call_goers (Atom placed) (atom_with room inner)
  atom_one = λ ls us vs x y n d h q. found ls us vs x y n d h q
    where
      found : (ls us vs : List Lexeme) (x y : Expr) → Narrow ls → Atom placed ls us x → atom_with room inner ls ≡ Ok (y, vs) → Goes call_goers us vs → (us ≡ vs) × (x ≡ y)
      found [] us vs x y n d h q = elim d [ ]
      found (t ∷ ts) us vs x y n (numeral i) h q = numeral_one t ts vs y i h
      found (t ∷ ts) us vs x y n (true_word i) h q =
          let g = same_found (expr t.place (truth true)) y ts vs (chosen (sees (fixed (codes "true")) (t ∷ ts)) _ _ (y, vs) i (past_number t ts vs y (fixed (codes "true")) i refl h)) in
          (g.1, g.0)
      found (t ∷ ts) us vs x y n (false_word i) h q =
          let c = fixed (codes "false") in
          let g = same_found (expr t.place (truth false)) y ts vs (chosen (sees (fixed (codes "false")) (t ∷ ts)) _ _ (y, vs) i (past_true t ts vs y c i refl (past_number t ts vs y c i refl h))) in
          (g.1, g.0)
      found (t ∷ ts) us vs x y n (Atom.of_name i) h q = variable_one t ts vs (name placed t) y (named_then t ts vs y n i (at_name t ts vs y i h)) q
      found (t ∷ ts) us vs x y n (application {xs = e} i d) h q = call_one t ts us vs (name placed t) e y n.1 d (named_then t ts vs y n i (at_name t ts vs y i h))
      found (t ∷ ts) us vs x y n (old_value {u = u} {v = v} {ts = rest} {x = z} i j d k) h q =
          let c = fixed (codes "old") in
          old_one t u v rest us vs z y n.1.1 d k (chosen (sees (fixed (codes "old")) (t ∷ ts)) _ _ (y, vs) i (past_name t ts vs y c i refl (past_false t ts vs y c i refl (past_true t ts vs y c i refl (past_number t ts vs y c i refl h)))))
      found (t ∷ ts) us vs x y n (Atom.round {u = u} {x = z} i d k) h q = parentheses_one t u ts us vs z y n.1 (plain d) k (at_open t ts vs y i h)
      found (t ∷ ts) us vs x y n (if_then_else {u = u} {v = v} {us = first} {vs = second} {c = a} {x = b} {y = z} i d j e k l m) h q =
          let c = fixed (codes "if") in
          choose_one t u v ts first second us vs a b z y n.1 d j e k l m (chosen (sees (fixed (codes "if")) (t ∷ ts)) _ _ (y, vs) i
          (past_old t ts vs y c i refl (past_name t ts vs y c i refl (past_false t ts vs y c i refl (past_true t ts vs y c i refl (past_number t ts vs y c i refl h))))))
      found (t ∷ ts) us vs x y n (quantifier {w = w} i b p g j r d k) h q = parentheses_one t w ts us vs _ y n.1 (bound b p g j r d) k (at_open t ts vs y i h)

  -- "[" E [":=" E] "]"
  abbrev end_index : Expr → List Lexeme → Read AnIndex
  end_index x ls = cond (sees (fixed (codes ":=")) ls) (followed (inner whole (drop 1 ls)) (λ y closed. read_as (λ u. Write x y) (read_fixed (codes "]") closed))) (read_as (λ u. AtIndex x) (read_fixed (codes "]") ls))

  pub index_one : IsOne [] IndexAt (index_with room inner)
  unfolding index_with
  index_one = λ ls us vs x y n d h q. found ls us vs x y n d h
    where
      opened : (t u : Lexeme) (c : Terminal) → IsTrue (apart_from c e_goers) → (ts mid vs : List Lexeme) (x : Expr) (y : AnIndex) → Narrow ts → E placed ts (u ∷ mid) x → IsTrue (is c u) → index_with room inner (t ∷ ts) ≡ Ok (y, vs) → end_index x (u ∷ mid) ≡ Ok (y, vs)
      opened t u c a ts mid vs x y n d i h =
          let f = followed_ok (read_fixed (codes "[") (t ∷ ts)) _ (y, vs) h in
          let b = token_rest (fixed (codes "[")) t ts (t ∷ ts) f.rest f.first refl f.reads in
          let g = followed_ok (inner whole f.rest) _ (y, vs) f.then in
          let o = closed_one c a u ts mid g.rest x g.first n d i (ap (inner whole) b ∙ g.reads) in
          ap (end_index x) o.0 ∙ (ap (λ z. end_index z g.rest) o.1 ∙ g.then)

      found : (ls us vs : List Lexeme) (x y : AnIndex) → Narrow ls → IndexAt ls us x → index_with room inner ls ≡ Ok (y, vs) → (us ≡ vs) × (x ≡ y)
      found [] us vs x y n d h = elim d [ ]
      found (t ∷ ts) us vs x y n (reading {u = u} {x = z} i d k) h =
          let g = passed (sees (fixed (codes ":=")) (u ∷ us)) _ _ (y, vs) (other (fixed (codes "]")) (fixed (codes ":=")) u k refl) (opened t u (fixed (codes "]")) refl ts us vs z y n.1 d k h) in
          let r = read_as_ok _ (read_fixed (codes "]") (u ∷ us)) y vs g in
          (token_rest (fixed (codes "]")) u us (u ∷ us) vs r.value refl r.reads, r.is)
      found (t ∷ ts) us vs x y n (writing {u = u} {v = v} {mid = mid} {x = z} {y = w} i d j e k) h =
          let g = chosen (sees (fixed (codes ":=")) (u ∷ mid)) _ _ (y, vs) j (opened t u (fixed (codes ":=")) refl ts mid vs z y n.1 d j h) in
          let f = followed_ok (inner whole mid) _ (y, vs) g in
          let r = read_as_ok _ (read_fixed (codes "]") f.rest) y vs f.then in
          let o = closed_one (fixed (codes "]")) refl v mid us f.rest w f.first (narrow_behind u ts mid z n.1 d) e k f.reads in
          (token_rest (fixed (codes "]")) v us f.rest vs r.value o.0 r.reads, ap (λ a. Write z a) o.1 ∙ r.is)

  -- Post = Atom {"[" E [":=" E] "]"}
  pub post_one : IsOne post_goers (Post placed) (post_with room inner)
  unfolding post_with indices_with
  post_one = λ ls us vs x y n d h q. found ls us vs x y n d h q
    where
      no_index : (us vs : List Lexeme) → Goes post_goers us vs → ((sees (fixed (codes "[")) us ≡ false) × (sees_any call_goers us ≡ false) × (sees_any [] us ≡ false)) ⊎ (us ≡ vs)
      no_index us vs (inl g) = inl (quiet_head (fixed (codes "[")) call_goers us g, quiet_tail (fixed (codes "[")) call_goers us g, none_seen us)
      no_index us vs (inr e) = inr e

      two : (x y : Expr) (is js : List AnIndex) → x ≡ y → is ≡ js → indexed_by x is ≡ indexed_by y js
      two x y is js a b = rw (a, b) refl

      found : (ls us vs : List Lexeme) (x y : Expr) → Narrow ls → Post placed ls us x → post_with room inner ls ≡ Ok (y, vs) → Goes post_goers us vs → (us ≡ vs) × (x ≡ y)
      found ls us vs x y n d h q =
          let p = post_parts d in
          let f = followed_ok (atom_with room inner ls) _ (y, vs) h in
          let r = read_as_ok _ (indices_with room inner f.rest) y vs f.then in
          let o = first_then call_goers (Atom placed) (atom_with room inner) atom_one atom_far atom_leaves [] (sees (fixed (codes "["))) (index_with room inner) IndexAt index_one (one_far IndexAt (index_with room inner) index_one) (index_less room inner s) index_leaves
          (λ ws b. quiet_behind (fixed (codes "[")) call_goers ws refl b) (λ ws b. none_seen ws) ls p.middle us f.rest vs p.first f.first p.others r.value n p.there p.behind f.reads r.reads (no_index us vs q) in
          (o.0, sym p.same ∙ (two p.first f.first p.others r.value o.1 o.2 ∙ r.is))
