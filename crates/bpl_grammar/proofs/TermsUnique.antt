-- Expressions that lexemes spell are those that are read, from operands on.
use Rattle.std.specs.Prelude.{◌≡◌, ℕ, ◌<◌, ◌≤◌, ◌||◌, Bool, true, false, cond, List, [], ◌∷◌, drop, length, codes, IsTrue, Ok, Some, None, Option, ◌⊎◌}
use Rattle.std.proofs.Common.{refl, inl, inr, ap, sym, ◌∙◌, arith}
use Rattle.bpl_grammar.proofs.Booleans.{none_of as neither_two}
use Rattle.bpl_ast.specs.Tree.{Relation, Expr, expr, iffs, implies, ands, ors, related, products, negation, minus, first_place}
use Rattle.bpl_ast.specs.ExprView.{exprs_of}
use Rattle.bpl_ast.specs.declared.expr.Term.{Term}
use Rattle.bpl_ast.specs.declared.expr.Term.TheVariants.{Plus, Less}
use Rattle.bpl_grammar.specs.Lexeme.{Lexeme}
use Rattle.bpl_grammar.specs.Part.{rule, post}
use Rattle.bpl_grammar.specs.Judge.{Narrow}
use Rattle.bpl_grammar.specs.Terminal.{Terminal, fixed, is, is_any, sees, sees_any, apart_from}
use Rattle.bpl_grammar.specs.Reading.{Read, read_as, read_behind, read_run}
use Rattle.bpl_grammar.specs.ReadExpressions.{Inner, operand, joined, sum_of, relation_at, compared, post_with, un_with, factors_with, prod_with, term_with, terms_with, sum_with, rel_with, rels_with, log_with, imp_with, e_with}
use Rattle.bpl_grammar.specs.Expressions.{IsRelation, E, Imp, Log, Rel, Sum, Prod, Un, Post, e_run, imp_run, by_and, by_or, rel_alone, rel_both, prod_run, not, opposite, un_post}
use Rattle.bpl_grammar.proofs.Agree.{takes_imp, takes_log, takes_rel, takes_sum, takes_prod, takes_un, takes_post}
use Rattle.bpl_grammar.proofs.Loops.{Shrinks}
use Rattle.bpl_grammar.proofs.Lengths.{less_behind}
use Rattle.bpl_grammar.proofs.Found.{same_found, followed_ok, read_as_ok}
use Rattle.bpl_grammar.proofs.TypeTrees.{placed}
use Rattle.bpl_grammar.proofs.ExprShrinks.{un_less, term_less, sum_less, rel_less, log_less, imp_less}
use Rattle.bpl_grammar.proofs.Items.{by_cond, items_ok}
use Rattle.bpl_grammar.proofs.TermTrees.{TermAt, by_plus, by_less, a_term}
use Rattle.bpl_grammar.proofs.TermParts.{post_goers, prod_goers, sum_goers, rel_goers, log_goers, imp_goers, e_goers, same_run, factors_parts, ands_parts, ors_parts, chain_parts, iffs_parts, sum_parts, relation_is, relation_quiet, no_relation, goes_sum, goes_rel}
use Rattle.bpl_grammar.proofs.Suffixes.{Suffix, later, takes_suffix, narrow_suffix}
use Rattle.bpl_grammar.proofs.Spelled.{chosen, passed, other, unseen_first}
use Rattle.bpl_grammar.proofs.Unique.{Goes, IsOne, IsFar, Leaves, quiet_head, quiet_tail, quiet_behind, goes_tail, link, Rep, ended, further, nothing_read, Signed, behind_one, behind_shorter, behind_next, run_one, first_then}

un_leaves : Leaves (Un placed)
un_leaves = λ ls us x d. takes_suffix (takes_un placed d)

prod_leaves : Leaves (Prod placed)
prod_leaves = λ ls us x d. takes_suffix (takes_prod placed d)

sum_leaves : Leaves (Sum placed)
sum_leaves = λ ls us x d. takes_suffix (takes_sum placed d)

rel_leaves : Leaves (Rel placed)
rel_leaves = λ ls us x d. takes_suffix (takes_rel placed d)

log_leaves : Leaves (Log placed)
log_leaves = λ ls us x d. takes_suffix (takes_log placed d)

imp_leaves : Leaves (Imp placed)
imp_leaves = λ ls us x d. takes_suffix (takes_imp placed d)

term_leaves : Leaves TermAt
term_leaves = λ ls us x d. left ls us x d
  where
    left : (ls us : List Lexeme) (x : Term) → TermAt ls us x → Suffix ls us
    left [] us x d = elim d [ ]
    left (t ∷ ts) us x (by_plus {x = y} i d) = later (prod_leaves ts us y d)
    left (t ∷ ts) us x (by_less {x = y} i d) = later (prod_leaves ts us y d)

term_quiet : (ls : List Lexeme) → IsTrue (a_term ls) → sees_any prod_goers ls ≡ false
term_quiet ls b = by_sign (sees (fixed (codes "+")) ls) refl b
  where
    by_sign : (s : Bool) → sees (fixed (codes "+")) ls ≡ s → IsTrue (s || sees (fixed (codes "-")) ls) → sees_any prod_goers ls ≡ false
    by_sign true e b = quiet_behind (fixed (codes "+")) prod_goers ls refl e
    by_sign false e b = quiet_behind (fixed (codes "-")) prod_goers ls refl b

module _ (room : ℕ) (inner : Inner → List Lexeme → Read Expr) (s : (g : Inner) → Shrinks (inner g)) (operand_one : IsOne post_goers (Un placed) (inner operand)) (post_one : IsOne post_goers (Post placed) (post_with room inner))
    (un_far : IsFar (Un placed) (un_with room inner)) (prod_far : IsFar (Prod placed) (prod_with room inner)) (sum_far : IsFar (Sum placed) (sum_with room inner)) (rel_far : IsFar (Rel placed) (rel_with room inner))
    (log_far : IsFar (Log placed) (log_with room inner)) (imp_far : IsFar (Imp placed) (imp_with room inner)) where
  -- Un = ("!" | "-") Un | Post
  pub un_one : IsOne post_goers (Un placed) (un_with room inner)
  unfolding un_with
  un_one = λ ls us vs x y n d h q. found ls us vs x y n d h q
    where
      found : (ls us vs : List Lexeme) (x y : Expr) → Narrow ls → Un placed ls us x → un_with room inner ls ≡ Ok (y, vs) → Goes post_goers us vs → (us ≡ vs) × (x ≡ y)
      found (t ∷ ts) us vs x y n (not {x = z} i d) h q =
          let r = read_as_ok _ (inner operand ts) y vs (chosen (sees (fixed (codes "!")) (t ∷ ts)) _ _ (y, vs) i h) in
          let o = operand_one ts us vs z r.value n.1 d r.reads q in
          (o.0, ap (λ w. expr t.place (negation w)) o.1 ∙ r.is)
      found (t ∷ ts) us vs x y n (opposite {x = z} i d) h q =
          let r = read_as_ok _ (inner operand ts) y vs (chosen (sees (fixed (codes "-")) (t ∷ ts)) _ _ (y, vs) i (passed (sees (fixed (codes "!")) (t ∷ ts)) _ _ (y, vs) (other (fixed (codes "-")) (fixed (codes "!")) t i refl) h)) in
          let o = operand_one ts us vs z r.value n.1 d r.reads q in
          (o.0, ap (λ w. expr t.place (minus w)) o.1 ∙ r.is)
      found ls us vs x y n (un_post d) h q =
          post_one ls us vs x y n d (passed (sees (fixed (codes "-")) ls) _ _ (y, vs) (unseen_first (rule post) (fixed (codes "-")) ls us refl refl (takes_post placed d))
          (passed (sees (fixed (codes "!")) ls) _ _ (y, vs) (unseen_first (rule post) (fixed (codes "!")) ls us refl refl (takes_post placed d)) h)) q

  -- Prod = Un {"*" Un}
  pub prod_one : IsOne prod_goers (Prod placed) (prod_with room inner)
  unfolding prod_with factors_with
  prod_one = λ ls us vs x y n d h q. found ls us vs x y n d h q
    where
      found : (ls us vs : List Lexeme) (x y : Expr) → Narrow ls → Prod placed ls us x → prod_with room inner ls ≡ Ok (y, vs) → Goes prod_goers us vs → (us ≡ vs) × (x ≡ y)
      found ls us vs x y n (prod_run {xs = e} d g) h q =
          let r = read_as_ok _ (factors_with room inner ls) y vs h in
          let o = run_one (fixed (codes "*")) (un_with room inner) (Un placed) post_goers un_one un_far (un_less room inner s) un_leaves refl exprs_of ls us vs e r.value n (factors_parts d) r.reads q in
          (o.0, same_run products e r.value x g o.1 ∙ r.is)

  -- ("+" | "-") Prod
  term_one : IsOne prod_goers TermAt (term_with room inner)
  unfolding term_with
  term_one = λ ls us vs x y n d h q. found ls us vs x y n d h q
    where
      found : (ls us vs : List Lexeme) (x y : Term) → Narrow ls → TermAt ls us x → term_with room inner ls ≡ Ok (y, vs) → Goes prod_goers us vs → (us ≡ vs) × (x ≡ y)
      found [] us vs x y n d h q = elim d [ ]
      found (t ∷ ts) us vs x y n (by_plus {x = z} i d) h q =
          let r = read_as_ok _ (prod_with room inner ts) y vs (chosen (sees (fixed (codes "+")) (t ∷ ts)) _ _ (y, vs) i h) in
          let o = prod_one ts us vs z r.value n.1 d r.reads q in
          (o.0, ap (λ w. Plus w) o.1 ∙ r.is)
      found (t ∷ ts) us vs x y n (by_less {x = z} i d) h q =
          let r = read_as_ok _ (prod_with room inner ts) y vs (passed (sees (fixed (codes "+")) (t ∷ ts)) _ _ (y, vs) (other (fixed (codes "-")) (fixed (codes "+")) t i refl) h) in
          let o = prod_one ts us vs z r.value n.1 d r.reads q in
          (o.0, ap (λ w. Less w) o.1 ∙ r.is)

  term_far : IsFar TermAt (term_with room inner)
  unfolding term_with
  term_far = λ ls us vs x y n d h. found ls us vs x y n d h
    where
      found : (ls us vs : List Lexeme) (x y : Term) → Narrow ls → TermAt ls us x → term_with room inner ls ≡ Ok (y, vs) → length vs ≤ length us
      found [] us vs x y n d h = elim d [ ]
      found (t ∷ ts) us vs x y n (by_plus {x = z} i d) h =
          let r = read_as_ok _ (prod_with room inner ts) y vs (chosen (sees (fixed (codes "+")) (t ∷ ts)) _ _ (y, vs) i h) in
          prod_far ts us vs z r.value n.1 d r.reads
      found (t ∷ ts) us vs x y n (by_less {x = z} i d) h =
          let r = read_as_ok _ (prod_with room inner ts) y vs (passed (sees (fixed (codes "+")) (t ∷ ts)) _ _ (y, vs) (other (fixed (codes "-")) (fixed (codes "+")) t i refl) h) in
          prod_far ts us vs z r.value n.1 d r.reads

  -- Sum = Prod {("+" | "-") Prod}
  pub sum_one : IsOne sum_goers (Sum placed) (sum_with room inner)
  unfolding sum_with terms_with
  sum_one = λ ls us vs x y n d h q. found ls us vs x y n d h q
    where
      no_term : (us vs : List Lexeme) → Goes sum_goers us vs → ((a_term us ≡ false) × (sees_any prod_goers us ≡ false) × (sees_any prod_goers us ≡ false)) ⊎ (us ≡ vs)
      no_term us vs (inl g) =
          let t = quiet_tail (fixed (codes "+")) (fixed (codes "-") ∷ prod_goers) us g in
          let u = quiet_tail (fixed (codes "-")) prod_goers us t in
          inl (neither_two (sees (fixed (codes "+")) us) (sees (fixed (codes "-")) us) (quiet_head (fixed (codes "+")) (fixed (codes "-") ∷ prod_goers) us g) (quiet_head (fixed (codes "-")) prod_goers us t), u, u)
      no_term us vs (inr e) = inr e

      found : (ls us vs : List Lexeme) (x y : Expr) → Narrow ls → Sum placed ls us x → sum_with room inner ls ≡ Ok (y, vs) → Goes sum_goers us vs → (us ≡ vs) × (x ≡ y)
      found ls us vs x y n d h q =
          let p = sum_parts d in
          let f = followed_ok (prod_with room inner ls) _ (y, vs) h in
          let r = read_as_ok _ (terms_with room inner f.rest) y vs f.then in
          let o = first_then prod_goers (Prod placed) (prod_with room inner) prod_one prod_far prod_leaves prod_goers a_term (term_with room inner) TermAt term_one term_far (term_less room inner s) term_leaves term_quiet term_quiet
          ls p.middle us f.rest vs p.first f.first p.others r.value n p.there p.behind f.reads r.reads (no_term us vs q) in
          (o.0, sym p.same ∙ (two p.first f.first p.others r.value o.1 o.2 ∙ r.is))
        where
          two : (x y : Expr) (ms os : List Term) → x ≡ y → ms ≡ os → sum_of x ms ≡ sum_of y os
          two x y ms os a b = rw (a, b) refl

  -- Rel = Sum [("==" | "!=" | "<" | "<=" | ">" | ">=") Sum]
  compared_shorter : (x y : Expr) (r : Option Relation) (ls vs : List Lexeme) → compared (sum_with room inner) x r ls ≡ Ok (y, vs) → (ls ≡ vs) ⊎ (length vs < length ls)
  compared_shorter x y None ls vs h = inl (same_found x y ls vs h).1
  compared_shorter x y (Some r) ls vs h =
      let k = read_as_ok _ (sum_with room inner (drop 1 ls)) y vs h in
      inr (less_behind ls (sum_with room inner (drop 1 ls)) (sum_less room inner s (drop 1 ls)) k.value vs k.reads)

  alone_one : (us vs : List Lexeme) (x y : Expr) (r : Option Relation) → relation_at us ≡ r → compared (sum_with room inner) x r us ≡ Ok (y, vs) → Goes rel_goers us vs → (us ≡ vs) × (x ≡ y)
  alone_one us vs x y None e h q =
      let g = same_found x y us vs h in
      (g.1, g.0)
  alone_one us vs x y (Some r) e h (inl q) = absurd (cc (e, no_relation us q))
  alone_one us vs x y (Some r) e h (inr q) = absurd (longer (compared_shorter x y (Some r) us vs h))
    where
      longer : (us ≡ vs) ⊎ (length vs < length us) → ⊥
      longer (inl g) =
          let k = read_as_ok _ (sum_with room inner (drop 1 us)) y vs h in
          absurd (omega (arith, less_behind us (sum_with room inner (drop 1 us)) (sum_less room inner s (drop 1 us)) k.value vs k.reads, ap length q))
      longer (inr g) = absurd (omega (arith, g, ap length q))

  both_one : (t : Lexeme) (mid us vs : List Lexeme) (o : Relation) (x y z : Expr) → Narrow mid → IsRelation t o → Sum placed mid us y → compared (sum_with room inner) x (relation_at (t ∷ mid)) (t ∷ mid) ≡ Ok (z, vs) → Goes rel_goers us vs → (us ≡ vs) × (expr (first_place x) (related o x y) ≡ z)
  both_one t mid us vs o x y z n i d h q =
      let g = ap (λ r. compared (sum_with room inner) x r (t ∷ mid)) (sym (relation_is t o mid i)) ∙ h in
      let k = read_as_ok _ (sum_with room inner mid) z vs g in
      let l = sum_one mid us vs y k.value n d k.reads (goes_sum us vs q) in
      (l.0, ap (λ w. expr (first_place x) (related o x w)) l.1 ∙ k.is)

  pub rel_one : IsOne rel_goers (Rel placed) (rel_with room inner)
  unfolding rel_with
  rel_one = λ ls us vs x y n d h q. found ls us vs x y n d h q
    where
      found : (ls us vs : List Lexeme) (x y : Expr) → Narrow ls → Rel placed ls us x → rel_with room inner ls ≡ Ok (y, vs) → Goes rel_goers us vs → (us ≡ vs) × (x ≡ y)
      found ls us vs x y n (rel_alone d) h q =
          let f = followed_ok (sum_with room inner ls) _ (y, vs) h in
          let l = link sum_goers (Sum placed) (sum_with room inner) sum_one sum_far ls us us f.rest vs x f.first n d f.reads (inl refl) (compared_shorter f.first y (relation_at f.rest) f.rest vs f.then) (goes_sum us vs q) in
          alone_one us vs x y (relation_at us) refl (again f.rest us f.first x (sym l.0) (sym l.1) f.then) q
        where
          again : (a b : List Lexeme) (v w : Expr) → a ≡ b → v ≡ w → compared (sum_with room inner) v (relation_at a) a ≡ Ok (y, vs) → compared (sum_with room inner) w (relation_at b) b ≡ Ok (y, vs)
          again a b v w e g k = rw (← e, ← g) k
      found ls us vs x y n (rel_both {t = t} {us = mid} {o = o} {x = v} {y = w} d i g) h q =
          let f = followed_ok (sum_with room inner ls) _ (y, vs) h in
          let l = link sum_goers (Sum placed) (sum_with room inner) sum_one sum_far ls (t ∷ mid) us f.rest vs v f.first n d f.reads (inr (relation_quiet t o mid i)) (compared_shorter f.first y (relation_at f.rest) f.rest vs f.then) (goes_sum us vs q) in
          both_one t mid us vs o v w y (narrow_suffix (sum_leaves ls (t ∷ mid) v d) n).1 i g (again f.rest (t ∷ mid) f.first v (sym l.0) (sym l.1) f.then) q
        where
          again : (a b : List Lexeme) (v w : Expr) → a ≡ b → v ≡ w → compared (sum_with room inner) v (relation_at a) a ≡ Ok (y, vs) → compared (sum_with room inner) w (relation_at b) b ≡ Ok (y, vs)
          again a b v w e g k = rw (← e, ← g) k

  -- Log = Rel ({"&&" Rel} | {"||" Rel})
  abbrev and_sign : Terminal
  and_sign = fixed (codes "&&")

  abbrev or_sign : Terminal
  or_sign = fixed (codes "||")

  abbrev tail_of : Expr → List Lexeme → Read Expr
  tail_of x ls = cond (sees and_sign ls) (read_as (λ xs. joined ands (x ∷ xs)) (read_behind and_sign (rel_with room inner) ls)) (read_as (λ xs. joined ors (x ∷ xs)) (read_behind or_sign (rel_with room inner) ls))

  more_by : (c : Terminal) (ls vs : List Lexeme) (ys : List Expr) → IsTrue (apart_from c rel_goers) → read_behind c (rel_with room inner) ls ≡ Ok (ys, vs) → (ls ≡ vs) ⊎ (length vs < length ls)
  more_by c ls vs ys a h = behind_shorter c (rel_with room inner) (Rel placed) rel_goers rel_one rel_far (rel_less room inner s) rel_leaves a ls vs ys h

  tail_shorter : (x y : Expr) (ls vs : List Lexeme) → tail_of x ls ≡ Ok (y, vs) → (ls ≡ vs) ⊎ (length vs < length ls)
  tail_shorter x y ls vs h = by_cond (sees and_sign ls) _ _ (y, vs) h
      (λ e g. let r = read_as_ok _ (read_behind and_sign (rel_with room inner) ls) y vs g in more_by and_sign ls vs r.value refl r.reads)
      (λ e g. let r = read_as_ok _ (read_behind or_sign (rel_with room inner) ls) y vs g in more_by or_sign ls vs r.value refl r.reads)

  -- nothing more is read by a sign that isn't there, or where as much is left
  none_by : (c : Terminal) (us vs : List Lexeme) (ys : List Expr) → (sees c us ≡ false) ⊎ (us ≡ vs) → read_behind c (rel_with room inner) us ≡ Ok (ys, vs) → (us ≡ vs) × (ys ≡ [])
  none_by c us vs ys q h = nothing_read (sees c) (λ ws. rel_with room inner (drop 1 ws)) (λ ws. less_behind ws (rel_with room inner (drop 1 ws)) (rel_less room inner s (drop 1 ws))) us vs ys q (items_ok (sees c) (λ ws. rel_with room inner (drop 1 ws)) us vs ys h)

  some_by : (c : Terminal) → IsTrue (apart_from c rel_goers) → (ls us vs : List Lexeme) (xs ys : List Expr) → Narrow ls → Rep (sees c) (Signed c (Rel placed)) ls us xs → read_behind c (rel_with room inner) ls ≡ Ok (ys, vs) → Goes (c ∷ rel_goers) us vs → (us ≡ vs) × (xs ≡ ys)
  some_by c a = behind_one c (rel_with room inner) (Rel placed) rel_goers rel_one rel_far (rel_less room inner s) rel_leaves a

  goes_and : (us vs : List Lexeme) → Goes log_goers us vs → Goes (and_sign ∷ rel_goers) us vs
  goes_and us vs (inl q) = inl (neither_first us (quiet_head and_sign (or_sign ∷ rel_goers) us q) (quiet_tail or_sign rel_goers us (quiet_tail and_sign (or_sign ∷ rel_goers) us q)))
    where
      neither_first : (us : List Lexeme) → sees and_sign us ≡ false → sees_any rel_goers us ≡ false → sees_any (and_sign ∷ rel_goers) us ≡ false
      neither_first [] a b = refl
      neither_first (t ∷ ts) a b = neither_two (is and_sign t) (is_any rel_goers t) a b
  goes_and us vs (inr e) = inr e

  goes_or : (us vs : List Lexeme) → Goes log_goers us vs → Goes (or_sign ∷ rel_goers) us vs
  goes_or us vs q = goes_tail and_sign (or_sign ∷ rel_goers) us vs q

  unsigned : (c : Terminal) (cs : List Terminal) (us vs : List Lexeme) → Goes (c ∷ cs) us vs → (sees c us ≡ false) ⊎ (us ≡ vs)
  unsigned c cs us vs (inl q) = inl (quiet_head c cs us q)
  unsigned c cs us vs (inr e) = inr e

  and_tail : (x y : Expr) (ls us vs : List Lexeme) (xs : List Expr) → Narrow ls → Rep (sees and_sign) (Signed and_sign (Rel placed)) ls us xs → tail_of x ls ≡ Ok (y, vs) → Goes log_goers us vs → (us ≡ vs) × (joined ands (x ∷ xs) ≡ y)
  and_tail x y ls us vs xs n r h q = by_cond (sees and_sign ls) _ _ (y, vs) h
      (λ e g. let k = read_as_ok _ (read_behind and_sign (rel_with room inner) ls) y vs g in
      let o = some_by and_sign refl ls us vs xs k.value n r k.reads (goes_and us vs q) in
      (o.0, ap (λ zs. joined ands (x ∷ zs)) o.1 ∙ k.is))
      (λ e g. let k = read_as_ok _ (read_behind or_sign (rel_with room inner) ls) y vs g in bare ls xs r e k.value k.reads k.is)
    where
      bare : (ls : List Lexeme) (xs : List Expr) → Rep (sees and_sign) (Signed and_sign (Rel placed)) ls us xs → sees and_sign ls ≡ false → (ys : List Expr) → read_behind or_sign (rel_with room inner) ls ≡ Ok (ys, vs) → joined ors (x ∷ ys) ≡ y → (us ≡ vs) × (joined ands (x ∷ xs) ≡ y)
      bare ls (z ∷ zs) (further b d r) e ys g k = absurd (cc (b, e))
      bare ls [] ended e ys g k =
          let o = none_by or_sign us vs ys (unsigned or_sign rel_goers us vs (goes_or us vs q)) g in
          (o.0, ap (λ zs. joined ors (x ∷ zs)) (sym o.1) ∙ k)

  or_tail : (x y : Expr) (ls us vs : List Lexeme) (xs : List Expr) → Narrow ls → Rep (sees or_sign) (Signed or_sign (Rel placed)) ls us xs → tail_of x ls ≡ Ok (y, vs) → Goes log_goers us vs → (us ≡ vs) × (joined ors (x ∷ xs) ≡ y)
  or_tail x y ls us vs xs n r h q = by_cond (sees and_sign ls) _ _ (y, vs) h
      (λ e g. let k = read_as_ok _ (read_behind and_sign (rel_with room inner) ls) y vs g in bare ls xs r e k.value k.reads k.is)
      (λ e g. let k = read_as_ok _ (read_behind or_sign (rel_with room inner) ls) y vs g in
      let o = some_by or_sign refl ls us vs xs k.value n r k.reads (goes_or us vs q) in
      (o.0, ap (λ zs. joined ors (x ∷ zs)) o.1 ∙ k.is))
    where
      bare : (ls : List Lexeme) (xs : List Expr) → Rep (sees or_sign) (Signed or_sign (Rel placed)) ls us xs → IsTrue (sees and_sign ls) → (ys : List Expr) → read_behind and_sign (rel_with room inner) ls ≡ Ok (ys, vs) → joined ands (x ∷ ys) ≡ y → (us ≡ vs) × (joined ors (x ∷ xs) ≡ y)
      bare ls (z ∷ zs) (further b d r) e ys g k = absurd (cc (e, quiet_head and_sign [] ls (quiet_behind or_sign (and_sign ∷ []) ls refl b)))
      bare ls [] ended e ys g k =
          let o = none_by and_sign us vs ys (unsigned and_sign (or_sign ∷ rel_goers) us vs q) g in
          (o.0, ap (λ zs. joined ands (x ∷ zs)) (sym o.1) ∙ k)

  pub log_one : IsOne log_goers (Log placed) (log_with room inner)
  unfolding log_with rels_with
  log_one = λ ls us vs x y n d h q. found ls us vs x y n d h q
    where
      again : (y : Expr) (vs a b : List Lexeme) (v w : Expr) → b ≡ a → w ≡ v → tail_of v a ≡ Ok (y, vs) → tail_of w b ≡ Ok (y, vs)
      again y vs a b v w e g k = ap (tail_of w) e ∙ (ap (λ z. tail_of z a) g ∙ k)

      found : (ls us vs : List Lexeme) (x y : Expr) → Narrow ls → Log placed ls us x → log_with room inner ls ≡ Ok (y, vs) → Goes log_goers us vs → (us ≡ vs) × (x ≡ y)
      found ls us vs x y n (by_and {xs = e} d g) h q =
          let p = ands_parts d in
          let f = followed_ok (rel_with room inner ls) _ (y, vs) h in
          let l = link rel_goers (Rel placed) (rel_with room inner) rel_one rel_far ls p.middle us f.rest vs p.first f.first n p.there f.reads
          (behind_next and_sign (rel_with room inner) (Rel placed) rel_goers rel_one rel_far (rel_less room inner s) rel_leaves refl p.middle us p.others p.behind) (tail_shorter f.first y f.rest vs f.then) (goes_rel us vs q) in
          let o = and_tail p.first y p.middle us vs p.others (narrow_suffix (rel_leaves ls p.middle p.first p.there) n) p.behind (again y vs f.rest p.middle f.first p.first l.0 l.1 f.then) q in
          (o.0, same_run ands e (p.first ∷ p.others) x g (sym p.same) ∙ o.1)
      found ls us vs x y n (by_or {xs = e} d g) h q =
          let p = ors_parts d in
          let f = followed_ok (rel_with room inner ls) _ (y, vs) h in
          let l = link rel_goers (Rel placed) (rel_with room inner) rel_one rel_far ls p.middle us f.rest vs p.first f.first n p.there f.reads
          (behind_next or_sign (rel_with room inner) (Rel placed) rel_goers rel_one rel_far (rel_less room inner s) rel_leaves refl p.middle us p.others p.behind) (tail_shorter f.first y f.rest vs f.then) (goes_rel us vs q) in
          let o = or_tail p.first y p.middle us vs p.others (narrow_suffix (rel_leaves ls p.middle p.first p.there) n) p.behind (again y vs f.rest p.middle f.first p.first l.0 l.1 f.then) q in
          (o.0, same_run ors e (p.first ∷ p.others) x g (sym p.same) ∙ o.1)

  -- Imp = Log ["==>" Imp]
  pub imp_one : IsOne imp_goers (Imp placed) (imp_with room inner)
  unfolding imp_with
  imp_one = λ ls us vs x y n d h q. found ls us vs x y n d h q
    where
      found : (ls us vs : List Lexeme) (x y : Expr) → Narrow ls → Imp placed ls us x → imp_with room inner ls ≡ Ok (y, vs) → Goes imp_goers us vs → (us ≡ vs) × (x ≡ y)
      found ls us vs x y n (imp_run {xs = e} d g) h q =
          let r = read_as_ok _ (read_run (fixed (codes "==>")) (log_with room inner) ls) y vs h in
          let o = run_one (fixed (codes "==>")) (log_with room inner) (Log placed) log_goers log_one log_far (log_less room inner s) log_leaves refl exprs_of ls us vs e r.value n (chain_parts d) r.reads q in
          (o.0, same_run implies e r.value x g o.1 ∙ r.is)

  -- E = Imp {"<==>" Imp}
  pub e_one : IsOne e_goers (E placed) (e_with room inner)
  unfolding e_with
  e_one = λ ls us vs x y n d h q. found ls us vs x y n d h q
    where
      found : (ls us vs : List Lexeme) (x y : Expr) → Narrow ls → E placed ls us x → e_with room inner ls ≡ Ok (y, vs) → Goes e_goers us vs → (us ≡ vs) × (x ≡ y)
      found ls us vs x y n (e_run {xs = e} d g) h q =
          let r = read_as_ok _ (read_run (fixed (codes "<==>")) (imp_with room inner) ls) y vs h in
          let o = run_one (fixed (codes "<==>")) (imp_with room inner) (Imp placed) imp_goers imp_one imp_far (imp_less room inner s) imp_leaves refl exprs_of ls us vs e r.value n (iffs_parts d) r.reads q in
          (o.0, same_run iffs e r.value x g o.1 ∙ r.is)
