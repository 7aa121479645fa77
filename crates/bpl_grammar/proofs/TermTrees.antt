-- Expressions that are read are the trees that the lexemes spell, from operands on.
use Rattle.std.specs.Prelude.{◌≡◌, ℕ, ◌||◌, Bool, true, false, List, [], ◌∷◌, drop, codes, IsTrue, Ok, Some, None, Option}
use Rattle.std.proofs.Common.{refl}
use Rattle.bpl_ast.specs.Tree.{Relation, eq, ne, lt, le, gt, ge, Expr, expr, iffs, implies, ands, ors, products, negation, minus, Exprs, Node, run}
use Rattle.bpl_ast.specs.ExprView.{exprs_of, terms_of}
use Rattle.bpl_ast.specs.declared.expr.Term.{Term}
use Rattle.bpl_ast.specs.declared.expr.Term.TheVariants.{Plus, Less}
use Rattle.bpl_grammar.specs.Lexeme.{Lexeme, reads}
use Rattle.bpl_grammar.specs.Terminal.{fixed, sees}
use Rattle.bpl_grammar.specs.Reading.{Read, place_of, read_behind, read_run}
use Rattle.bpl_grammar.specs.ReadExpressions.{Inner, operand, joined, sum_of, relation_at, compared, post_with, un_with, factors_with, prod_with, term_with, terms_with, sum_with, rel_with, rels_with, log_with, imp_with, e_with}
use Rattle.bpl_grammar.specs.Types.{Is}
use Rattle.bpl_grammar.specs.Expressions.{IsRelation, is_eq, is_ne, is_lt, is_le, is_gt, is_ge, E, Iffs, Imp, Chain, Log, Ands, Ors, Rel, Sum, Terms', Prod, Factors, Un, Post, e_run, iffs_last, iffs_more, imp_run, chain_last, chain_more, by_and, by_or, ands_last, ands_more, ors_last, ors_more, rel_alone, rel_both, sum_alone, sum_more, last_plus, last_less, more_plus, more_less, prod_run, factors_last, factors_more, not, opposite, un_post}
use Rattle.bpl_grammar.proofs.Found.{same_found, followed_ok, read_as_ok, seen_ok}
use Rattle.bpl_grammar.proofs.Behind.{Behind, behind_ok}
use Rattle.bpl_grammar.proofs.TypeTrees.{placed}
use Rattle.bpl_grammar.proofs.ExprFates.{chosen, other_two}
use Rattle.bpl_grammar.proofs.Items.{by_cond, Items, none, next, items_ok, run_from, run_tree}

-- a run of one part, or of several
pub joined_run : (f : Exprs → Node) (x : Expr) (xs : List Expr) → run f (exprs_of (x ∷ xs)) ≡ Some (joined f (x ∷ xs))
joined_run f x [] = refl
joined_run f x (y ∷ ys) = refl

-- a run isn't empty
abbrev IsSome : (Exprs → Node) → (List Lexeme → List Lexeme → Exprs → Type 0) → List Lexeme → List Lexeme → List Expr → Type 0
IsSome f R ls us xs = R ls us (exprs_of xs) × (run f (exprs_of xs) ≡ Some (joined f xs))

-- the sign of a relation
sign_of : (t : Lexeme) (r : Relation) (a c d e f g : Bool) → reads (codes "==") t ≡ a → reads (codes "!=") t ≡ c → reads (codes "<") t ≡ d → reads (codes "<=") t ≡ e → reads (codes ">") t ≡ f → reads (codes ">=") t ≡ g → chosen a c d e f g ≡ Some r → IsRelation t r
sign_of t r true c d e f g h1 h2 h3 h4 h5 h6 q = let s : eq ≡ r = cc (q) in rw (← s) (is_eq h1)
sign_of t r false true d e f g h1 h2 h3 h4 h5 h6 q = let s : ne ≡ r = cc (q) in rw (← s) (is_ne h2)
sign_of t r false false true e f g h1 h2 h3 h4 h5 h6 q = let s : lt ≡ r = cc (q) in rw (← s) (is_lt h3)
sign_of t r false false false true f g h1 h2 h3 h4 h5 h6 q = let s : le ≡ r = cc (q) in rw (← s) (is_le h4)
sign_of t r false false false false true g h1 h2 h3 h4 h5 h6 q = let s : gt ≡ r = cc (q) in rw (← s) (is_gt h5)
sign_of t r false false false false false true h1 h2 h3 h4 h5 h6 q = let s : ge ≡ r = cc (q) in rw (← s) (is_ge h6)
sign_of t r false false false false false false h1 h2 h3 h4 h5 h6 q = absurd (cc (q))

-- ("+" | "-") Prod
pub data TermAt : List Lexeme → List Lexeme → Term → Type 0 where
  by_plus : {t : Lexeme} {ls us : List Lexeme} {x : Expr} → Is "+" t → Prod placed ls us x → TermAt (t ∷ ls) us (Plus x)
  by_less : {t : Lexeme} {ls us : List Lexeme} {x : Expr} → Is "-" t → Prod placed ls us x → TermAt (t ∷ ls) us (Less x)

abbrev pub a_term : List Lexeme → Bool
a_term us = sees (fixed (codes "+")) us || sees (fixed (codes "-")) us

module _ (room : ℕ) (inner : Inner → List Lexeme → Read Expr)
    (operand_ok : (ls : List Lexeme) (x : Expr) (us : List Lexeme) → inner operand ls ≡ Ok (x, us) → Un placed ls us x)
    (post_ok : (ls : List Lexeme) (x : Expr) (us : List Lexeme) → post_with room inner ls ≡ Ok (x, us) → Post placed ls us x) where
  shown_not : (t : Lexeme) (ls mid us : List Lexeme) (x : Expr) → Is "!" t → ls ≡ t ∷ mid → Un placed mid us x → Un placed ls us (expr (place_of ls) (negation x))
  shown_not t ls mid us x i e d = rw e (not i d)

  shown_opposite : (t : Lexeme) (ls mid us : List Lexeme) (x : Expr) → Is "-" t → ls ≡ t ∷ mid → Un placed mid us x → Un placed ls us (expr (place_of ls) (minus x))
  shown_opposite t ls mid us x i e d = rw e (opposite i d)

  -- Un = ("!" | "-") Un | Post
  pub un_ok : (ls : List Lexeme) (x : Expr) (us : List Lexeme) → un_with room inner ls ≡ Ok (x, us) → Un placed ls us x
  unfolding un_with
  un_ok ls x us h = by_cond (sees (fixed (codes "!")) ls) _ _ (x, us) h
      (λ s q. let k = seen_ok (fixed (codes "!")) ls s in
      let r = read_as_ok _ (inner operand (drop 1 ls)) x us q in
      rw (← r.is) (shown_not k.token ls (drop 1 ls) us r.value k.is k.there (operand_ok (drop 1 ls) r.value us r.reads)))
      (λ no q. by_cond (sees (fixed (codes "-")) ls) _ _ (x, us) q
      (λ s q. let k = seen_ok (fixed (codes "-")) ls s in
      let r = read_as_ok _ (inner operand (drop 1 ls)) x us q in
      rw (← r.is) (shown_opposite k.token ls (drop 1 ls) us r.value k.is k.there (operand_ok (drop 1 ls) r.value us r.reads)))
      (λ no q. un_post (post_ok ls x us q)))

  -- Prod = Un {"*" Un}
  factors_ok : (ls us : List Lexeme) (xs : List Expr) → factors_with room inner ls ≡ Ok (xs, us) → IsSome products (Factors placed) ls us xs
  unfolding factors_with
  factors_ok = run_tree (fixed (codes "*")) (un_with room inner) (λ ls us x. Un placed ls us x) (IsSome products (Factors placed)) un_ok
      (λ ls us x d. (factors_last d, refl)) (λ ls us vs t x y xs d i r. (factors_more d i r.0, refl))

  pub prod_ok : (ls : List Lexeme) (x : Expr) (us : List Lexeme) → prod_with room inner ls ≡ Ok (x, us) → Prod placed ls us x
  unfolding prod_with
  prod_ok ls x us h =
      let r = read_as_ok _ (factors_with room inner ls) x us h in
      let d = factors_ok ls us r.value r.reads in
      rw (← r.is) (prod_run d.0 d.1)

  shown_plus : (t : Lexeme) (ls mid us : List Lexeme) (x : Expr) → Is "+" t → ls ≡ t ∷ mid → Prod placed mid us x → TermAt ls us (Plus x)
  shown_plus t ls mid us x i e d = rw e (by_plus i d)

  shown_less : (t : Lexeme) (ls mid us : List Lexeme) (x : Expr) → Is "-" t → ls ≡ t ∷ mid → Prod placed mid us x → TermAt ls us (Less x)
  shown_less t ls mid us x i e d = rw e (by_less i d)

  term_ok : (ls us : List Lexeme) (m : Term) → IsTrue (sees (fixed (codes "+")) ls || sees (fixed (codes "-")) ls) → term_with room inner ls ≡ Ok (m, us) → TermAt ls us m
  unfolding term_with
  term_ok ls us m b h = by_cond (sees (fixed (codes "+")) ls) _ _ (m, us) h
      (λ s q. let k = seen_ok (fixed (codes "+")) ls s in
      let r = read_as_ok _ (prod_with room inner (drop 1 ls)) m us q in
      rw (← r.is) (shown_plus k.token ls (drop 1 ls) us r.value k.is k.there (prod_ok (drop 1 ls) r.value us r.reads)))
      (λ no q. let k = seen_ok (fixed (codes "-")) ls (other_two (sees (fixed (codes "+")) ls) (sees (fixed (codes "-")) ls) b no) in
      let r = read_as_ok _ (prod_with room inner (drop 1 ls)) m us q in
      rw (← r.is) (shown_less k.token ls (drop 1 ls) us r.value k.is k.there (prod_ok (drop 1 ls) r.value us r.reads)))

  terms_from : (ls mid us : List Lexeme) (m : Term) (ms : List Term) → TermAt ls mid m → Items a_term (term_with room inner) mid us ms → Terms' placed ls us (terms_of (m ∷ ms))
  terms_from ls mid us m [] (by_plus i d) none = last_plus i d
  terms_from ls mid us m [] (by_less i d) none = last_less i d
  terms_from ls mid us m (o ∷ ms) (by_plus i d) (next {rest = rest} b h r) = more_plus i d (terms_from mid rest us o ms (term_ok mid rest o b h) r)
  terms_from ls mid us m (o ∷ ms) (by_less i d) (next {rest = rest} b h r) = more_less i d (terms_from mid rest us o ms (term_ok mid rest o b h) r)

  -- Sum = Prod {("+" | "-") Prod}
  sum_from : (ls rest us : List Lexeme) (x : Expr) (ms : List Term) → Prod placed ls rest x → Items a_term (term_with room inner) rest us ms → Sum placed ls us (sum_of x ms)
  sum_from ls rest us x [] d none = sum_alone d
  sum_from ls [] us x (m ∷ ms) d (next b h r) = absurd (cc (b))
  sum_from ls (t ∷ ts) us x (m ∷ ms) d (next {rest = mid} b h r) = sum_more d (terms_from (t ∷ ts) mid us m ms (term_ok (t ∷ ts) mid m b h) r)

  pub sum_ok : (ls : List Lexeme) (x : Expr) (us : List Lexeme) → sum_with room inner ls ≡ Ok (x, us) → Sum placed ls us x
  unfolding sum_with terms_with
  sum_ok ls x us h =
      let f = followed_ok (prod_with room inner ls) _ (x, us) h in
      let r = read_as_ok _ (terms_with room inner f.rest) x us f.then in
      rw (← r.is) (sum_from ls f.rest us f.first r.value (prod_ok ls f.first f.rest f.reads) (items_ok a_term (term_with room inner) f.rest us r.value r.reads))

  -- Rel = Sum [("==" | "!=" | "<" | "<=" | ">" | ">=") Sum]
  compared_ok : (ls rest us : List Lexeme) (x y : Expr) (r : Option Relation) → relation_at rest ≡ r → Sum placed ls rest x → compared (sum_with room inner) x r rest ≡ Ok (y, us) → Rel placed ls us y
  compared_ok ls rest us x y None e d h =
      let s = same_found x y rest us h in
      rw (← s.0, ← s.1) (rel_alone d)
  compared_ok ls [] us x y (Some r) e d h = absurd (cc (e))
  compared_ok ls (t ∷ ts) us x y (Some r) e d h =
      let k = read_as_ok _ (sum_with room inner ts) y us h in
      let i = sign_of t r (reads (codes "==") t) (reads (codes "!=") t) (reads (codes "<") t) (reads (codes "<=") t) (reads (codes ">") t) (reads (codes ">=") t) refl refl refl refl refl refl e in
      rw (← k.is) (rel_both d i (sum_ok ts k.value us k.reads))

  pub rel_ok : (ls : List Lexeme) (x : Expr) (us : List Lexeme) → rel_with room inner ls ≡ Ok (x, us) → Rel placed ls us x
  unfolding rel_with
  rel_ok ls x us h =
      let f = followed_ok (sum_with room inner ls) _ (x, us) h in
      compared_ok ls f.rest us f.first x (relation_at f.rest) refl (sum_ok ls f.first f.rest f.reads) f.then

  -- Log = Rel ({"&&" Rel} | {"||" Rel})
  ands_from : (ls rest us : List Lexeme) (x : Expr) (xs : List Expr) → rel_with room inner ls ≡ Ok (x, rest) → Behind (fixed (codes "&&")) (rel_with room inner) rest us xs → IsSome ands (Ands placed) ls us (x ∷ xs)
  ands_from = run_from (fixed (codes "&&")) (rel_with room inner) (λ ls us x. Rel placed ls us x) (IsSome ands (Ands placed)) rel_ok
      (λ ls us x d. (ands_last d, refl)) (λ ls us vs t x y xs d i r. (ands_more d i r.0, refl))

  ors_from : (ls rest us : List Lexeme) (x : Expr) (xs : List Expr) → rel_with room inner ls ≡ Ok (x, rest) → Behind (fixed (codes "||")) (rel_with room inner) rest us xs → IsSome ors (Ors placed) ls us (x ∷ xs)
  ors_from = run_from (fixed (codes "||")) (rel_with room inner) (λ ls us x. Rel placed ls us x) (IsSome ors (Ors placed)) rel_ok
      (λ ls us x d. (ors_last d, refl)) (λ ls us vs t x y xs d i r. (ors_more d i r.0, refl))

  pub log_ok : (ls : List Lexeme) (x : Expr) (us : List Lexeme) → log_with room inner ls ≡ Ok (x, us) → Log placed ls us x
  unfolding log_with rels_with
  log_ok ls x us h =
      let f = followed_ok (rel_with room inner ls) _ (x, us) h in
      by_cond (sees (fixed (codes "&&")) f.rest) _ _ (x, us) f.then
      (λ s q. let r = read_as_ok _ (read_behind (fixed (codes "&&")) (rel_with room inner) f.rest) x us q in
      let d = ands_from ls f.rest us f.first r.value f.reads (behind_ok (fixed (codes "&&")) (rel_with room inner) f.rest us r.value r.reads) in
      rw (← r.is) (by_and d.0 d.1))
      (λ no q. let r = read_as_ok _ (read_behind (fixed (codes "||")) (rel_with room inner) f.rest) x us q in
      let d = ors_from ls f.rest us f.first r.value f.reads (behind_ok (fixed (codes "||")) (rel_with room inner) f.rest us r.value r.reads) in
      rw (← r.is) (by_or d.0 d.1))

  -- Imp = Log ["==>" Imp]
  chain_ok : (ls us : List Lexeme) (xs : List Expr) → read_run (fixed (codes "==>")) (log_with room inner) ls ≡ Ok (xs, us) → IsSome implies (Chain placed) ls us xs
  chain_ok = run_tree (fixed (codes "==>")) (log_with room inner) (λ ls us x. Log placed ls us x) (IsSome implies (Chain placed)) log_ok
      (λ ls us x d. (chain_last d, refl)) (λ ls us vs t x y xs d i r. (chain_more d i r.0, refl))

  pub imp_ok : (ls : List Lexeme) (x : Expr) (us : List Lexeme) → imp_with room inner ls ≡ Ok (x, us) → Imp placed ls us x
  unfolding imp_with
  imp_ok ls x us h =
      let r = read_as_ok _ (read_run (fixed (codes "==>")) (log_with room inner) ls) x us h in
      let d = chain_ok ls us r.value r.reads in
      rw (← r.is) (imp_run d.0 d.1)

  -- E = Imp {"<==>" Imp}
  iffs_ok : (ls us : List Lexeme) (xs : List Expr) → read_run (fixed (codes "<==>")) (imp_with room inner) ls ≡ Ok (xs, us) → IsSome iffs (Iffs placed) ls us xs
  iffs_ok = run_tree (fixed (codes "<==>")) (imp_with room inner) (λ ls us x. Imp placed ls us x) (IsSome iffs (Iffs placed)) imp_ok
      (λ ls us x d. (iffs_last d, refl)) (λ ls us vs t x y xs d i r. (iffs_more d i r.0, refl))

  pub e_ok : (ls : List Lexeme) (x : Expr) (us : List Lexeme) → e_with room inner ls ≡ Ok (x, us) → E placed ls us x
  unfolding e_with
  e_ok ls x us h =
      let r = read_as_ok _ (read_run (fixed (codes "<==>")) (imp_with room inner) ls) x us h in
      let d = iffs_ok ls us r.value r.reads in
      rw (← r.is) (e_run d.0 d.1)
