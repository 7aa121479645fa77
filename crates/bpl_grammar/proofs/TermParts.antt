-- Expressions, taken apart as they are read, from operands on, and the tokens that go on with them.
use Rattle.std.specs.Prelude.{◌≡◌, false, List, [], ◌∷◌, codes, IsTrue, Some, None}
use Rattle.std.proofs.Common.{refl, ap, sym, ◌∙◌}
use Rattle.bpl_grammar.proofs.Booleans.{or_first, or_second}
use Rattle.bpl_ast.specs.Tree.{Relation, Expr, expr, sums, Exprs, no_exprs, item as one_more, Terms, plus, less, Node, first_place, run}
use Rattle.bpl_ast.specs.ExprView.{exprs_of, terms_of}
use Rattle.bpl_ast.specs.declared.expr.Term.{Term}
use Rattle.bpl_ast.specs.declared.expr.Term.TheVariants.{Plus, Less}
use Rattle.bpl_grammar.specs.Lexeme.{Lexeme}
use Rattle.bpl_grammar.specs.Terminal.{Terminal, fixed, is, sees_any}
use Rattle.bpl_grammar.specs.ReadExpressions.{joined, sum_of, relation_at}
use Rattle.bpl_grammar.specs.Types.{Is}
use Rattle.bpl_grammar.specs.Expressions.{IsRelation, is_eq, is_ne, is_lt, is_le, is_gt, is_ge, Iffs, Imp, Chain, Log, Ands, Ors, Rel, Sum, Terms', Prod, Factors, Un, iffs_last, iffs_more, chain_last, chain_more, ands_last, ands_more, ors_last, ors_more, sum_alone, sum_more, last_plus, last_less, more_plus, more_less, factors_last, factors_more}
use Rattle.bpl_grammar.proofs.TypeTrees.{placed}
use Rattle.bpl_grammar.proofs.TermTrees.{joined_run, TermAt, by_plus, by_less, a_term}
use Rattle.bpl_grammar.proofs.Spelled.{other}
use Rattle.bpl_grammar.proofs.Unique.{Goes, quiet_head, quiet_tail, quiet_behind, goes_tail, Rep, ended, further, IsParted, part_last, part_more}

-- the tokens that go on with a part of an expression

abbrev pub call_goers : List Terminal
call_goers = fixed (codes "(") ∷ []

abbrev pub post_goers : List Terminal
post_goers = fixed (codes "[") ∷ call_goers

abbrev pub prod_goers : List Terminal
prod_goers = fixed (codes "*") ∷ post_goers

abbrev pub sum_goers : List Terminal
sum_goers = fixed (codes "+") ∷ fixed (codes "-") ∷ prod_goers

abbrev ge_goers : List Terminal
ge_goers = fixed (codes ">=") ∷ sum_goers

abbrev gt_goers : List Terminal
gt_goers = fixed (codes ">") ∷ ge_goers

abbrev le_goers : List Terminal
le_goers = fixed (codes "<=") ∷ gt_goers

abbrev lt_goers : List Terminal
lt_goers = fixed (codes "<") ∷ le_goers

abbrev ne_goers : List Terminal
ne_goers = fixed (codes "!=") ∷ lt_goers

abbrev pub rel_goers : List Terminal
rel_goers = fixed (codes "==") ∷ ne_goers

abbrev pub log_goers : List Terminal
log_goers = fixed (codes "&&") ∷ fixed (codes "||") ∷ rel_goers

abbrev pub imp_goers : List Terminal
imp_goers = fixed (codes "==>") ∷ log_goers

abbrev pub e_goers : List Terminal
e_goers = fixed (codes "<==>") ∷ imp_goers

joined_of : (f : Exprs → Node) (xs : List Expr) (x : Expr) → run f (exprs_of xs) ≡ Some x → x ≡ joined f xs
joined_of f [] x h = absurd (cc (h))
joined_of f (y ∷ ys) x h = cc (h, joined_run f y ys)

pub same_run : (f : Exprs → Node) (e : Exprs) (ys : List Expr) (x : Expr) → run f e ≡ Some x → e ≡ exprs_of ys → x ≡ joined f ys
same_run f e ys x h q = joined_of f ys x (ap (run f) (sym q) ∙ h)

-- the parts of runs

pub parts_last : (c : Terminal) (P : List Lexeme → List Lexeme → Expr → Type 0) (ls us : List Lexeme) (x : Expr) → P ls us x → IsParted exprs_of c P ls us (one_more x no_exprs)
parts_last c P ls us x d = part_last exprs_of c P ls us x d

pub parts_more : (c : Terminal) (P : List Lexeme → List Lexeme → Expr → Type 0) (t : Lexeme) (ls mid us : List Lexeme) (x : Expr) (e : Exprs) → P ls (t ∷ mid) x → IsTrue (is c t) → IsParted exprs_of c P mid us e → IsParted exprs_of c P ls us (one_more x e)
parts_more c P t ls mid us x e d i r = part_more exprs_of one_more (λ x xs. refl) c P t ls mid us x e d i r

pub factors_parts : {ls us : List Lexeme} {e : Exprs} → Factors placed ls us e → IsParted exprs_of (fixed (codes "*")) (Un placed) ls us e
factors_parts (factors_last {ts = ts} {us = us} {x = x} d) = parts_last (fixed (codes "*")) (Un placed) ts us x d
factors_parts (factors_more {t = t} {ts = ts} {us = us} {vs = vs} {x = x} {xs = xs} d i r) = parts_more (fixed (codes "*")) (Un placed) t ts us vs x xs d i (factors_parts r)

pub ands_parts : {ls us : List Lexeme} {e : Exprs} → Ands placed ls us e → IsParted exprs_of (fixed (codes "&&")) (Rel placed) ls us e
ands_parts (ands_last {ts = ts} {us = us} {x = x} d) = parts_last (fixed (codes "&&")) (Rel placed) ts us x d
ands_parts (ands_more {t = t} {ts = ts} {us = us} {vs = vs} {x = x} {xs = xs} d i r) = parts_more (fixed (codes "&&")) (Rel placed) t ts us vs x xs d i (ands_parts r)

pub ors_parts : {ls us : List Lexeme} {e : Exprs} → Ors placed ls us e → IsParted exprs_of (fixed (codes "||")) (Rel placed) ls us e
ors_parts (ors_last {ts = ts} {us = us} {x = x} d) = parts_last (fixed (codes "||")) (Rel placed) ts us x d
ors_parts (ors_more {t = t} {ts = ts} {us = us} {vs = vs} {x = x} {xs = xs} d i r) = parts_more (fixed (codes "||")) (Rel placed) t ts us vs x xs d i (ors_parts r)

pub chain_parts : {ls us : List Lexeme} {e : Exprs} → Chain placed ls us e → IsParted exprs_of (fixed (codes "==>")) (Log placed) ls us e
chain_parts (chain_last {ts = ts} {us = us} {x = x} d) = parts_last (fixed (codes "==>")) (Log placed) ts us x d
chain_parts (chain_more {t = t} {ts = ts} {us = us} {vs = vs} {x = x} {xs = xs} d i r) = parts_more (fixed (codes "==>")) (Log placed) t ts us vs x xs d i (chain_parts r)

pub iffs_parts : {ls us : List Lexeme} {e : Exprs} → Iffs placed ls us e → IsParted exprs_of (fixed (codes "<==>")) (Imp placed) ls us e
iffs_parts (iffs_last {ts = ts} {us = us} {x = x} d) = parts_last (fixed (codes "<==>")) (Imp placed) ts us x d
iffs_parts (iffs_more {t = t} {ts = ts} {us = us} {vs = vs} {x = x} {xs = xs} d i r) = parts_more (fixed (codes "<==>")) (Imp placed) t ts us vs x xs d i (iffs_parts r)

-- terms

record TermsOf (ls us : List Lexeme) (ts : Terms) : Type 0 where
  first : Term
  others : List Term
  rep : Rep a_term TermAt ls us (first ∷ others)
  same : terms_of (first ∷ others) ≡ ts

plus_begins : (t : Lexeme) (ts : List Lexeme) → Is "+" t → IsTrue (a_term (t ∷ ts))
plus_begins t ts i = or_first (is (fixed (codes "+")) t) (is (fixed (codes "-")) t) i

less_begins : (t : Lexeme) (ts : List Lexeme) → Is "-" t → IsTrue (a_term (t ∷ ts))
less_begins t ts i = or_second (is (fixed (codes "+")) t) (is (fixed (codes "-")) t) i

terms_parts : {ls us : List Lexeme} {ts : Terms} → Terms' placed ls us ts → TermsOf ls us ts
terms_parts (last_plus {t = t} {ts = ts} {x = x} i d) = record { first = Plus x; others = []; rep = further (plus_begins t ts i) (by_plus i d) ended; same = refl }
terms_parts (last_less {t = t} {ts = ts} {x = x} i d) = record { first = Less x; others = []; rep = further (less_begins t ts i) (by_less i d) ended; same = refl }
terms_parts (more_plus {t = t} {ts = ts} {x = x} i d r) =
    let p = terms_parts r in
    record { first = Plus x; others = p.first ∷ p.others; rep = further (plus_begins t ts i) (by_plus i d) p.rep; same = ap (plus x) p.same }
terms_parts (more_less {t = t} {ts = ts} {x = x} i d r) =
    let p = terms_parts r in
    record { first = Less x; others = p.first ∷ p.others; rep = further (less_begins t ts i) (by_less i d) p.rep; same = ap (less x) p.same }

-- a sum and its terms
pub record SumOf (ls us : List Lexeme) (z : Expr) : Type 0 where
  pub first : Expr
  pub middle : List Lexeme
  pub others : List Term
  pub there : Prod placed ls middle first
  pub behind : Rep a_term TermAt middle us others
  pub same : sum_of first others ≡ z

pub sum_parts : {ls us : List Lexeme} {z : Expr} → Sum placed ls us z → SumOf ls us z
sum_parts (sum_alone {us = us} {x = x} d) = record { first = x; middle = us; others = []; there = d; behind = ended; same = refl }
sum_parts (sum_more {t = t} {us = us} {x = x} d r) =
    let p = terms_parts r in
    record { first = x; middle = t ∷ us; others = p.first ∷ p.others; there = d; behind = p.rep; same = ap (λ ts. expr (first_place x) (sums x ts)) p.same }

-- relations

pub relation_is : (t : Lexeme) (r : Relation) (ts : List Lexeme) → IsRelation t r → relation_at (t ∷ ts) ≡ Some r
relation_is t r ts (is_eq i) = rw i refl
relation_is t r ts (is_ne i) = rw (other (fixed (codes "!=")) (fixed (codes "==")) t i refl, i) refl
relation_is t r ts (is_lt i) = rw (other (fixed (codes "<")) (fixed (codes "==")) t i refl, other (fixed (codes "<")) (fixed (codes "!=")) t i refl, i) refl
relation_is t r ts (is_le i) = rw (other (fixed (codes "<=")) (fixed (codes "==")) t i refl, other (fixed (codes "<=")) (fixed (codes "!=")) t i refl, other (fixed (codes "<=")) (fixed (codes "<")) t i refl, i) refl
relation_is t r ts (is_gt i) = rw (other (fixed (codes ">")) (fixed (codes "==")) t i refl, other (fixed (codes ">")) (fixed (codes "!=")) t i refl, other (fixed (codes ">")) (fixed (codes "<")) t i refl, other (fixed (codes ">")) (fixed (codes "<=")) t i refl, i) refl
relation_is t r ts (is_ge i) = rw (other (fixed (codes ">=")) (fixed (codes "==")) t i refl, other (fixed (codes ">=")) (fixed (codes "!=")) t i refl, other (fixed (codes ">=")) (fixed (codes "<")) t i refl, other (fixed (codes ">=")) (fixed (codes "<=")) t i refl, other (fixed (codes ">=")) (fixed (codes ">")) t i refl, i) refl

pub relation_quiet : (t : Lexeme) (r : Relation) (ts : List Lexeme) → IsRelation t r → sees_any sum_goers (t ∷ ts) ≡ false
relation_quiet t r ts (is_eq i) = quiet_behind (fixed (codes "==")) sum_goers (t ∷ ts) refl i
relation_quiet t r ts (is_ne i) = quiet_behind (fixed (codes "!=")) sum_goers (t ∷ ts) refl i
relation_quiet t r ts (is_lt i) = quiet_behind (fixed (codes "<")) sum_goers (t ∷ ts) refl i
relation_quiet t r ts (is_le i) = quiet_behind (fixed (codes "<=")) sum_goers (t ∷ ts) refl i
relation_quiet t r ts (is_gt i) = quiet_behind (fixed (codes ">")) sum_goers (t ∷ ts) refl i
relation_quiet t r ts (is_ge i) = quiet_behind (fixed (codes ">=")) sum_goers (t ∷ ts) refl i

pub no_relation : (us : List Lexeme) → sees_any rel_goers us ≡ false → relation_at us ≡ None
no_relation us h =
    let t1 : sees_any ne_goers us ≡ false = quiet_tail (fixed (codes "==")) ne_goers us h in
    let t2 : sees_any lt_goers us ≡ false = quiet_tail (fixed (codes "!=")) lt_goers us t1 in
    let t3 : sees_any le_goers us ≡ false = quiet_tail (fixed (codes "<")) le_goers us t2 in
    let t4 : sees_any gt_goers us ≡ false = quiet_tail (fixed (codes "<=")) gt_goers us t3 in
    let t5 : sees_any ge_goers us ≡ false = quiet_tail (fixed (codes ">")) ge_goers us t4 in
    rw (quiet_head (fixed (codes "==")) ne_goers us h, quiet_head (fixed (codes "!=")) lt_goers us t1, quiet_head (fixed (codes "<")) le_goers us t2, quiet_head (fixed (codes "<=")) gt_goers us t3, quiet_head (fixed (codes ">")) ge_goers us t4, quiet_head (fixed (codes ">=")) sum_goers us t5) refl

pub goes_sum : (us vs : List Lexeme) → Goes rel_goers us vs → Goes sum_goers us vs
goes_sum us vs q =
    goes_tail (fixed (codes ">=")) sum_goers us vs (goes_tail (fixed (codes ">")) ge_goers us vs (goes_tail (fixed (codes "<=")) gt_goers us vs
    (goes_tail (fixed (codes "<")) le_goers us vs (goes_tail (fixed (codes "!=")) lt_goers us vs (goes_tail (fixed (codes "==")) ne_goers us vs q)))))

pub goes_rel : (us vs : List Lexeme) → Goes log_goers us vs → Goes rel_goers us vs
goes_rel us vs q = goes_tail (fixed (codes "||")) rel_goers us vs (goes_tail (fixed (codes "&&")) (fixed (codes "||") ∷ rel_goers) us vs q)
