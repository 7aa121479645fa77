-- Atoms and indices, taken apart as they are read.
use Rattle.std.specs.Prelude.{◌≡◌, ℕ, ◌^◌, nat_lt, List, [], ◌∷◌, codes, IsTrue, Ok}
use Rattle.std.proofs.Common.{refl, ap, ◌∙◌}
use Rattle.bpl_lex.specs.Token.{number as number_kind}
use Rattle.bpl_ast.specs.Tree.{Expr, expr, Exprs, Indices, first_place, indexed}
use Rattle.bpl_ast.specs.ExprView.{exprs_of, index_of, indices_of}
use Rattle.bpl_ast.specs.declared.expr.Index.{Index as AnIndex}
use Rattle.bpl_ast.specs.declared.expr.Index.TheVariants.{Read as AtIndex, Write}
use Rattle.bpl_grammar.specs.Lexeme.{Lexeme, is_kind}
use Rattle.bpl_grammar.specs.Nesting.{value}
use Rattle.bpl_grammar.specs.Terminal.{fixed, sees}
use Rattle.bpl_grammar.specs.ReadExpressions.{indexed_by, read_number}
use Rattle.bpl_grammar.specs.Types.{Is}
use Rattle.bpl_grammar.specs.Expressions.{E, Es, Atom, Index, Indices', Post, es_last, es_more, read, write, indices_last, indices_more, post_alone, post_more}
use Rattle.bpl_grammar.proofs.Agree.{takes_e, takes_atom}
use Rattle.bpl_grammar.proofs.Found.{same_found}
use Rattle.bpl_grammar.proofs.TypeTrees.{comma, placed}
use Rattle.bpl_grammar.proofs.Items.{by_cond}
use Rattle.bpl_grammar.proofs.TermParts.{parts_last, parts_more}
use Rattle.bpl_grammar.proofs.Suffixes.{Suffix, here, later, past, takes_suffix}
use Rattle.bpl_grammar.proofs.Unique.{Leaves, Rep, ended, further, IsParted}

pub e_leaves : Leaves (E placed)
e_leaves = λ ls us x d. takes_suffix (takes_e placed d)

pub atom_leaves : Leaves (Atom placed)
atom_leaves = λ ls us x d. takes_suffix (takes_atom placed d)

pub number_one : (t : Lexeme) (ts vs : List Lexeme) (v : ℕ) → read_number (t ∷ ts) ≡ Ok (v, vs) → (ts ≡ vs) × (value t.spelling ≡ v)
unfolding read_number
number_one t ts vs v h = by_cond (is_kind number_kind t) _ _ (v, vs) h
    (λ s q. by_cond (nat_lt (value t.spelling) (2 ^ 127)) _ _ (v, vs) q
    (λ low g. let k = same_found (value t.spelling) v ts vs g in (k.1, k.0))
    (λ high g. absurd (cc (g))))
    (λ no q. absurd (cc (q)))

-- indices

pub data IndexAt : List Lexeme → List Lexeme → AnIndex → Type 0 where
  reading : {t u : Lexeme} {ls us : List Lexeme} {x : Expr} → Is "[" t → E placed ls (u ∷ us) x → Is "]" u → IndexAt (t ∷ ls) us (AtIndex x)
  writing : {t u v : Lexeme} {ls mid us : List Lexeme} {x y : Expr} → Is "[" t → E placed ls (u ∷ mid) x → Is ":=" u → E placed mid (v ∷ us) y → Is "]" v → IndexAt (t ∷ ls) us (Write x y)

pub index_leaves : Leaves IndexAt
index_leaves = λ ls us x d. left ls us x d
  where
    left : (ls us : List Lexeme) (x : AnIndex) → IndexAt ls us x → Suffix ls us
    left [] us x d = elim d [ ]
    left (t ∷ ls) us x (reading {u = u} {x = y} i d k) = later (past (e_leaves ls (u ∷ us) y d) (later here))
    left (t ∷ ls) us x (writing {u = u} {v = v} {mid = mid} {x = y} {y = z} i d j e k) = later (past (e_leaves ls (u ∷ mid) y d) (later (past (e_leaves mid (v ∷ us) z e) (later here))))

record OneIndex (ls us : List Lexeme) (f : Indices → Indices) : Type 0 where
  index : AnIndex
  there : IndexAt ls us index
  begins : IsTrue (sees (fixed (codes "[")) ls)
  same : (is : Indices) → index_of index is ≡ f is

an_index : {ls us : List Lexeme} {f : Indices → Indices} → Index placed ls us f → OneIndex ls us f
an_index (read {x = x} i d k) = record { index = AtIndex x; there = reading i d k; begins = i; same = λ is. refl }
an_index (write {x = x} {y = y} i d j e k) = record { index = Write x y; there = writing i d j e k; begins = i; same = λ is. refl }

record IndicesOf (ls us : List Lexeme) (xs : Indices) : Type 0 where
  first : AnIndex
  others : List AnIndex
  rep : Rep (sees (fixed (codes "["))) IndexAt ls us (first ∷ others)
  same : indices_of (first ∷ others) ≡ xs

indices_parts : {ls us : List Lexeme} {xs : Indices} → Indices' placed ls us xs → IndicesOf ls us xs
indices_parts (indices_last d) =
    let i = an_index d in
    record { first = i.index; others = []; rep = further i.begins i.there ended; same = i.same _ }
indices_parts (indices_more {xs = xs} d r) =
    let i = an_index d in
    let p = indices_parts r in
    record { first = i.index; others = p.first ∷ p.others; rep = further i.begins i.there p.rep; same = ap (index_of i.index) p.same ∙ i.same xs }

pub record PostOf (ls us : List Lexeme) (z : Expr) : Type 0 where
  pub first : Expr
  pub middle : List Lexeme
  pub others : List AnIndex
  pub there : Atom placed ls middle first
  pub behind : Rep (sees (fixed (codes "["))) IndexAt middle us others
  pub same : indexed_by first others ≡ z

pub post_parts : {ls us : List Lexeme} {z : Expr} → Post placed ls us z → PostOf ls us z
post_parts (post_alone {us = us} {x = x} d) = record { first = x; middle = us; others = []; there = d; behind = ended; same = refl }
post_parts (post_more {t = t} {us = us} {x = x} d r) =
    let p = indices_parts r in
    record { first = x; middle = t ∷ us; others = p.first ∷ p.others; there = d; behind = p.rep; same = ap (λ is. expr (first_place x) (indexed x is)) p.same }

-- lists

pub es_parts : {ls us : List Lexeme} {e : Exprs} → Es placed ls us e → IsParted exprs_of comma (E placed) ls us e
es_parts (es_last {ts = ts} {us = us} {x = x} d) = parts_last comma (E placed) ts us x d
es_parts (es_more {t = t} {ts = ts} {us = us} {vs = vs} {x = x} {xs = xs} d i r) = parts_more comma (E placed) t ts us vs x xs d i (es_parts r)
