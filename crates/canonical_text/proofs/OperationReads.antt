-- Comparisons, sums, prefix signs and indices are read back.
use Rattle.std.specs.Prelude.{◌≡◌, ℕ, ◌<◌, ◌≤◌, Bool, false, ◌||◌, codes, List, [], ◌∷◌, IsTrue, Ok, Option, Some, None}
use Rattle.std.proofs.Common.{refl, arith}
use Rattle.bv_base.specs.declared.place.Place.{Place}
use Rattle.bpl_ast.specs.Tree.{Relation, eq, ne, lt, le, gt, ge, Expr, expr, related, sums, Terms, no_terms, plus, less, first_place}
use Rattle.bpl_ast.specs.ExprView.{terms_of}
use Rattle.bpl_ast.specs.declared.expr.Term.{Term}
use Rattle.bpl_ast.specs.declared.expr.Term.TheVariants.{Plus, Less}
use Rattle.canonical_text.specs.declared.level.Level.{Level}
use Rattle.canonical_text.specs.declared.level.Level.TheVariants.{Comparison, Sum, Product}
use Rattle.canonical_text.specs.Level.{rank}
use Rattle.canonical_text.specs.declared.sign.Sign.{Sign}
use Rattle.canonical_text.specs.declared.sign.Sign.TheVariants.{IffSign, ImpliesSign, AndSign, OrSign, RelationSign, TermSign, FactorSign, IndexSign}
use Rattle.canonical_text.specs.Glyph.{word}
use Rattle.canonical_text.specs.Expression.{relation, operand, behind_term, terms}
use Rattle.bpl_grammar.specs.Lexeme.{Lexeme}
use Rattle.bpl_grammar.specs.Terminal.{fixed, sees}
use Rattle.bpl_grammar.specs.Reading.{repeated}
use Rattle.bpl_grammar.specs.ReadExpressions.{sum_of, relation_at, read_inner, term_with, terms_with, sum_with, rel_with}
use Rattle.canonical_text.specs.Same.{start, bare, bare_terms}
use Rattle.canonical_text.specs.WrittenExpression.{some_terms}
use Rattle.canonical_text.specs.Nestings.{operand_depth, terms_depth}
use Rattle.canonical_text.specs.Spelled.{token, Spelled, done, next}
use Rattle.canonical_text.specs.Ahead.{sign_level, is_sign, ahead, stops, stops_operand}
use Rattle.canonical_text.proofs.Parts.{split, spelled_length, Items, stop, step, items_repeated}
use Rattle.canonical_text.proofs.Levels.{reader_at, ReadsAt}
use Rattle.canonical_text.proofs.Stopping.{unseen, is_ahead}
use Rattle.canonical_text.proofs.Operands.{OperandReads, NodeReads}
use Rattle.canonical_text.proofs.RunReads.{low_stops}

-- the sign stands lower than a level
abbrev pub IsLow : Level → Option Sign → Type 0
IsLow w None = Unit {0}
IsLow w (Some q) = rank (sign_level q) < rank w

pub low_operand : (w : Level) (s : Option Sign) (x : Expr) → IsLow w s → IsTrue (stops_operand w s x)
low_operand w None x h = refl
low_operand w (Some q) x h = low_stops w q x h

-- comparisons

relation_low : (s : Option Sign) (o : Relation) (x y : Expr) → IsTrue (stops Comparison s (related o x y)) → IsLow Sum s
relation_low None o x y h = tt
relation_low (Some IffSign) o x y h = omega arith
relation_low (Some ImpliesSign) o x y h = omega arith
relation_low (Some AndSign) o x y h = omega arith
relation_low (Some OrSign) o x y h = omega arith
relation_low (Some RelationSign) o x y h = omega arith
relation_low (Some TermSign) o x y h = absurd (cc)
relation_low (Some FactorSign) o x y h = absurd (cc)
relation_low (Some IndexSign) o x y h = absurd (cc)

relation_ahead : (o : Relation) (p : Place) (us : List Lexeme) → IsTrue (ahead (Some RelationSign) (token p (relation o) ∷ us))
relation_ahead eq p us = refl
relation_ahead ne p us = refl
relation_ahead lt p us = refl
relation_ahead le p us = refl
relation_ahead gt p us = refl
relation_ahead ge p us = refl

relation_seen : (o : Relation) (p : Place) (us : List Lexeme) → relation_at (token p (relation o) ∷ us) ≡ Some o
relation_seen eq p us = refl
relation_seen ne p us = refl
relation_seen lt p us = refl
relation_seen le p us = refl
relation_seen gt p us = refl
relation_seen ge p us = refl

related_read : (room : ℕ) (o : Relation) (p : Place) (ls ms us : List Lexeme) (x y : Expr) → reader_at Sum room ls ≡ Ok (x, token p (relation o) ∷ ms) → reader_at Sum room ms ≡ Ok (y, us) → reader_at Comparison room ls ≡ Ok (expr (first_place x) (related o x y), us)
unfolding rel_with
related_read room o p ls ms us x y h k = rw (h, relation_seen o p ms, k) refl

related_by : (room : ℕ) (o : Relation) (p : Place) (ls ms us : List Lexeme) (x y : Expr) → ReadsAt Sum room ls (token p (relation o) ∷ ms) x → ReadsAt Sum room ms us y → ReadsAt Comparison room ls us (expr start (related o x y))
related_by room o p ls ms us x y a b = record {
  value = expr (first_place a.value) (related o a.value b.value);
  reads = related_read room o p ls ms us a.value b.value a.reads b.reads;
  same = λ i. expr start (related o (a.same i) (b.same i));
  unsigned = λ h. absurd (omega (arith, h));
  unbarred = a.unbarred;
}

pub related_reads : (o : Relation) (x y : Expr) → OperandReads x → OperandReads y → NodeReads (related o x y)
related_reads o x y rx ry s room ls us d c h k g =
    let f = split (operand Sum (Some RelationSign) x) (relation o ∷ operand Sum s y) g in
    second f.middle f.first f.second
  where
    second : (ms : List Lexeme) → Spelled (operand Sum (Some RelationSign) x) ls ms → Spelled (relation o ∷ operand Sum s y) ms us → ReadsAt Comparison room ls us (expr start (related o x y))
    second ms fx (next {ls = rest} p fy) =
        related_by room o p ls rest us x y
        (rx Sum (Some RelationSign) room ls (token p (relation o) ∷ rest) (omega (arith, d)) (low_stops Sum RelationSign x (omega arith)) (relation_ahead o p rest) fx)
        (ry Sum s room rest us (omega (arith, d)) (low_operand Sum s y (relation_low s o x y h)) k fy)

-- sums

abbrev pub EachTerm : Terms → Type 0
EachTerm no_terms = Unit {0}
EachTerm (plus x ts) = OperandReads x × EachTerm ts
EachTerm (less x ts) = OperandReads x × EachTerm ts

abbrev begins_term : List Lexeme → Bool
begins_term us = sees (fixed (codes "+")) us || sees (fixed (codes "-")) us

record TermItems (room : ℕ) (ls us : List Lexeme) (ts : Terms) : Type 0 where
  pub values : List Term
  pub reads : Items begins_term (term_with room (read_inner room)) ls us values
  pub same : bare_terms (terms_of values) ≡ bare_terms ts

plus_read : (room : ℕ) (p : Place) (ls us : List Lexeme) (x : Expr) → reader_at Product room ls ≡ Ok (x, us) → term_with room (read_inner room) (token p (word "+") ∷ ls) ≡ Ok (Plus x, us)
unfolding term_with
plus_read room p ls us x h = rw h refl

less_read : (room : ℕ) (p : Place) (ls us : List Lexeme) (x : Expr) → reader_at Product room ls ≡ Ok (x, us) → term_with room (read_inner room) (token p (word "-") ∷ ls) ≡ Ok (Less x, us)
unfolding term_with
less_read room p ls us x h = rw h refl

-- what is behind a part of a sum
term_operand : (s : Option Sign) (room : ℕ) (x : Expr) (ts : Terms) (ls ms us : List Lexeme) → OperandReads x → operand_depth Product (behind_term s ts) x ≤ room → IsLow Sum s → IsTrue (ahead s us) → Spelled (operand Product (behind_term s ts) x) ls ms → Spelled (terms s ts) ms us → ReadsAt Product room ls ms x
term_operand None room x no_terms ls ms us r d h k f done = r Product None room ls us d refl k f
term_operand (Some q) room x no_terms ls ms us r d h k f done = r Product (Some q) room ls us d (low_stops Product q x (omega (arith, h))) k f
term_operand s room x (plus y ts) ls ms us r d h k f (next {ls = rest} p g) = r Product (Some TermSign) room ls (token p (word "+") ∷ rest) d (low_stops Product TermSign x (omega arith)) refl f
term_operand s room x (less y ts) ls ms us r d h k f (next {ls = rest} p g) = r Product (Some TermSign) room ls (token p (word "-") ∷ rest) d (low_stops Product TermSign x (omega arith)) refl f

term_items : (ts : Terms) (s : Option Sign) (room : ℕ) (ls us : List Lexeme) → EachTerm ts → terms_depth s ts ≤ room → IsLow Sum s → IsTrue (ahead s us) → begins_term us ≡ false → Spelled (terms s ts) ls us → TermItems room ls us ts
term_items no_terms s room ls us e d h k z done = record { values = []; reads = stop z; same = refl }
term_items (plus x ts) s room ls us e d h k z (next {ls = rest} p f) =
    let q = split (operand Product (behind_term s ts) x) (terms s ts) f in
    let a = term_operand s room x ts rest q.middle us e.0 (omega (arith, d)) h k q.first q.second in
    let b = term_items ts s room q.middle us e.1 (omega (arith, d)) h k z q.second in
    record {
      values = Plus a.value ∷ b.values;
      reads = step {x = Plus a.value} {xs = b.values} refl (plus_read room p rest q.middle a.value a.reads) (omega (arith, spelled_length q.first)) b.reads;
      same = λ i. plus (a.same i) (b.same i);
    }
term_items (less x ts) s room ls us e d h k z (next {ls = rest} p f) =
    let q = split (operand Product (behind_term s ts) x) (terms s ts) f in
    let a = term_operand s room x ts rest q.middle us e.0 (omega (arith, d)) h k q.first q.second in
    let b = term_items ts s room q.middle us e.1 (omega (arith, d)) h k z q.second in
    record {
      values = Less a.value ∷ b.values;
      reads = step {x = Less a.value} {xs = b.values} refl (less_read room p rest q.middle a.value a.reads) (omega (arith, spelled_length q.first)) b.reads;
      same = λ i. less (a.same i) (b.same i);
    }

sum_read : (room : ℕ) (ls ms us : List Lexeme) (x : Expr) (ts : List Term) → reader_at Product room ls ≡ Ok (x, ms) → repeated begins_term (term_with room (read_inner room)) ms ≡ Ok (ts, us) → reader_at Sum room ls ≡ Ok (sum_of x ts, us)
unfolding sum_with terms_with
sum_read room ls ms us x ts h k = rw (h, k) refl

same_sum : (v x : Expr) (vs : List Term) (ts : Terms) → IsTrue (some_terms ts) → bare v ≡ bare x → bare_terms (terms_of vs) ≡ bare_terms ts → bare (sum_of v vs) ≡ expr start (sums (bare x) (bare_terms ts))
same_sum v x [] no_terms s h k = absurd (cc)
same_sum v x [] (plus y ts) s h k = absurd (cc)
same_sum v x [] (less y ts) s h k = absurd (cc)
same_sum v x (t ∷ vs) ts s h k = λ i. expr start (sums (h i) (k i))

sum_low : (s : Option Sign) (x : Expr) (ts : Terms) → IsTrue (stops Sum s (sums x ts)) → IsLow Sum s
sum_low None x ts h = tt
sum_low (Some IffSign) x ts h = omega arith
sum_low (Some ImpliesSign) x ts h = omega arith
sum_low (Some AndSign) x ts h = omega arith
sum_low (Some OrSign) x ts h = omega arith
sum_low (Some RelationSign) x ts h = omega arith
sum_low (Some TermSign) x ts h = absurd (cc)
sum_low (Some FactorSign) x ts h = absurd (cc)
sum_low (Some IndexSign) x ts h = absurd (cc)

no_term_low : (s : Option Sign) → IsLow Sum s → is_sign TermSign s ≡ false
no_term_low None h = refl
no_term_low (Some IffSign) h = refl
no_term_low (Some ImpliesSign) h = refl
no_term_low (Some AndSign) h = refl
no_term_low (Some OrSign) h = refl
no_term_low (Some RelationSign) h = refl
no_term_low (Some TermSign) h = absurd (omega (arith, h))
no_term_low (Some FactorSign) h = refl
no_term_low (Some IndexSign) h = refl

first_term : (s : Option Sign) (room : ℕ) (x : Expr) (ts : Terms) (ls ms us : List Lexeme) → IsTrue (some_terms ts) → OperandReads x → operand_depth Product (Some TermSign) x ≤ room → IsLow Sum s → IsTrue (ahead s us) → Spelled (operand Product (Some TermSign) x) ls ms → Spelled (terms s ts) ms us → ReadsAt Product room ls ms x
first_term s room x no_terms ls ms us t r d h k f g = absurd (cc)
first_term s room x (plus y ts) ls ms us t r d h k f g = term_operand s room x (plus y ts) ls ms us r d h k f g
first_term s room x (less y ts) ls ms us t r d h k f g = term_operand s room x (less y ts) ls ms us r d h k f g

pub sums_read : (x : Expr) (ts : Terms) → IsTrue (some_terms ts) → OperandReads x → EachTerm ts → NodeReads (sums x ts)
sums_read x ts t rx e s room ls us d c h k g =
    let f = split (operand Product (Some TermSign) x) (terms s ts) g in
    let w = sum_low s x ts h in
    let a = first_term s room x ts ls f.middle us t rx (omega (arith, d)) w k f.first f.second in
    let b = term_items ts s room f.middle us e (omega (arith, d)) w k (unseen _ _ (no_term_low s w) (is_ahead s us k).term) f.second in
    record {
      value = sum_of a.value b.values;
      reads = sum_read room ls f.middle us a.value b.values a.reads (items_repeated _ _ f.middle us b.values b.reads);
      same = same_sum a.value x b.values ts t a.same b.same;
      unsigned = λ i. absurd (omega (arith, i));
      unbarred = a.unbarred;
    }
