-- Prefix signs and indices are read back.
use Rattle.std.specs.Prelude.{◌≡◌, ℕ, zero, suc, ◌<◌, ◌≤◌, false, codes, List, [], ◌∷◌, ◌++◌, length, IsTrue, Ok, Option, Some, None}
use Rattle.std.proofs.Common.{refl, ap, arith}
use Rattle.bv_base.specs.declared.place.Place.{Place}
use Rattle.bpl_ast.specs.Tree.{Expr, expr, negation, minus, indexed, Indices, no_indices, at_index, update}
use Rattle.bpl_ast.specs.ExprView.{indices_of}
use Rattle.bpl_ast.specs.declared.expr.Index.{Index}
use Rattle.bpl_ast.specs.declared.expr.Index.TheVariants.{Read as AtIndex, Write}
use Rattle.canonical_text.specs.declared.level.Level.TheVariants.{Equivalence, Unary, Postfix, Atom}
use Rattle.canonical_text.specs.declared.sign.Sign.{Sign}
use Rattle.canonical_text.specs.declared.sign.Sign.TheVariants.{IffSign, ImpliesSign, AndSign, OrSign, RelationSign, TermSign, FactorSign, IndexSign}
use Rattle.canonical_text.specs.Glyph.{word, closing, prefix, index}
use Rattle.canonical_text.specs.Expression.{operand, indices}
use Rattle.bpl_grammar.specs.Lexeme.{Lexeme}
use Rattle.bpl_grammar.specs.Terminal.{fixed, sees}
use Rattle.bpl_grammar.specs.Reading.{read_as, repeated}
use Rattle.bpl_grammar.specs.ReadExpressions.{indexed_by, read_inner, whole, index_with, indices_with, post_with, un_with}
use Rattle.canonical_text.specs.Same.{start, bare, bare_indices}
use Rattle.canonical_text.specs.WrittenExpression.{some_indices}
use Rattle.canonical_text.specs.Nestings.{operand_depth, indices_depth}
use Rattle.canonical_text.specs.Spelled.{token, Spelled, done, next}
use Rattle.canonical_text.specs.Ahead.{sees_text, is_sign, stops}
use Rattle.canonical_text.proofs.Parts.{split, spelled_length, Items, stop, step, items_repeated}
use Rattle.canonical_text.proofs.Levels.{reader_at, ReadsAt}
use Rattle.canonical_text.proofs.Stopping.{unseen, is_ahead}
use Rattle.canonical_text.proofs.Operands.{OperandReads, NodeReads}
use Rattle.canonical_text.proofs.RunReads.{low_stops}
use Rattle.canonical_text.proofs.OperationReads.{IsLow, low_operand}
use Rattle.canonical_text.proofs.AtomReads.{InnerRead, inner_reads}

-- prefix signs

prefix_low : (s : Option Sign) (x : Expr) → IsTrue (stops Unary s (negation x)) → IsLow Unary s
prefix_low None x h = tt
prefix_low (Some IffSign) x h = omega arith
prefix_low (Some ImpliesSign) x h = omega arith
prefix_low (Some AndSign) x h = omega arith
prefix_low (Some OrSign) x h = omega arith
prefix_low (Some RelationSign) x h = omega arith
prefix_low (Some TermSign) x h = omega arith
prefix_low (Some FactorSign) x h = omega arith
prefix_low (Some IndexSign) x h = absurd (cc)

minus_low : (s : Option Sign) (x : Expr) → IsTrue (stops Unary s (minus x)) → IsLow Unary s
minus_low None x h = tt
minus_low (Some q) x h = prefix_low (Some q) x h

pub negation_read : (room : ℕ) (p : Place) (ls us : List Lexeme) (x : Expr) → reader_at Unary room ls ≡ Ok (x, us) → reader_at Unary (suc room) (token p (prefix (codes "!")) ∷ ls) ≡ Ok (expr p (negation x), us)
unfolding un_with
negation_read room p ls us x h = ap (λ r. read_as (λ y. expr p (negation y)) r) h

minus_read : (room : ℕ) (p : Place) (ls us : List Lexeme) (x : Expr) → reader_at Unary room ls ≡ Ok (x, us) → reader_at Unary (suc room) (token p (prefix (codes "-")) ∷ ls) ≡ Ok (expr p (minus x), us)
unfolding un_with
minus_read room p ls us x h = ap (λ r. read_as (λ y. expr p (minus y)) r) h

pub negation_reads : (x : Expr) → OperandReads x → NodeReads (negation x)
negation_reads x r s zero ls us d c h k g = absurd (omega arith)
negation_reads x r s (suc room) ls us d c h k (next {ls = rest} p g) =
    let a = r Unary s room rest us (omega (arith, d)) (low_operand Unary s x (prefix_low s x h)) k g in
    record {
      value = expr p (negation a.value);
      reads = negation_read room p rest us a.value a.reads;
      same = λ i. expr start (negation (a.same i));
      unsigned = λ i. absurd (omega (arith, i));
      unbarred = refl;
    }

pub minus_reads : (x : Expr) → OperandReads x → NodeReads (minus x)
minus_reads x r s zero ls us d c h k g = absurd (omega arith)
minus_reads x r s (suc room) ls us d c h k (next {ls = rest} p g) =
    let a = r Unary s room rest us (omega (arith, d)) (low_operand Unary s x (minus_low s x h)) k g in
    record {
      value = expr p (minus a.value);
      reads = minus_read room p rest us a.value a.reads;
      same = λ i. expr start (minus (a.same i));
      unsigned = λ i. absurd (omega (arith, i));
      unbarred = refl;
    }

-- indices

abbrev pub EachIndex : Indices → Type 0
EachIndex no_indices = Unit {0}
EachIndex (at_index x is) = OperandReads x × EachIndex is
EachIndex (update x y is) = OperandReads x × OperandReads y × EachIndex is

record IndexItems (room : ℕ) (ls us : List Lexeme) (is : Indices) : Type 0 where
  pub values : List Index
  pub reads : Items (sees (fixed (codes "["))) (index_with room (read_inner room)) ls us values
  pub same : bare_indices (indices_of values) ≡ bare_indices is

at_read : (room : ℕ) (p q : Place) (ls us : List Lexeme) (x : Expr) → read_inner room whole ls ≡ Ok (x, token q (closing "]") ∷ us) → index_with room (read_inner room) (token p index ∷ ls) ≡ Ok (AtIndex x, us)
unfolding index_with
at_read room p q ls us x h = rw h refl

write_read : (room : ℕ) (p q z : Place) (ls ms us : List Lexeme) (x y : Expr) → read_inner room whole ls ≡ Ok (x, token q (word ":=") ∷ ms) → read_inner room whole ms ≡ Ok (y, token z (closing "]") ∷ us) → index_with room (read_inner room) (token p index ∷ ls) ≡ Ok (Write x y, us)
unfolding index_with
write_read room p q z ls ms us x y h k = rw (h, k) refl

abbrev More : ℕ → List Lexeme → Indices → Type 0
More room us is = (ls : List Lexeme) → Spelled (indices is) ls us → IndexItems room ls us is

at_item : (room : ℕ) (p : Place) (x : Expr) (is : Indices) (ls ms us : List Lexeme) → OperandReads x → suc (operand_depth Equivalence None x) ≤ room → More room us is → Spelled (operand Equivalence None x) ls ms → Spelled (closing "]" ∷ indices is) ms us → IndexItems room (token p index ∷ ls) us (at_index x is)
at_item room p x is ls ms us r d more f (next {ls = rest} q g) =
    let a = inner_reads x r None room ls (token q (closing "]") ∷ rest) d refl refl f in
    let b = more rest g in
    record {
      values = AtIndex a.value ∷ b.values;
      reads = step {x = AtIndex a.value} {xs = b.values} refl (at_read room p q ls rest a.value a.reads) (omega (arith, spelled_length f)) b.reads;
      same = λ i. at_index (a.same i) (b.same i);
    }

write_item : (room : ℕ) (p q : Place) (x y : Expr) (is : Indices) (ls ms ns us : List Lexeme) → OperandReads y → suc (operand_depth Equivalence None y) ≤ room → More room us is → InnerRead room ls (token q (word ":=") ∷ ms) x → length ms < length ls → Spelled (operand Equivalence None y) ms ns → Spelled (closing "]" ∷ indices is) ns us
    → IndexItems room (token p index ∷ ls) us (update x y is)
write_item room p q x y is ls ms ns us r d more a l f (next {ls = rest} z g) =
    let c = inner_reads y r None room ms (token z (closing "]") ∷ rest) d refl refl f in
    let b = more rest g in
    record {
      values = Write a.value c.value ∷ b.values;
      reads = step {x = Write a.value c.value} {xs = b.values} refl (write_read room p q z ls ms rest a.value c.value a.reads c.reads) (omega (arith, l, spelled_length f)) b.reads;
      same = λ i. update (a.same i) (c.same i) (b.same i);
    }

written_item : (room : ℕ) (p : Place) (x y : Expr) (is : Indices) (ls ms us : List Lexeme) → OperandReads x → OperandReads y → suc (operand_depth Equivalence None x) ≤ room → suc (operand_depth Equivalence None y) ≤ room → More room us is → Spelled (operand Equivalence None x) ls ms
    → Spelled (word ":=" ∷ (operand Equivalence None y ++ closing "]" ∷ indices is)) ms us → IndexItems room (token p index ∷ ls) us (update x y is)
written_item room p x y is ls ms us r t d e more f (next {ls = rest} q g) =
    let a = inner_reads x r None room ls (token q (word ":=") ∷ rest) d refl refl f in
    let w = split (operand Equivalence None y) (closing "]" ∷ indices is) g in
    write_item room p q x y is ls rest w.middle us t e more a (omega (arith, spelled_length f)) w.first w.second

index_items : (is : Indices) (room : ℕ) (us : List Lexeme) → EachIndex is → indices_depth is ≤ room → sees_text "[" us ≡ false → More room us is
index_items no_indices room us e d z ls done = record { values = []; reads = stop z; same = refl }
index_items (at_index x is) room us e d z ls (next {ls = rest} p g) =
    let f = split (operand Equivalence None x) (closing "]" ∷ indices is) g in
    at_item room p x is rest f.middle us e.0 (omega (arith, d)) (index_items is room us e.1 (omega (arith, d)) z) f.first f.second
index_items (update x y is) room us e d z ls (next {ls = rest} p g) =
    let f = split (operand Equivalence None x) (word ":=" ∷ (operand Equivalence None y ++ closing "]" ∷ indices is)) g in
    written_item room p x y is rest f.middle us e.0 e.1 (omega (arith, d)) (omega (arith, d)) (index_items is room us e.2 (omega (arith, d)) z) f.first f.second

indexed_read : (room : ℕ) (ls ms us : List Lexeme) (x : Expr) (is : List Index) → reader_at Atom room ls ≡ Ok (x, ms) → repeated (sees (fixed (codes "["))) (index_with room (read_inner room)) ms ≡ Ok (is, us) → reader_at Postfix room ls ≡ Ok (indexed_by x is, us)
unfolding post_with indices_with
indexed_read room ls ms us x is h k = rw (h, k) refl

same_indexed : (v x : Expr) (vs : List Index) (is : Indices) → IsTrue (some_indices is) → bare v ≡ bare x → bare_indices (indices_of vs) ≡ bare_indices is → bare (indexed_by v vs) ≡ expr start (indexed (bare x) (bare_indices is))
same_indexed v x [] no_indices s h k = absurd (cc)
same_indexed v x [] (at_index y is) s h k = absurd (cc)
same_indexed v x [] (update y z is) s h k = absurd (cc)
same_indexed v x (t ∷ vs) is s h k = λ i. expr start (indexed (h i) (k i))

not_index : (s : Option Sign) (x : Expr) (is : Indices) → IsTrue (stops Postfix s (indexed x is)) → is_sign IndexSign s ≡ false
not_index None x is h = refl
not_index (Some IffSign) x is h = refl
not_index (Some ImpliesSign) x is h = refl
not_index (Some AndSign) x is h = refl
not_index (Some OrSign) x is h = refl
not_index (Some RelationSign) x is h = refl
not_index (Some TermSign) x is h = refl
not_index (Some FactorSign) x is h = refl
not_index (Some IndexSign) x is h = absurd (cc)

base : (room : ℕ) (x : Expr) (is : Indices) (ls ms us : List Lexeme) → IsTrue (some_indices is) → OperandReads x → operand_depth Atom (Some IndexSign) x ≤ room → Spelled (operand Atom (Some IndexSign) x) ls ms → Spelled (indices is) ms us → ReadsAt Atom room ls ms x
base room x no_indices ls ms us t r d f g = absurd (cc)
base room x (at_index y is) ls ms us t r d f (next {ls = rest} p g) = r Atom (Some IndexSign) room ls (token p index ∷ rest) d (low_stops Atom IndexSign x (omega arith)) refl f
base room x (update y z is) ls ms us t r d f (next {ls = rest} p g) = r Atom (Some IndexSign) room ls (token p index ∷ rest) d (low_stops Atom IndexSign x (omega arith)) refl f

pub indexed_reads : (x : Expr) (is : Indices) → IsTrue (some_indices is) → OperandReads x → EachIndex is → NodeReads (indexed x is)
indexed_reads x is t rx e s room ls us d c h k g =
    let f = split (operand Atom (Some IndexSign) x) (indices is) g in
    let a = base room x is ls f.middle us t rx (omega (arith, d)) f.first f.second in
    let b = index_items is room us e (omega (arith, d)) (unseen _ _ (not_index s x is h) (is_ahead s us k).index) f.middle f.second in
    record {
      value = indexed_by a.value b.values;
      reads = indexed_read room ls f.middle us a.value b.values a.reads (items_repeated _ _ f.middle us b.values b.reads);
      same = same_indexed a.value x b.values is t a.same b.same;
      unsigned = λ i. a.unsigned (omega arith);
      unbarred = a.unbarred;
    }
