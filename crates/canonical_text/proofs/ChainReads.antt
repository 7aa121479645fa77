-- Chains of operands.
use Rattle.std.specs.Prelude.{◌≡◌, ℕ, Bool, true, false, not, ◌||◌, codes, List, ◌∷◌, IsTrue, Ok, Option, Some, None}
use Rattle.std.proofs.Common.{refl, arith}
use Rattle.bv_base.specs.declared.place.Place.{Place}
use Rattle.canonical_text.specs.declared.level.Level.TheVariants.{Equivalence, Implication, Junction, Comparison, Product, Unary}
use Rattle.canonical_text.specs.Level.{is_looser}
use Rattle.canonical_text.specs.Glyph.{word}
use Rattle.bpl_ast.specs.Tree.{Expr, expr, iffs, implies, ands, ors, products, Exprs}
use Rattle.canonical_text.specs.declared.sign.Sign.{Sign}
use Rattle.canonical_text.specs.declared.sign.Sign.TheVariants.{IffSign, ImpliesSign, AndSign, OrSign, RelationSign, TermSign, FactorSign, IndexSign}
use Rattle.canonical_text.specs.declared.sign.Chain.{Chain}
use Rattle.canonical_text.specs.declared.sign.Chain.TheVariants.{AndChain, OrChain}
use Rattle.canonical_text.specs.Parens.{goes_on, last_chain, last_compared}
use Rattle.bpl_grammar.specs.Lexeme.{Lexeme}
use Rattle.bpl_grammar.specs.Terminal.{fixed}
use Rattle.bpl_grammar.specs.Reading.{read_behind}
use Rattle.bpl_grammar.specs.ReadExpressions.{joined, read_inner, e_with, imp_with, log_with, rels_with, prod_with, factors_with}
use Rattle.canonical_text.specs.Same.{start}
use Rattle.canonical_text.specs.WrittenExpression.{two_exprs}
use Rattle.canonical_text.specs.Spelled.{token}
use Rattle.canonical_text.specs.Ahead.{sign_level, is_sign, stops}
use Rattle.canonical_text.proofs.Ranks.{looser, not_looser}
use Rattle.canonical_text.proofs.Levels.{reader_at, ReadsAt}
use Rattle.canonical_text.proofs.Stopping.{unseen, is_ahead}
use Rattle.canonical_text.proofs.Operands.{NodeReads}
use Rattle.canonical_text.proofs.RunReads.{EachReads, StopsLast, RunIs, run_reads, last_stops, low_last, none_last}

-- the last operand

iff_last : (s : Option Sign) (xs : Exprs) → IsTrue (stops Equivalence s (iffs xs)) → StopsLast Implication s xs
iff_last None xs h = none_last Implication xs
iff_last (Some q) xs h = last_stops Implication q xs (wide (is_looser (sign_level q) Equivalence) (is_looser (sign_level q) Implication) _ refl refl h)
  where
    wide : (a b g : Bool) → is_looser (sign_level q) Equivalence ≡ a → is_looser (sign_level q) Implication ≡ b → IsTrue (a || g) → IsTrue (b || g)
    wide a true g e f h = refl
    wide false false g e f h = h
    wide true false g e f h = absurd (omega (arith, looser (sign_level q) Equivalence e))

implies_last : (s : Option Sign) (xs : Exprs) → IsTrue (stops Implication s (implies xs)) → StopsLast Junction s xs
implies_last None xs h = none_last Junction xs
implies_last (Some q) xs h = last_stops Junction q xs (wide (is_looser (sign_level q) Implication) (is_looser (sign_level q) Junction) _ refl refl h)
  where
    wide : (a b g : Bool) → is_looser (sign_level q) Implication ≡ a → is_looser (sign_level q) Junction ≡ b → IsTrue (a || g) → IsTrue (b || g)
    wide a true g e f h = refl
    wide false false g e f h = h
    wide true false g e f h = absurd (omega (arith, looser (sign_level q) Implication e, not_looser (sign_level q) Junction f))

-- behind && and ||, where a comparison may follow
compared_last : (c d : Chain) (b : Bool) → IsTrue (not (goes_on RelationSign c b)) → IsTrue (not (goes_on RelationSign d b))
compared_last c d true h = refl
compared_last c d false h = absurd (cc)

and_last : (s : Option Sign) (xs : Exprs) → IsTrue (stops Junction s (ands xs)) → StopsLast Comparison s xs
and_last None xs h = none_last Comparison xs
and_last (Some IffSign) xs h = low_last Comparison IffSign xs (omega arith)
and_last (Some ImpliesSign) xs h = low_last Comparison ImpliesSign xs (omega arith)
and_last (Some AndSign) xs h = low_last Comparison AndSign xs (omega arith)
and_last (Some OrSign) xs h = low_last Comparison OrSign xs (omega arith)
and_last (Some RelationSign) xs h = last_stops Comparison RelationSign xs (compared_last AndChain (last_chain Comparison xs) (last_compared Comparison xs) h)
and_last (Some TermSign) xs h = absurd (cc)
and_last (Some FactorSign) xs h = absurd (cc)
and_last (Some IndexSign) xs h = absurd (cc)

or_last : (s : Option Sign) (xs : Exprs) → IsTrue (stops Junction s (ors xs)) → StopsLast Comparison s xs
or_last None xs h = none_last Comparison xs
or_last (Some IffSign) xs h = low_last Comparison IffSign xs (omega arith)
or_last (Some ImpliesSign) xs h = low_last Comparison ImpliesSign xs (omega arith)
or_last (Some AndSign) xs h = low_last Comparison AndSign xs (omega arith)
or_last (Some OrSign) xs h = low_last Comparison OrSign xs (omega arith)
or_last (Some RelationSign) xs h = last_stops Comparison RelationSign xs (compared_last OrChain (last_chain Comparison xs) (last_compared Comparison xs) h)
or_last (Some TermSign) xs h = absurd (cc)
or_last (Some FactorSign) xs h = absurd (cc)
or_last (Some IndexSign) xs h = absurd (cc)

product_last : (s : Option Sign) (xs : Exprs) → IsTrue (stops Product s (products xs)) → StopsLast Unary s xs
product_last None xs h = none_last Unary xs
product_last (Some IffSign) xs h = low_last Unary IffSign xs (omega arith)
product_last (Some ImpliesSign) xs h = low_last Unary ImpliesSign xs (omega arith)
product_last (Some AndSign) xs h = low_last Unary AndSign xs (omega arith)
product_last (Some OrSign) xs h = low_last Unary OrSign xs (omega arith)
product_last (Some RelationSign) xs h = low_last Unary RelationSign xs (omega arith)
product_last (Some TermSign) xs h = low_last Unary TermSign xs (omega arith)
product_last (Some FactorSign) xs h = absurd (cc)
product_last (Some IndexSign) xs h = absurd (cc)

-- the chain's own sign is not ahead

not_iff : (s : Option Sign) (xs : Exprs) → IsTrue (stops Equivalence s (iffs xs)) → is_sign IffSign s ≡ false
not_iff None xs h = refl
not_iff (Some IffSign) xs h = absurd (cc)
not_iff (Some ImpliesSign) xs h = refl
not_iff (Some AndSign) xs h = refl
not_iff (Some OrSign) xs h = refl
not_iff (Some RelationSign) xs h = refl
not_iff (Some TermSign) xs h = refl
not_iff (Some FactorSign) xs h = refl
not_iff (Some IndexSign) xs h = refl

not_implies : (s : Option Sign) (xs : Exprs) → IsTrue (stops Implication s (implies xs)) → is_sign ImpliesSign s ≡ false
not_implies None xs h = refl
not_implies (Some IffSign) xs h = refl
not_implies (Some ImpliesSign) xs h = absurd (cc)
not_implies (Some AndSign) xs h = refl
not_implies (Some OrSign) xs h = refl
not_implies (Some RelationSign) xs h = refl
not_implies (Some TermSign) xs h = refl
not_implies (Some FactorSign) xs h = refl
not_implies (Some IndexSign) xs h = refl

not_and : (s : Option Sign) (xs : Exprs) → IsTrue (stops Junction s (ands xs)) → is_sign AndSign s ≡ false
not_and None xs h = refl
not_and (Some IffSign) xs h = refl
not_and (Some ImpliesSign) xs h = refl
not_and (Some AndSign) xs h = absurd (cc)
not_and (Some OrSign) xs h = refl
not_and (Some RelationSign) xs h = refl
not_and (Some TermSign) xs h = refl
not_and (Some FactorSign) xs h = refl
not_and (Some IndexSign) xs h = refl

not_or : (s : Option Sign) (xs : Exprs) → IsTrue (stops Junction s (ors xs)) → is_sign OrSign s ≡ false
not_or None xs h = refl
not_or (Some IffSign) xs h = refl
not_or (Some ImpliesSign) xs h = refl
not_or (Some AndSign) xs h = refl
not_or (Some OrSign) xs h = absurd (cc)
not_or (Some RelationSign) xs h = refl
not_or (Some TermSign) xs h = refl
not_or (Some FactorSign) xs h = refl
not_or (Some IndexSign) xs h = refl

not_factor : (s : Option Sign) (xs : Exprs) → IsTrue (stops Product s (products xs)) → is_sign FactorSign s ≡ false
not_factor None xs h = refl
not_factor (Some IffSign) xs h = refl
not_factor (Some ImpliesSign) xs h = refl
not_factor (Some AndSign) xs h = refl
not_factor (Some OrSign) xs h = refl
not_factor (Some RelationSign) xs h = refl
not_factor (Some TermSign) xs h = refl
not_factor (Some FactorSign) xs h = absurd (cc)
not_factor (Some IndexSign) xs h = refl

-- what is read of a run

iff_reads : (room : ℕ) (ls us : List Lexeme) (xs : Exprs) → RunIs Implication room "<==>" ls us xs → ReadsAt Equivalence room ls us (expr start (iffs xs))
unfolding e_with
iff_reads room ls us xs r = record {
  value = joined iffs (r.first ∷ r.others);
  reads = shown r.reads r.reads_others;
  same = r.same iffs (λ zs h. λ i. iffs (h i));
  unsigned = λ a. absurd (omega (arith, a));
  unbarred = r.unbarred;
}
  where
    shown : {x : Expr} {zs : List Expr} {ms : List Lexeme} → reader_at Implication room ls ≡ Ok (x, ms) → read_behind (fixed (codes "<==>")) (reader_at Implication room) ms ≡ Ok (zs, us) → e_with room (read_inner room) ls ≡ Ok (joined iffs (x ∷ zs), us)
    shown h k = rw (h, k) refl

implies_reads : (room : ℕ) (ls us : List Lexeme) (xs : Exprs) → RunIs Junction room "==>" ls us xs → ReadsAt Implication room ls us (expr start (implies xs))
unfolding imp_with
implies_reads room ls us xs r = record {
  value = joined implies (r.first ∷ r.others);
  reads = shown r.reads r.reads_others;
  same = r.same implies (λ zs h. λ i. implies (h i));
  unsigned = λ a. absurd (omega (arith, a));
  unbarred = r.unbarred;
}
  where
    shown : {x : Expr} {zs : List Expr} {ms : List Lexeme} → reader_at Junction room ls ≡ Ok (x, ms) → read_behind (fixed (codes "==>")) (reader_at Junction room) ms ≡ Ok (zs, us) → imp_with room (read_inner room) ls ≡ Ok (joined implies (x ∷ zs), us)
    shown h k = rw (h, k) refl

and_reads : (room : ℕ) (ls us : List Lexeme) (xs : Exprs) → RunIs Comparison room "&&" ls us xs → ReadsAt Junction room ls us (expr start (ands xs))
unfolding log_with rels_with
and_reads room ls us xs r = record {
  value = joined ands (r.first ∷ r.others);
  reads = shown r.place r.reads r.reads_others;
  same = r.same ands (λ zs h. λ i. ands (h i));
  unsigned = λ a. absurd (omega (arith, a));
  unbarred = r.unbarred;
}
  where
    shown : {x : Expr} {zs : List Expr} {ms : List Lexeme} (p : Place) → reader_at Comparison room ls ≡ Ok (x, token p (word "&&") ∷ ms) → read_behind (fixed (codes "&&")) (reader_at Comparison room) (token p (word "&&") ∷ ms) ≡ Ok (zs, us) → log_with room (read_inner room) ls ≡ Ok (joined ands (x ∷ zs), us)
    shown p h k = rw (h, k) refl

or_reads : (room : ℕ) (ls us : List Lexeme) (xs : Exprs) → RunIs Comparison room "||" ls us xs → ReadsAt Junction room ls us (expr start (ors xs))
unfolding log_with rels_with
or_reads room ls us xs r = record {
  value = joined ors (r.first ∷ r.others);
  reads = shown r.place r.reads r.reads_others;
  same = r.same ors (λ zs h. λ i. ors (h i));
  unsigned = λ a. absurd (omega (arith, a));
  unbarred = r.unbarred;
}
  where
    shown : {x : Expr} {zs : List Expr} {ms : List Lexeme} (p : Place) → reader_at Comparison room ls ≡ Ok (x, token p (word "||") ∷ ms) → read_behind (fixed (codes "||")) (reader_at Comparison room) (token p (word "||") ∷ ms) ≡ Ok (zs, us) → log_with room (read_inner room) ls ≡ Ok (joined ors (x ∷ zs), us)
    shown p h k = rw (h, k) refl

product_reads : (room : ℕ) (ls us : List Lexeme) (xs : Exprs) → RunIs Unary room "*" ls us xs → ReadsAt Product room ls us (expr start (products xs))
unfolding prod_with factors_with
product_reads room ls us xs r = record {
  value = joined products (r.first ∷ r.others);
  reads = shown r.reads r.reads_others;
  same = r.same products (λ zs h. λ i. products (h i));
  unsigned = λ a. absurd (omega (arith, a));
  unbarred = r.unbarred;
}
  where
    shown : {x : Expr} {zs : List Expr} {ms : List Lexeme} → reader_at Unary room ls ≡ Ok (x, ms) → read_behind (fixed (codes "*")) (reader_at Unary room) ms ≡ Ok (zs, us) → prod_with room (read_inner room) ls ≡ Ok (joined products (x ∷ zs), us)
    shown h k = rw (h, k) refl

-- and of the node

pub iffs_read : (xs : Exprs) → IsTrue (two_exprs xs) → EachReads xs → NodeReads (iffs xs)
iffs_read xs t e s room ls us d c h k g =
    iff_reads room ls us xs (run_reads Implication IffSign "<==>" (omega arith) (λ p vs. refl) (λ p vs. refl) s room xs ls us e t d (iff_last s xs h) k (unseen _ _ (not_iff s xs h) (is_ahead s us k).iff) g)

pub implies_read : (xs : Exprs) → IsTrue (two_exprs xs) → EachReads xs → NodeReads (implies xs)
implies_read xs t e s room ls us d c h k g =
    implies_reads room ls us xs (run_reads Junction ImpliesSign "==>" (omega arith) (λ p vs. refl) (λ p vs. refl) s room xs ls us e t d (implies_last s xs h) k (unseen _ _ (not_implies s xs h) (is_ahead s us k).implies) g)

pub ands_read : (xs : Exprs) → IsTrue (two_exprs xs) → EachReads xs → NodeReads (ands xs)
ands_read xs t e s room ls us d c h k g =
    and_reads room ls us xs (run_reads Comparison AndSign "&&" (omega arith) (λ p vs. refl) (λ p vs. refl) s room xs ls us e t d (and_last s xs h) k (unseen _ _ (not_and s xs h) (is_ahead s us k).conjunct) g)

pub ors_read : (xs : Exprs) → IsTrue (two_exprs xs) → EachReads xs → NodeReads (ors xs)
ors_read xs t e s room ls us d c h k g =
    or_reads room ls us xs (run_reads Comparison OrSign "||" (omega arith) (λ p vs. refl) (λ p vs. refl) s room xs ls us e t d (or_last s xs h) k (unseen _ _ (not_or s xs h) (is_ahead s us k).disjunct) g)

pub products_read : (xs : Exprs) → IsTrue (two_exprs xs) → EachReads xs → NodeReads (products xs)
products_read xs t e s room ls us d c h k g =
    product_reads room ls us xs (run_reads Unary FactorSign "*" (omega arith) (λ p vs. refl) (λ p vs. refl) s room xs ls us e t d (product_last s xs h) k (unseen _ _ (not_factor s xs h) (is_ahead s us k).factor) g)
