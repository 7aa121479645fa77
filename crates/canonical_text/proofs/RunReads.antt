-- Runs of operands with a sign between them.
use Rattle.std.specs.Prelude.{◌≡◌, ℕ, ◌<◌, ◌≤◌, Bool, true, false, not, ◌||◌, codes, List, [], ◌∷◌, drop, IsTrue, Ok, Option, Some, None}
use Rattle.std.proofs.Common.{refl, ap, ◌∙◌, arith}
use Rattle.bv_base.specs.declared.place.Place.{Place}
use Rattle.bpl_ast.specs.Tree.{Expr, expr, Node, Exprs, no_exprs, item, first_place}
use Rattle.bpl_ast.specs.ExprView.{exprs_of}
use Rattle.canonical_text.specs.declared.level.Level.{Level}
use Rattle.canonical_text.specs.Level.{rank, is_looser}
use Rattle.canonical_text.specs.declared.sign.Sign.{Sign}
use Rattle.canonical_text.specs.Parens.{goes_on, last_chain, last_compared}
use Rattle.canonical_text.specs.Glyph.{word}
use Rattle.canonical_text.specs.Expression.{operand, behind, run, more_run}
use Rattle.bpl_grammar.specs.Lexeme.{Lexeme}
use Rattle.bpl_grammar.specs.Terminal.{fixed, sees}
use Rattle.bpl_grammar.specs.Reading.{Read, read_behind}
use Rattle.bpl_grammar.specs.ReadExpressions.{joined}
use Rattle.canonical_text.specs.Same.{start, bare, bare_node, bare_exprs}
use Rattle.canonical_text.specs.WrittenExpression.{two_exprs}
use Rattle.canonical_text.specs.Nestings.{operand_depth, run_depth}
use Rattle.canonical_text.specs.Spelled.{token, Spelled, done, next}
use Rattle.canonical_text.specs.Ahead.{sign_level, sees_text, ahead, stops_operand}
use Rattle.canonical_text.proofs.Parts.{split, spelled_length, Items, stop, step, items_repeated}
use Rattle.canonical_text.proofs.Ranks.{is_looser_by}
use Rattle.canonical_text.proofs.Levels.{reader_at, is_barred, ReadsAt}
use Rattle.canonical_text.proofs.Operands.{OperandReads}
use Prim.Native.String.{String}

abbrev pub EachReads : Exprs → Type 0
EachReads no_exprs = Unit {0}
EachReads (item x xs) = OperandReads x × EachReads xs

-- reading the last operand stops before the sign
abbrev pub StopsLast : Level → Option Sign → Exprs → Type 0
StopsLast w s no_exprs = Unit {0}
StopsLast w s (item x no_exprs) = IsTrue (stops_operand w s x)
StopsLast w s (item x (item y ys)) = StopsLast w s (item y ys)

stops_later : (w : Level) (s : Option Sign) (x : Expr) (xs : Exprs) → StopsLast w s (item x xs) → StopsLast w s xs
stops_later w s x no_exprs h = tt
stops_later w s x (item y ys) h = h

pub low_stops : (w : Level) (q : Sign) (x : Expr) → rank (sign_level q) < rank w → IsTrue (stops_operand w (Some q) x)
low_stops w q x h = rw (is_looser_by (sign_level q) w h) refl

-- the same items but for places
pub record SameItems (begins : List Lexeme → Bool) (item : List Lexeme → Read Expr) (ls us : List Lexeme) (xs : Exprs) : Type 0 where
  pub values : List Expr
  pub reads : Items begins item ls us values
  pub same : bare_exprs (exprs_of values) ≡ bare_exprs xs

-- a run of two operands or more: the first, and the others behind a sign
pub record RunIs (w : Level) (room : ℕ) (sg : String) (ls us : List Lexeme) (xs : Exprs) : Type 0 where
  pub first : Expr
  pub others : List Expr
  pub place : Place
  pub rest : List Lexeme
  pub reads : reader_at w room ls ≡ Ok (first, token place (word sg) ∷ rest)
  pub reads_others : read_behind (fixed (codes sg)) (reader_at w room) (token place (word sg) ∷ rest) ≡ Ok (others, us)
  pub same : (f : Exprs → Node) → ((zs : Exprs) → bare_exprs zs ≡ bare_exprs xs → bare_node (f zs) ≡ bare_node (f xs)) → bare (joined f (first ∷ others)) ≡ expr start (bare_node (f xs))
  pub unbarred : is_barred ls ≡ false

joined_two : (f : Exprs → Node) (x y : Expr) (zs : List Expr) (ys : Exprs) → bare_exprs (exprs_of zs) ≡ bare_exprs (item y ys) → joined f (x ∷ zs) ≡ expr (first_place x) (f (exprs_of (x ∷ zs)))
joined_two f x y [] ys h = absurd (cc)
joined_two f x y (z ∷ zs) ys h = refl

same_run : (f : Exprs → Node) (x v y : Expr) (zs : List Expr) (ys : Exprs) → bare v ≡ bare x → bare_exprs (exprs_of zs) ≡ bare_exprs (item y ys)
    → ((us : Exprs) → bare_exprs us ≡ bare_exprs (item x (item y ys)) → bare_node (f us) ≡ bare_node (f (item x (item y ys)))) → bare (joined f (v ∷ zs)) ≡ expr start (bare_node (f (item x (item y ys))))
same_run f x v y zs ys h k c = ap bare (joined_two f v y zs ys k) ∙ ap (λ n. expr start n) (c (exprs_of (v ∷ zs)) (λ i. item (h i) (k i)))

module _ (w : Level) (inner : Sign) (sg : String) (low : rank (sign_level inner) < rank w) (own : (p : Place) (vs : List Lexeme) → IsTrue (ahead (Some inner) (token p (word sg) ∷ vs)))
    (seen : (p : Place) (vs : List Lexeme) → sees_text sg (token p (word sg) ∷ vs) ≡ true) (s : Option Sign) (room : ℕ) where
  operand_of : (x : Expr) (xs : Exprs) (ls ms us : List Lexeme) → OperandReads x → operand_depth w (behind inner s xs) x ≤ room → StopsLast w s (item x xs) → IsTrue (ahead s us)
      → Spelled (operand w (behind inner s xs) x) ls ms → Spelled (more_run w inner (word sg) s xs) ms us → ReadsAt w room ls ms x
  operand_of x no_exprs ls ms us r d h k f done = r w s room ls us d h k f
  operand_of x (item y ys) ls ms us r d h k f (next {ls = rest} p g) = r w (Some inner) room ls (token p (word sg) ∷ rest) d (low_stops w inner x low) (own p rest) f

  more_items : (xs : Exprs) (ls us : List Lexeme) → EachReads xs → run_depth w inner s xs ≤ room → StopsLast w s xs → IsTrue (ahead s us) → sees_text sg us ≡ false
      → Spelled (more_run w inner (word sg) s xs) ls us → SameItems (sees (fixed (codes sg))) (λ vs. reader_at w room (drop 1 vs)) ls us xs
  more_items no_exprs ls us e d h k z done = record { values = []; reads = stop z; same = refl }
  more_items (item x xs) ls us e d h k z (next {ls = rest} p f) =
      let q = split (operand w (behind inner s xs) x) (more_run w inner (word sg) s xs) f in
      let a = operand_of x xs rest q.middle us e.0 (omega (arith, d)) h k q.first q.second in
      let b = more_items xs q.middle us e.1 (omega (arith, d)) (stops_later w s x xs h) k z q.second in
      record { values = a.value ∷ b.values; reads = step {x = a.value} {xs = b.values} (seen p rest) a.reads (omega (arith, spelled_length q.first)) b.reads; same = λ i. item (a.same i) (b.same i) }

  two_reads : (x y : Expr) (ys : Exprs) (ls ms us : List Lexeme) → EachReads (item x (item y ys)) → run_depth w inner s (item x (item y ys)) ≤ room → StopsLast w s (item y ys) → IsTrue (ahead s us) → sees_text sg us ≡ false
      → Spelled (operand w (Some inner) x) ls ms → Spelled (more_run w inner (word sg) s (item y ys)) ms us → RunIs w room sg ls us (item x (item y ys))
  two_reads x y ys ls ms us e d h k z f (next {ls = rest} p g) =
      let a = operand_of x (item y ys) ls (token p (word sg) ∷ rest) us e.0 (omega (arith, d)) h k f (next p g) in
      let b = more_items (item y ys) (token p (word sg) ∷ rest) us e.1 (omega (arith, d)) h k z (next p g) in
      record {
        first = a.value;
        others = b.values;
        place = p;
        rest = rest;
        reads = a.reads;
        reads_others = items_repeated _ _ (token p (word sg) ∷ rest) us b.values b.reads;
        same = λ f c. same_run f x a.value y b.values ys a.same b.same c;
        unbarred = a.unbarred;
      }

  pub run_reads : (xs : Exprs) (ls us : List Lexeme) → EachReads xs → IsTrue (two_exprs xs) → run_depth w inner s xs ≤ room → StopsLast w s xs → IsTrue (ahead s us) → sees_text sg us ≡ false
      → Spelled (run w inner (word sg) s xs) ls us → RunIs w room sg ls us xs
  run_reads no_exprs ls us e t d h k z g = absurd (cc)
  run_reads (item x no_exprs) ls us e t d h k z g = absurd (cc)
  run_reads (item x (item y ys)) ls us e t d h k z g =
      let q = split (operand w (Some inner) x) (more_run w inner (word sg) s (item y ys)) g in
      two_reads x y ys ls q.middle us e d h k z q.first q.second

-- the last operand of a chain

pub last_stops : (w : Level) (q : Sign) (xs : Exprs) → IsTrue (is_looser (sign_level q) w || not (goes_on q (last_chain w xs) (last_compared w xs))) → StopsLast w (Some q) xs
last_stops w q no_exprs h = tt
last_stops w q (item x no_exprs) h = h
last_stops w q (item x (item y ys)) h = last_stops w q (item y ys) h

pub low_last : (w : Level) (q : Sign) (xs : Exprs) → rank (sign_level q) < rank w → StopsLast w (Some q) xs
low_last w q no_exprs h = tt
low_last w q (item x no_exprs) h = low_stops w q x h
low_last w q (item x (item y ys)) h = low_last w q (item y ys) h

pub none_last : (w : Level) (xs : Exprs) → StopsLast w None xs
none_last w no_exprs = tt
none_last w (item x no_exprs) = refl
none_last w (item x (item y ys)) = none_last w (item y ys)
