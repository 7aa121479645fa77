-- Words, names, numbers and signs that are tokens of their own before what follows them in the canonical text.
use Rattle.std.specs.Prelude.{◌≡◌, ℕ, ◌<◌, ◌^◌, Bool, true, false, ◌&&◌, ◌||◌, nat_eq, cond, codes, List, [], ◌∷◌, ◌++◌, length, Option, Some, None}
use Rattle.std.specs.List.{list_all}
use Rattle.std.proofs.Common.{refl, ap, sym, ◌∙◌, arith}
use Rattle.std.proofs.lemmas.List.Folds.{list_all-append}
use Rattle.bpl_grammar.proofs.Booleans.{no_and_second as and_no, and_parts, or_first}
use Rattle.bpl_lex.specs.Token.{Kind, id, number as number_kind, text, sign, word as word_kind}
use Rattle.bv_base.specs.Text.{is_among}
use Rattle.bpl_lex.specs.Shape.{is_letter, is_digit, is_identifier, is_number, is_string, is_sign, words, is_blank, is_line_comment, is_block_comment, opens_comment, kind_of, Piece, token, piece_of}
use Rattle.bpl_lex.proofs.FirstBytes.{differs'}
use Rattle.bpl_lex.proofs.Shapes.{is_name_byte, piece_is, reads_name, reads_number}
use Rattle.bpl_grammar.specs.Nesting.{value}
use Rattle.canonical_text.specs.Glyph.{Glyph, plain, word, closing}
use Rattle.canonical_text.specs.Spelled.{kind_in}
use Rattle.canonical_text.specs.Lexed.{IsAlone, IsEnd, space, feed, round, square, comma, semicolon, colon, index as index_end, IsTight, IsNarrow}
use Rattle.canonical_text.proofs.LexLines.{alone_by}
use Prim.Native.String.{String}

-- a token, before a byte with which no longer one is a piece
apart_from : (w : List ℕ) (k : Kind) (c : ℕ) (ys : List ℕ) → 0 < length w → kind_of w ≡ Some k → piece_of w ≡ Some (token k) → opens_comment (w ++ c ∷ ys) ≡ false → ((xs : List ℕ) → piece_of (w ++ c ∷ xs) ≡ None) → IsAlone w (c ∷ ys)
apart_from w k c ys s e p o h = alone_by w k c ys s p o h ∙ same (kind_in w) k known
  where
    known : k ≡ kind_in w
    known = rw e refl

    same : (a b : Kind) → b ≡ a → ◌≡◌ {A = Option (Piece × ℕ)} (Some (token b, length w)) (Some (token a, length w))
    same a b q = λ i. Some (token (q i), length w)

-- the piece of bytes that begin no blank and no comment
piece_from : (w : List ℕ) (k : Kind) → is_blank w ≡ false → (is_line_comment w || is_block_comment w) ≡ false → kind_of w ≡ Some k → piece_of w ≡ Some (token k)
piece_from w k b c e = rw (b, c, e) refl

-- names and words

name_bytes : (bytes xs : List ℕ) (c : ℕ) → is_name_byte c ≡ false → list_all is_name_byte (bytes ++ c ∷ xs) ≡ false
name_bytes bytes xs c h = list_all-append is_name_byte bytes (c ∷ xs) ∙ and_no (list_all is_name_byte bytes) (list_all is_name_byte (c ∷ xs)) (ap (λ b. b && list_all is_name_byte xs) h)

no_name : (b : ℕ) (bytes : List ℕ) → is_letter b ≡ true → list_all is_name_byte (b ∷ bytes) ≡ false → piece_of (b ∷ bytes) ≡ None
no_name b bytes h e = piece_is (b ∷ bytes) _ _ _ _ _ _ (reads_name b bytes false h e)

no_slash : (b : ℕ) (bytes : List ℕ) → nat_eq 47 b ≡ false → opens_comment (b ∷ bytes) ≡ false
no_slash b bytes h = rw h refl

longer_name : (b : ℕ) (bytes xs : List ℕ) (c : ℕ) → is_letter b ≡ true → is_name_byte c ≡ false → piece_of (b ∷ (bytes ++ c ∷ xs)) ≡ None
longer_name b bytes xs c l h = no_name b (bytes ++ c ∷ xs) l (and_no (is_name_byte b) (list_all is_name_byte (bytes ++ c ∷ xs)) (name_bytes bytes xs c h))

pub identifier_alone : (w : List ℕ) (k : Kind) (c : ℕ) (ys : List ℕ) → is_identifier w ≡ true → kind_of w ≡ Some k → is_name_byte c ≡ false → IsAlone w (c ∷ ys)
identifier_alone [] k c ys i e h = absurd (cc)
identifier_alone (b ∷ bytes) k c ys i e h =
    let p = and_parts (is_letter b) _ i in
    let r = reads_name b bytes true p.0 (rw (or_first (is_letter b) (is_digit b) p.0) p.1) in
    apart_from (b ∷ bytes) k c ys (omega arith) e (piece_from (b ∷ bytes) k r.blanks r.comments e) (no_slash b (bytes ++ c ∷ ys) (differs' is_letter b 47 p.0 refl)) (λ xs. longer_name b bytes xs c p.0 h)

id_of : (i n s g : Bool) (w : Bool) → (cond i (Some (cond w word_kind id)) (cond n (Some number_kind) (cond s (Some text) (cond g (Some sign) None)))) ≡ Some id → i ≡ true
id_of true n s g w h = refl
id_of false true s g w h = absurd (cc)
id_of false false true g w h = absurd (cc)
id_of false false false true w h = absurd (cc)
id_of false false false false w h = absurd (cc)

pub name_identifier : (w : List ℕ) → kind_of w ≡ Some id → is_identifier w ≡ true
name_identifier w h = id_of (is_identifier w) (is_number w) (is_string w) (is_sign w) (is_among words w) h

-- numbers

digit_bytes : (bytes xs : List ℕ) (c : ℕ) → is_digit c ≡ false → list_all is_digit (bytes ++ c ∷ xs) ≡ false
digit_bytes bytes xs c h = list_all-append is_digit bytes (c ∷ xs) ∙ and_no (list_all is_digit bytes) (list_all is_digit (c ∷ xs)) (ap (λ b. b && list_all is_digit xs) h)

no_number : (b : ℕ) (bytes : List ℕ) → is_digit b ≡ true → list_all is_digit (b ∷ bytes) ≡ false → piece_of (b ∷ bytes) ≡ None
no_number b bytes h e = piece_is (b ∷ bytes) _ _ _ _ _ _ (reads_number b bytes false h e)

longer_number : (b : ℕ) (bytes xs : List ℕ) (c : ℕ) → is_digit b ≡ true → is_digit c ≡ false → piece_of (b ∷ (bytes ++ c ∷ xs)) ≡ None
longer_number b bytes xs c l h = no_number b (bytes ++ c ∷ xs) l (and_no (is_digit b) (list_all is_digit (bytes ++ c ∷ xs)) (digit_bytes bytes xs c h))

pub number_alone : (w : List ℕ) (k : Kind) (c : ℕ) (ys : List ℕ) → is_number w ≡ true → kind_of w ≡ Some k → is_digit c ≡ false → IsAlone w (c ∷ ys)
number_alone [] k c ys i e h = absurd (cc)
number_alone (b ∷ bytes) k c ys i e h =
    let p = and_parts (is_digit b) (list_all is_digit bytes) i in
    let r = reads_number b bytes true p.0 i in
    apart_from (b ∷ bytes) k c ys (omega arith) e (piece_from (b ∷ bytes) k r.blanks r.comments e) (no_slash b (bytes ++ c ∷ ys) (differs' is_digit b 47 p.0 refl)) (λ xs. longer_number b bytes xs c p.0 h)

number_of : (i n s g : Bool) (w : Bool) → (cond i (Some (cond w word_kind id)) (cond n (Some number_kind) (cond s (Some text) (cond g (Some sign) None)))) ≡ Some number_kind → n ≡ true
number_of true n s g true h = absurd (cc)
number_of true n s g false h = absurd (cc)
number_of false true s g w h = refl
number_of false false true g w h = absurd (cc)
number_of false false false true w h = absurd (cc)
number_of false false false false w h = absurd (cc)

pub number_digits : (w : List ℕ) → kind_of w ≡ Some number_kind → is_number w ≡ true
number_digits w h = number_of (is_identifier w) (is_number w) (is_string w) (is_sign w) (is_among words w) h

-- what ends a token belongs to no name and no number

end_no_name : (c : ℕ) → IsEnd c → is_name_byte c ≡ false
end_no_name c space = refl
end_no_name c feed = refl
end_no_name c round = refl
end_no_name c square = refl
end_no_name c comma = refl
end_no_name c semicolon = refl
end_no_name c colon = refl
end_no_name c index_end = refl

end_no_digit : (c : ℕ) → IsEnd c → is_digit c ≡ false
end_no_digit c space = refl
end_no_digit c feed = refl
end_no_digit c round = refl
end_no_digit c square = refl
end_no_digit c comma = refl
end_no_digit c semicolon = refl
end_no_digit c colon = refl
end_no_digit c index_end = refl

-- signs

pub record EndsSign (w : List ℕ) : Type 0 where
  pub space : (xs : List ℕ) → piece_of (w ++ 32 ∷ xs) ≡ None
  pub feed : (xs : List ℕ) → piece_of (w ++ 10 ∷ xs) ≡ None
  pub round : (xs : List ℕ) → piece_of (w ++ 41 ∷ xs) ≡ None
  pub square : (xs : List ℕ) → piece_of (w ++ 93 ∷ xs) ≡ None
  pub comma : (xs : List ℕ) → piece_of (w ++ 44 ∷ xs) ≡ None
  pub semicolon : (xs : List ℕ) → piece_of (w ++ 59 ∷ xs) ≡ None
  pub colon : (xs : List ℕ) → piece_of (w ++ 58 ∷ xs) ≡ None
  pub index : (xs : List ℕ) → piece_of (w ++ 91 ∷ xs) ≡ None

by_end : (w : List ℕ) → EndsSign w → (c : ℕ) → IsEnd c → (xs : List ℕ) → piece_of (w ++ c ∷ xs) ≡ None
by_end w e c space = e.space
by_end w e c feed = e.feed
by_end w e c round = e.round
by_end w e c square = e.square
by_end w e c comma = e.comma
by_end w e c semicolon = e.semicolon
by_end w e c colon = e.colon
by_end w e c index_end = e.index

sign_alone : (w : List ℕ) → 0 < length w → kind_of w ≡ Some sign → piece_of w ≡ Some (token sign) → ((xs : List ℕ) → opens_comment (w ++ xs) ≡ false) → EndsSign w → (c : ℕ) → IsEnd c → (ys : List ℕ) → IsAlone w (c ∷ ys)
sign_alone w s k p o e c h ys = apart_from w sign c ys s k p (o (c ∷ ys)) (by_end w e c h)

-- tokens that end where a byte that ends tokens follows

pub record IsLoose (g : Glyph) : Type 0 where
  pub unglued : g.glued ≡ false
  pub alone : (c : ℕ) → IsEnd c → (ys : List ℕ) → IsAlone g.text (c ∷ ys)
  pub tight : IsTight g
  pub narrow : IsNarrow g

-- a token of another kind is no number
pub no_number_kind : (g : Glyph) (k : Kind) → kind_of g.text ≡ Some k → (◌≡◌ {A = Option Kind} (Some k) (Some number_kind) → ⊥) → IsNarrow g
no_number_kind g k h f = λ e. absurd (f (sym h ∙ e))

pub not_tight : (g : Glyph) → g.tight ≡ false → IsTight g
not_tight g h = λ e. absurd (cc)

pub loose_name : (w : List ℕ) → kind_of w ≡ Some id → IsLoose (plain w)
loose_name w h = record { unglued = refl; alone = λ c e ys. identifier_alone w id c ys (name_identifier w h) h (end_no_name c e); tight = not_tight (plain w) refl; narrow = no_number_kind (plain w) id h (λ e. cc) }

pub loose_word : (w : String) → is_identifier (codes w) ≡ true → kind_of (codes w) ≡ Some word_kind → IsLoose (word w)
loose_word w i h = record { unglued = refl; alone = λ c e ys. identifier_alone (codes w) word_kind c ys i h (end_no_name c e); tight = not_tight (word w) refl; narrow = no_number_kind (word w) word_kind h (λ e. cc) }

pub loose_number : (w : List ℕ) → kind_of w ≡ Some number_kind → value w < 2 ^ 127 → IsLoose (plain w)
loose_number w h v = record { unglued = refl; alone = λ c e ys. number_alone w number_kind c ys (number_digits w h) h (end_no_digit c e); tight = not_tight (plain w) refl; narrow = λ e. v }

pub loose_sign : (w : String) → 0 < length (codes w) → kind_of (codes w) ≡ Some sign → piece_of (codes w) ≡ Some (token sign) → ((xs : List ℕ) → opens_comment (codes w ++ xs) ≡ false) → EndsSign (codes w) → IsLoose (word w)
loose_sign w s k p o e = record { unglued = refl; alone = sign_alone (codes w) s k p o e; tight = not_tight (word w) refl; narrow = no_number_kind (word w) sign k (λ e. cc) }

pub loose_closing : (w : String) (c : ℕ) → IsEnd c → codes w ≡ c ∷ [] → 0 < length (codes w) → kind_of (codes w) ≡ Some sign → piece_of (codes w) ≡ Some (token sign) → ((xs : List ℕ) → opens_comment (codes w ++ xs) ≡ false) → EndsSign (codes w) → IsLoose (closing w)
loose_closing w c i q s k p o e = record { unglued = refl; alone = sign_alone (codes w) s k p o e; tight = λ h. (c, i, q); narrow = no_number_kind (closing w) sign k (λ e. cc) }
