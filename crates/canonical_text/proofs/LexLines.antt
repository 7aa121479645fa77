-- The tokens of canonical lines.
use Rattle.std.specs.Prelude.{◌≡◌, ℕ, zero, suc, ◌+◌, ◌-◌, ◌<◌, Bool, true, false, ◌||◌, cond, codes, replicate, List, [], ◌∷◌, ◌++◌, take, drop, length, Some, None, Ok}
use Rattle.std.proofs.Common.{refl, ap, sym, ◌∙◌, subst, arith, append_assoc}
use Rattle.std.proofs.Math.Seq.{take-append_seam, take-append-add, drop-append_seam}
use Rattle.std.proofs.lemmas.List.{length-append, drop-drop}
use Rattle.bpl_lex.specs.Token.{Kind, Token, slice}
use Rattle.bpl_lex.specs.Shape.{blank, token, piece_of, opens_comment}
use Rattle.bpl_lex.specs.Lexing.{allowed, front, joined as join_piece, onto, tokens_from}
use Rattle.bpl_lex.proofs.Longest.{front_from}
use Rattle.bpl_lex.proofs.Fronts.{blank_begins}
use Rattle.bpl_lex.proofs.Steps.{piece_at}
use Rattle.canonical_text.specs.Glyph.{Glyph, gap, spaced, line}
use Rattle.bv_base.specs.Text.{text_of}
use Rattle.canonical_text.specs.Spelled.{kind_in}
use Rattle.canonical_text.specs.Lexed.{AreTokens, more, IsAlone, AreApart, AreLines, none as no_lines, more as more_lines}

-- a word that is a token, with bytes behind it that belong to none with it

longer_piece : (w : List ℕ) (c : ℕ) (ys : List ℕ) (n : ℕ) → 0 < n → ((xs : List ℕ) → piece_of (w ++ c ∷ xs) ≡ None) → piece_of (w ++ take n (c ∷ ys)) ≡ None
longer_piece w c ys zero a h = absurd (omega arith)
longer_piece w c ys (suc n) a h = h (take n ys)

longer_front : (w : List ℕ) (c : ℕ) (ys : List ℕ) (m n : ℕ) → length w < m → m ≡ length w + n → ((xs : List ℕ) → piece_of (w ++ c ∷ xs) ≡ None) → piece_of (take m (w ++ c ∷ ys)) ≡ None
longer_front w c ys m n a e h = ap (λ k. piece_of (take k (w ++ c ∷ ys))) e ∙ (ap piece_of (take-append-add w (c ∷ ys) n) ∙ longer_piece w c ys n (omega (arith, a, e)) h)

pub alone_by : (w : List ℕ) (k : Kind) (c : ℕ) (ys : List ℕ) → 0 < length w → piece_of w ≡ Some (token k) → opens_comment (w ++ c ∷ ys) ≡ false → ((xs : List ℕ) → piece_of (w ++ c ∷ xs) ≡ None) → front (w ++ c ∷ ys) ≡ Some (token k, length w)
alone_by w k c ys s p o h =
    front_from (w ++ c ∷ ys) (token k) (length w) (record {
      piece = ap piece_of (take-append_seam w (c ∷ ys)) ∙ p;
      some = s;
      within = omega (arith, length-append w (c ∷ ys));
      longer = λ m a b. longer_front w c ys m (m - length w) a (omega (arith, a)) h;
    })
    ∙ (λ i. allowed (o i) (token k) (length w))

-- the tokens from a place on

pub record Lexed (bytes : List ℕ) (at : ℕ) (gs : List Glyph) : Type 0 where
  pub values : List Token
  pub reads : tokens_from at 0 (drop at bytes) ≡ Ok values
  pub are : AreTokens bytes gs values

past : (bytes w after : List ℕ) (at : ℕ) → drop at bytes ≡ w ++ after → drop (at + length w) bytes ≡ after
past bytes w after at e = sym (drop-drop (length w) at bytes) ∙ (ap (drop (length w)) e ∙ drop-append_seam w after)

own_text : (bytes w after : List ℕ) (at : ℕ) → drop at bytes ≡ w ++ after → slice bytes at (at + length w) ≡ w
own_text bytes w after at e = (λ i. take (only at (length w) i) (e i)) ∙ take-append_seam w after
  where
    only : (m n : ℕ) → m + n - m ≡ n
    only m n = omega arith

token_step : (bytes after : List ℕ) (at : ℕ) (g : Glyph) (gs : List Glyph) → drop at bytes ≡ g.text ++ after → IsAlone g.text after → Lexed bytes (at + length g.text) gs → Lexed bytes at (g ∷ gs)
token_step bytes after at g gs e h l = record {
  values = record { kind = kind_in g.text; start = at; finish = at + length g.text } ∷ l.values;
  reads = piece_at bytes at (length g.text) (token (kind_in g.text)) (ap front e ∙ h) ∙ ap (onto (join_piece (token (kind_in g.text)) at (length g.text))) l.reads;
  are = more refl (own_text bytes g.text after at e) l.are;
}

blank_step : (bytes after : List ℕ) (at b : ℕ) (gs : List Glyph) → drop at bytes ≡ b ∷ after → front (b ∷ after) ≡ Some (blank, 1) → Lexed bytes (at + 1) gs → Lexed bytes at gs
blank_step bytes after at b gs e h l = record {
  values = l.values;
  reads = piece_at bytes at 1 blank (ap front e ∙ h) ∙ ap (onto (join_piece blank at 1)) l.reads;
  are = l.are;
}

space_front : (after : List ℕ) → front (32 ∷ after) ≡ Some (blank, 1)
space_front after = blank_begins 32 (32 ∷ after) refl refl

feed_front : (after : List ℕ) → front (10 ∷ after) ≡ Some (blank, 1)
feed_front after = blank_begins 10 (10 ∷ after) refl refl

-- blanks between tokens
spaces_step : (n : ℕ) (bytes after : List ℕ) (at : ℕ) (gs : List Glyph) → drop at bytes ≡ replicate n 32 ++ after → ((to : ℕ) → drop to bytes ≡ after → Lexed bytes to gs) → Lexed bytes at gs
spaces_step zero bytes after at gs e k = k at e
spaces_step (suc n) bytes after at gs e k =
    blank_step bytes (replicate n 32 ++ after) at 32 gs e (space_front (replicate n 32 ++ after)) (spaces_step n bytes after (at + 1) gs (past bytes (32 ∷ []) (replicate n 32 ++ after) at e) k)

-- a line, up to its line feed

abbrev Next : List ℕ → List ℕ → List Glyph → Type 0
Next bytes after hs = (to : ℕ) → drop to bytes ≡ after → Lexed bytes to hs

behind_gap : (g h : Glyph) (bytes after : List ℕ) (at : ℕ) (gs : List Glyph) (b : Bool) → (g.glued || h.tight) ≡ b → ((after : List ℕ) → IsAlone g.text (32 ∷ after)) → (b ≡ true → (after : List ℕ) → IsAlone g.text (h.text ++ after)) → (rest : List ℕ) → after ≡ h.text ++ rest
    → drop at bytes ≡ g.text ++ (cond b [] (codes " ") ++ after) → Next bytes after gs → Lexed bytes at (g ∷ gs)
behind_gap g h bytes after at gs true e s j rest q d k = token_step bytes after at g gs d (subst (IsAlone g.text) (sym q) (j refl rest)) (k (at + length g.text) (past bytes g.text after at d))
behind_gap g h bytes after at gs false e s j rest q d k =
    token_step bytes (32 ∷ after) at g gs d (s after)
    (blank_step bytes after (at + length g.text) 32 gs (past bytes g.text (32 ∷ after) at d) (space_front after) (k (at + length g.text + 1) (past bytes (32 ∷ []) after (at + length g.text) (past bytes g.text (32 ∷ after) at d))))

first_text : (h : Glyph) (gs : List Glyph) (after : List ℕ) → (rest : List ℕ) × (spaced (h ∷ gs) ++ after ≡ h.text ++ rest)
first_text h [] after = (after, refl)
first_text h (i ∷ gs) after = ((gap h i ++ spaced (i ∷ gs)) ++ after, append_assoc h.text (gap h i ++ spaced (i ∷ gs)) after)

three : (a b c d : List ℕ) → (a ++ (b ++ c)) ++ d ≡ a ++ (b ++ (c ++ d))
three a b c d = append_assoc a (b ++ c) d ∙ ap (λ x. a ++ x) (append_assoc b c d)

lex_spaced : (gs hs : List Glyph) (bytes after : List ℕ) (at : ℕ) → AreApart gs → drop at bytes ≡ spaced gs ++ 10 ∷ after → Next bytes (10 ∷ after) hs → Lexed bytes at (gs ++ hs)
lex_spaced [] hs bytes after at a e k = k at e
lex_spaced (g ∷ []) hs bytes after at a e k = token_step bytes (10 ∷ after) at g hs e (a.1 after) (k (at + length g.text) (past bytes g.text (10 ∷ after) at e))
lex_spaced (g ∷ h ∷ gs) hs bytes after at a e k =
    let f = first_text h gs (10 ∷ after) in
    behind_gap g h bytes (spaced (h ∷ gs) ++ 10 ∷ after) at ((h ∷ gs) ++ hs) (g.glued || h.tight) refl a.0 a.3 f.0 f.1 (e ∙ three g.text (gap g h) (spaced (h ∷ gs)) (10 ∷ after))
    (λ to d. lex_spaced (h ∷ gs) hs bytes after to a.4 d k)

lex_line : (n : ℕ) (gs hs : List Glyph) (bytes after : List ℕ) (at : ℕ) → AreApart gs → drop at bytes ≡ line n gs ++ 10 ∷ after → Next bytes after hs → Lexed bytes at (gs ++ hs)
unfolding line
lex_line n gs hs bytes after at a e k =
    spaces_step n bytes (spaced gs ++ 10 ∷ after) at (gs ++ hs) (e ∙ append_assoc (replicate n 32) (spaced gs) (10 ∷ after))
    (λ to d. lex_spaced gs hs bytes after to a d (λ end f. blank_step bytes after end 10 hs f (feed_front after) (k (end + 1) (past bytes (10 ∷ []) after end f))))

-- lines one after another
pub lex_lines : {ls : List (List ℕ)} {gs : List Glyph} → AreLines ls gs → (hs : List Glyph) (bytes after : List ℕ) (at : ℕ) → drop at bytes ≡ text_of ls ++ after → Next bytes after hs → Lexed bytes at (gs ++ hs)
lex_lines no_lines hs bytes after at e k = k at e
lex_lines (more_lines {ls = ls} {hs = gs'} n gs a l) hs bytes after at e k =
    subst (Lexed bytes at) (sym (append_assoc gs gs' hs)) (lex_line n gs (gs' ++ hs) bytes (text_of ls ++ after) at a (e ∙ shape (line n gs) (text_of ls) after) (λ to d. lex_lines l hs bytes after to d k))
  where
    shape : (a b c : List ℕ) → ((a ++ 10 ∷ []) ++ b) ++ c ≡ a ++ 10 ∷ (b ++ c)
    shape a b c = append_assoc (a ++ 10 ∷ []) b c ∙ append_assoc a (10 ∷ []) (b ++ c)
