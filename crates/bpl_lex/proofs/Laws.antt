-- What holds of the tokens of every text: they stand in order, and spell it.
use Rattle.std.specs.Prelude.{◌≡◌, ◌⊎◌, ◌||◌, ℕ, zero, suc, ◌+◌, ◌-◌, ◌<◌, ◌≤◌, Bool, true, false, cond, List, [], ◌∷◌, ◌++◌, take, drop, length, Option, Some, None, option_map, Result, Ok, Err, All}
use Rattle.std.proofs.Common.{refl, ap, sym, ◌∙◌, subst, ⊎_elim, arith}
use Rattle.std.proofs.Math.ListN.{drop_of_length-le}
use Rattle.std.proofs.Math.Seq.{take-add}
use Rattle.std.proofs.lemmas.List.{length-drop, drop-drop}
use Rattle.std.proofs.lemmas.List.Elements.{All-nil, All-cons}
use Rattle.bpl_lex.specs.Token.{Kind, Token, slice, text_of}
use Rattle.bpl_lex.specs.Shape.{Piece, blank, comment, token, is_blank, is_line_comment, is_block_comment, piece_of, kind_of}
use Rattle.bpl_lex.specs.Lexing.{front, joined, onto, tokens_from, tokens, end_of}
use Rattle.bpl_lex.specs.Spelled.{AreInOrder, IsSpacing, nothing, and_blank, and_comment, Spells}
use Rattle.bpl_lex.proofs.Longest.{front_is}
use Rattle.bpl_lex.proofs.Fronts.{rest_is}
use Rattle.bpl_lex.proofs.Steps.{no_piece, piece_at, piece_fits, front_some}

-- the tokens of an answer, and those that it was made from
tokens_in : Result (List Token) ℕ → List Token
tokens_in (Ok ts) = ts
tokens_in (Err at) = []

-- where a function of an answer has tokens, the answer has the tokens before it
joined_onto : (f : List Token → List Token) (r : Result (List Token) ℕ) (ts : List Token) → onto f r ≡ Ok ts → (r ≡ Ok (tokens_in r)) × (f (tokens_in r) ≡ ts)
unfolding tokens_in
joined_onto f (Ok us) ts h = (refl, cc)
joined_onto f (Err at) ts h = absurd (cc)

-- equal answers have equal tokens
ok_same : (us ts : List Token) → ◌≡◌ {A = Result (List Token) ℕ} (Ok us) (Ok ts) → us ≡ ts
ok_same us ts h = cc

-- a fault has no tokens
no_ok : (at : ℕ) (ts : List Token) → ◌≡◌ {A = Result (List Token) ℕ} (Err at) (Ok ts) → ⊥
no_ok at ts h = cc

-- at most is equal or less
at_or_before : (m n : ℕ) → m ≤ n → (m ≡ n) ⊎ (m < n)
at_or_before m n h = grind arith

-- A fact that holds at the end of the text, and before a piece where it holds after it, holds of the tokens from each place on.
module _ (text : List ℕ) (P : ℕ → List Token → Type 0) (end : (at : ℕ) → at ≡ length text → P at [])
    (before : (at n : ℕ) (p : Piece) (ts : List Token) → front (drop at text) ≡ Some (p, n) → at + n ≤ length text → P (at + n) ts → P at (joined p at n ts)) where
  at_end : (at : ℕ) (ts : List Token) → at ≡ length text → tokens_from at 0 (drop at text) ≡ Ok ts → P at ts
  at_end at ts e h =
      let none : drop at text ≡ [] = drop_of_length-le text (omega arith) in
      let same : [] ≡ ts = ok_same [] ts (sym (ap (tokens_from at 0) none) ∙ h) in
      subst (P at) same (end at e)

  at_front : (o : Option (Piece × ℕ)) (k at : ℕ) (ts : List Token) → front (drop at text) ≡ o → at < length text → length text ≤ at + suc k → tokens_from at 0 (drop at text) ≡ Ok ts
      → ((n : ℕ) (us : List Token) → at + n ≤ length text → length text ≤ at + n + k → tokens_from (at + n) 0 (drop (at + n) text) ≡ Ok us → P (at + n) us) → P at ts
  at_front None k at ts e some near h ih = absurd (no_ok at ts (sym (no_piece at (drop at text) (omega (arith, length-drop at text)) e) ∙ h))
  at_front (Some f) k at ts e some near h ih =
      let parts = joined_onto (joined f.0 at f.1) (tokens_from (at + f.1) 0 (drop (at + f.1) text)) ts (sym (piece_at text at f.1 f.0 e) ∙ h) in
      let fits = piece_fits text at f.1 f.0 (omega arith) e in
      let grows = front_some (drop at text) f.0 f.1 e in
      subst (P at) parts.1 (before at f.1 f.0 _ e fits (ih f.1 _ fits (omega arith) parts.0))

  pub each_step : (k at : ℕ) (ts : List Token) → at ≤ length text → length text ≤ at + k → tokens_from at 0 (drop at text) ≡ Ok ts → P at ts
  each_step zero at ts within near h = at_end at ts (omega arith) h
  each_step (suc k) at ts within near h =
      ⊎_elim (λ (e : at ≡ length text). at_end at ts e h)
      (λ (some : at < length text). at_front (front (drop at text)) k at ts refl some near h (λ n us a b c. each_step k (at + n) us a b c)) (at_or_before at (length text) within)

-- the tokens of a text, by the same steps from its start
pub all_steps : (text : List ℕ) (P : ℕ → List Token → Type 0) → ((at : ℕ) → at ≡ length text → P at [])
    → ((at n : ℕ) (p : Piece) (ts : List Token) → front (drop at text) ≡ Some (p, n) → at + n ≤ length text → P (at + n) ts → P at (joined p at n ts))
    → (ts : List Token) → tokens text ≡ Ok ts → P 0 ts
all_steps text P end before ts h = each_step text P end before (length text) 0 ts (omega arith) (omega arith) h

-- tokens in order from a place on are in order from each place before it
in_order_from : (from at upto : ℕ) (ts : List Token) → from ≤ at → AreInOrder at upto ts → AreInOrder from upto ts
in_order_from from at upto [] h o = omega arith
in_order_from from at upto (t ∷ ts) h o = (above o.0, o.1, o.2)
  where
    above : at ≤ t.start → from ≤ t.start
    above a = omega arith

-- tokens in order after a piece are in order with it
in_order_before : (at n upto : ℕ) (p : Piece) (ts : List Token) → 0 < n → AreInOrder (at + n) upto ts → AreInOrder at upto (joined p at n ts)
in_order_before at n upto blank ts some o = in_order_from at (at + n) upto ts (omega arith) o
in_order_before at n upto comment ts some o = in_order_from at (at + n) upto ts (omega arith) o
in_order_before at n upto (token k) ts some o = (from_here at, grows some, o)
  where
    from_here : (m : ℕ) → m ≤ m
    from_here m = omega arith

    grows : 0 < n → at < at + n
    grows h = omega arith

-- the tokens of a text stand in order inside it
pub in_order : (text : List ℕ) (ts : List Token) → tokens text ≡ Ok ts → AreInOrder 0 (length text) ts
in_order text ts h =
    all_steps text (λ at us. AreInOrder at (length text) us) (λ at e. omega arith)
    (λ at n p us e fits o. in_order_before at n (length text) p us (front_some (drop at text) p n e) o) ts h

-- what a token's bytes are, as a token
kind_from : (b c : Bool) (o : Option Kind) (k : Kind) → cond b (Some blank) (cond c (Some comment) (option_map token o)) ≡ Some (token k) → o ≡ Some k
kind_from true c o k h = absurd (cc)
kind_from false true o k h = absurd (cc)
kind_from false false None k h = absurd (cc)
kind_from false false (Some j) k h = cc

-- a piece that is a token is of its kind
pub token_kind : (bytes : List ℕ) (k : Kind) → piece_of bytes ≡ Some (token k) → kind_of bytes ≡ Some k
token_kind bytes k h = kind_from (is_blank bytes) (is_line_comment bytes || is_block_comment bytes) (kind_of bytes) k h

-- a slice, and then the bytes after it
slice_more : (text : List ℕ) (from at n : ℕ) → from ≤ at → slice text from at ++ take n (drop at text) ≡ slice text from (at + n)
slice_more text from at n h =
    let to_here : from + (at - from) ≡ at = omega arith in
    let longer : at + n - from ≡ at - from + n = omega arith in
    ap (λ bytes. slice text from at ++ take n bytes) (sym (drop-drop (at - from) from text ∙ ap (λ m. drop m text) to_here))
    ∙ sym (take-add (at - from) n (drop from text)) ∙ ap (λ m. take m (drop from text)) (sym longer)

-- what is spelled from a place that only blanks and comments part from here
abbrev SpelledBefore : List ℕ → ℕ → List Token → Type 0
SpelledBefore text at ts = (from : ℕ) → from ≤ at → IsSpacing (slice text from at) → Spells text from ts

-- at the end only blanks and comments are left
spelled_end : (text : List ℕ) (at : ℕ) → at ≡ length text → SpelledBefore text at []
spelled_end text at e = λ from h spacing. subst IsSpacing (ap (λ m. take (m - from) (drop from text)) e ∙ rest_is from text) spacing

-- between a place and itself there is nothing
empty_slice : (text : List ℕ) (at : ℕ) → IsSpacing (slice text at at)
empty_slice text at = subst (λ (m : ℕ). IsSpacing (take m (drop at text))) (self at) nothing
  where
    self : (m : ℕ) → 0 ≡ m - m
    self m = omega arith

-- a piece's bytes are the slice from its place on
own_slice : (text : List ℕ) (at n : ℕ) → take n (drop at text) ≡ slice text at (at + n)
own_slice text at n = ap (λ m. take m (drop at text)) (only at n)
  where
    only : (k m : ℕ) → m ≡ k + m - k
    only k m = omega arith

-- what spells the text after a piece spells it with the piece
spelled_before : (text : List ℕ) (at n : ℕ) (p : Piece) (ts : List Token) → piece_of (take n (drop at text)) ≡ Some p → SpelledBefore text (at + n) ts → SpelledBefore text at (joined p at n ts)
spelled_before text at n blank ts e next =
    λ from h spacing. next from (omega arith) (subst IsSpacing (slice_more text from at n h) (and_blank (slice text from at) (take n (drop at text)) spacing e))
spelled_before text at n comment ts e next =
    λ from h spacing. next from (omega arith) (subst IsSpacing (slice_more text from at n h) (and_comment (slice text from at) (take n (drop at text)) spacing e))
spelled_before text at n (token k) ts e next =
    λ from h spacing. (spacing, ap kind_of (sym (own_slice text at n)) ∙ token_kind (take n (drop at text)) k e, next (at + n) (omega arith) (empty_slice text (at + n)))

-- the tokens of a text spell it, with the blanks and comments around them
pub spelled : (text : List ℕ) (ts : List Token) → tokens text ≡ Ok ts → Spells text 0 ts
spelled text ts h =
    all_steps text (SpelledBefore text) (spelled_end text)
    (λ at n p us e fits next. spelled_before text at n p us (front_is (drop at text) p n e).piece next) ts h 0 (omega arith) (empty_slice text 0)

-- each of the tokens is of its kind
pub each_of_kind : (text : List ℕ) (at : ℕ) (ts : List Token) → Spells text at ts → All (λ t. kind_of (text_of text t) ≡ Some t.kind) ts
each_of_kind text at [] h = All-nil (λ t. kind_of (text_of text t) ≡ Some t.kind)
each_of_kind text at (t ∷ ts) h = All-cons (λ t. kind_of (text_of text t) ≡ Some t.kind) t ts h.1 (each_of_kind text t.finish ts h.2)

-- tokens in order from one place up to another need that order of the places
in_order_ends : (from upto : ℕ) (ts : List Token) → AreInOrder from upto ts → from ≤ upto
in_order_ends from upto [] h = h
in_order_ends from upto (t ∷ ts) h = along h.0 h.1 (in_order_ends t.finish upto ts h.2)
  where
    along : from ≤ t.start → t.start < t.finish → t.finish ≤ upto → from ≤ upto
    along a b c = omega arith

-- each of the tokens has bytes, all of them inside the text
pub each_inside : (from upto : ℕ) (ts : List Token) → AreInOrder from upto ts → All (λ t. (t.start < t.finish) × (t.finish ≤ upto)) ts
each_inside from upto [] h = All-nil (λ t. (t.start < t.finish) × (t.finish ≤ upto))
each_inside from upto (t ∷ ts) h = All-cons (λ t. (t.start < t.finish) × (t.finish ≤ upto)) t ts (h.1, in_order_ends t.finish upto ts h.2) (each_inside t.finish upto ts h.2)

-- the place just after the last token lies in the text
pub end_inside : (from upto : ℕ) (ts : List Token) → AreInOrder from upto ts → end_of ts ≤ upto
end_inside from upto [] h = omega arith
end_inside from upto (t ∷ []) h = h.2
end_inside from upto (t ∷ u ∷ ts) h = end_inside t.finish upto (u ∷ ts) h.2
