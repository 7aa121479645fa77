-- The tokens of a text, step by step from one piece to the next.
use Rattle.std.specs.Prelude.{◌≡◌, ℕ, zero, suc, pred, ◌+◌, ◌-◌, ◌<◌, ◌≤◌, List, [], ◌∷◌, ◌++◌, take, drop, length, Option, Some, None, Result, Ok, Err}
use Rattle.std.proofs.Common.{refl, ap, sym, ◌∙◌, arith, append_assoc, append-nil}
use Rattle.std.proofs.Math.ListN.{drop_of_length-le}
use Rattle.std.proofs.lemmas.List.{length-drop, drop-drop}
use Rattle.bpl_lex.specs.Token.{Token}
use Rattle.bpl_lex.specs.Shape.{Piece}
use Rattle.bpl_lex.specs.Lexing.{front, joined, onto, tokens_from, tokens}
use Rattle.bpl_lex.specs.TokenView.{kind_seen}
use Rattle.bpl_lex.specs.Front.{piece_seen}
use Rattle.bpl_lex.specs.declared.kinds.TokenKind.{TokenKind}
use Rattle.bpl_lex.specs.declared.pieces.Piece.{Piece as CodePiece}
use Rattle.bpl_lex.specs.declared.pieces.Piece.TheVariants.{Blank, Comment, Token as TokenPiece}
use Rattle.bpl_lex.proofs.Longest.{front_is}
use Rattle.bpl_lex.proofs.Fronts.{rest_is}

-- bytes that belong to what began before are passed over
pub inside_passed : (at k : ℕ) (bytes : List ℕ) → k ≤ length bytes → tokens_from at k bytes ≡ tokens_from (at + k) 0 (drop k bytes)
inside_passed at zero [] h = refl
inside_passed at (suc k) [] h = absurd (omega arith)
inside_passed at zero (b ∷ bytes) h = ap (λ n. tokens_from n 0 (b ∷ bytes)) (unmoved at)
  where
    unmoved : (n : ℕ) → n ≡ n + 0
    unmoved n = omega arith
inside_passed at (suc k) (b ∷ bytes) h = inside_passed (suc at) k bytes (omega arith) ∙ ap (λ n. tokens_from n 0 (drop k bytes)) (moved at k)
  where
    moved : (n m : ℕ) → suc n + m ≡ n + suc m
    moved n m = omega arith

-- what begins has bytes
pub front_some : (bytes : List ℕ) (p : Piece) (n : ℕ) → front bytes ≡ Some (p, n) → 0 < n
front_some bytes p n h = (front_is bytes p n h).some

-- and they lie in the text
pub front_within : (bytes : List ℕ) (p : Piece) (n : ℕ) → front bytes ≡ Some (p, n) → n ≤ length bytes
front_within bytes p n h = (front_is bytes p n h).within

-- the tokens by what begins here
abbrev pub chosen : ℕ → List ℕ → Option (Piece × ℕ) → Result (List Token) ℕ
chosen at bytes o = elim o [ Some f ↦ onto (joined f.0 at f.1) (tokens_from (suc at) (pred f.1) bytes) | None ↦ Err at ]

-- past the piece that begins here
pub one_piece : (at : ℕ) (bytes : List ℕ) (p : Piece) (n : ℕ) → front bytes ≡ Some (p, n) → tokens_from at 0 bytes ≡ onto (joined p at n) (tokens_from (at + n) 0 (drop n bytes))
one_piece at [] p n h = absurd (empty (front_some [] p n h) (front_within [] p n h))
  where
    empty : 0 < n → n ≤ 0 → ⊥
    empty a b = omega arith
one_piece at (b ∷ bytes) p zero h = absurd (none (front_some (b ∷ bytes) p 0 h))
  where
    none : 0 < 0 → ⊥
    none a = omega arith
one_piece at (b ∷ bytes) p (suc n) h =
    ap (chosen at bytes) h ∙ ap (onto (joined p at (suc n))) (inside_passed (suc at) n bytes (below (front_within (b ∷ bytes) p (suc n) h)) ∙ ap (λ m. tokens_from m 0 (drop n bytes)) (moved at n))
  where
    below : suc n ≤ suc (length bytes) → n ≤ length bytes
    below a = omega arith

    moved : (k m : ℕ) → suc k + m ≡ k + suc m
    moved k m = omega arith

-- where nothing begins, that is the answer
pub no_piece : (at : ℕ) (bytes : List ℕ) → 0 < length bytes → front bytes ≡ None → tokens_from at 0 bytes ≡ Err at
no_piece at [] some h = absurd (omega arith)
no_piece at (b ∷ bytes) some h = ap (chosen at bytes) h

-- the tokens so far, before those of an answer
abbrev pub after : List Token → Result (List Token) ℕ → Result (List Token) ℕ
after ts r = onto (λ us. ts ++ us) r

-- tokens move from an answer to those before it
after-onto : (ts us : List Token) (f : List Token → List Token) (r : Result (List Token) ℕ) → ((vs : List Token) → us ++ vs ≡ ts ++ f vs) → after us r ≡ after ts (onto f r)
after-onto ts us f (Ok vs) h = ap Ok (h vs)
after-onto ts us f (Err at) h = refl

-- past the piece that begins at a place of the text
pub piece_at : (text : List ℕ) (at n : ℕ) (p : Piece) → front (drop at text) ≡ Some (p, n) → tokens_from at 0 (drop at text) ≡ onto (joined p at n) (tokens_from (at + n) 0 (drop (at + n) text))
piece_at text at n p h = one_piece at (drop at text) p n h ∙ ap (λ bytes. onto (joined p at n) (tokens_from (at + n) 0 bytes)) (drop-drop n at text)

-- the tokens before a place, and then those after it, over one piece
pub over_piece : (text : List ℕ) (at n : ℕ) (p : Piece) (ts us : List Token) → front (drop at text) ≡ Some (p, n) → ((vs : List Token) → us ++ vs ≡ ts ++ joined p at n vs)
    → after ts (tokens_from at 0 (drop at text)) ≡ tokens text → after us (tokens_from (at + n) 0 (drop (at + n) text)) ≡ tokens text
over_piece text at n p ts us h same before =
    after-onto ts us (joined p at n) (tokens_from (at + n) 0 (drop (at + n) text)) same ∙ sym (ap (after ts) (piece_at text at n p h)) ∙ before

-- at the end of the text, the tokens so far are all
pub at_end : (text : List ℕ) (at : ℕ) (ts : List Token) → length text ≤ at → after ts (tokens_from at 0 (drop at text)) ≡ tokens text → tokens text ≡ Ok ts
at_end text at ts over before =
    let none : drop at text ≡ [] = drop_of_length-le text over in
    sym before ∙ ap (λ bytes. after ts (tokens_from at 0 bytes)) none ∙ ap Ok (append-nil ts)

-- where nothing begins after the tokens so far
pub at_fault : (text : List ℕ) (at : ℕ) (ts : List Token) → at < length text → front (drop at text) ≡ None → after ts (tokens_from at 0 (drop at text)) ≡ tokens text → tokens text ≡ Err at
at_fault text at ts within h before = sym before ∙ ap (after ts) (no_piece at (drop at text) (omega (arith, length-drop at text)) h)

-- what begins at a place ends in the text
pub piece_fits : (text : List ℕ) (at n : ℕ) (p : Piece) → at ≤ length text → front (drop at text) ≡ Some (p, n) → at + n ≤ length text
piece_fits text at n p within h = omega (arith, front_within (drop at text) p n h, length-drop at text)

-- the front of the code's slice from a place on
pub front_at : (text : List ℕ) (at : ℕ) (o : Option (Piece × ℕ)) → o ≡ front (take (length text - at) (drop at text)) → front (drop at text) ≡ o
front_at text at o h = ap front (sym (rest_is at text)) ∙ sym h

-- a blank or a comment is no token
pub no_token : (p : CodePiece) (at n : ℕ) (ts vs : List Token) → ((k : TokenKind) → p ≡ TokenPiece k → ⊥) → ts ++ vs ≡ ts ++ joined (piece_seen p) at n vs
no_token Blank at n ts vs h = refl
no_token Comment at n ts vs h = refl
no_token (TokenPiece k) at n ts vs h = absurd (h k refl)

-- a token stands before those after it
pub one_token : (p : CodePiece) (k : TokenKind) (at n : ℕ) (ts us vs : List Token) → us ≡ ts ++ record { kind = kind_seen k; start = at; finish = at + n } ∷ [] → p ≡ TokenPiece k → us ++ vs ≡ ts ++ joined (piece_seen p) at n vs
one_token p k at n ts us vs pushed h =
    ap (λ xs. xs ++ vs) pushed ∙ append_assoc ts (record { kind = kind_seen k; start = at; finish = at + n } ∷ []) vs ∙ ap (λ q. ts ++ joined (piece_seen q) at n vs) (sym h)
