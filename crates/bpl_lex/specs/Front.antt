-- What the code finds at the front of a text, seen as the definitions have it, and where what is
-- open there ends.
use Rattle.std.specs.Prelude.{◌≡◌, ℕ, suc, ◌<◌, ◌≤◌, Bool, true, false, cond, nat_eq, List, [], ◌∷◌, take, length, Option, Some, None, option_map, codes, slice_index}
use Rattle.std.specs.List.{starts_with}
use Rattle.bpl_lex.specs.Shape.{Piece, blank, comment, token, is_blank_byte, is_letter, is_digit, opens_comment}
use Rattle.bpl_lex.specs.TokenView.{kind_seen}
use Rattle.bpl_lex.specs.declared.pieces.Piece.{Piece as CodePiece}
use Rattle.bpl_lex.specs.declared.pieces.Piece.TheVariants.{Blank, Comment, Token}
use Rattle.bpl_lex.specs.declared.pieces.Found.{Found}

abbrev pub piece_seen : CodePiece → Piece
piece_seen Blank = blank
piece_seen Comment = comment
piece_seen (Token k) = token (kind_seen k)

abbrev pub found_seen : Found → Piece × ℕ
found_seen f = (piece_seen f.piece, f.length)

-- the place just after the first `*/`
abbrev pub comment_end : List ℕ → Option ℕ
comment_end [] = None
comment_end (b ∷ bytes) = cond (starts_with nat_eq (b ∷ bytes) (codes "*/")) (Some 2) (option_map suc (comment_end bytes))

-- the place just after the first `"`, where no line feed stands before it
abbrev pub string_end : List ℕ → Option ℕ
string_end [] = None
string_end (b ∷ bytes) = cond (nat_eq b 34) (Some 1) (cond (nat_eq b 10) None (option_map suc (string_end bytes)))

-- the longest front that passes the test has n bytes
pub record IsLongestPassing (test : List ℕ → Bool) (bytes : List ℕ) (n : ℕ) : Type 0 where
  pub some : 0 < n
  pub within : n ≤ length bytes
  pub passes : test (take n bytes) ≡ true
  pub longer : (m : ℕ) → n < m → m ≤ length bytes → test (take m bytes) ≡ false

-- no front of at least one byte passes the test
abbrev pub NonePasses : (List ℕ → Bool) → List ℕ → Type 0
NonePasses test bytes = (m : ℕ) → 0 < m → m ≤ length bytes → test (take m bytes) ≡ false

-- a first byte that begins no blank, identifier, number, string or comment
pub record BeginsNoOther (bytes : List ℕ) : Type 0 where
  pub blank : is_blank_byte (slice_index bytes 0) ≡ false
  pub letter : is_letter (slice_index bytes 0) ≡ false
  pub digit : is_digit (slice_index bytes 0) ≡ false
  pub quote : nat_eq (slice_index bytes 0) 34 ≡ false
  pub line : starts_with nat_eq bytes (codes "//") ≡ false
  pub block : opens_comment bytes ≡ false
