-- The text of some lines: each is ended by a line feed. Whether a text is one of some.
use Rattle.std.specs.Prelude.{◌≡◌, ◌⊎◌, ℕ, zero, suc, ◌+◌, cond, nat_eq, Bool, List, [], ◌∷◌, ◌++◌, flat_map, bytes_eq}
use Rattle.std.specs.List.{list_any}

abbrev pub line_feed : ℕ
line_feed = 10

abbrev pub ended : List ℕ → List ℕ
ended line = line ++ line_feed ∷ []

abbrev pub text_of : List (List ℕ) → List ℕ
text_of lines = flat_map ended lines

-- how often a byte stands in a text
abbrev pub count : ℕ → List ℕ → ℕ
count c [] = 0
count c (b ∷ bs) = cond (nat_eq b c) 1 0 + count c bs

-- the byte stands nowhere in the text
abbrev pub IsWithout : ℕ → List ℕ → Type 0
IsWithout c bs = count c bs ≡ 0

-- nothing stands before the line, or another line that is ended
abbrev pub IsLineStart : List ℕ → Type 0
IsLineStart before = (before ≡ []) ⊎ ((front : List ℕ) × (before ≡ front ++ line_feed ∷ []))

-- the line stands in the text, whole
pub record HasLine (text line : List ℕ) : Type 0 where
  pub before : List ℕ
  pub after : List ℕ
  pub starts : IsLineStart before
  pub stands : text ≡ before ++ (ended line ++ after)

-- the text is one of these, byte for byte
abbrev pub is_among : List (List ℕ) → List ℕ → Bool
is_among texts text = list_any (bytes_eq text) texts
