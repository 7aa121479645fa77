-- How the tests of the kinds come out at a text by its first bytes, and what the text then is.
use Rattle.std.specs.Prelude.{◌≡◌, ℕ, Bool, true, false, ◌&&◌, ◌||◌, not, nat_eq, if◌then◌else◌, List, ◌∷◌, drop, length, Option, Some, None, option_map, codes}
use Rattle.std.specs.List.{list_all, starts_with}
use Rattle.std.proofs.Common.{refl, sym, ◌∙◌}
use Rattle.bpl_lex.specs.Token.{id, number, text, sign, word}
use Rattle.bv_base.specs.Text.{is_among}
use Rattle.bpl_lex.specs.Shape.{words, brackets, signs, is_sign, is_blank_byte, is_letter, is_digit, is_blank, is_line_comment, is_block_comment, opens_comment, ends_comment, ends_string, is_identifier, is_number, is_string, Piece, blank, comment, token, piece_of}
use Rattle.bpl_lex.proofs.FirstBytes.{differs, differs', not_among, digit_no_letter, letter_no_digit, letter_no_blank}

-- what the text is, by its tests
abbrev pub choice : Bool → Bool → Bool → Bool → Bool → Bool → Bool → Option Piece
choice b c i w n s g =
    if b then Some blank
    else if c then Some comment
    else option_map token (if i then Some (if w then word else id) else if n then Some number else if s then Some text else if g then Some sign else None)

-- the tests of the text
pub record Reads (bytes : List ℕ) (b c i n s g : Bool) : Type 0 where
  pub blanks : is_blank bytes ≡ b
  pub comments : (is_line_comment bytes || is_block_comment bytes) ≡ c
  pub identifiers : is_identifier bytes ≡ i
  pub numbers : is_number bytes ≡ n
  pub strings : is_string bytes ≡ s
  pub signs : is_sign bytes ≡ g

-- the text is what its tests say
pub piece_is : (bytes : List ℕ) (b c i n s g : Bool) → Reads bytes b c i n s g → piece_of bytes ≡ choice b c i (is_among words bytes) n s g
piece_is bytes b c i n s g r = λ j. choice (r.blanks j) (r.comments j) (r.identifiers j) (is_among words bytes) (r.numbers j) (r.strings j) (r.signs j)

-- a byte that may stand in an identifier
abbrev pub is_name_byte : ℕ → Bool
is_name_byte b = is_letter b || is_digit b

-- a text that begins with no slash is no comment
no_comment : (b : ℕ) (bytes : List ℕ) → nat_eq 47 b ≡ false → (is_line_comment (b ∷ bytes) || is_block_comment (b ∷ bytes)) ≡ false
no_comment b bytes h = rw h

-- the tests of a text that begins with a letter
pub reads_name : (b : ℕ) (bytes : List ℕ) (x : Bool) → is_letter b ≡ true → list_all is_name_byte (b ∷ bytes) ≡ x → Reads (b ∷ bytes) false false x false false false
reads_name b bytes x h e = record {
  blanks = λ j. letter_no_blank b h j && nat_eq (length bytes) 0;
  comments = no_comment b bytes (differs' is_letter b 47 h refl);
  identifiers = (λ j. h j && list_all is_name_byte bytes) ∙ sym (λ j. (h j || is_digit b) && list_all is_name_byte bytes) ∙ e;
  numbers = λ j. letter_no_digit b h j && list_all is_digit bytes;
  strings = λ j. differs is_letter b 34 h refl j && ends_string bytes;
  signs = λ j. not_among is_letter b bytes brackets h refl j || not_among is_letter b bytes signs h refl j;
}

-- of one that begins with a digit
pub reads_number : (b : ℕ) (bytes : List ℕ) (x : Bool) → is_digit b ≡ true → list_all is_digit (b ∷ bytes) ≡ x → Reads (b ∷ bytes) false false false x false false
reads_number b bytes x h e = record {
  blanks = λ j. (differs is_digit b 32 h refl j || differs is_digit b 9 h refl j || differs is_digit b 13 h refl j || differs is_digit b 10 h refl j) && nat_eq (length bytes) 0;
  comments = no_comment b bytes (differs' is_digit b 47 h refl);
  identifiers = λ j. digit_no_letter b h j && list_all is_name_byte bytes;
  numbers = e;
  strings = λ j. differs is_digit b 34 h refl j && ends_string bytes;
  signs = λ j. not_among is_digit b bytes brackets h refl j || not_among is_digit b bytes signs h refl j;
}

-- of one that begins with a quote
pub reads_string : (bytes : List ℕ) (x : Bool) → ends_string bytes ≡ x → Reads (34 ∷ bytes) false false false false x false
reads_string bytes x e = record { blanks = refl; comments = refl; identifiers = refl; numbers = refl; strings = e; signs = refl }

-- a test or false is the test
or_no : (x : Bool) → (x || false) ≡ x
or_no true = refl
or_no false = refl

-- of one that begins with two slashes
pub reads_line : (bytes : List ℕ) (x : Bool) → list_all (λ b. not (nat_eq b 10)) (47 ∷ 47 ∷ bytes) ≡ x → Reads (47 ∷ 47 ∷ bytes) false x false false false false
reads_line bytes x e = record { blanks = refl; comments = or_no _ ∙ e; identifiers = refl; numbers = refl; strings = refl; signs = refl }

-- of one that begins with a slash and a star
pub reads_block : (bytes : List ℕ) (x : Bool) → ends_comment bytes ≡ x → Reads (47 ∷ 42 ∷ bytes) false x false false false false
reads_block bytes x e = record { blanks = refl; comments = e; identifiers = refl; numbers = refl; strings = refl; signs = refl }

-- of one that begins with another byte
pub reads_sign : (b : ℕ) (bytes : List ℕ) → is_blank_byte b ≡ false → is_letter b ≡ false → is_digit b ≡ false → nat_eq b 34 ≡ false
    → starts_with nat_eq (b ∷ bytes) (codes "//") ≡ false → opens_comment (b ∷ bytes) ≡ false → Reads (b ∷ bytes) false false false false false (is_sign (b ∷ bytes))
reads_sign b bytes no_blank letter digit quote line block = record {
  blanks = λ j. no_blank j && nat_eq (length bytes) 0;
  comments = λ j. line j && list_all (λ c. not (nat_eq c 10)) (b ∷ bytes) || block j && ends_comment (drop 2 (b ∷ bytes));
  identifiers = λ j. letter j && list_all is_name_byte bytes;
  numbers = λ j. digit j && list_all is_digit bytes;
  strings = λ j. quote j && ends_string bytes;
  signs = refl;
}
