-- What begins at the front of a text, kind by kind.
use Rattle.std.specs.Prelude.{◌≡◌, ℕ, zero, suc, pred, ◌+◌, ◌-◌, ◌<◌, ◌≤◌, Bool, true, false, ◌&&◌, ◌||◌, not, nat_eq, cond, if◌then◌else◌, List, [], ◌∷◌, take, length, ◌⊎◌, Option, Some, None, option_map, drop, codes, slice_index, slice_get, take_while}
use Rattle.std.specs.List.{list_all, starts_with, prefix_len}
use Rattle.std.proofs.Common.{refl, ap, sym, ◌∙◌, subst, ⊎_elim, arith}
use Rattle.std.proofs.lemmas.Bool.Decides.{nat_tests, Decides-eqb}
use Rattle.std.proofs.Math.Seq.{take-length}
use Rattle.std.proofs.lemmas.List.{length-take-le, length-drop}
use Rattle.std.proofs.lemmas.List.Folds.{length-prefix_len}
use Rattle.std.proofs.lemmas.List.Sums.{prefix_len-le-length}
use Rattle.std.specs.Cmp.Lexicographic.{same_text}
use Rattle.bpl_lex.specs.Token.{id, number, text, sign, word}
use Rattle.bv_base.specs.Text.{is_among}
use Rattle.bpl_lex.specs.Shape.{words, is_sign, is_blank_byte, is_letter, is_digit, opens_comment, Piece, blank, comment, token, piece_of}
use Rattle.bpl_lex.specs.Lexing.{allowed, front}
use Rattle.bpl_lex.specs.Front.{comment_end, string_end, IsLongestPassing, NonePasses, BeginsNoOther}
use Rattle.bpl_lex.proofs.Longest.{front_from, front_none}
use Rattle.bpl_lex.proofs.Closing.{is_at, string_ends, string_end-le, comment_ends, comment_end-le}
use Rattle.bpl_lex.proofs.Shapes.{piece_is, is_name_byte, reads_name, reads_number, reads_string, reads_line, reads_block, reads_sign}
use Rattle.bpl_lex.proofs.Prefixes.{prefix_passes, prefix_longest, prefix_some}
use Rattle.bpl_lex.proofs.FirstBytes.{differs'}

-- Where the fronts of more than k bytes are pieces as a test has it, the longest that passes begins.
front_by : (bytes : List ℕ) (t : ℕ → Bool) (p : ℕ → Piece) (k n : ℕ) → ((m : ℕ) → k < m → m ≤ length bytes → piece_of (take m bytes) ≡ cond (t m) (Some (p m)) None)
    → k < n → n ≤ length bytes → t n ≡ true → ((m : ℕ) → n < m → m ≤ length bytes → t m ≡ false) → front bytes ≡ allowed (opens_comment bytes) (p n) n
front_by bytes t p k n each above within here beyond = front_from bytes (p n) n (record {
  piece = each n above within ∙ ap (λ b. cond b (Some (p n)) None) here;
  some = omega arith;
  within = within;
  longer = λ m a b. each m (omega arith) b ∙ ap (λ b. cond b (Some (p m)) None) (beyond m a b);
})

-- a function of a choice between a value and nothing
option_map_cond : {A B : Type 0} (f : A → B) (x : Bool) (a : A) → option_map f (cond x (Some a) None) ≡ cond x (Some (f a)) None
option_map_cond f true a = refl
option_map_cond f false a = refl

-- only a slash opens a comment
no_open : (b : ℕ) (bytes : List ℕ) → nat_eq 47 b ≡ false → opens_comment (b ∷ bytes) ≡ false
no_open b bytes h = rw h

-- the same for the bytes at the front that pass a test
prefix_by : (bytes : List ℕ) (t : ℕ → Bool) (p : ℕ → Piece) (k n : ℕ) → ((m : ℕ) → k < m → piece_of (take m bytes) ≡ cond (list_all t (take m bytes)) (Some (p m)) None)
    → opens_comment bytes ≡ false → k < prefix_len t bytes → n ≡ length (take_while t bytes) → front bytes ≡ Some (p n, n)
prefix_by bytes t p k n each closed above e =
    let same : n ≡ prefix_len t bytes = e ∙ length-prefix_len t bytes in
    front_by bytes (λ m. list_all t (take m bytes)) p k n (λ m a b. each m a) (omega arith) (omega (arith, prefix_len-le-length t bytes))
    (ap (λ m. list_all t (take m bytes)) same ∙ prefix_passes t bytes) (λ m a b. prefix_longest t bytes m (omega arith) b)
    ∙ (λ j. allowed (closed j) (p n) n)

-- a word or an identifier
abbrev pub name_kind : List ℕ → ℕ → Piece
name_kind bytes n = token (if is_among words (take n bytes) then word else id)

-- a front after a letter is a word or an identifier where its bytes may all stand in one
name_piece : (b : ℕ) (bytes : List ℕ) → is_letter b ≡ true → (m : ℕ) → 0 < m → piece_of (take m (b ∷ bytes)) ≡ cond (list_all is_name_byte (take m (b ∷ bytes))) (Some (name_kind (b ∷ bytes) m)) None
name_piece b bytes h zero a = absurd (omega arith)
name_piece b bytes h (suc m) a =
    piece_is (b ∷ take m bytes) _ _ _ _ _ _ (reads_name b (take m bytes) _ h refl) ∙ option_map_cond token (list_all is_name_byte (b ∷ take m bytes)) (if is_among words (b ∷ take m bytes) then word else id)

-- after a letter a word or an identifier begins
pub name_begins : (bytes : List ℕ) (n : ℕ) → is_letter (slice_index bytes 0) ≡ true → n ≡ length (take_while is_name_byte bytes) → front bytes ≡ Some (name_kind bytes n, n)
name_begins [] n h e = absurd (cc)
name_begins (b ∷ bytes) n h e =
    prefix_by (b ∷ bytes) is_name_byte (name_kind (b ∷ bytes)) 0 n (name_piece b bytes h) (no_open b bytes (differs' is_letter b 47 h refl)) (prefix_some is_name_byte b bytes (λ j. h j || is_digit b)) e

-- a front after a digit is a number where it is all digits
number_piece : (b : ℕ) (bytes : List ℕ) → is_digit b ≡ true → (m : ℕ) → 0 < m → piece_of (take m (b ∷ bytes)) ≡ cond (list_all is_digit (take m (b ∷ bytes))) (Some (token number)) None
number_piece b bytes h zero a = absurd (omega arith)
number_piece b bytes h (suc m) a = piece_is (b ∷ take m bytes) _ _ _ _ _ _ (reads_number b (take m bytes) _ h refl) ∙ option_map_cond token (list_all is_digit (b ∷ take m bytes)) number

-- after a digit a number begins
pub number_begins : (bytes : List ℕ) (n : ℕ) → is_digit (slice_index bytes 0) ≡ true → n ≡ length (take_while is_digit bytes) → front bytes ≡ Some (token number, n)
number_begins [] n h e = absurd (cc)
number_begins (b ∷ bytes) n h e =
    prefix_by (b ∷ bytes) is_digit (λ m. token number) 0 n (number_piece b bytes h) (no_open b bytes (differs' is_digit b 47 h refl)) (prefix_some is_digit b bytes h) e

-- a byte other than line feed
abbrev pub in_line : ℕ → Bool
in_line b = not (nat_eq b 10)

-- a front after two slashes is a comment where it has no line feed
line_piece : (bytes : List ℕ) (m : ℕ) → 1 < m → piece_of (take m (47 ∷ 47 ∷ bytes)) ≡ cond (list_all in_line (take m (47 ∷ 47 ∷ bytes))) (Some comment) None
line_piece bytes zero a = absurd (omega arith)
line_piece bytes (suc zero) a = absurd (omega arith)
line_piece bytes (suc (suc m)) a = piece_is (47 ∷ 47 ∷ take m bytes) _ _ _ _ _ _ (reads_line (take m bytes) _ refl)

-- a text that starts with two bytes has them first
two_first : (c d : ℕ) (bytes : List ℕ) → starts_with nat_eq bytes (c ∷ d ∷ []) ≡ true → c ∷ d ∷ drop 2 bytes ≡ bytes
two_first c d [] h = absurd (cc)
two_first c d (b ∷ []) h = let e : c ∷ d ∷ [] ≡ b ∷ [] = same_text _ _ (sym h) in absurd (cc)
two_first c d (b ∷ e ∷ bytes) h = let i : c ∷ d ∷ [] ≡ b ∷ e ∷ [] = same_text _ _ (sym h) in cc

-- after two slashes a comment begins, of the bytes in the line
line_at : (bytes : List ℕ) (n : ℕ) → n ≡ length (take_while in_line (47 ∷ 47 ∷ bytes)) → front (47 ∷ 47 ∷ bytes) ≡ Some (comment, n)
line_at bytes n e = prefix_by (47 ∷ 47 ∷ bytes) in_line (λ m. comment) 1 n (line_piece bytes) refl (omega arith) e

-- the same of a text that starts with them
pub line_begins : (bytes : List ℕ) (n : ℕ) → starts_with nat_eq bytes (codes "//") ≡ true → n ≡ length (take_while in_line bytes) → front bytes ≡ Some (comment, n)
line_begins bytes n h = subst (λ (bs : List ℕ). n ≡ length (take_while in_line bs) → front bs ≡ Some (comment, n)) (two_first 47 47 bytes h) (line_at (drop 2 bytes) n)

-- a string up to its end
string_piece : (bytes : List ℕ) (m : ℕ) → 0 < m → m ≤ suc (length bytes) → piece_of (take m (34 ∷ bytes)) ≡ cond (is_at (string_end bytes) (pred m)) (Some (token text)) None
string_piece bytes zero a c = absurd (omega arith)
string_piece bytes (suc m) a c =
    piece_is (34 ∷ take m bytes) _ _ _ _ _ _ (reads_string (take m bytes) _ (string_ends bytes m (omega arith))) ∙ option_map_cond token (is_at (string_end bytes) m) text

-- a number is itself
found : (n : ℕ) → nat_eq n n ≡ true
found n = (Decides-eqb n n).1 refl

-- a longer front has another length
past : (n m : ℕ) → suc n < m → nat_eq n (pred m) ≡ false
past n zero a = absurd (omega arith)
past n (suc m) a = grind (arith, nat_tests)

-- the same after two bytes
past_two : (n m : ℕ) → suc (suc n) < m → nat_eq n (pred (pred m)) ≡ false
past_two n zero a = absurd (omega arith)
past_two n (suc m) a = past n m (omega arith)

-- at a quote a string begins, up to its end, or nothing where it has none
string_at : (bytes : List ℕ) (o : Option ℕ) → string_end bytes ≡ o → front (34 ∷ bytes) ≡ option_map (λ n. (token text, suc n)) o
string_at bytes None e = front_none (34 ∷ bytes) (λ m a c. string_piece bytes m a c ∙ ap (λ o. cond (is_at o (pred m)) (Some (token text)) None) e)
string_at bytes (Some n) e =
    front_by (34 ∷ bytes) (λ m. is_at (Some n) (pred m)) (λ m. token text) 0 (suc n)
    (λ m a c. string_piece bytes m a c ∙ ap (λ o. cond (is_at o (pred m)) (Some (token text)) None) e)
    (omega arith) (omega (arith, string_end-le bytes n e)) (found n) (λ m a c. past n m a)

-- the same of a text that starts with a quote
pub string_begins : (bytes : List ℕ) → slice_get bytes 0 ≡ Some 34 → front bytes ≡ option_map (λ n. (token text, suc n)) (string_end (drop 1 bytes))
string_begins [] h = absurd (cc)
string_begins (b ∷ bytes) h =
    let e : 34 ≡ b = cc in
    subst (λ (c : ℕ). front (c ∷ bytes) ≡ option_map (λ n. (token text, suc n)) (string_end bytes)) e (string_at bytes (string_end bytes) refl)

-- a comment up to its end
block_piece : (bytes : List ℕ) (m : ℕ) → 1 < m → m ≤ suc (suc (length bytes)) → piece_of (take m (47 ∷ 42 ∷ bytes)) ≡ cond (is_at (comment_end bytes) (pred (pred m))) (Some comment) None
block_piece bytes zero a c = absurd (omega arith)
block_piece bytes (suc zero) a c = absurd (omega arith)
block_piece bytes (suc (suc m)) a c = piece_is (47 ∷ 42 ∷ take m bytes) _ _ _ _ _ _ (reads_block (take m bytes) _ (comment_ends bytes m (omega arith)))

-- at a slash and a star a comment begins, up to its end, or nothing where it has none
block_at : (bytes : List ℕ) (o : Option ℕ) → comment_end bytes ≡ o → front (47 ∷ 42 ∷ bytes) ≡ option_map (λ n. (comment, suc (suc n))) o
block_at bytes None e =
    front_from (47 ∷ 42 ∷ bytes) (token sign) 1 (record {
      piece = refl;
      some = omega arith;
      within = omega arith;
      longer = λ m a c. block_piece bytes m a c ∙ ap (λ o. cond (is_at o (pred (pred m))) (Some comment) None) e;
    })
block_at bytes (Some n) e =
    front_by (47 ∷ 42 ∷ bytes) (λ m. is_at (Some n) (pred (pred m))) (λ m. comment) 1 (suc (suc n))
    (λ m a c. block_piece bytes m a c ∙ ap (λ o. cond (is_at o (pred (pred m))) (Some comment) None) e)
    (omega arith) (omega (arith, comment_end-le bytes n e)) (found n) (λ m a c. past_two n m a)

-- the same of a text that starts with them
pub block_begins : (bytes : List ℕ) → opens_comment bytes ≡ true → front bytes ≡ option_map (λ n. (comment, suc (suc n))) (comment_end (drop 2 bytes))
block_begins bytes h =
    subst (λ (bs : List ℕ). front bs ≡ option_map (λ n. (comment, suc (suc n))) (comment_end (drop 2 bs))) (two_first 47 42 bytes h) (block_at (drop 2 bytes) (comment_end (drop 2 bytes)) refl)

-- a sign
and_no : (x : Bool) → (x && false) ≡ false
and_no true = refl
and_no false = refl

-- a front of a text starts with no two bytes that the text does not start with
no_start : (c d : ℕ) (bytes : List ℕ) (m : ℕ) → starts_with nat_eq bytes (c ∷ d ∷ []) ≡ false → starts_with nat_eq (take m bytes) (c ∷ d ∷ []) ≡ false
no_start c d bytes zero h = refl
no_start c d [] (suc m) h = refl
no_start c d (b ∷ bytes) (suc zero) h = and_no (nat_eq c b)
no_start c d (b ∷ []) (suc (suc m)) h = h
no_start c d (b ∷ e ∷ bytes) (suc (suc m)) h = h

-- a front after a byte that begins nothing else is a sign where the table has it
sign_piece : (bytes : List ℕ) → BeginsNoOther bytes → (m : ℕ) → 0 < m → piece_of (take m bytes) ≡ cond (is_sign (take m bytes)) (Some (token sign)) None
sign_piece bytes h zero a = absurd (omega arith)
sign_piece [] h (suc m) a = refl
sign_piece (b ∷ bytes) h (suc m) a =
    piece_is (b ∷ take m bytes) _ _ _ _ _ _ (reads_sign b (take m bytes) h.blank h.letter h.digit h.quote (no_start 47 47 (b ∷ bytes) (suc m) h.line) (no_start 47 42 (b ∷ bytes) (suc m) h.block))
    ∙ option_map_cond token (is_sign (b ∷ take m bytes)) sign

-- there the longest sign begins
pub sign_begins : (bytes : List ℕ) (n : ℕ) → BeginsNoOther bytes → IsLongestPassing is_sign bytes n → front bytes ≡ Some (token sign, n)
sign_begins bytes n h l =
    front_by bytes (λ m. is_sign (take m bytes)) (λ m. token sign) 0 n (λ m a c. sign_piece bytes h m a) l.some l.within l.passes l.longer
    ∙ (λ j. allowed (h.block j) (token sign) n)

-- and nothing where no front is a sign
pub nothing_begins : (bytes : List ℕ) → BeginsNoOther bytes → NonePasses is_sign bytes → front bytes ≡ None
nothing_begins bytes h l = front_none bytes (λ m a c. sign_piece bytes h m a ∙ ap (λ x. cond x (Some (token sign)) None) (l m a c))

-- a blank
blank_is : (b : ℕ) → is_blank_byte b ≡ true → (b ≡ 32) ⊎ ((b ≡ 9) ⊎ ((b ≡ 13) ⊎ (b ≡ 10)))
blank_is b h = grind (arith, nat_tests)

-- a text that begins with this byte is a blank where it has no other
abbrev IsBlankPiece : List ℕ → ℕ → Type 0
IsBlankPiece bytes b = piece_of (b ∷ bytes) ≡ cond (nat_eq (length bytes) 0) (Some blank) None

-- each of them is a blank alone
blank_piece : (b : ℕ) → is_blank_byte b ≡ true → (bytes : List ℕ) → IsBlankPiece bytes b
blank_piece b h bytes =
    ⊎_elim (λ (e : b ≡ 32). subst (IsBlankPiece bytes) (sym e) refl)
    (⊎_elim (λ (e : b ≡ 9). subst (IsBlankPiece bytes) (sym e) refl)
    (⊎_elim (λ (e : b ≡ 13). subst (IsBlankPiece bytes) (sym e) refl) (λ (e : b ≡ 10). subst (IsBlankPiece bytes) (sym e) refl)))
    (blank_is b h)

-- a front after a blank is a blank where it has one byte
blank_front : (b : ℕ) (bytes : List ℕ) → is_blank_byte b ≡ true → (m : ℕ) → 0 < m → m ≤ suc (length bytes) → piece_of (take m (b ∷ bytes)) ≡ cond (nat_eq (pred m) 0) (Some blank) None
blank_front b bytes h zero a c = absurd (omega arith)
blank_front b bytes h (suc m) a c = blank_piece b h (take m bytes) ∙ ap (λ n. cond (nat_eq n 0) (Some blank) None) (length-take-le m bytes (omega arith))

-- at a blank a blank begins, of one byte
blank_at : (b : ℕ) (bytes : List ℕ) → is_blank_byte b ≡ true → front (b ∷ bytes) ≡ Some (blank, 1)
blank_at b bytes h =
    front_by (b ∷ bytes) (λ m. nat_eq (pred m) 0) (λ m. blank) 0 1 (blank_front b bytes h) (omega arith) (omega arith) refl (λ m a c. past_one m a)
    ∙ (λ j. allowed (no_open b bytes (differs' is_blank_byte b 47 h refl) j) blank 1)
  where
    past_one : (m : ℕ) → 1 < m → nat_eq (pred m) 0 ≡ false
    past_one zero a = absurd (omega arith)
    past_one (suc m) a = grind (arith, nat_tests)

-- the same of a text that starts with it
pub blank_begins : (b : ℕ) (bytes : List ℕ) → slice_get bytes 0 ≡ Some b → is_blank_byte b ≡ true → front bytes ≡ Some (blank, 1)
blank_begins b [] e h = absurd (cc)
blank_begins b (c ∷ bytes) e h =
    let same : b ≡ c = cc in
    blank_at c bytes (subst (λ (d : ℕ). is_blank_byte d ≡ true) same h)

-- the code's slices from a place on
pub rest_is : (k : ℕ) (bytes : List ℕ) → take (length bytes - k) (drop k bytes) ≡ drop k bytes
rest_is k bytes = ap (λ n. take n (drop k bytes)) (sym (length-drop k bytes)) ∙ take-length (drop k bytes)

-- one more
one_more : (n : ℕ) → suc n ≡ 1 + n
one_more n = omega arith

-- two more
two_more : (n : ℕ) → suc (suc n) ≡ 2 + n
two_more n = omega arith

-- at a quote, by where the code finds the end in the bytes after it
pub string_found : (bytes : List ℕ) (o : Option ℕ) → slice_get bytes 0 ≡ Some 34 → o ≡ string_end (take (length bytes - 1) (drop 1 bytes)) → front bytes ≡ option_map (λ n. (token text, 1 + n)) o
string_found bytes o h e = string_begins bytes h ∙ ap (option_map (λ n. (token text, suc n))) (sym (e ∙ ap string_end (rest_is 1 bytes))) ∙ (λ j. option_map (λ n. (token text, one_more n j)) o)

-- that end lies in the text
pub string_fits : (bytes : List ℕ) (n : ℕ) → slice_get bytes 0 ≡ Some 34 → Some n ≡ string_end (take (length bytes - 1) (drop 1 bytes)) → 1 + n ≤ length bytes
string_fits [] n h e = absurd (cc)
string_fits (b ∷ bytes) n h e = omega (arith, string_end-le bytes n (sym (e ∙ ap string_end (rest_is 1 (b ∷ bytes)))))

-- at a slash and a star, by where the code finds the end in the bytes after them
pub block_found : (bytes : List ℕ) (o : Option ℕ) → opens_comment bytes ≡ true → o ≡ comment_end (take (length bytes - 2) (drop 2 bytes)) → front bytes ≡ option_map (λ n. (comment, 2 + n)) o
block_found bytes o h e = block_begins bytes h ∙ ap (option_map (λ n. (comment, suc (suc n)))) (sym (e ∙ ap comment_end (rest_is 2 bytes))) ∙ (λ j. option_map (λ n. (comment, two_more n j)) o)

-- that end lies in the text
pub block_fits : (bytes : List ℕ) (n : ℕ) → opens_comment bytes ≡ true → Some n ≡ comment_end (take (length bytes - 2) (drop 2 bytes)) → 2 + n ≤ length bytes
block_fits [] n h e = absurd (cc)
block_fits (b ∷ []) n h e = absurd (cc)
block_fits (b ∷ c ∷ bytes) n h e = omega (arith, comment_end-le bytes n (sym (e ∙ ap comment_end (rest_is 2 (b ∷ c ∷ bytes)))))
