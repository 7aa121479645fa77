-- The tests that the bytes of a token pass, kind by kind.
use Rattle.std.specs.Prelude.{◌≡◌, ℕ, Bool, true, false, cond, List, Option, Some, None}
use Rattle.std.proofs.Common.{refl}
use Rattle.bpl_lex.specs.Token.{Kind, id, number, text, sign, word}
use Rattle.bv_base.specs.Text.{is_among}
use Rattle.bpl_lex.specs.Shape.{words, is_identifier, is_number, is_string, is_sign, kind_of}

-- the kind, by the tests
kind_by : Bool → Bool → Bool → Bool → Bool → Option Kind
kind_by i w n s g = cond i (Some (cond w word id)) (cond n (Some number) (cond s (Some text) (cond g (Some sign) None)))

-- the tests of an identifier
by_id : (i w n s g : Bool) → kind_by i w n s g ≡ Some id → (i ≡ true) × (w ≡ false)
unfolding kind_by
by_id true true n s g h = absurd (cc)
by_id true false n s g h = (refl, refl)
by_id false w true s g h = absurd (cc)
by_id false w false true g h = absurd (cc)
by_id false w false false true h = absurd (cc)
by_id false w false false false h = absurd (cc)

-- the tests of a word
by_word : (i w n s g : Bool) → kind_by i w n s g ≡ Some word → w ≡ true
unfolding kind_by
by_word true true n s g h = refl
by_word true false n s g h = absurd (cc)
by_word false w true s g h = absurd (cc)
by_word false w false true g h = absurd (cc)
by_word false w false false true h = absurd (cc)
by_word false w false false false h = absurd (cc)

-- the test of a number
by_number : (i w n s g : Bool) → kind_by i w n s g ≡ Some number → n ≡ true
unfolding kind_by
by_number true true n s g h = absurd (cc)
by_number true false n s g h = absurd (cc)
by_number false w true s g h = refl
by_number false w false true g h = absurd (cc)
by_number false w false false true h = absurd (cc)
by_number false w false false false h = absurd (cc)

-- the test of a string
by_text : (i w n s g : Bool) → kind_by i w n s g ≡ Some text → s ≡ true
unfolding kind_by
by_text true true n s g h = absurd (cc)
by_text true false n s g h = absurd (cc)
by_text false w true s g h = absurd (cc)
by_text false w false true g h = refl
by_text false w false false true h = absurd (cc)
by_text false w false false false h = absurd (cc)

-- the test of a sign
by_sign : (i w n s g : Bool) → kind_by i w n s g ≡ Some sign → g ≡ true
unfolding kind_by
by_sign true true n s g h = absurd (cc)
by_sign true false n s g h = absurd (cc)
by_sign false w true s g h = absurd (cc)
by_sign false w false true g h = absurd (cc)
by_sign false w false false true h = refl
by_sign false w false false false h = absurd (cc)

-- an identifier is one, and no word
pub id_text : (bytes : List ℕ) → kind_of bytes ≡ Some id → (is_identifier bytes ≡ true) × (is_among words bytes ≡ false)
unfolding kind_by
id_text bytes h = by_id (is_identifier bytes) (is_among words bytes) (is_number bytes) (is_string bytes) (is_sign bytes) h

-- a word is in the table of words
pub word_text : (bytes : List ℕ) → kind_of bytes ≡ Some word → is_among words bytes ≡ true
unfolding kind_by
word_text bytes h = by_word (is_identifier bytes) (is_among words bytes) (is_number bytes) (is_string bytes) (is_sign bytes) h

-- a number is digits
pub number_text : (bytes : List ℕ) → kind_of bytes ≡ Some number → is_number bytes ≡ true
unfolding kind_by
number_text bytes h = by_number (is_identifier bytes) (is_among words bytes) (is_number bytes) (is_string bytes) (is_sign bytes) h

-- a string is one
pub string_text : (bytes : List ℕ) → kind_of bytes ≡ Some text → is_string bytes ≡ true
unfolding kind_by
string_text bytes h = by_text (is_identifier bytes) (is_among words bytes) (is_number bytes) (is_string bytes) (is_sign bytes) h

-- a sign is in the table of signs
pub sign_text : (bytes : List ℕ) → kind_of bytes ≡ Some sign → is_sign bytes ≡ true
unfolding kind_by
sign_text bytes h = by_sign (is_identifier bytes) (is_among words bytes) (is_number bytes) (is_string bytes) (is_sign bytes) h
