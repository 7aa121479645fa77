-- The text that a state of a term's reader has read grows by the byte that leads to the next state.
use Rattle.std.proofs.Common.{◌≡◌, ℕ, zero, suc, ◌+◌, ◌-◌, ◌*◌, ◌<◌, nat_eq, nat_lt, ℤ, pos, negsuc, Bool, true, false, if◌then◌else◌, Option, None, Some, option_map, List, [], ◌∷◌, ◌++◌, refl, ap, sym, ◌∙◌, subst, append_assoc, arith}
use Rattle.std.specs.Prelude.{⊤}
use Rattle.std.proofs.lemmas.Bool.Decides.{nat_tests}
use Rattle.std.proofs.lemmas.Bool.{eqb-true}
use Rattle.logic_core.specs.Tree.{Kind, Tree}
use Rattle.logic_core.specs.View.{trees_of, parts_of, patterns_of}
use Rattle.logic_core.specs.Wide.{◌>>=◌, when, fits}
use Rattle.obligation_text.specs.Numbers.{number_text, signed_text}
use Rattle.obligation_text.proofs.Printed.{together_onto, sorts_onto, onto, trees_onto, parts_onto, triggers_onto}
use Rattle.proof_text.specs.Reading.{is_number}
use Rattle.proof_text.specs.Digit.{digit, grown, is_positive, more_number, more_integer, first_negative}
use Rattle.proof_text.specs.TermStates.{at_byte, by_stop, or_else}
use Rattle.proof_text.specs.declared.hole.Pair.{Pair}
use Rattle.proof_text.specs.declared.hole.Pair.TheVariants as pair
use Rattle.proof_text.specs.declared.hole.Triple.{Triple}
use Rattle.proof_text.specs.declared.hole.Triple.TheVariants as triple
use Rattle.proof_text.specs.declared.hole.Binder.{Binder}
use Rattle.proof_text.specs.declared.hole.Binder.TheVariants as binder
use Rattle.proof_text.specs.declared.hole.Many.{Many}
use Rattle.proof_text.specs.declared.hole.Many.TheVariants as many
use Rattle.proof_text.specs.declared.hole.Hole.{Hole}
use Rattle.proof_text.specs.declared.hole.Hole.TheVariants as hole
use Rattle.proof_text.specs.declared.hole.Full.{Full}
use Rattle.proof_text.specs.declared.hole.Full.TheVariants as full
use Rattle.proof_text.specs.declared.hole.Behind.{Behind}
use Rattle.proof_text.specs.declared.hole.Behind.TheVariants as behind
use Rattle.proof_text.specs.declared.term_state.Letter.{Letter}
use Rattle.proof_text.specs.declared.term_state.Letter.TheVariants as letter
use Rattle.proof_text.specs.declared.term_state.Signed.{Signed}
use Rattle.proof_text.specs.declared.term_state.Signed.TheVariants as signed
use Rattle.proof_text.specs.declared.term_state.TermCursor.{TermCursor}
use Rattle.proof_text.specs.declared.term_state.TermCursor.TheVariants.{Item, Opened, Less, Due, Lettered, SignedDue, Minus, Digits, Sorts, After, Whole}
use Rattle.proof_text.specs.declared.term_state.TermState.{TermState}
use Rattle.proof_text.proofs.NumberTexts.{one_digit, more_digits}

-- the text of what is open, and what stands behind it
abbrev pub pair_onto : Pair → List ℕ → List ℕ
pair_onto pair.Mul r = 40 ∷ 42 ∷ r
pair_onto pair.Read r = 40 ∷ 114 ∷ r
pair_onto pair.Eq r = 40 ∷ 61 ∷ r
pair_onto pair.Le r = 40 ∷ 60 ∷ 61 ∷ r

abbrev pub triple_onto : Triple → List ℕ → List ℕ
triple_onto triple.Write r = 40 ∷ 119 ∷ r
triple_onto triple.If r = 40 ∷ 63 ∷ r

abbrev pub many_onto : Many → List ℕ → List ℕ
many_onto (many.Call f) r = 40 ∷ 102 ∷ number_text f ++ r
many_onto many.And r = 40 ∷ 38 ∷ r
many_onto many.Or r = 40 ∷ 124 ∷ r

abbrev pub binder_onto : Binder → List ℕ → List ℕ
binder_onto binder.ForAll r = 40 ∷ 65 ∷ r
binder_onto binder.Exists r = 40 ∷ 69 ∷ r

abbrev pub body_onto : Binder → List Kind → List (List Tree) → List ℕ → List ℕ
body_onto b ss ps r = binder_onto b (32 ∷ sorts_onto ss (triggers_onto (patterns_of ps) r))

abbrev pub sum_onto : List (ℤ × Tree) → List ℕ → List ℕ
sum_onto ps r = 40 ∷ 43 ∷ parts_onto (parts_of ps) r

abbrev pub hole_onto : Hole → List ℕ → List ℕ
hole_onto hole.Not r = 40 ∷ 33 ∷ r
hole_onto (hole.Left p) r = pair_onto p r
hole_onto (hole.Right p a) r = pair_onto p (32 ∷ onto a r)
hole_onto (hole.First q) r = triple_onto q r
hole_onto (hole.Second q a) r = triple_onto q (32 ∷ onto a r)
hole_onto (hole.Third q a b) r = triple_onto q (32 ∷ onto a (32 ∷ onto b r))
hole_onto (hole.Member m ts) r = many_onto m (trees_onto (trees_of ts) r)
hole_onto (hole.Scaled ps k) r = sum_onto ps (32 ∷ signed_text k ++ r)
hole_onto (hole.Body b ss ps) r = body_onto b ss ps r
hole_onto (hole.Pattern b ss ps ts) r = body_onto b ss ps (32 ∷ 40 ∷ 116 ∷ trees_onto (trees_of ts) r)

abbrev pub around : List Hole → List ℕ → List ℕ
around [] r = r
around (h ∷ hs) r = around hs (hole_onto h (32 ∷ r))

abbrev pub full_onto : Full → List ℕ → List ℕ
full_onto (full.Not t) r = 40 ∷ 33 ∷ 32 ∷ onto t r
full_onto (full.Pair p a b) r = pair_onto p (32 ∷ onto a (32 ∷ onto b r))
full_onto (full.Triple q a b c) r = triple_onto q (32 ∷ onto a (32 ∷ onto b (32 ∷ onto c r)))
full_onto (full.Quantifier b ss ps t) r = body_onto b ss ps (32 ∷ onto t r)

abbrev pub behind_onto : Behind → List ℕ → List ℕ
behind_onto (behind.Space h) r = hole_onto h r
behind_onto (behind.Close f) r = full_onto f r
behind_onto (behind.Many m ts) r = many_onto m (trees_onto (trees_of ts) r)
behind_onto (behind.Parts ps) r = sum_onto ps r
behind_onto (behind.Sum ps k) r = sum_onto ps (32 ∷ signed_text k ++ r)
behind_onto (behind.Sorts b) r = binder_onto b r
behind_onto (behind.Pattern b ss ps ts) r = body_onto b ss ps (32 ∷ 40 ∷ 116 ∷ trees_onto (trees_of ts) r)

abbrev pub letter_onto : Letter → List ℕ → List ℕ
letter_onto letter.Free r = 118 ∷ r
letter_onto letter.Bound r = 107 ∷ r
letter_onto letter.Call r = 40 ∷ 102 ∷ r

abbrev pub signed_onto : Signed → List ℕ → List ℕ
signed_onto signed.Number r = r
signed_onto (signed.Coefficient ps) r = sum_onto ps (32 ∷ r)

abbrev pub maps : ℕ → List ℕ → List ℕ
maps zero r = r
maps (suc m) r = 109 ∷ maps m r

abbrev pub cursor_onto : TermCursor → List ℕ → List ℕ
cursor_onto Item r = r
cursor_onto Opened r = 40 ∷ r
cursor_onto Less r = 40 ∷ 60 ∷ r
cursor_onto (Due l) r = letter_onto l r
cursor_onto (Lettered l v) r = letter_onto l (number_text v ++ r)
cursor_onto (SignedDue s) r = signed_onto s r
cursor_onto (Minus s) r = signed_onto s (45 ∷ r)
cursor_onto (Digits s n) r = signed_onto s (signed_text n ++ r)
cursor_onto (Sorts b ss m) r = binder_onto b (32 ∷ together_onto ss (maps m r))
cursor_onto (After b) r = behind_onto b r
cursor_onto (Whole t) r = onto t r

abbrev pub shown : TermState → List ℕ → List ℕ
shown st r = around st.holes (cursor_onto st.cursor r)

-- states that show the text, and then the byte
module _ {S : Type 0} (show : S → List ℕ → List ℕ) (f : List ℕ → List ℕ) where
  abbrev pub Grows : ℕ → Option S → Type 0
  Grows c None = ⊤
  Grows c (Some st) = (r : List ℕ) → show st r ≡ f (c ∷ r)

  abbrev pub EachGrows : List (ℕ × S) → Type 0
  EachGrows [] = ⊤
  EachGrows (m ∷ ms) = ((r : List ℕ) → show m.1 r ≡ f (m.0 ∷ r)) × EachGrows ms

  one_grows : (c b : ℕ) (st : S) (e : c ≡ b) → ((r : List ℕ) → show st r ≡ f (b ∷ r)) → Grows c (Some st)
  one_grows c b st e h r = h r ∙ ap (λ x. f (x ∷ r)) (sym e)

  pub byte_grows : (c : ℕ) (ms : List (ℕ × S)) → EachGrows ms → Grows c (at_byte c ms)
  byte_grows c [] h = tt
  byte_grows c (m ∷ ms) h = by (nat_eq c m.0) (λ e. one_grows c m.0 m.1 (eqb-true c m.0 e) h.0) (byte_grows c ms h.1) refl
    where
      by : (b : Bool) → (nat_eq c m.0 ≡ true → Grows c (Some m.1)) → Grows c (at_byte c ms) → nat_eq c m.0 ≡ b → Grows c (if b then Some m.1 else at_byte c ms)
      by true here later e = here e
      by false here later e = later

  pub stop_grows : (c : ℕ) (space close : Option S) → Grows 32 space → Grows 41 close → Grows c (by_stop c space close)
  stop_grows c space close hs hc = by (nat_eq c 32) (nat_eq c 41) refl refl
    where
      by : (a b : Bool) → nat_eq c 32 ≡ a → nat_eq c 41 ≡ b → Grows c (if a then space else (if b then close else None))
      by true b ea eb = subst (λ x. Grows x space) (sym (eqb-true c 32 ea)) hs
      by false true ea eb = subst (λ x. Grows x close) (sym (eqb-true c 41 eb)) hc
      by false false ea eb = tt

  pub either_grows : (c : ℕ) (a b : Option S) → Grows c a → Grows c b → Grows c (or_else a b)
  either_grows c None b ha hb = hb
  either_grows c (Some st) b ha hb = ha

-- digits
abbrev pub DigitIs : ℕ → Option ℕ → Type 0
DigitIs c None = ⊤
DigitIs c (Some d) = (c ≡ 48 + d) × (d < 10)

pub digit_is : (c : ℕ) → DigitIs c (digit c)
digit_is c = by (nat_lt c 48) (nat_lt c 58) refl refl
  where
    by : (a b : Bool) → nat_lt c 48 ≡ a → nat_lt c 58 ≡ b → DigitIs c (if a then None else (if b then Some (c - 48) else None))
    by true b ea eb = tt
    by false true ea eb = (grind (arith, nat_tests), grind (arith, nat_tests))
    by false false ea eb = tt

abbrev pub Extends : {A : Type 0} → (A → List ℕ) → A → ℕ → Option A → Type 0
Extends text v c None = ⊤
Extends text v c (Some w) = (r : List ℕ) → text w ++ r ≡ text v ++ c ∷ r

behind_text : (a : List ℕ) (c d : ℕ) (b : List ℕ) → b ≡ a ++ (48 + d) ∷ [] → c ≡ 48 + d → (r : List ℕ) → b ++ r ≡ a ++ c ∷ r
behind_text a c d b e h r = ap (λ l. l ++ r) e ∙ append_assoc a ((48 + d) ∷ []) r ∙ ap (λ x. a ++ x ∷ r) (sym h)

pub more_number_is : (v c : ℕ) → Extends number_text v c (more_number v c)
more_number_is v c = by (digit c) (digit_is c)
  where
    by : (o : Option ℕ) → DigitIs c o → Extends number_text v c (o >>= (λ d. when (is_positive v) (when (is_number (grown v d)) (Some (grown v d)))))
    by None h = tt
    by (Some d) h = sized (is_positive v) (is_number (grown v d)) refl
      where
        sized : (p q : Bool) → is_positive v ≡ p → Extends number_text v c (when p (when q (Some (grown v d))))
        sized false q e = tt
        sized true false e = tt
        sized true true e = behind_text (number_text v) c d (number_text (grown v d)) (more_digits v d (grind (arith, nat_tests)) h.1) h.0

next_negative : (n d : ℕ) → suc (10 * n + 9 + d) ≡ 10 * suc n + d
next_negative n d = omega arith

pub more_integer_is : (n : ℤ) (c : ℕ) → Extends signed_text n c (more_integer n c)
more_integer_is (pos v) c = by (digit c) (digit_is c)
  where
    by : (o : Option ℕ) → DigitIs c o → Extends signed_text (pos v) c (o >>= (λ d. when (is_positive v) (when (fits (pos (10 * v + d))) (Some (pos (10 * v + d))))))
    by None h = tt
    by (Some d) h = sized (is_positive v) (fits (pos (10 * v + d))) refl
      where
        sized : (p q : Bool) → is_positive v ≡ p → Extends signed_text (pos v) c (when p (when q (Some (pos (10 * v + d)))))
        sized false q e = tt
        sized true false e = tt
        sized true true e = behind_text (number_text v) c d (number_text (10 * v + d)) (more_digits v d (grind (arith, nat_tests)) h.1) h.0
more_integer_is (negsuc n) c = by (digit c) (digit_is c)
  where
    by : (o : Option ℕ) → DigitIs c o → Extends signed_text (negsuc n) c (o >>= (λ d. when (fits (negsuc (10 * n + 9 + d))) (Some (negsuc (10 * n + 9 + d)))))
    by None h = tt
    by (Some d) h = sized (fits (negsuc (10 * n + 9 + d)))
      where
        sized : (q : Bool) → Extends signed_text (negsuc n) c (when q (Some (negsuc (10 * n + 9 + d))))
        sized false = tt
        sized true = λ r. ap (λ l. 45 ∷ l) (behind_text (number_text (suc n)) c d (number_text (suc (10 * n + 9 + d))) (ap number_text (next_negative n d) ∙ more_digits (suc n) d (omega arith) h.1) h.0 r)

abbrev pub Begins : {A : Type 0} → (A → List ℕ) → List ℕ → ℕ → Option A → Type 0
Begins text front c None = ⊤
Begins text front c (Some n) = (r : List ℕ) → text n ++ r ≡ front ++ c ∷ r

pub first_digit_is : (c : ℕ) → Begins number_text [] c (digit c)
first_digit_is c = by (digit c) (digit_is c)
  where
    by : (o : Option ℕ) → DigitIs c o → Begins number_text [] c o
    by None h = tt
    by (Some d) h = λ r. ap (λ l. l ++ r) (one_digit d h.1) ∙ ap (λ x. x ∷ r) (sym h.0)

pub first_negative_is : (c : ℕ) → Begins signed_text (45 ∷ []) c (first_negative c)
first_negative_is c = by (digit c) (digit_is c)
  where
    by : (o : Option ℕ) → DigitIs c o → Begins signed_text (45 ∷ []) c (o >>= (λ d. when (is_positive d) (Some (negsuc (d - 1)))))
    by None h = tt
    by (Some d) h = sized (is_positive d) refl
      where
        sized : (p : Bool) → is_positive d ≡ p → Begins signed_text (45 ∷ []) c (when p (Some (negsuc (d - 1))))
        sized false e = tt
        sized true e = λ r. let s : suc (d - 1) ≡ d = grind (arith, nat_tests) in ap (λ l. 45 ∷ (l ++ r)) (ap number_text s ∙ one_digit d h.1) ∙ ap (λ x. 45 ∷ x ∷ r) (sym h.0)

-- a digit behind a text that shows numbers in one place
pub number_grows : {A S : Type 0} (show : S → List ℕ → List ℕ) (text : A → List ℕ) (make : A → S) (frame : List ℕ → List ℕ) (v : A) (c : ℕ) (o : Option A)
    → ((w : A) (r : List ℕ) → show (make w) r ≡ frame (text w ++ r)) → Extends text v c o → Grows show (λ r. frame (text v ++ r)) c (option_map make o)
number_grows show text make frame v c None h e = tt
number_grows show text make frame v c (Some w) h e = λ r. h w r ∙ ap frame (e r)

pub number_begins : {A S : Type 0} (show : S → List ℕ → List ℕ) (text : A → List ℕ) (make : A → S) (frame : List ℕ → List ℕ) (front : List ℕ) (c : ℕ) (o : Option A)
    → ((w : A) (r : List ℕ) → show (make w) r ≡ frame (text w ++ r)) → Begins text front c o → Grows show (λ r. frame (front ++ r)) c (option_map make o)
number_begins show text make frame front c None h e = tt
number_begins show text make frame front c (Some w) h e = λ r. h w r ∙ ap frame (e r)
