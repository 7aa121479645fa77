-- The digits of a number below a bound lead a reader that goes on digit by digit to that number.
use Rattle.std.proofs.Common.{◌≡◌, ℕ, zero, suc, ◌+◌, ◌-◌, ◌*◌, ◌/◌, ◌%◌, ◌^◌, ◌<◌, ◌≤◌, nat_eq, nat_lt, pos, negsuc, Bool, true, false, ◌&&◌, if◌then◌else◌, Option, None, Some, option_map, List, [], ◌∷◌, ◌++◌, refl, ap, sym, ◌∙◌, append_assoc, arith}
use Rattle.std.specs.Prelude.{⊤}
use Rattle.std.proofs.lemmas.Bool.Decides.{nat_tests}
use Rattle.logic_core.specs.Wide.{fits, ◌>>=◌, when}
use Rattle.obligation_text.specs.Numbers.{number_text}
use Rattle.proof_text.specs.Reading.{is_number}
use Rattle.proof_text.specs.Digit.{digit, grown, is_positive, more_number, more_integer, first_negative}
use Rattle.proof_text.specs.TermStates.{at_byte, by_stop, or_else}
use Rattle.proof_text.specs.States.{step, run}
use Rattle.proof_text.specs.declared.state.State.{State}
use Rattle.proof_text.proofs.NumberTexts.{one_digit, more_digits}

-- tests one after another
pub when_both : {A : Type 0} (a b : Bool) (x : Option A) → when a (when b x) ≡ when (a && b) x
when_both true b x = refl
when_both false b x = refl

pub two_tests : {A : Type 0} (a b : Bool) (x y z : Option A) → x ≡ when a y → y ≡ when b z → x ≡ when (a && b) z
two_tests a b x y z e f = e ∙ ap (when a) f ∙ when_both a b z

pub when_bind : {A B : Type 0} (b : Bool) (x : A) (f : A → Option B) → (when b (Some x) >>= f) ≡ when b (f x)
when_bind true x f = refl
when_bind false x f = refl

pub or_when : {A B : Type 0} (b : Bool) (x : A) (make : A → B) → or_else (option_map make (when b (Some x))) None ≡ when b (Some (make x))
or_when true x make = refl
or_when false x make = refl

-- the digit of its byte, which is none of these signs
pub digit_of : (d : ℕ) → d < 10 → digit (48 + d) ≡ Some d
digit_of d l = by (nat_lt (48 + d) 48) (nat_lt (48 + d) 58) refl refl
  where
    by : (a b : Bool) → nat_lt (48 + d) 48 ≡ a → nat_lt (48 + d) 58 ≡ b → (if a then None else (if b then Some (48 + d - 48) else None)) ≡ Some d
    by true b ea eb = absurd (grind (arith, nat_tests))
    by false false ea eb = absurd (grind (arith, nat_tests))
    by false true ea eb = ap Some (let e : 48 + d - 48 ≡ d = omega arith in e)

pub below_signs : (d b : ℕ) → b < 48 → nat_eq (48 + d) b ≡ false
below_signs d b l = grind (arith, nat_tests)

pub above_digits : (d b : ℕ) → d < 10 → 57 < b → nat_eq (48 + d) b ≡ false
above_digits d b l h = grind (arith, nat_tests)

abbrev pub NoneOf : {A : Type 0} → ℕ → List (ℕ × A) → Type 0
NoneOf c [] = ⊤
NoneOf c (m ∷ ms) = (nat_eq c m.0 ≡ false) × NoneOf c ms

pub other_byte : {A : Type 0} (c : ℕ) (ms : List (ℕ × A)) → NoneOf c ms → at_byte c ms ≡ None
other_byte c [] h = refl
other_byte c (m ∷ ms) h = ap (λ t. if t then Some m.1 else at_byte c ms) h.0 ∙ other_byte c ms h.1

pub no_stop : {A : Type 0} (d : ℕ) (space close : Option A) → by_stop (48 + d) space close ≡ None
no_stop d space close = ap (λ t. if t then space else (if nat_eq (48 + d) 41 then close else None)) (below_signs d 32 (omega arith)) ∙ ap (λ t. if t then close else None) (below_signs d 41 (omega arith))

pub positive : (v : ℕ) → 0 < v → is_positive v ≡ true
positive v l = grind (arith, nat_tests)

pub number_goes : (v d : ℕ) → 0 < v → d < 10 → more_number v (48 + d) ≡ when (nat_lt (10 * v + d) (2 ^ 64)) (Some (10 * v + d))
number_goes v d p l = ap (λ o. o >>= (λ e. when (is_positive v) (when (is_number (grown v e)) (Some (grown v e))))) (digit_of d l)
    ∙ ap (λ b. when b (when (is_number (grown v d)) (Some (grown v d)))) (positive v p)

pub integer_goes : (v d : ℕ) → 0 < v → d < 10 → more_integer (pos v) (48 + d) ≡ when (nat_lt (10 * v + d) (2 ^ 127)) (Some (pos (10 * v + d)))
integer_goes v d p l = ap (λ o. o >>= (λ e. when (is_positive v) (when (fits (pos (10 * v + e))) (Some (pos (10 * v + e)))))) (digit_of d l)
    ∙ ap (λ b. when b (when (fits (pos (10 * v + d))) (Some (pos (10 * v + d))))) (positive v p)

same_bound : (m n : ℕ) → n ≡ m + 1 → nat_lt m (2 ^ 127) ≡ nat_lt n (2 ^ 127 + 1)
same_bound m n e = grind (arith, nat_tests)

pub negative_goes : (v d : ℕ) → 0 < v → d < 10 → more_integer (negsuc (v - 1)) (48 + d) ≡ when (nat_lt (10 * v + d) (2 ^ 127 + 1)) (Some (negsuc (10 * v + d - 1)))
negative_goes v d p l = ap (λ o. o >>= (λ e. when (fits (negsuc (10 * (v - 1) + 9 + e))) (Some (negsuc (10 * (v - 1) + 9 + e))))) (digit_of d l)
    ∙ ap (λ b. when b (Some (negsuc (10 * (v - 1) + 9 + d)))) (same_bound (10 * (v - 1) + 9 + d) (10 * v + d) (omega arith))
    ∙ ap (λ m. when (nat_lt (10 * v + d) (2 ^ 127 + 1)) (Some (negsuc m))) (let e : 10 * (v - 1) + 9 + d ≡ 10 * v + d - 1 = omega arith in e)

pub negative_begins : (d : ℕ) → 0 < d → d < 10 → first_negative (48 + d) ≡ Some (negsuc (d - 1))
negative_begins d p l = ap (λ o. o >>= (λ e. when (is_positive e) (Some (negsuc (e - 1))))) (digit_of d l) ∙ ap (λ b. when b (Some (negsuc (d - 1)))) (positive d p)

abbrev pub step_at : State → ℕ → Option State
step_at st c = step st.levels st.steps st.cursor c

-- it begins with a digit, from the least on, and goes on with a digit that leaves the number below the bound
pub record CountsTo (least limit : ℕ) (due : State) (digits : ℕ → State) : Type 0 where
  pub begins : (d : ℕ) → least ≤ d → d < 10 → step_at due (48 + d) ≡ Some (digits d)
  pub goes : (v d : ℕ) → 0 < v → d < 10 → step_at (digits v) (48 + d) ≡ when (nat_lt (10 * v + d) limit) (Some (digits (10 * v + d)))

module _ (least limit : ℕ) (due : State) (digits : ℕ → State) where
  tenth_fits : (n : ℕ) (x : Option State) → when (nat_lt (n / 10) limit) (when (nat_lt n limit) x) ≡ when (nat_lt n limit) x
  tenth_fits n x = by (nat_lt (n / 10) limit) (nat_lt n limit) refl refl
    where
      by : (a b : Bool) → nat_lt (n / 10) limit ≡ a → nat_lt n limit ≡ b → when a (when b x) ≡ when b x
      by true b ea eb = refl
      by false false ea eb = refl
      by false true ea eb = absurd (grind (arith, nat_tests))

  abbrev Counted : ℕ → Type 0
  Counted n = (r : List ℕ) → run due (number_text n ++ r) ≡ when (nat_lt n limit) (run (digits n) r)

  small : (n : ℕ) → least ≤ n → n < 10 → 10 ≤ limit → CountsTo least limit due digits → Counted n
  small n b s ten c r = ap (λ l. run due (l ++ r)) (one_digit n s) ∙ ap (λ o. o >>= (λ u. run u r)) (c.begins n b s)
      ∙ ap (λ t. when t (run (digits n) r)) (sym (let t : nat_lt n limit ≡ true = grind (arith, nat_tests) in t))

  large : (n : ℕ) → 10 ≤ n → CountsTo least limit due digits → Counted (n / 10) → Counted n
  large n s c h r =
      let parts : n ≡ 10 * (n / 10) + n % 10 = omega arith in
      ap (λ m. run due (number_text m ++ r)) parts
      ∙ ap (λ l. run due (l ++ r)) (more_digits (n / 10) (n % 10) (omega arith) (omega arith))
      ∙ ap (run due) (append_assoc (number_text (n / 10)) ((48 + n % 10) ∷ []) r)
      ∙ h ((48 + n % 10) ∷ r)
      ∙ ap (when (nat_lt (n / 10) limit)) (ap (λ o. o >>= (λ u. run u r)) (c.goes (n / 10) (n % 10) (omega arith) (omega arith))
      ∙ when_bind (nat_lt (10 * (n / 10) + n % 10) limit) (digits (10 * (n / 10) + n % 10)) (λ u. run u r)
      ∙ ap (λ m. when (nat_lt m limit) (run (digits m) r)) (sym parts))
      ∙ tenth_fits n (run (digits n) r)

  counted_below : (k n : ℕ) → n < k → least ≤ n → least ≤ 1 → 10 ≤ limit → CountsTo least limit due digits → Counted n
  counted_below zero n l b o ten c r = absurd (omega (arith, l))
  counted_below (suc k) n l b o ten c r = by (nat_lt n 10) refl (λ h g. counted_below k (n / 10) h g o ten c)
    where
      by : (t : Bool) → nat_lt n 10 ≡ t → (n / 10 < k → least ≤ n / 10 → Counted (n / 10)) → run due (number_text n ++ r) ≡ when (nat_lt n limit) (run (digits n) r)
      by true e h = small n b (grind (arith, nat_tests)) ten c r
      by false e h = let t : 10 ≤ n = grind (arith, nat_tests) in large n t c (h (omega (arith, l)) (omega (arith, o))) r

  pub counts : least ≤ 1 → 10 ≤ limit → CountsTo least limit due digits → (n : ℕ) → least ≤ n → (r : List ℕ) → run due (number_text n ++ r) ≡ when (nat_lt n limit) (run (digits n) r)
  counts o ten c n b r = counted_below (suc n) n (omega arith) b o ten c r
