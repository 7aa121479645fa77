-- Where a comment and a string end: at one front alone, if at any.
use Rattle.std.specs.Prelude.{◌≡◌, ℕ, zero, suc, ◌≤◌, Bool, true, false, ◌&&◌, not, cond, nat_eq, List, [], ◌∷◌, take, length, Option, Some, None, option_map, codes}
use Rattle.std.specs.List.{starts_with}
use Rattle.std.proofs.Common.{refl, sym, ◌∙◌, subst, arith}
use Rattle.std.proofs.Math.Dec.{eqb-suc-suc, eqb-suc-zero}
use Rattle.std.proofs.lemmas.List.{length-take-le}
use Rattle.std.proofs.lemmas.Bool.Decides.{nat_tests}
use Rattle.bpl_lex.specs.Shape.{ends_comment, ends_string}
use Rattle.bpl_lex.specs.Front.{comment_end, string_end}

-- whether the number is the one in the option
abbrev pub is_at : Option ℕ → ℕ → Bool
is_at None n = false
is_at (Some m) n = nat_eq m n

-- one more
is_at-suc : (o : Option ℕ) (n : ℕ) → is_at (option_map suc o) (suc n) ≡ is_at o n
is_at-suc None n = refl
is_at-suc (Some m) n = eqb-suc-suc m n

-- one more is never zero
is_at-suc-zero : (o : Option ℕ) → is_at (option_map suc o) 0 ≡ false
is_at-suc-zero None = refl
is_at-suc-zero (Some m) = eqb-suc-zero m

-- what a string's end has at its front, by the tests of its first byte
string_at_none : (q f : Bool) (o : Option ℕ) → false ≡ is_at (cond q (Some 1) (cond f None (option_map suc o))) 0
string_at_none true f o = refl
string_at_none false true o = refl
string_at_none false false o = sym (is_at-suc-zero o)

-- a longer front of a string, by the tests of its first byte
string_at : (q f : Bool) (o : Option ℕ) (n m : ℕ) (e : Bool) → n ≡ m → e ≡ is_at o m → cond q (nat_eq n 0) (not f && e) ≡ is_at (cond q (Some 1) (cond f None (option_map suc o))) (suc m)
string_at true f o n m e h i = grind (arith, nat_tests)
string_at false true o n m e h i = refl
string_at false false o n m e h i = i ∙ sym (is_at-suc o m)

-- the string ends at one front alone
pub string_ends : (bytes : List ℕ) (m : ℕ) → m ≤ length bytes → ends_string (take m bytes) ≡ is_at (string_end bytes) m
string_ends [] zero h = refl
string_ends [] (suc m) h = absurd (omega arith)
string_ends (b ∷ bytes) zero h = string_at_none (nat_eq b 34) (nat_eq b 10) (string_end bytes)
string_ends (b ∷ bytes) (suc m) h =
    string_at (nat_eq b 34) (nat_eq b 10) (string_end bytes) (length (take m bytes)) m (ends_string (take m bytes)) (length-take-le m bytes (omega arith)) (string_ends bytes m (omega arith))

-- a choice of false twice
either_false : (s : Bool) → cond s false false ≡ false
either_false true = refl
either_false false = refl

-- a comment's end, by whether it is here
comment_at_none : (s : Bool) (o : Option ℕ) → false ≡ is_at (cond s (Some 2) (option_map suc o)) 0
comment_at_none true o = refl
comment_at_none false o = sym (is_at-suc-zero o)

-- one byte ends no comment
comment_at_one : (s : Bool) (o : Option ℕ) → is_at o 0 ≡ false → false ≡ is_at (cond s (Some 2) (option_map suc o)) 1
comment_at_one true o h = refl
comment_at_one false o h = sym (is_at-suc o 0 ∙ h)

-- a longer front of a comment, by whether it ends here
comment_at : (s : Bool) (o : Option ℕ) (n m : ℕ) (e : Bool) → n ≡ m → e ≡ is_at o (suc m) → cond s (nat_eq (suc n) 1) e ≡ is_at (cond s (Some 2) (option_map suc o)) (suc (suc m))
comment_at true o n m e h i = grind (arith, nat_tests)
comment_at false o n m e h i = i ∙ sym (is_at-suc o (suc m))

-- no bytes end no comment
not_at_zero : (bytes : List ℕ) → is_at (comment_end bytes) 0 ≡ false
not_at_zero [] = refl
not_at_zero (b ∷ bytes) = sym (comment_at_none (starts_with nat_eq (b ∷ bytes) (codes "*/")) (comment_end bytes))

-- the comment ends at one front alone
pub comment_ends : (bytes : List ℕ) (m : ℕ) → m ≤ length bytes → ends_comment (take m bytes) ≡ is_at (comment_end bytes) m
comment_ends [] zero h = refl
comment_ends [] (suc m) h = absurd (omega arith)
comment_ends (b ∷ bytes) zero h = comment_at_none (starts_with nat_eq (b ∷ bytes) (codes "*/")) (comment_end bytes)
comment_ends (b ∷ bytes) (suc zero) h =
    either_false (nat_eq 42 b && false) ∙ comment_at_one (starts_with nat_eq (b ∷ bytes) (codes "*/")) (comment_end bytes) (not_at_zero bytes)
comment_ends (b ∷ []) (suc (suc m)) h = absurd (omega arith)
comment_ends (b ∷ c ∷ bytes) (suc (suc m)) h =
    comment_at (starts_with nat_eq (b ∷ c ∷ bytes) (codes "*/")) (comment_end (c ∷ bytes)) (length (take m bytes)) m (ends_comment (take (suc m) (c ∷ bytes))) (length-take-le m bytes (omega arith)) (comment_ends (c ∷ bytes) (suc m) (omega arith))

-- a test and false is not true
both_false : (x : Bool) → (x && false) ≡ true → ⊥
both_false true h = absurd (cc)
both_false false h = absurd (cc)

-- the number in the option is at most this
Within : Option ℕ → ℕ → Type 0
Within None k = Unit {0}
Within (Some n) k = n ≤ k

-- one more is at most one more
within-suc : (o : Option ℕ) (k : ℕ) → Within o k → Within (option_map suc o) (suc k)
unfolding Within
within-suc None k h = tt
within-suc (Some n) k h = omega arith

-- a string's end is within the text, by the tests of its first byte
string_within_at : (q f : Bool) (o : Option ℕ) (k : ℕ) → Within o k → Within (cond q (Some 1) (cond f None (option_map suc o))) (suc k)
unfolding Within
string_within_at true f o k h = omega arith
string_within_at false true o k h = tt
string_within_at false false o k h = within-suc o k h

-- a string's end, if it has one, is within the text
string_within : (bytes : List ℕ) → Within (string_end bytes) (length bytes)
unfolding Within
string_within [] = tt
string_within (b ∷ bytes) = string_within_at (nat_eq b 34) (nat_eq b 10) (string_end bytes) (length bytes) (string_within bytes)

-- a string's end lies in the text
pub string_end-le : (bytes : List ℕ) (n : ℕ) → string_end bytes ≡ Some n → n ≤ length bytes
unfolding Within
string_end-le bytes n h = subst (λ (o : Option ℕ). Within o (length bytes)) h (string_within bytes)

-- a comment's end is within the text, by whether it ends here
comment_within_at : (s : Bool) (o : Option ℕ) (k : ℕ) → (s ≡ true → 1 ≤ k) → Within o k → Within (cond s (Some 2) (option_map suc o)) (suc k)
unfolding Within
comment_within_at true o k two h = above (two refl)
  where
    above : 1 ≤ k → 2 ≤ suc k
    above i = omega arith
comment_within_at false o k two h = within-suc o k h

-- a comment's end, if it has one, is within the text
comment_within : (bytes : List ℕ) → Within (comment_end bytes) (length bytes)
unfolding Within
comment_within [] = tt
comment_within (b ∷ []) = comment_within_at (nat_eq 42 b && false) None 0 (λ h. absurd (both_false (nat_eq 42 b) h)) tt
comment_within (b ∷ c ∷ bytes) = comment_within_at (starts_with nat_eq (b ∷ c ∷ bytes) (codes "*/")) (comment_end (c ∷ bytes)) (suc (length bytes)) (λ h. omega arith) (comment_within (c ∷ bytes))

-- a comment's end lies in the text
pub comment_end-le : (bytes : List ℕ) (n : ℕ) → comment_end bytes ≡ Some n → n ≤ length bytes
unfolding Within
comment_end-le bytes n h = subst (λ (o : Option ℕ). Within o (length bytes)) h (comment_within bytes)
