-- The first bytes of a term's text tell which of the forms of terms it has.
use Rattle.std.proofs.Common.{◌≡◌, ℕ, ◌+◌, pos, negsuc, nat_eq, nat_lt, true, false, cond, List, [], ◌∷◌, ◌++◌, refl, ap, sym, ◌∙◌, arith}
use Rattle.obligation_text.specs.Numbers.{number_text}
use Rattle.std.specs.Str.Parse.{IsNumeral}
use Rattle.std.proofs.lemmas.Bool.Decides.{nat_tests}
use Rattle.std.proofs.lemmas.Str.Parse.{digit_from_value}
use Rattle.logic_core.specs.Tree.{Tree, num, truth, free, bound, linear, mul, read, write, choose, call, negation, all, some, equal, at_most, for_all, exists}
use Rattle.obligation_text.proofs.Digits.{first, rest, numeral}
use Rattle.obligation_text.proofs.Printed.{onto}

-- which form a text has: by its first byte or, in brackets, by its second; numbers have the form 0, and truth values that of F
abbrev pub form_at : List ℕ → ℕ
form_at s = cond (nat_eq (first s) 40) (256 + first (rest s)) (cond (nat_lt (first s) 58) 0 (cond (nat_eq (first s) 84) 70 (first s)))

abbrev pub form_of : Tree → ℕ
form_of (num n) = 0
form_of (truth b) = 70
form_of (free v) = 118
form_of (bound v) = 107
form_of (linear ps c) = 299
form_of (mul x y) = 298
form_of (read x y) = 370
form_of (write x y z) = 375
form_of (choose x y z) = 319
form_of (call f ts) = 358
form_of (negation x) = 289
form_of (all ts) = 294
form_of (some ts) = 380
form_of (equal x y) = 317
form_of (at_most x y) = 316
form_of (for_all ss ps t) = 321
form_of (exists ss ps t) = 325

number_form : (ds r : List ℕ) → IsNumeral 10 ds → form_at (ds ++ r) ≡ 0
number_form [] r h = omega (arith, h.0)
number_form (d ∷ ds) r h = let k = digit_from_value d h.1.0 in grind (arith, nat_tests)

pub has_form : (t : Tree) (r : List ℕ) → form_at (onto t r) ≡ form_of t
has_form (num (pos n)) r = number_form (number_text n) r (numeral n)
has_form (num (negsuc n)) r = refl
has_form (truth true) r = refl
has_form (truth false) r = refl
has_form (free v) r = refl
has_form (bound v) r = refl
has_form (linear ps c) r = refl
has_form (mul x y) r = refl
has_form (read x y) r = refl
has_form (write x y z) r = refl
has_form (choose x y z) r = refl
has_form (call f ts) r = refl
has_form (negation x) r = refl
has_form (all ts) r = refl
has_form (some ts) r = refl
has_form (equal x y) r = refl
has_form (at_most x y) r = refl
has_form (for_all ss ps t) r = refl
has_form (exists ss ps t) r = refl

-- terms whose texts before other bytes are equal have one form
pub same_form : (x y : Tree) (r s : List ℕ) → onto x r ≡ onto y s → form_of x ≡ form_of y
same_form x y r s e = sym (has_form x r) ∙ ap form_at e ∙ has_form y s
