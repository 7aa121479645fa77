-- Numbers of 64 and of 128 bits are written as `{}` writes them.
use Rattle.std.specs.Prelude.{◌≡◌, ℕ, suc, ◌+◌, ◌/◌, ◌^◌, ◌<◌, ℤ, pos, negsuc, FitsSigned, []}
use Rattle.std.specs.Fmt.{digits, digits_onto, decimal, signed_decimal}
use Rattle.std.specs.Int.{w128}
use Rattle.std.proofs.Common.{ap, arith, false, codes, ◌++◌}
use Rattle.obligation_text.specs.Numbers.{number_text, signed_text}

no_more_places : (n : ℕ) → n < 10 ^ 64 → n / 10 ^ 64 ≡ 0
no_more_places n l = omega arith

number_same : (n : ℕ) → n < 10 ^ 64 → decimal n ≡ number_text n
unfolding digits
number_same n l = ap (λ q. digits_onto (64 + q) 10 false n []) (let e = no_more_places n l in let f : 0 ≡ n / 10 ^ 64 = omega arith in f)

pub number_is : (n : ℕ) → n < 2 ^ 64 → decimal n ≡ number_text n
number_is n l = number_same n (omega arith)

pub signed_is : (n : ℤ) → FitsSigned w128 n → signed_decimal n ≡ signed_text n
signed_is (pos n) l = number_same n (omega arith)
signed_is (negsuc n) l = ap (λ ds. codes "-" ++ ds) (number_same (suc n) (omega arith))
