use Rattle.std.proofs.Common.{◌≡◌, ℕ, ◌+◌, ◌*◌, ◌-◌, ◌<◌, List, length, take, map, get_or, ap, ◌∙◌, arith}
use Rattle.std.specs.Int.Digits.{number_from_digits}
use Rattle.std.proofs.lemmas.List.{map_more, take_all}
use Rattle.std.proofs.lemmas.Int.Digits.{number_push}
use Rattle.std.proofs.lemmas.Bool.Decides.{nat_tests}
use Rattle.bpl_grammar.specs.Nesting.{value}
use Rattle.bpl_parse.proofs.atoms.value_of.Goals as goal

-- one more digit
value_more : (bs : List ℕ) (i : ℕ) → i < length bs → value (take (i + 1) bs) ≡ value (take i bs) * 10 + (get_or bs i 0 - 48)
value_more bs i h = ap (number_from_digits 10) (map_more (λ b. b - 48) bs i 0 h) ∙ number_push 10 (map (λ b. b - 48) (take i bs)) (get_or bs i 0 - 48)

pub loop-digit-preserved : goal.loop-digit-preserved
loop-digit-preserved c = omega (arith, value_more c.args.digits.now c.loop-digit.digit-index c.loop-digit-test.true)

pub returns-then-value-lt-NUMBER_END : goal.returns-then-value-lt-NUMBER_END
returns-then-value-lt-NUMBER_END c =
    let all : value (take c.loop-digit.digit-index c.args.digits.now) ≡ value c.args.digits.now = ap value (take_all c.loop-digit.digit-index c.args.digits.now c.loop-digit-test.false) in
    grind (arith, nat_tests)

pub returns : goal.returns
returns c =
    let all : value (take c.loop-digit.digit-index c.args.digits.now) ≡ value c.args.digits.now = ap value (take_all c.loop-digit.digit-index c.args.digits.now c.loop-digit-test.false) in
    grind (arith, nat_tests)
