use Rattle.std.proofs.Common.{◌≡◌, ◌-◌, ◌∙◌, sym, arith, get_or}
use Rattle.command_words.proofs.Digits.{nine_digits, digit_fits, digits_more, value_more, all_read}
use Rattle.command_words.proofs.number.number.Goals as goal

pub overflow_mul-number : goal.overflow_mul-number
overflow_mul-number c = omega (arith, nine_digits c.loop-digit.digit-index (omega arith))

pub overflow_add-number : goal.overflow_add-number
overflow_add-number c = omega (arith, nine_digits c.loop-digit.digit-index (omega arith), c.type_inv.text c.loop-digit.digit-index)

pub loop-digit-preserved : goal.loop-digit-preserved
loop-digit-preserved c =
    let xs = c.args.text.now in
    let i = c.loop-digit.digit-index in
    let n = c.loop-digit.number in
    let range = c.if-not-is_ascii_digit.ensures.cases in
    let is : c.from.result ≡ get_or xs i 0 - 48 = c.from.ensures in
    record {
      fits = rw is (digit_fits i n (get_or xs i 0) c.loop-digit.invariant.fits range.1);
      digits = digits_more xs i c.loop-digit-test.true (sym c.if-not-is_ascii_digit.ensures.value) ∙ c.loop-digit.invariant.digits;
      value = rw is (value_more xs i n c.loop-digit-test.true range.0 range.1) ∙ c.loop-digit.invariant.value;
    }

pub returns : goal.returns
returns c =
    all_read c.args.text.now c.loop-digit.digit-index c.loop-digit.number c.loop-digit-test.false c.if-is_empty.ensures
    c.if-text-gt10.false c.loop-digit.invariant.digits c.loop-digit.invariant.value
