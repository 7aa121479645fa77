use Rattle.std.proofs.Common.{◌≡◌, false, nat_lt, length, sym, subst, arith}
use Rattle.std.proofs.lemmas.Bool.Decides.{nat_tests}
use Rattle.serde_json.specs.View.{view}
use Rattle.request_text.specs.Reading.{longest}
use Rattle.request_text.specs.RequestView.{IsAnswer}
use Rattle.request_text.proofs.ReadLines.{of_its_value, no_value}
use Rattle.request_text.proofs.reading.read_request.Goals as goal

pub returns-in-Ok : goal.returns-in-Ok
returns-in-Ok c =
    let short : nat_lt longest (length c.args.line.now) ≡ false = grind (arith, nat_tests) in
    let (utf8, value) = c.in-Ok.ensures.ok in
    subst (λ w. IsAnswer w c.of_value.result) (sym (of_its_value c.args.line.now (view c.in-Ok.value) short utf8 value)) c.of_value.ensures

pub returns-in-Err-2 : goal.returns-in-Err-2
returns-in-Err-2 c =
    let short : nat_lt longest (length c.args.line.now) ≡ false = grind (arith, nat_tests) in
    no_value c.args.line.now short (c.in-Err.ensures.err (λ m. let t = c.is_memory.ensures.1 m in let f = c.if-is_memory.false in cc))
