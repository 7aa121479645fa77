use Rattle.std.proofs.Common.{◌++◌, ap, sym, ◌∙◌, arith}
use Rattle.std.proofs.lemmas.List.{append-nil}
use Rattle.call_cut.proofs.Pairs.{zip_over}
use Rattle.call_cut.proofs.assignment.pairs.Goals as goal

pub returns : goal.returns
returns c =
    let least = c.min-shared.ensures in
    let far = c.loop-i-test.false in
    let gone = zip_over c.loop-i.i c.args.vars.now c.args.terms.now (omega (arith, least, far)) in
    sym (append-nil c.loop-i.pairs.items) ∙ (ap (λ z. c.loop-i.pairs.items ++ z) (sym gone) ∙ c.loop-i.invariant)
