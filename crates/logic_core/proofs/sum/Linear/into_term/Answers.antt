use Rattle.std.proofs.Common.{◌∙◌, ap, get_or, length, FitsSigned, arith, rules}
use Rattle.std.proofs.lemmas.Int.{to_z-of_z}
use Rattle.std.proofs.lemmas.Bool.Decides.{nat_tests}
use Rattle.std.specs.Int.{w128, cast_unsigned}
use Rattle.logic_core.specs.Sum.{term_of}
use Rattle.logic_core.proofs.SumTerms.{stays_sum}
use Rattle.logic_core.proofs.sum.Linear.into_term.Goals as goal
use Rattle.logic_core.proofs.sum.Linear.into_term.Goals.{then-len-gt1-via-then-len-gt1, then-len-gt1-via-else-len-gt1+then-index-ne1, then-len-gt1-via-else-len-gt1+else-index-ne1+then-rest-ne0}

pub returns-then-len-gt1 : goal.returns-then-len-gt1
returns-then-len-gt1 c =
    let fits : FitsSigned w128 c.self.inside.rest = search rules in
    let is = rw (to_z-of_z w128 c.self.inside.rest fits) at c.new-then-len-gt1.ensures in
    is ∙ stays_sum c.self.inside.parts.items c.self.inside.rest (grind (arith, nat_tests)) (λ x is one zero. elim c.then-len-gt1.branch [
      | then-len-gt1-via-then-len-gt1 w ↦ let l = ap length is in omega arith
      | then-len-gt1-via-else-len-gt1+then-index-ne1 w ↦ w.if-index-ne1.true (ap (cast_unsigned w128) (ap (λ p. p.0) (w.index.ensures ∙ ap (λ xs. get_or xs 0 w.index.result.now) is) ∙ one))
      | then-len-gt1-via-else-len-gt1+else-index-ne1+then-rest-ne0 w ↦ w.if-rest-ne0.true (ap (cast_unsigned w128) zero)
    ]) ∙ ap term_of c.self.view_is
