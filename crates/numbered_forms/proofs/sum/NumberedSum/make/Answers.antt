use Rattle.std.proofs.Common.{◌≡◌, ◌∙◌, ◌<◌, sym, ap, subst, length, IfOk, FitsSigned, arith, rules}
use Rattle.std.specs.Int.{w128, cast_unsigned}
use Rattle.std.proofs.lemmas.Bool.Decides.{nat_tests}
use Rattle.std.proofs.lemmas.Int.{to_z-of_z}
use Rattle.std.proofs.lemmas.List.{length-map}
use Rattle.logic_core.proofs.SumTerms.{stays_sum}
use Rattle.numbered_terms.specs.At.{IsAt}
use Rattle.numbered_terms.specs.Lists.{atoms_at}
use Rattle.numbered_forms.proofs.Atoms.{atom_at, first_atom}
use Rattle.numbered_forms.proofs.sum.NumberedSum.make.Goals as goal
use Rattle.numbered_forms.proofs.sum.NumberedSum.make.Goals.{else-len-eq1-via-then-len-eq1+then-index-eq1+else-rest-eq0, else-len-eq1-via-then-len-eq1+else-index-eq1, else-len-eq1-via-else-len-eq1}

pub returns-clause-gives : goal.returns-clause-gives
returns-clause-gives c =
    let ts = c.args.terms.now in let ps = c.args.self.parts.items in
    let fits : FitsSigned w128 c.args.self.rest = search rules in
    let some : 0 < length ps = grind (arith, nat_tests) in
    let long = length-map ps (atom_at ts) in
    let stays = stays_sum (atoms_at ts ps) c.args.self.rest (omega (arith, some, long)) (λ x is one zero. elim c.else-len-eq1.branch [
      | else-len-eq1-via-then-len-eq1+then-index-eq1+else-rest-eq0 w ↦ w.if-rest-eq0.false (ap (cast_unsigned w128) zero)
      | else-len-eq1-via-then-len-eq1+else-index-eq1 w ↦ w.if-index-eq1.false (ap (cast_unsigned w128) (ap (λ p. p.0) w.index.ensures ∙ first_atom ts ps w.index.result.now x is ∙ one))
      | else-len-eq1-via-else-len-eq1 w ↦ let l : length ps ≡ 1 = sym long ∙ ap length is in omega (arith, l)
    ]) in
    subst (λ t. IfOk c.make-2.result (λ i. IsAt c.make-2.new.self i t)) stays (rw (to_z-of_z w128 c.args.self.rest fits) at c.make-2.ensures.number)
