use Rattle.std.proofs.Common.{◌≡◌, ◌∙◌, ◌+◌, ◌++◌, ap, pos, take, drop, get_or, arith}
use Rattle.std.proofs.lemmas.List.{get_or_default}
use Rattle.std.specs.Int.{w128, cast_unsigned}
use Rattle.std.proofs.lemmas.Int.{ints, to_z-of_z}
use Rattle.numbered_forms.specs.Sums.{with_atom}
use Rattle.numbered_forms.proofs.Atoms.{taken_out, changed}
use Rattle.numbered_forms.proofs.sum.change_part.Goals as goal

pub returns-then-k-eq0 : goal.returns-then-k-eq0
returns-then-k-eq0 c = λ d. let zero : c.args.k ≡ pos 0 = omega (arith, ints) in c.remove.ensures.items ∙ taken_out c.args.parts.items c.args.i c.args.k _ zero

pub returns : goal.returns
returns c = λ d.
    let xs = c.args.parts.items in
    let i = c.args.i in
    let is : c.index_mut-part.result.now ≡ get_or xs i d = c.index_mut-part.ensures.value ∙ get_or_default xs i _ d (omega arith) in
    changed xs i c.args.k _ c.index_mut-part.result.now.1 (omega arith) (λ e. c.if-k-eq0.false (ap (cast_unsigned w128) e)) (to_z-of_z w128 c.args.k c.ranges.k)
    ∙ ap (λ t. take i xs ++ with_atom c.args.k t (drop (i + 1) xs)) (ap (λ p. p.1) is)
