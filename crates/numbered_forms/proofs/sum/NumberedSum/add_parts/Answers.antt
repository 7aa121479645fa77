use Rattle.std.proofs.Common.{length, FitsSigned, rules}
use Rattle.std.specs.Int.{w128}
use Rattle.std.proofs.lemmas.Int.{to_z-of_z}
use Rattle.logic_core.specs.View.{parts_of}
use Rattle.logic_core.specs.Sum.{add_parts}
use Rattle.logic_core.proofs.Refused.{gives_err}
use Rattle.numbered_terms.specs.Lists.{atoms_at}
use Rattle.numbered_terms.proofs.Items.{atom_below}
use Rattle.numbered_forms.specs.Sums.{sum_at}
use Rattle.numbered_forms.proofs.Atoms.{parts_joined, parts_refused}
use Rattle.numbered_forms.proofs.sum.NumberedSum.add_parts.Goals as goal

pub add_part-requires-clause-id : goal.add_part-requires-clause-id
add_part-requires-clause-id c = atom_below (length c.args.terms.now) c.args.parts.now c.loop-part.part-index c.part-item.result c.requires.more c.loop-part-test.true c.part-item.is

pub returns-in_err-sum-clause-gives : goal.returns-in_err-sum-clause-gives
returns-in_err-sum-clause-gives c =
    let ts = c.args.terms.now in
    let whole = add_parts c.args.k (parts_of (atoms_at ts c.args.parts.now)) (sum_at ts c.args.self) in
    gives_err (sum_at ts) c.from_residual.result c.in_err-sum.field-0.0 whole c.from_residual.ensures.1 (λ wide.
    let fits : FitsSigned w128 c.part-item.result.0 = search rules in
    let none = rw (to_z-of_z w128 c.args.k c.ranges.k, to_z-of_z w128 c.part-item.result.0 fits) at (c.in_err-sum.ensures.gives wide) in
    let left = rw (to_z-of_z w128 c.args.k c.ranges.k) at c.loop-part.invariant.left in
    parts_refused ts c.args.k c.args.parts.now c.loop-part.part-index c.part-item.result (sum_at ts c.loop-part.sum) whole c.loop-part-test.true c.part-item.is none left)

pub loop-part-preserved : goal.loop-part-preserved
loop-part-preserved c =
    let ts = c.args.terms.now in
    let whole = add_parts c.args.k (parts_of (atoms_at ts c.args.parts.now)) (sum_at ts c.args.self) in
    let fits : FitsSigned w128 c.part-item.result.0 = search rules in
    let one = rw (to_z-of_z w128 c.args.k c.ranges.k, to_z-of_z w128 c.part-item.result.0 fits) at c.in_ok-sum.ensures.gives in
    let left = rw (to_z-of_z w128 c.args.k c.ranges.k) at c.loop-part.invariant.left in
    record {
      left = rw (to_z-of_z w128 c.args.k c.ranges.k) (parts_joined ts c.args.k c.args.parts.now c.loop-part.part-index c.part-item.result (sum_at ts c.loop-part.sum) (sum_at ts c.in_ok-sum.sum) whole c.loop-part-test.true c.part-item.is one left);
      within = c.in_ok-sum.ensures.within;
    }
