use Rattle.std.proofs.Common.{ℕ, ◌+◌, get_or, arith, below_more, get_or-set_other, get_or-set_same, length-set, ◌∙◌}
use Rattle.call_cut.proofs.RisingPlaces.{greater}
use Rattle.call_cut.proofs.table.write.Goals as goal

pub loop-i-preserved : goal.loop-i-preserved
loop-i-preserved c =
    let i = c.loop-i.i in
    let place : ℕ → ℕ = λ k. get_or c.args.places.now k 0 + c.args.shift in
    let value = get_or c.args.values.now i 0 in
    let there = c.loop-i-test.true in
    let long = c.loop-i.invariant.long in
    let inside = c.requires.inside i there in record {
      long = length-set c.loop-i.table.items (place i) value ∙ long;
      written = below_more _ _
          (λ k h. let before = greater c.args.places.now c.requires.rise k i h there in get_or-set_other c.loop-i.table.items (place i) (place k) value 0 (λ e. omega (arith, e, before)) ∙ c.loop-i.invariant.written k h)
          (get_or-set_same c.loop-i.table.items (place i) value 0 (omega (arith, long, inside)));
      others = λ v h. get_or-set_other c.loop-i.table.items (place i) v value 0 (h i (omega arith)) ∙ c.loop-i.invariant.others v (λ k l. h k (omega (arith, l)));
    }
