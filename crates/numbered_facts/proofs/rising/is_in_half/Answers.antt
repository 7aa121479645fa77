use Rattle.std.proofs.Common.{◌≡◌, ◌∙◌, ◌<◌, sym, length, arith}
use Rattle.std.proofs.lemmas.Bool.{eqb-false}
use Rattle.numbered_facts.proofs.Merging.{low_next, high_next, nearer, not_between}
use Rattle.numbered_facts.proofs.rising.is_in_half.Goals as goal

pub loop-low-preserved : goal.loop-low-preserved
loop-low-preserved c =
    let ids = c.args.ids.now in let place = c.between-place.result in let found = c.index-ids-place.result in let inv = c.loop-low.invariant in
    let l : place < length ids = omega (arith, c.between-place.ensures.1, c.loop-low.invariant.within) in
    let near = nearer found c.args.id place c.loop-low.low c.loop-low.high c.low_from-low.result c.high_from-high.result c.between-place.ensures.0 c.between-place.ensures.1 c.low_from-low.ensures c.high_from-high.ensures in
    record {
      order = near.0;
      within = omega (arith, near.1.0, c.loop-low.invariant.within);
      below = low_next c.args.id ids place found c.loop-low.low c.low_from-low.result c.requires l c.index-ids-place.is c.low_from-low.ensures inv.below;
      above = high_next c.args.id ids place found c.loop-low.high c.high_from-high.result c.requires l c.index-ids-place.is (eqb-false found c.args.id (sym c.eq.ensures ∙ c.if-eq.false)) c.high_from-high.ensures inv.above;
    }

pub returns : goal.returns
returns c =
    let same : c.loop-low.low ≡ c.loop-low.high = omega (arith, c.loop-low.invariant.order, c.loop-low-test.false) in
    not_between c.args.id c.args.ids.now c.loop-low.low c.loop-low.high same c.loop-low.invariant.below c.loop-low.invariant.above
