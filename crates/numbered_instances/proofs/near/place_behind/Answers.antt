use Rattle.std.proofs.Common.{◌≡◌, ◌+◌, ◌≤◌, subst, ℕ, take, drop, cond, length, arith}
use Rattle.numbered_instances.specs.Near.{having}
use Rattle.numbered_instances.specs.Shared.{has_atom}
use Rattle.numbered_instances.proofs.NearFacts.{having_split, having_next, found_more}
use Rattle.numbered_instances.proofs.near.place_behind.Goals as goal

pub loop-place-init : goal.loop-place-init
loop-place-init c = record {
  order = omega arith;
  found = omega (arith, having_split c.args.store.now.terms c.args.left c.args.from c.args.facts.now);
}

pub loop-place-preserved : goal.loop-place-preserved
loop-place-preserved c =
    let ts = c.args.store.now.terms in let j = c.args.left in let fs = c.args.facts.now in let i = c.loop-place.place in let f = c.index-facts-place.result in
    record {
      order = omega (arith, c.loop-place.invariant.order);
      found = found_more c.loop-place.found c.with_found-more.result (cond (has_atom ts j f.term) 1 0) (having ts j (drop i fs)) (having ts j (drop (i + 1) fs)) (having ts j (take c.args.from fs)) (having ts j fs)
          c.with_found-more.ensures (having_next ts j fs i f (omega (arith, c.loop-place-test.true, c.min-until.ensures)) c.index-facts-place.is) c.loop-place.invariant.found;
    }

pub returns-then-more-count-clause-found : goal.returns-then-more-count-clause-found
returns-then-more-count-clause-found c =
    let ts = c.args.store.now.terms in let j = c.args.left in let fs = c.args.facts.now in let i = c.loop-place.place in let f = c.index-facts-place.result in
    subst (λ (k : ℕ). having ts j (take c.args.from fs) + (k + having ts j (drop (i + 1) fs)) ≤ having ts j fs) c.if-more-count.true
    (found_more c.loop-place.found c.with_found-more.result (cond (has_atom ts j f.term) 1 0) (having ts j (drop i fs)) (having ts j (drop (i + 1) fs)) (having ts j (take c.args.from fs)) (having ts j fs)
    c.with_found-more.ensures (having_next ts j fs i f (omega (arith, c.loop-place-test.true, c.min-until.ensures)) c.index-facts-place.is) c.loop-place.invariant.found)
