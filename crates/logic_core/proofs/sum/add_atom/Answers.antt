use Rattle.std.proofs.Common.{◌≡◌, ◌∙◌, sym, ap, Some, arith}
use Rattle.std.specs.Int.{w128}
use Rattle.std.proofs.lemmas.Int.{to_z-of_z}
use Rattle.logic_core.specs.Order.{order}
use Rattle.logic_core.proofs.AtomAdded.{past_more, past_equal, past_greater, past_all}
use Rattle.logic_core.proofs.sum.add_atom.Goals as goal

pub returns : goal.returns
returns c =
    let past = rw (to_z-of_z w128 c.args.k c.ranges.k) at c.loop-i.invariant.past in
    let all : c.len-end.result ≡ c.loop-i.i = omega arith in
    past_all c.args.k c.args.t c.args.parts.items c.loop-i.i (omega arith) past ∙ ap Some (sym (rw (all, c.loop-i.invariant.same, to_z-of_z w128 c.args.k c.ranges.k) at c.in_ok-insert_part.ensures))

pub returns-in-Greater : goal.returns-in-Greater
returns-in-Greater c =
    let past = rw (to_z-of_z w128 c.args.k c.ranges.k) at c.loop-i.invariant.past in
    let greater = sym c.in-Greater.is ∙ c.compare.ensures ∙ ap (λ t. order t c.index.result.now.1) c.loop-i.invariant.same in
    past_greater c.args.k c.args.t c.args.parts.items c.loop-i.i c.index.result.now (omega arith) c.index.ensures greater past ∙ ap Some (sym (rw (c.loop-i.invariant.same, to_z-of_z w128 c.args.k c.ranges.k) at c.in_ok-insert_part-in-Greater.ensures))

pub returns-in-Equal : goal.returns-in-Equal
returns-in-Equal c =
    let past = rw (to_z-of_z w128 c.args.k c.ranges.k) at c.loop-i.invariant.past in
    let equal = sym c.in-Equal.is ∙ c.compare.ensures ∙ ap (λ t. order t c.index.result.now.1) c.loop-i.invariant.same in
    rw (past_equal c.args.k c.args.t c.args.parts.items c.loop-i.i c.index.result.now (omega arith) c.index.ensures equal past) (rw (← c.index.ensures, to_z-of_z w128 c.args.k c.ranges.k) at (c.join_part.ensures.gives c.index.result.now))

pub loop-i-preserved : goal.loop-i-preserved
loop-i-preserved c =
    let past = rw (to_z-of_z w128 c.args.k c.ranges.k) at c.loop-i.invariant.past in
    let less = sym c.in-Less.is ∙ c.compare.ensures ∙ ap (λ t. order t c.index.result.now.1) c.loop-i.invariant.same in
    record {
      past = rw (to_z-of_z w128 c.args.k c.ranges.k) (past_more c.args.k c.args.t c.args.parts.items c.loop-i.i c.index.result.now (omega arith) c.index.ensures less past);
      same = c.loop-i.invariant.same;
    }
