use Rattle.std.proofs.Common.{◌≡◌, ◌∙◌, ap, arith, map, take}
use Rattle.std.specs.Arc.{arc_value}
use Rattle.tableau.specs.Settled.{settled_by}
use Rattle.own_goals.proofs.recall.push_between.Goals as goal

pub returns : goal.returns
returns c told =
    let ended : c.loop-at.at ≡ c.args.to = omega (arith, c.loop-at-test.false, c.loop-at.invariant.within) in
    c.loop-at.invariant.so_far ∙ ap (λ n. map settled_by (map arc_value (take n c.args.questions.now))) ended
