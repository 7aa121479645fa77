use Rattle.std.proofs.Common.{◌≡◌, ◌∙◌, ◌++◌, [], ap, sym}
use Rattle.std.proofs.lemmas.List.{append-nil, nil_from_length}
use Rattle.std.specs.Vec.Iter.{into_iter_items}
use Rattle.program_opening.proofs.goals.share_all.Goals as goal

pub returns : goal.returns
returns c =
    let none : into_iter_items c.loop-goal.goal-iterator ≡ [] = nil_from_length _ (sym c.loop-goal.invariant.counted ∙ c.in-None.ensures.steps.0) in
    sym (append-nil c.loop-goal.own.items)
    ∙ ap (λ gs. c.loop-goal.own.items ++ gs) (sym none)
    ∙ c.loop-goal.invariant.left
