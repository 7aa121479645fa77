use Rattle.std.proofs.Common.{◌≡◌, ◌∙◌, ◌++◌, [], ap, sym}
use Rattle.std.proofs.lemmas.List.{nil_from_length}
use Rattle.std.specs.Vec.Iter.{into_iter_items}
use Rattle.vc_rebuild.proofs.WithinLimits.{append_nil}
use Rattle.vc_rebuild.proofs.shared.share_all.Goals as goal

pub returns : goal.returns
returns c =
    let none : into_iter_items c.loop-goal.goal-iterator ≡ [] = nil_from_length _ (sym c.loop-goal.invariant.counted ∙ c.in-None.ensures.steps.0) in
    c.of.ensures
    ∙ sym (append_nil c.loop-goal.shared.items)
    ∙ ap (λ gs. c.loop-goal.shared.items ++ gs) (sym none)
    ∙ c.loop-goal.invariant.left
