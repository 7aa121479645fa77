use Rattle.std.proofs.Common.{rules, arith, ap, ◌+◌, ◌≤◌}
use mathlib.Core.Path.{sym, ◌∙◌}
use Rattle.std.specs.Arc.{arc_value}
use Rattle.board_core.specs.Kept.{has_place}
use Rattle.board_core.proofs.Held.{place_held}
use Rattle.board_core.proofs.cache.Cache.place.Goals as goal

pub invariant_of-self-2 : goal.invariant_of-self-2
invariant_of-self-2 g c =
    place_held (λ v. v.items) arc_value (λ a. g.A.Q.Question.key (g.A.Answered.asked a)) g.A.Answered.right _ _ c.self.inside.kept.entries _ c.self.inside.places.items _ c.in_ok-key.key c.key-key.result.now c.self.invariant c.reserve.ensures.entries c.in_ok-push.ensures.items c.in_ok-key.ensures.items
    (ap (λ s. has_place s c.key-key.result.now) c.self.view_is ∙ sym c.has_place.ensures ∙ c.if-has_place.false) (let h : c.len.result + 1 ≤ _ = c.in_ok-reserve.ensures.ok in search rules)
