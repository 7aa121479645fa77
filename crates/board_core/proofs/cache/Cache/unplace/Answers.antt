use Rattle.std.proofs.Common.{arith, ap, position}
use mathlib.Core.Path.{sym, ◌∙◌}
use Rattle.std.specs.Arc.{arc_value}
use Rattle.board_core.proofs.Held.{unplace_held, unplace_nowhere}
use Rattle.board_core.proofs.cache.Cache.unplace.Goals as goal

pub invariant_of-self : goal.invariant_of-self
invariant_of-self g c =
    (unplace_held (λ v. v.items) arc_value (λ a. g.A.Q.Question.key (g.A.Answered.asked a)) g.A.Answered.right _ c.self.inside.kept.entries c.self.inside.places.items _ c.args.key.now c.in-Some.at c.self.invariant (rw (← c.deref.ensures.value) (sym c.place_of.ensures ∙ c.in-Some.is)) c.remove.ensures.items).0

pub returns-in-Some : goal.returns-in-Some
returns-in-Some g c =
    rw (← c.self.view_is) (unplace_held (λ v. v.items) arc_value (λ a. g.A.Q.Question.key (g.A.Answered.asked a)) g.A.Answered.right _ c.self.inside.kept.entries c.self.inside.places.items _ c.args.key.now c.in-Some.at c.self.invariant (rw (← c.deref.ensures.value) (sym c.place_of.ensures ∙ c.in-Some.is)) c.remove.ensures.items).1

pub returns-in_default : goal.returns-in_default
returns-in_default g c = rw (← c.self.view_is) (unplace_nowhere (λ v. v.items) arc_value c.self.inside.kept.entries c.self.inside.places.items c.args.key.now (rw (← c.deref.ensures.value) (sym c.place_of.ensures ∙ c.in_default.is)))
