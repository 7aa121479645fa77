use Rattle.std.proofs.Common.{◌≡◌, ap, refl, position, bytes_eq, Some, None}
use mathlib.Core.Path.{sym, subst, ◌∙◌}
use Rattle.std.specs.Arc.{arc_value}
use Rattle.board_core.specs.Kept.{has_place}
use Rattle.board_core.proofs.Held.{waits_not_found, keep_held, keep_nowhere}
use Rattle.board_core.proofs.cache.Cache.keep.Goals as goal

pub put_new-requires-clause-new : goal.put_new-requires-clause-new
put_new-requires-clause-new g c =
    let own : c.key.result.now ≡ g.A.Q.Question.key (g.A.Answered.asked (arc_value c.args.answer)) = c.key.ensures ∙ ap g.A.Q.Question.key (c.deref-3.ensures ∙ c.question.ensures.question ∙ ap g.A.Answered.asked c.deref-2.ensures) in
    let at : position (λ v. bytes_eq (g.A.Q.Question.key (g.A.Answered.asked (arc_value c.args.answer))) v.items) c.self.inside.places.items ≡ Some c.in-Some.at = sym (c.place_of.ensures ∙ (λ i. position (λ v. bytes_eq (own i) v.items) (c.deref.ensures.value i))) ∙ c.in-Some.is in
    waits_not_found (λ v. v.items) arc_value (λ a. g.A.Q.Question.key (g.A.Answered.asked a)) g.A.Answered.right _ c.self.inside.kept.entries c.self.inside.places.items (g.A.Q.Question.key (g.A.Answered.asked (arc_value c.args.answer))) c.remove-key.result c.in-Some.at c.self.invariant at c.remove-key.ensures.value

pub invariant_of-self : goal.invariant_of-self
invariant_of-self g c =
    let own : c.key.result.now ≡ g.A.Q.Question.key (g.A.Answered.asked (arc_value c.args.answer)) = c.key.ensures ∙ ap g.A.Q.Question.key (c.deref-3.ensures ∙ c.question.ensures.question ∙ ap g.A.Answered.asked c.deref-2.ensures) in
    let at : position (λ v. bytes_eq (g.A.Q.Question.key (g.A.Answered.asked (arc_value c.args.answer))) v.items) c.self.inside.places.items ≡ Some c.in-Some.at = sym (c.place_of.ensures ∙ (λ i. position (λ v. bytes_eq (own i) v.items) (c.deref.ensures.value i))) ∙ c.in-Some.is in
    (keep_held (λ v. v.items) arc_value (λ a. g.A.Q.Question.key (g.A.Answered.asked a)) g.A.Answered.right _ _ c.self.inside.kept.entries _ c.self.inside.places.items _ (g.A.Q.Question.key (g.A.Answered.asked (arc_value c.args.answer))) c.remove-key.result c.args.answer c.in-Some.at c.self.invariant at c.remove-key.ensures.items c.remove-key.ensures.value c.put_new.ensures.entries refl (subst g.A.Answered.right c.deref-2.ensures c.question.ensures.right) c.put_new.ensures.room).0

pub returns-in-Some-clause-kept : goal.returns-in-Some-clause-kept
returns-in-Some-clause-kept g c =
    let own : c.key.result.now ≡ g.A.Q.Question.key (g.A.Answered.asked (arc_value c.args.answer)) = c.key.ensures ∙ ap g.A.Q.Question.key (c.deref-3.ensures ∙ c.question.ensures.question ∙ ap g.A.Answered.asked c.deref-2.ensures) in
    let at : position (λ v. bytes_eq (g.A.Q.Question.key (g.A.Answered.asked (arc_value c.args.answer))) v.items) c.self.inside.places.items ≡ Some c.in-Some.at = sym (c.place_of.ensures ∙ (λ i. position (λ v. bytes_eq (own i) v.items) (c.deref.ensures.value i))) ∙ c.in-Some.is in
    rw (← c.self.view_is) (ap (λ s. s.kept) (keep_held (λ v. v.items) arc_value (λ a. g.A.Q.Question.key (g.A.Answered.asked a)) g.A.Answered.right _ _ c.self.inside.kept.entries _ c.self.inside.places.items _ (g.A.Q.Question.key (g.A.Answered.asked (arc_value c.args.answer))) c.remove-key.result c.args.answer c.in-Some.at c.self.invariant at c.remove-key.ensures.items c.remove-key.ensures.value c.put_new.ensures.entries refl (subst g.A.Answered.right c.deref-2.ensures c.question.ensures.right) c.put_new.ensures.room).1)

pub returns-in-Some-clause-places : goal.returns-in-Some-clause-places
returns-in-Some-clause-places g c =
    let own : c.key.result.now ≡ g.A.Q.Question.key (g.A.Answered.asked (arc_value c.args.answer)) = c.key.ensures ∙ ap g.A.Q.Question.key (c.deref-3.ensures ∙ c.question.ensures.question ∙ ap g.A.Answered.asked c.deref-2.ensures) in
    let at : position (λ v. bytes_eq (g.A.Q.Question.key (g.A.Answered.asked (arc_value c.args.answer))) v.items) c.self.inside.places.items ≡ Some c.in-Some.at = sym (c.place_of.ensures ∙ (λ i. position (λ v. bytes_eq (own i) v.items) (c.deref.ensures.value i))) ∙ c.in-Some.is in
    rw (← c.self.view_is) (ap (λ s. s.places) (keep_held (λ v. v.items) arc_value (λ a. g.A.Q.Question.key (g.A.Answered.asked a)) g.A.Answered.right _ _ c.self.inside.kept.entries _ c.self.inside.places.items _ (g.A.Q.Question.key (g.A.Answered.asked (arc_value c.args.answer))) c.remove-key.result c.args.answer c.in-Some.at c.self.invariant at c.remove-key.ensures.items c.remove-key.ensures.value c.put_new.ensures.entries refl (subst g.A.Answered.right c.deref-2.ensures c.question.ensures.right) c.put_new.ensures.room).1)

pub returns-in_default-clause-kept : goal.returns-in_default-clause-kept
returns-in_default-clause-kept g c =
    let own : c.key.result.now ≡ g.A.Q.Question.key (g.A.Answered.asked (arc_value c.args.answer)) = c.key.ensures ∙ ap g.A.Q.Question.key (c.deref-3.ensures ∙ c.question.ensures.question ∙ ap g.A.Answered.asked c.deref-2.ensures) in
    let at : position (λ v. bytes_eq (g.A.Q.Question.key (g.A.Answered.asked (arc_value c.args.answer))) v.items) c.self.inside.places.items ≡ None = sym (c.place_of.ensures ∙ (λ i. position (λ v. bytes_eq (own i) v.items) (c.deref.ensures.value i))) ∙ c.in_default.is in
    rw (← c.self.view_is) (ap (λ s. s.kept) (keep_nowhere (λ v. v.items) arc_value c.self.inside.kept.entries c.self.inside.places.items (g.A.Q.Question.key (g.A.Answered.asked (arc_value c.args.answer))) (arc_value c.args.answer) at (ap (λ s. has_place s (g.A.Q.Question.key (g.A.Answered.asked (arc_value c.args.answer)))) c.self.view_is ∙ c.requires)))

pub returns-in_default-clause-places : goal.returns-in_default-clause-places
returns-in_default-clause-places g c =
    let own : c.key.result.now ≡ g.A.Q.Question.key (g.A.Answered.asked (arc_value c.args.answer)) = c.key.ensures ∙ ap g.A.Q.Question.key (c.deref-3.ensures ∙ c.question.ensures.question ∙ ap g.A.Answered.asked c.deref-2.ensures) in
    let at : position (λ v. bytes_eq (g.A.Q.Question.key (g.A.Answered.asked (arc_value c.args.answer))) v.items) c.self.inside.places.items ≡ None = sym (c.place_of.ensures ∙ (λ i. position (λ v. bytes_eq (own i) v.items) (c.deref.ensures.value i))) ∙ c.in_default.is in
    rw (← c.self.view_is) (ap (λ s. s.places) (keep_nowhere (λ v. v.items) arc_value c.self.inside.kept.entries c.self.inside.places.items (g.A.Q.Question.key (g.A.Answered.asked (arc_value c.args.answer))) (arc_value c.args.answer) at (ap (λ s. has_place s (g.A.Q.Question.key (g.A.Answered.asked (arc_value c.args.answer)))) c.self.view_is ∙ c.requires)))
