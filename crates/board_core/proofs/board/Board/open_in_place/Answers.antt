use Rattle.std.proofs.Common.{◌≡◌, ◌≤◌, ◌+◌, ◌-◌, ap, map, length, count_by}
use mathlib.Core.Path.{sym, subst, refl, ◌∙◌}
use Rattle.std.specs.Arc.{arc_value}
use Rattle.bv_base.specs.Text.{is_among}
use Rattle.board_core.specs.Kept.{kept_keys, trimmed}
use Rattle.board_core.specs.Difference.{with_middle}
use Rattle.board_core.specs.Inside.{state_of, tickets}
use Rattle.board_core.proofs.Handling.{changed_kept}
use Rattle.board_core.proofs.Middle.{middle_differs}
use Rattle.board_core.proofs.board.Board.open_in_place.Goals as goal

pub invariant_of-self-2 : goal.invariant_of-self-2
invariant_of-self-2 g c =
    let stay : trimmed (with_middle c.args.first c.args.last (map (λ q. g.A.Q.Question.key (arc_value q)) c.args.middle.items) c.self.inside.present) c.self.inside.cache.kept ≡ c.self.inside.cache.kept =
    subst (λ s. trimmed (with_middle c.args.first c.args.last (map (λ q. g.A.Q.Question.key (arc_value q)) c.args.middle.items) s.present) s.kept ≡ s.kept) (sym c.self.view_is) c.requires.stay in
    let within : c.args.first + c.args.last ≤ length c.self.inside.present = subst (λ s. c.args.first + c.args.last ≤ length s.present) (sym c.self.view_is) c.requires.within in
    changed_kept (λ a. g.A.Q.Question.key (g.A.Answered.asked a)) g.A.Answered.right (state_of g.A.Q.Question.key c.self.inside) _ c.self.inside.cache.places _ _ _ _ _ c.args.first (length c.self.inside.present - c.args.last) (length (with_middle c.args.first c.args.last (map (λ q. g.A.Q.Question.key (arc_value q)) c.args.middle.items) c.self.inside.present) - c.args.last) (with_middle c.args.first c.args.last (map (λ q. g.A.Q.Question.key (arc_value q)) c.args.middle.items) c.self.inside.present) c.self.invariant
    (λ i. record { present = c.in_ok-put_middle.ensures.changed i; kept = sym stay i; out = tickets g.A.Q.Question.key c.self.inside.out.items; next = c.self.inside.next; version = c.self.inside.version + 1; closed = c.self.inside.closed })
    refl
    (c.done_within-self-inside.ensures ∙ ap (count_by (is_among (kept_keys c.self.inside.cache.kept))) c.questions-now.ensures)
    (middle_differs c.args.first c.args.last (map (λ q. g.A.Q.Question.key (arc_value q)) c.args.middle.items) c.self.inside.present within (length (with_middle c.args.first c.args.last (map (λ q. g.A.Q.Question.key (arc_value q)) c.args.middle.items) c.self.inside.present) - c.args.last) refl) stay c.min-self-inside.ensures
