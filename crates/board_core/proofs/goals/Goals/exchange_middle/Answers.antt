use Rattle.std.proofs.Common.{◌≡◌, ◌≤◌, ◌∙◌, ◌+◌, ◌-◌, ◌++◌, ap, arith, map, length, take, drop}
use Rattle.std.proofs.lemmas.List.{length-map, with_items_is}
use Rattle.std.specs.Arc.{arc_value}
use Rattle.board_core.specs.Difference.{with_middle}
use Rattle.board_core.proofs.Middle.{middle_keys}
use Rattle.board_core.proofs.goals.Goals.exchange_middle.Goals as goal

pub returns-clause-put : goal.returns-clause-put
returns-clause-put g c so =
    let qs = c.self.inside.questions.items in
    let mid = c.args.middle.now.items in
    let fits : c.args.first + c.args.last ≤ length qs = omega (arith, c.requires, ap length c.self.view_is, length-map qs (λ q. g.Q.Question.key (arc_value q))) in
    let at : c.args.first + length mid ≡ length qs - c.args.last = omega (arith, fits, c.len.ensures, c.len-2.ensures) in
    ap (map (λ q. g.Q.Question.key (arc_value q))) (with_items_is c.self.inside.questions c.put_at.new.questions (omega (arith, c.put_at.ensures.len, c.as_mut_slice.ensures.len)) ∙ c.put_at.ensures.put ∙ (λ i. take c.args.first (c.as_mut_slice.ensures.value i) ++ c.as_mut_slice-2.ensures.value i ++ drop (c.args.first + length (c.as_mut_slice-2.ensures.value i)) (c.as_mut_slice.ensures.value i)))
    ∙ middle_keys (λ q. g.Q.Question.key (arc_value q)) c.args.first c.args.last (c.args.first + length mid) qs mid at
    ∙ ap (with_middle c.args.first c.args.last (map (λ q. g.Q.Question.key (arc_value q)) mid)) c.self.view_is
