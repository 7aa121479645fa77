use Rattle.std.proofs.Common.{◌≡◌, ◌∙◌, ◌+◌, ◌≤◌, sym, ap, subst, length, map, sum, []}
use Rattle.std.specs.Prelude.{IfSome, ◌∷◌}
use Rattle.std.specs.Arc.{arc_value}
use Rattle.vc_build.specs.Large.{count_limit}
use Rattle.obligation_text.specs.Asked.{key_of}
use Rattle.board_core.specs.Board.{open_keys}
use Rattle.board_core.specs.Difference.{with_middle}
use Rattle.board_core.specs.Handed.{open_answer}
use Rattle.board_core.proofs.Differing.{last_part}
use Rattle.goal_board.specs.Calls.{made}
use Rattle.goal_board.specs.Made.{AreMade}
use Rattle.goal_board.proofs.ByItself.{on_any_err}
use Rattle.report_laws.proofs.Mapped.{map_map}
use Rattle.edit_session.specs.Built.{goal_counts}
use Rattle.edit_session.proofs.Unchanged.{undone_none, unopened}
use Rattle.edit_session.proofs.ChangedGoals.{first_few, last_few, changed_fits, changed_keys}
use Rattle.edit_session.proofs.board_calls.open_between.Goals as goal

pub count-first-requires : goal.count-first-requires
count-first-requires g c = first_few c.args.turns c.args.new.now c.args.at.now.start c.args.at.now.new_end c.requires.differ.new_starts c.requires.few

pub count-last-requires : goal.count-last-requires
count-last-requires g c =
    subst (λ l. sum (goal_counts l) ≤ count_limit) (sym (last_part c.args.new.now c.args.at.now.new_end)) (last_few c.args.turns c.args.new.now c.args.at.now.start c.args.at.now.new_end c.requires.differ.new_starts c.requires.few)

pub open_middle-requires-clause-within : goal.open_middle-requires-clause-within
open_middle-requires-clause-within g c =
    let at = c.args.at.now in
    let last = c.count-last.ensures ∙ ap (λ l. sum (goal_counts l)) (last_part c.args.new.now at.new_end) in
    subst (λ ks. c.count-first.result + c.count-last.result ≤ length ks) (sym c.requires.goals)
    (changed_fits c.args.turns c.args.old.now c.args.new.now at.start at.old_end at.new_end c.count-first.result c.count-last.result c.requires.fix c.requires.differ c.count-first.ensures last)

pub returns-in_err-middle-clause-memory : goal.returns-in_err-middle-clause-memory
returns-in_err-middle-clause-memory g c = on_any_err c.from_residual.result (undone_none _ _ _)

pub returns-in_err-opened-clause-memory : goal.returns-in_err-opened-clause-memory
returns-in_err-opened-clause-memory g c = on_any_err c.from_residual-in_err-opened.result (unopened _ _ _ _ _ c.in_err-opened.ensures.memory)

pub returns-clause-opened : goal.returns-clause-opened
returns-clause-opened g c =
    let at = c.args.at.now in
    let last = c.count-last.ensures ∙ ap (λ l. sum (goal_counts l)) (last_part c.args.new.now at.new_end) in
    let asked = sym (map_map arc_value key_of c.in_ok-middle.middle.items) ∙ ap (map key_of) c.in_ok-middle.ensures in
    subst (λ ks. IfSome c.in_ok-opened.opened (λ o. AreMade g.B.GoalBoard.workers (g.B.GoalBoard.state c.args.board.now) (g.B.GoalBoard.noted c.args.board.now) (g.B.GoalBoard.state c.open_middle.new.self) (g.B.GoalBoard.noted c.open_middle.new.self) (made (open_keys ks) (open_answer o) ∷ [])))
    ((λ i. with_middle c.count-first.result c.count-last.result (asked i) (c.requires.goals i))
    ∙ changed_keys c.args.turns c.args.old.now c.args.new.now at.start at.old_end at.new_end c.count-first.result c.count-last.result c.requires.fix c.requires.differ c.count-first.ensures last)
    c.in_ok-opened.ensures.opened
