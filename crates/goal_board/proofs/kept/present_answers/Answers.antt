use Rattle.std.proofs.Common.{◌∙◌, ◌++◌, map, sym}
use Rattle.std.specs.Arc.{arc_value}
use Rattle.std.specs.Option.{option_map}
use Rattle.std.proofs.lemmas.List.{append-nil, at_drop_all}
use Rattle.goal_board.specs.Found.{found}
use Rattle.goal_board.proofs.Shown.{found_pushed}
use Rattle.goal_board.proofs.kept.present_answers.Goals as goal

pub loop-answer-preserved : goal.loop-answer-preserved
loop-answer-preserved c = found_pushed arc_value c.args.answers.now c.loop-answer.answer-index c.answer-item.result c.loop-answer.all.items c.push_found.new.all.items _ c.loop-answer-test.true c.answer-item.is c.in_ok-push_found.ensures c.loop-answer.invariant

pub returns : goal.returns
returns c =
    let all = map arc_value c.loop-answer.all.items in
    sym (append-nil all) ∙ sym (at_drop_all (λ xs. all ++ found (map (option_map arc_value) xs)) c.args.answers.now c.loop-answer.answer-index c.loop-answer-test.false) ∙ c.loop-answer.invariant
