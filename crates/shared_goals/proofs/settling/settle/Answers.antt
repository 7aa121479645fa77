use Rattle.std.proofs.Common.{◌∙◌}
use Rattle.shared_goals.proofs.Besides.{work_made, refused_made, unmade, settled_made, kept_made, answers_made}
use Rattle.shared_goals.proofs.settling.settle.Goals as goal

pub returns-in-Ok-present_answers-clause-settled : goal.returns-in-Ok-present_answers-clause-settled
returns-in-Ok-present_answers-clause-settled g c =
    let shown = c.in-Ok-gather.ensures.shown in
    settled_made c.args.board.now c.args.opener.now c.settle_all.new.opener c.gather.new.opener c.in-Ok.ensures.settled _ shown.0 _ shown.1
    (rw c.deref.ensures.value at c.in-Ok-present_answers.ensures)

pub returns-in-Ok-present_answers-clause-kept : goal.returns-in-Ok-present_answers-clause-kept
returns-in-Ok-present_answers-clause-kept g c =
    kept_made c.args.board.now c.args.opener.now c.settle_all.new.opener c.gather.new.opener c.in-Ok.ensures.settled _ c.in-Ok-gather.ensures.shown.0 c.in-Ok.ensures.kept

pub returns-in-Ok-present_answers-clause-answers : goal.returns-in-Ok-present_answers-clause-answers
returns-in-Ok-present_answers-clause-answers g c apart qs keys =
    let shown = c.in-Ok-gather.ensures.shown in
    (rw c.deref.ensures.value at c.in-Ok-present_answers.ensures)
    ∙ answers_made c.args.board.now c.args.opener.now c.settle_all.new.opener c.gather.new.opener c.in-Ok.ensures.settled _ shown.0 apart qs c.requires shown.1 keys

pub returns-in-Ok-gather-clause-memory : goal.returns-in-Ok-gather-clause-memory
returns-in-Ok-gather-clause-memory g c = unmade c.args.board.now c.args.opener.now c.settle_all.new.opener c.gather.new.opener c.in-Ok.ensures.settled _ c.in-Ok-gather.ensures.shown.0

pub returns-in-Ok-clause-memory : goal.returns-in-Ok-clause-memory
returns-in-Ok-clause-memory g c = refused_made c.args.board.now c.args.opener.now c.settle_all.new.opener c.gather.new.opener c.in-Ok.ensures.settled c.in-Err-gather.ensures.memory

pub returns-clause-memory : goal.returns-clause-memory
returns-clause-memory g c = work_made c.args.board.now c.args.opener.now c.settle_all.new.opener c.in-Err.ensures.memory
