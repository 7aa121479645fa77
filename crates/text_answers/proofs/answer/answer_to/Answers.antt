use Rattle.text_answers.proofs.Commands.{check_answers, recheck_answers, smoke_answers}
use Rattle.text_answers.proofs.answer.answer_to.Goals as goal

pub returns-in-Recheck : goal.returns-in-Recheck
returns-in-Recheck c = recheck_answers (λ a. a.written.items) (λ a. a.status) c.accepted_is_safe.ensures c.args.command.now c.args.text.now c.review.result c.in-Recheck.is c.review.ensures

pub returns-in_default : goal.returns-in_default
returns-in_default c = check_answers (λ a. a.written.items) (λ a. a.status) c.correct_is_safe.ensures c.args.command.now c.args.text.now c.check.result c.requires.text c.in_default.not-Recheck c.in_default.not-Smoke c.check.ensures

pub returns-in-Smoke : goal.returns-in-Smoke
returns-in-Smoke c = smoke_answers (λ a. a.written.items) (λ a. a.status) c.unreachable_is_unreached.ensures c.modules_are_sound.ensures c.args.command.now c.args.text.now c.smoke_test.result c.in-Smoke.is c.smoke_test.ensures
