use Rattle.request_text.specs.ReplyView.{reply_view}
use Rattle.goal_board.proofs.ByItself.{on_any_err}
use Rattle.edit_session.proofs.Replies.{replies_as, fails_as, has_room, answered_more}
use Rattle.edit_session.proofs.answerer.LineSession.reply.Goals as goal

pub answer-reply-requires : goal.answer-reply-requires
answer-reply-requires g c = has_room c.args.self.now c.self.inside.session c.requires.0 c.self.view_is c.requires.1 c.requires.2

pub returns-clause-reply : goal.returns-clause-reply
returns-clause-reply g c wanted is =
    replies_as c.args.self.now c.self.inside.session c.answer-reply.new.self wanted (reply_view c.answer-reply.result) c.in_ok-text.text.items c.is_quit-is_last.result
    c.self.view_is (c.answer-reply.ensures.answered wanted is) c.answer-reply.ensures.later c.in_ok-text.ensures c.is_quit-is_last.ensures

pub returns-clause-few : goal.returns-clause-few
returns-clause-few g c n answered = answered_more c.args.self.now c.self.inside.session c.answer-reply.new.self n c.self.view_is c.answer-reply.ensures.later answered

pub returns-in_err-text-clause-failed : goal.returns-in_err-text-clause-failed
returns-in_err-text-clause-failed g c = on_any_err c.from_residual.result (λ wanted is.
    fails_as c.args.self.now c.self.inside.session c.answer-reply.new.self wanted (reply_view c.answer-reply.result) c.self.view_is (c.answer-reply.ensures.answered wanted is) c.answer-reply.ensures.later)
