use Rattle.std.proofs.lemmas.Result.{IfOk-weaker}
use Rattle.request_text.specs.Reading.{request_of}
use Rattle.edit_session.proofs.LongLines.{long_line}
use Rattle.edit_session.proofs.answerer.LineSessionAnswerer.answer_long.Goals as goal

pub returns-clause-reply : goal.returns-clause-reply
returns-clause-reply g c = IfOk-weaker c.reply.result _ _ (λ r h line long. h (request_of line) (long_line line long)) c.reply.ensures.reply
