use Rattle.edit_server.proofs.Summaries.{wrote_summary, wrote_front}
use Rattle.edit_server.proofs.serving.generate_on.Goals as goal

pub returns-in-Ok-write_all-clause-generated : goal.returns-in-Ok-write_all-clause-generated
returns-in-Ok-write_all-clause-generated g c answering =
    wrote_summary c.args.command.now _ _ _ c.as_slice.result.now c.in-Ok.answer.written.items c.in-Ok.answer.status c.as_slice.ensures.value c.in-Ok.ensures.answer c.in-Ok-write_all.ensures.all

pub returns-clause-front : goal.returns-clause-front
returns-clause-front g c fault =
    wrote_front c.args.command.now _ _ _ c.as_slice.result.now c.in-Ok.answer.written.items c.in-Ok.answer.status c.as_slice.ensures.value c.in-Ok.ensures.answer c.in-Err-write_all.ensures.front
