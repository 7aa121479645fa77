use Rattle.std.proofs.Common.{[], refl}
use Rattle.edit_server.proofs.ReadCommands.{read_size}
use Rattle.edit_server.proofs.TextModes.{answers_unless, alone_has_none, answers_none_gen, answers_none_serve, serve_is_not_gen}
use Rattle.edit_server.proofs.SummaryWorth.{summary_is_worth, done_answers}
use Rattle.edit_server.proofs.Runs.{ran_text, ran_gen}
use Rattle.edit_server.proofs.command.run_alone.Goals as goal

-- a program is generated
pub answer_generated-requires-clause-size : goal.answer_generated-requires-clause-size
answer_generated-requires-clause-size g c = read_size c.requires.command.0 c.args.command.now c.requires.command.1

pub answer_generated-requires-clause-alone : goal.answer_generated-requires-clause-alone
answer_generated-requires-clause-alone g c = alone_has_none c.args.command.now c.requires.alone (answers_none_gen _ c.in-Gen.is)

pub returns-in-Gen-clause-ran : goal.returns-in-Gen-clause-ran
returns-in-Gen-clause-ran g c =
    let e = c.answer_generated.ensures in (
      [],
      ran_gen c.args.command.now [] _ _ c.answer_generated.result c.in-Gen.is (record {
        generated = e.generated;
        silent = e.silent;
        front = e.front;
        starved = λ memory some. absurd (some (alone_has_none c.args.command.now c.requires.alone (answers_none_gen _ c.in-Gen.is)));
        worth = λ done. summary_is_worth c.proved_are_safe.ensures c.args.command.now.turns c.args.command.now.seed c.args.command.now.size _ _ (e.generated (done_answers _ done)).is_answer done;
        unread = refl;
        never_reads = e.never_read_fault;
        never_full = e.never_full;
        complete = e.complete;
      }) e.never_usage (record { read_fault = λ is. absurd (e.never_read_fault is); read_quiet = λ _. refl; write_fault = e.write_fault; write_quiet = e.write_quiet }),
    )

-- lines are answered
pub serve_alone-requires-clause-alone : goal.serve_alone-requires-clause-alone
serve_alone-requires-clause-alone g c = alone_has_none c.args.command.now c.requires.alone (answers_none_serve _ c.in-Serve.is)

pub returns-in-Serve-clause-unread : goal.returns-in-Serve-clause-unread
returns-in-Serve-clause-unread g c gen = absurd (serve_is_not_gen _ c.in-Serve.is gen)

-- a text is answered
pub answer_input-requires : goal.answer_input-requires
answer_input-requires g c = answers_unless _ c.in_default.not-Gen c.in_default.not-Serve

pub returns-in_default-clause-ran : goal.returns-in_default-clause-ran
returns-in_default-clause-ran g c =
    let e = c.answer_input.ensures in (
      [],
      ran_text c.args.command.now [] _ _ c.answer_input.result (answers_unless _ c.in_default.not-Gen c.in_default.not-Serve) (record {
        answered = e.answered;
        silent = e.silent;
        front = e.front;
        full = e.full;
        within = e.within;
        complete = e.complete;
      }) e.never_usage (record { read_fault = e.read_fault; read_quiet = e.read_quiet; write_fault = e.write_fault; write_quiet = e.write_quiet }),
    )

pub returns-in_default-clause-unread : goal.returns-in_default-clause-unread
returns-in_default-clause-unread g c gen = absurd (c.in_default.not-Gen gen)
