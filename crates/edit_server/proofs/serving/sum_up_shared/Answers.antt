use Rattle.std.proofs.Common.{refl}
use Rattle.edit_server.proofs.SummaryWorth.{summary_is_worth, done_answers}
use Rattle.edit_server.proofs.Runs.{ran_gen}
use Rattle.edit_server.proofs.serving.sum_up_shared.Goals as goal

pub returns-clause-ran : goal.returns-clause-ran
returns-clause-ran g c =
    let e = c.generate_on-status.ensures in
    ran_gen c.args.command.now _ _ _ c.generate_on-status.result c.requires.generates (record {
      generated = e.generated;
      silent = e.silent;
      front = e.front;
      starved = λ memory some. e.starved memory;
      worth = λ done. summary_is_worth c.proved_are_safe.ensures c.args.command.now.turns c.args.command.now.seed c.args.command.now.size _ _ (e.generated (done_answers _ done)).is_answer done;
      unread = refl;
      never_reads = e.never_read_fault;
      never_full = e.never_full;
      complete = e.complete;
    }) e.never_usage (record { read_fault = λ is. absurd (e.never_read_fault is); read_quiet = λ _. refl; write_fault = e.write_fault; write_quiet = e.write_quiet })
