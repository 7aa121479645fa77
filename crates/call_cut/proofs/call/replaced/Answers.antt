use Rattle.call_cut.proofs.call.replaced.Goals as goal

pub leave_call-requires-clause-called : goal.leave_call-requires-clause-called
leave_call-requires-clause-called c = (c.args.n, c.in_ok-enter_call.ensures)
