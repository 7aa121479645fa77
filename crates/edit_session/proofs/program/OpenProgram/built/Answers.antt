use Rattle.edit_session.proofs.ChangedGoals.{few_built}
use Rattle.edit_session.proofs.Programs.{few_goals, procs_are}
use Rattle.edit_session.proofs.program.OpenProgram.built.Goals as goal

pub returns-clause-few : goal.returns-clause-few
returns-clause-few c =
    let i = c.self.inside in
    few_built i.typed i.built.procs (procs_are i.typed i.built.procs c.self.invariant.built) (few_goals i.program i.typed c.self.invariant.is_module)
