use Rattle.edit_session.proofs.Programs.{opens_so}
use Rattle.edit_session.proofs.program.build.Goals as goal

pub invariant_of-program : goal.invariant_of-program
invariant_of-program g c = record { short = c.requires.short; written = c.requires.written; is_module = opens_so c.args.program c.args.typed c.requires.is_typed c.in-Ok.ensures.within; built = c.in-Ok.ensures.goals }
