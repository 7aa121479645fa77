use Rattle.std.proofs.Common.{◌∙◌, ap}
use Rattle.vc_build.specs.Rebuild.{built}
use Rattle.edit_session.specs.Asking.{Taken}
use Rattle.edit_session.proofs.Revised.{opened_by}
use Rattle.edit_session.proofs.program.OpenProgram.revise.Goals as goal

pub returns-in-Some-clause-opened : goal.returns-in-Some-clause-opened
returns-in-Some-clause-opened g c =
    opened_by _ _ _ _ _ c.args.turns c.args.self.now.typed c.reopen_revised.new.typed c.self.inside.built.procs _ _ (c.self.invariant.built ∙ ap (λ (p : Taken). built p.typed) c.self.view_is) c.in-Some.ensures.opened
