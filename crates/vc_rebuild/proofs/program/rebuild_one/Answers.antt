use Rattle.vc_rebuild.proofs.program.rebuild_one.Goals as goal

pub put_body-requires-clause-there : goal.put_body-requires-clause-there
put_body-requires-clause-there g c = c.in-Some.ensures
