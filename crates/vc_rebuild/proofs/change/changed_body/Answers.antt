use Rattle.vc_rebuild.proofs.change.changed_body.Goals as goal

pub returns : goal.returns
returns c = c.changes_body.ensures c.if-not-changes_body.false
