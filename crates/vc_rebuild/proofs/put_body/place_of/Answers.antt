use Rattle.std.proofs.Common.{◌∙◌, ap, length}
use Rattle.vc_rebuild.specs.Kept.{having_body}
use Rattle.vc_rebuild.proofs.put_body.place_of.Goals as goal

pub returns : goal.returns
returns c = c.bodies_in.ensures ∙ ap (λ ps. length (having_body ps)) c.first_procs.ensures
