use Rattle.std.proofs.Common.{◌∙◌, ap}
use Rattle.bpl_model.specs.Links.{free}
use Rattle.bpl_model.proofs.links.Links.free.Goals as goal

pub returns : goal.returns
returns c = c.as_slice.ensures.value ∙ (c.self.invariant.unbound_are ∙ ap free c.self.view_is)
