use Rattle.std.proofs.Common.{◌∙◌, ap}
use Rattle.bpl_model.specs.Module.{Module}
use Rattle.vc_rebuild.proofs.text.texts_of.Goals as goal

pub returns : goal.returns
returns c = c.as_slice.ensures.value ∙ ap (λ (x : Module). x.texts) (c.behind-links.view_is ∙ c.parts.ensures.same)
