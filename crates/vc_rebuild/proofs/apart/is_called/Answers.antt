use Rattle.std.proofs.Common.{◌∙◌, ap, bytes_eq}
use Rattle.vc_rebuild.proofs.apart.is_called.Goals as goal

pub returns : goal.returns
returns c = c.same_bytes.ensures ∙ ap (λ x. bytes_eq x c.args.name.now) c.name_of.ensures
