use Rattle.std.proofs.Common.{◌∙◌, ap, sum}
use Rattle.logic_core.specs.Size.{capped}
use Rattle.vc_rebuild.proofs.WithinLimits.{sizes_same}
use Rattle.vc_rebuild.proofs.collected.bytes_in.Goals as goal

pub returns : goal.returns
returns c = c.bytes_of.ensures ∙ ap (λ zs. capped (sum zs)) (sizes_same c.shared.result.now c.args.proc.now.goals c.shared.ensures)
