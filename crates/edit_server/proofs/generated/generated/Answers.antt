use Rattle.std.proofs.Common.{◌≡◌, ◌∙◌, ◌-◌, ◌^◌, ◌<◌, length, sym, subst}
use Rattle.request_text.specs.Generated.{generate}
use Rattle.edit_server.proofs.GeneratedLengths.{generated_is_short}
use Rattle.edit_server.proofs.generated.generated.Goals as goal

pub summed-requires-clause-short : goal.summed-requires-clause-short
summed-requires-clause-short c =
    let made : c.deref.result.now ≡ generate c.args.command.now.seed c.args.command.now.size = c.deref.ensures.value ∙ c.in_ok-text.ensures in
    subst (λ bytes. length bytes < 2 ^ 32 - 1) (sym made) (generated_is_short c.args.command.now.seed c.args.command.now.size c.requires)
