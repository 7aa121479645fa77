use Rattle.std.proofs.Common.{◌≡◌, ◌∙◌, ◌-◌, ◌^◌, ◌<◌, length, sym, subst}
use Rattle.request_text.specs.Generated.{generate}
use Rattle.edit_server.proofs.GeneratedLengths.{generated_is_short}
use Rattle.edit_server.proofs.Starving.{none_starved}
use Rattle.edit_server.proofs.generated.generated_on.Goals as goal

pub summed_on-requires-clause-short : goal.summed_on-requires-clause-short
summed_on-requires-clause-short g c =
    let made : c.deref.result.now ≡ generate c.args.command.now.seed c.args.command.now.size = c.deref.ensures.value ∙ c.in-Ok.ensures in
    subst (λ bytes. length bytes < 2 ^ 32 - 1) (sym made) (generated_is_short c.args.command.now.seed c.args.command.now.size c.requires.size)

pub returns-in-Err-clause-memory : goal.returns-in-Err-clause-memory
returns-in-Err-clause-memory g c = none_starved c.args.command.now.turns _ c.requires.unnoted
