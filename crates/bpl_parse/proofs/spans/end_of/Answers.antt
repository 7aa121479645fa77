use Rattle.std.proofs.Common.{ap, sym, ◌∙◌}
use Rattle.bpl_parse.proofs.Standing.{end_of_last}
use Rattle.bpl_parse.proofs.spans.end_of.Goals as goal

pub returns-in-Some : goal.returns-in-Some
returns-in-Some c = ap (λ v. v.finish) c.token.view_is ∙ sym (end_of_last c.args.tokens.now c.in-Some.token.now (sym c.in-Some.ensures.value))
